-- What names stand for in the current frame. A name is looked at by its UTF-8 bytes, in which an ASCII character stands for nothing else.
use Rattle.std.specs.Prelude.{ℕ, List, Result}
use Rattle.std.specs.Str.{encode_utf8_all}
use Rattle.tclv_vars.specs.declared.places.Place.TheVariants as place
use Rattle.tclv_vars.specs.declared.places.Root.{Root}
use Rattle.tclv_vars.specs.declared.faults.VarFault.{VarFault}
use Rattle.tclv_vars.specs.Links.{linked}
use Rattle.tclv_vars.specs.Table.{Table, Spot, read, write}
use Rattle.tclv_reply.specs.Names.{Naming}

abbrev pub bytes_of : List ℕ → List ℕ
bytes_of name = encode_utf8_all name

-- the cell of what is named so, where it is set to a value
abbrev pub read_named : Table → Naming → Result ℕ VarFault
read_named vars n = read vars place.Frame n.name n.index

-- the cell of what is named so, which counts as set from then on
abbrev pub write_named : Table → Naming → Result Spot VarFault
write_named vars n = write vars place.Frame n.name n.index

-- the local name of the current frame is a second name of what is named so, which stands where the root says
abbrev pub link_named : Table → List ℕ → Root → Naming → Result Table VarFault
link_named vars local from n = linked vars local from n.name n.index
