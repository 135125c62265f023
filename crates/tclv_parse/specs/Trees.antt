-- What the readers of trees give.
use Rattle.std.specs.Prelude.{◌≡◌, ℕ, ◌-◌, List, [], ◌∷◌, ◌++◌, take, drop, Option, Some, None, Result, Ok, Err}
use Rattle.tclv_parse.specs.declared.faults.ParseFault.TheVariants as f
use Rattle.tclv_parse.specs.declared.runs.Run.{Run}
use Rattle.tclv_parse.specs.declared.runs.Run.TheVariants as run
use Rattle.tclv_parse.specs.declared.tree.Part.{Part}
use Rattle.tclv_parse.specs.declared.tree.Part.TheVariants as part
use Rattle.tclv_parse.specs.declared.stops.Stop.{Stop}
use Rattle.tclv_parse.specs.declared.stops.Stop.TheVariants.{Fault, NoMemory}
use Rattle.tclv_parse.specs.declared.joining.Found.{Found}
use Rattle.tclv_parse.specs.Runs.{Text, run_len, run_end}
use Rattle.tclv_parse.specs.Readings.{Reading, End}
use Rattle.tclv_parse.specs.Grammar.{text_before, parts}

-- ---- answers

-- Unless memory runs out, a reader answers with the value and stands behind it, or with the fault.
abbrev pub ReadsEnd : {A : Type 0} → End A → Result A Stop → Text → Type 0
ReadsEnd end (Ok a) new = end ≡ Ok (a, new)
ReadsEnd end (Err (Fault e)) new = end ≡ Err e
ReadsEnd end (Err NoMemory) new = Unit {0}

-- the same for a rule of the grammar
abbrev pub Reads : {A : Type 0} → Reading A → Result A Stop → Text → Type 0
Reads r result new = ReadsEnd r.1 result new

-- the same for a rule that reads one part
abbrev pub ReadsPart : Reading (List Part) → Result Part Stop → Text → Type 0
ReadsPart r (Ok p) new = r.1 ≡ Ok (p ∷ [], new)
ReadsPart r (Err (Fault e)) new = r.1 ≡ Err e
ReadsPart r (Err NoMemory) new = Unit {0}

-- a refusal is want of memory
abbrev pub IsMemory : {A : Type 0} → Result A Stop → Type 0
IsMemory (Ok a) = Unit {0}
IsMemory (Err e) = e ≡ NoMemory

-- a step of a reader leaves what is to come, or meets the fault
abbrev pub Goes : {A B : Type 0} → End A → Result B Stop → End A → Type 0
Goes old (Ok b) new = old ≡ new
Goes old (Err (Fault e)) new = old ≡ Err e
Goes old (Err NoMemory) new = Unit {0}

-- ---- names

abbrev pub enclosed_by : Text → ℕ → Run → End Text
enclosed_by t n run.Closed = Ok (take (n - 1) t, drop n t)
enclosed_by t n _ = Err f.VarBrace

-- the name of a variable in braces, behind its opening brace
unfoldable pub enclosed_name : Text → End Text
enclosed_name t = enclosed_by t (run_len run.Enclosed t) (run_end run.Enclosed t)

-- ---- parts

-- a part that is no literal
abbrev pub IsSubstitution : Part → Type 0
IsSubstitution (part.Literal x) = ⊥
IsSubstitution _ = Unit {0}

abbrev pub pending : Option Text → List Part → List Part
pending None parts = parts
pending (Some x) parts = text_before x parts

-- the parts that were found, before others: the characters at the end are joined to those that follow
abbrev pub parts_before : Found → List Part → List Part
parts_before found parts = found.parts ++ pending found.text parts

-- nothing was found
abbrev pub IsNone : Found → Type 0
IsNone found = (parts : List Part) → parts_before found parts ≡ parts

-- what was found, with what g puts before the parts that follow
abbrev pub Adds : Found → (List Part → List Part) → Found → Type 0
Adds old g new = (parts : List Part) → parts_before new parts ≡ parts_before old (g parts)

abbrev pub text_of : Option Text → Text
text_of None = []
text_of (Some x) = x

-- the characters at the end are taken out
pub record TakesText (old : Found) (text : Text) (new : Found) : Type 0 where
  pub parts : new.parts ≡ old.parts
  pub text_is : text ≡ text_of old.text

abbrev pub literal_of : Option Text → List Part
literal_of None = []
literal_of (Some x) = part.Literal x ∷ []

-- the characters at the end are a part
pub record EndsText (old new : Found) : Type 0 where
  pub parts : new.parts ≡ old.parts ++ literal_of old.text
  pub none : new.text ≡ None
