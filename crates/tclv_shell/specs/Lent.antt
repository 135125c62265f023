-- What the code lends of the words of the command line.
use Rattle.std.specs.Prelude.{map, string_bytes}
use Rattle.tclv_shell.specs.declared.words.Invocation as declared
use Rattle.tclv_shell.specs.Words.{Invocation}

abbrev pub lent : declared.Invocation → Invocation
lent i = record { budget = i.budget; file = i.file.now; args = map string_bytes i.args.now }
