-- Scripts that lack no closing mark.
use Rattle.std.specs.Prelude.{Bool, true, false, Option, Some, None}
use Rattle.tclv_parse.specs.declared.faults.ParseFault.{ParseFault}
use Rattle.tclv_parse.specs.declared.faults.ParseFault.TheVariants as f

-- no closing mark is missing
abbrev pub is_closed : ParseFault → Bool
is_closed f.CloseBrace = false
is_closed f.CloseQuote = false
is_closed f.CloseBracket = false
is_closed f.CloseParen = false
is_closed f.VarBrace = false
is_closed _ = true

-- the same of a script with this fault, or with none
abbrev pub is_complete : Option ParseFault → Bool
is_complete None = true
is_complete (Some e) = is_closed e
