use Rattle.std.proofs.Common.{◌≡◌, ◌++◌, drop, map, string_bytes}
use Rattle.std.specs.Str.{chars}
use Rattle.tclv_text.specs.Quotes.{further, list_text}
use Rattle.tclv_shell.proofs.arguments.list_text.Given as goal

-- The text with the arguments that are left is the list's.
abbrev pub invariant-loop-argument : goal.invariant-loop-argument
invariant-loop-argument l = l.text ++ further (drop l.argument-index (map chars (map string_bytes l.rest))) ≡ list_text (map chars (map string_bytes l.arguments))
