use Rattle.std.proofs.Common.{◌≡◌, ◌++◌, drop}
use Rattle.tclv_shell.specs.ScriptText.{with_newlines, script_text}
use Rattle.tclv_shell.proofs.script_texts.with_newlines.Given as goal

abbrev pub invariant-loop-byte : goal.invariant-loop-byte
invariant-loop-byte l = l.text.items ++ with_newlines l.behind_return (drop l.byte-index l.bytes) ≡ script_text l.bytes
