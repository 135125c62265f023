use Rattle.std.proofs.Common.{◌∙◌, ap}
use Rattle.tclv_shell.specs.ScriptText.{script_text}
use Rattle.tclv_shell.proofs.LineEnds.{lifted}
use Rattle.tclv_shell.proofs.script_texts.script_text.Goals as goal

pub new-requires : goal.new-requires
new-requires c = (lifted c.bytes.result.now c.in_ok-bytes.bytes.items c.in_ok-bytes.ensures c.bytes.ensures.utf8).text

pub returns : goal.returns
returns c = c.new.ensures ∙ (lifted c.bytes.result.now c.in_ok-bytes.bytes.items c.in_ok-bytes.ensures c.bytes.ensures.utf8).points ∙ ap script_text c.bytes.ensures.text
