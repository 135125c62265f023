use Rattle.std.proofs.Common.{◌∙◌, arith}
use Rattle.tclv_value.proofs.PathLemmas.{no_element}
use Rattle.tclv_value.proofs.list_paths.Step.element.Goals as goal

pub returns-else-self-len : goal.returns-else-self-len
returns-else-self-len c = c.new-else-self-len.ensures ∙ no_element c.new.result.items c.args.self.now.elements.items c.args.self.now.place c.new.ensures.items (omega arith)
