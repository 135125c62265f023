use Rattle.std.proofs.Common.{◌∙◌, ap}
use Rattle.tclv_reply.specs.Names.{element_of}
use Rattle.tclv_engine.specs.Names.{read_named}
use Rattle.tclv_engine.proofs.NameLemmas.{bytes-are}
use Rattle.tclv_engine.proofs.values.Values.cell_of_element.Goals as goal

pub returns-clause-answer : goal.returns-clause-answer
returns-clause-answer c =
    c.read.ensures.answer
    ∙ ap (λ h. read_named h.vars (element_of c.args.array.now c.lend.result.now)) c.self.view_is
    ∙ ap (λ b. read_named c.args.self.now.vars (element_of c.args.array.now b)) (bytes-are _ _ c.lend.ensures.utf8 c.lend.ensures.text)
