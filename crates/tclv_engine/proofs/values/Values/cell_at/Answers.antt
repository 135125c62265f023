use Rattle.std.proofs.Common.{◌∙◌, ap, sym}
use Rattle.tclv_reply.specs.Names.{naming, shape_of}
use Rattle.tclv_engine.specs.Names.{read_named}
use Rattle.tclv_engine.proofs.NameLemmas.{bytes-are}
use Rattle.tclv_engine.proofs.values.Values.cell_at.Goals as goal

pub cell_named-requires-clause-shape : goal.cell_named-requires-clause-shape
cell_named-requires-clause-shape c = c.requires.shape ∙ ap shape_of (sym (bytes-are _ _ c.lend.ensures.utf8 c.lend.ensures.text))

pub returns-clause-answer : goal.returns-clause-answer
returns-clause-answer c =
    c.cell_named.ensures.answer ∙ ap (λ b. read_named c.args.self.now.vars (naming b)) (bytes-are _ _ c.lend.ensures.utf8 c.lend.ensures.text)
