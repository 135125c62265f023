use Rattle.std.proofs.Common.{◌∙◌, sym, ap}
use Rattle.tclv_value.specs.View.{text_at}
use Rattle.tclv_vars.specs.Indices.{count_of}
use Rattle.tclv_reply.specs.Names.{naming, shape_of}
use Rattle.tclv_engine.proofs.NameLemmas.{bytes-are}
use Rattle.tclv_plain.specs.ArrayRows.{indices_of}
use Rattle.tclv_plain.proofs.array_indices.size_at.Goals as goal

pub size_of-requires-clause-shape : goal.size_of-requires-clause-shape
size_of-requires-clause-shape c = c.requires.shape ∙ ap shape_of (sym (bytes-are c.lend.result.now (text_at c.args.values.now.store c.args.name) c.lend.ensures.utf8 c.lend.ensures.text))

pub returns : goal.returns
returns c =
    c.size_of.ensures
    ∙ ap (λ b. count_of (indices_of c.args.values.now.vars (naming b))) (bytes-are c.lend.result.now (text_at c.args.values.now.store c.args.name) c.lend.ensures.utf8 c.lend.ensures.text)
