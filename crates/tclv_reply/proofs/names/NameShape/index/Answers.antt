use Rattle.std.proofs.Common.{◌∙◌, sym, ap, Some}
use Rattle.tclv_reply.specs.Names.{named_by}
use Rattle.tclv_reply.proofs.names.NameShape.index.Goals as goal

pub index_behind-requires-clause-stands : goal.index_behind-requires-clause-stands
index_behind-requires-clause-stands c = sym (ap (λ s. s.place) c.requires.read) ∙ c.in-Some.is

pub returns-in-Some-clause-index : goal.returns-in-Some-clause-index
returns-in-Some-clause-index c =
    ap (λ i. Some i) c.index_behind.ensures.index ∙ ap (λ o. (named_by o c.args.whole.now).index) (sym (sym (ap (λ s. s.place) c.requires.read) ∙ c.in-Some.is))

pub returns-in-None-clause-index : goal.returns-in-None-clause-index
returns-in-None-clause-index c = ap (λ o. (named_by o c.args.whole.now).index) (sym (sym (ap (λ s. s.place) c.requires.read) ∙ c.in-None.is))
