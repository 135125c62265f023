use Rattle.std.proofs.Common.{◌∙◌, sym, ap}
use Rattle.tclv_reply.specs.Names.{named_by}
use Rattle.tclv_reply.proofs.names.NameShape.name.Goals as goal

pub array_before-requires-clause-stands : goal.array_before-requires-clause-stands
array_before-requires-clause-stands c = sym (ap (λ s. s.place) c.requires.read) ∙ c.in-Some.is

pub returns-in-Some-clause-name : goal.returns-in-Some-clause-name
returns-in-Some-clause-name c =
    c.array_before.ensures.array ∙ ap (λ o. (named_by o c.args.whole.now).name) (sym (sym (ap (λ s. s.place) c.requires.read) ∙ c.in-Some.is))

pub returns-in-None-clause-name : goal.returns-in-None-clause-name
returns-in-None-clause-name c = ap (λ o. (named_by o c.args.whole.now).name) (sym (sym (ap (λ s. s.place) c.requires.read) ∙ c.in-None.is))
