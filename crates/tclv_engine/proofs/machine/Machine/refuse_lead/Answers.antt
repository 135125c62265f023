use Rattle.std.proofs.Common.{[], ap, sym, ◌∙◌}
use Rattle.std.specs.Str.{chars}
use Rattle.std.proofs.lemmas.Str.{chars-nil}
use Rattle.tclv_model.specs.Message.{text_of}
use Rattle.tclv_model.specs.declared.error_codes.ErrorCode.TheVariants.{NoCode}
use Rattle.tclv_model.specs.ErrorCodes.{error_code}
use Rattle.tclv_engine.specs.Plans.{placed_or_none}
use Rattle.tclv_engine.proofs.Leaves.{raises_as}
use Rattle.tclv_engine.proofs.machine.Machine.refuse_lead.Goals as goal

pub returns-in-None-clause-raises : goal.returns-in-None-clause-raises
returns-in-None-clause-raises g c =
    let stack = c.args.self.now.values.store.stack in
    let none = chars-nil ∙ ap (placed_or_none stack) (sym c.in-None.is) in
    raises_as _ _ _ _ c.raise.new.self.values.store.stack c.raise.result (ap (λ x. text_of c.args.kind x (chars [])) none) (ap (λ x. error_code NoCode x) none) c.raise.ensures.raises

pub returns-in-Some-clause-raises : goal.returns-in-Some-clause-raises
returns-in-Some-clause-raises g c =
    let stack = c.args.self.now.values.store.stack in
    let some = ap (placed_or_none stack) (sym c.in-Some.is) in
    raises_as _ _ _ _ c.raise_at.new.self.values.store.stack c.raise_at.result (ap (λ x. text_of c.args.kind x (chars [])) some) (ap (λ x. error_code NoCode x) some) c.raise_at.ensures.raises
