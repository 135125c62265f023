use Rattle.std.proofs.Common.{rules, ◌∙◌, ap, []}
use Rattle.std.specs.Str.{chars}
use Rattle.std.proofs.lemmas.Str.{chars-nil}
use Rattle.tclv_model.specs.Message.{text_of}
use Rattle.tclv_model.specs.ErrorCodes.{error_code}
use Rattle.tclv_model.specs.declared.error_codes.ErrorCode.TheVariants.{NoCode}
use Rattle.tclv_value.specs.View.{text_at}
use Rattle.tclv_value.specs.declared.places.At.TheVariants.{Stack}
use Rattle.tclv_engine.specs.Variables.{element_name, setting_message}
use Rattle.tclv_engine.proofs.Leaves.{raises_as}
use Rattle.tclv_plain.proofs.ElementLemmas.{refuses_by}
use Rattle.tclv_plain.proofs.array_setting.refuse_element.Goals as goal

pub returns-in-Ok-clause-refuses : goal.returns-in-Ok-clause-refuses
returns-in-Ok-clause-refuses g c =
    let array = text_at c.args.machine.now.values.store (Stack c.args.array) in
    let named = c.bytes.ensures.text ∙ c.in-Ok.ensures ∙ ap (λ t. element_name t (chars c.lend-2.result.now)) c.lend.ensures.text ∙ ap (element_name array) c.lend-2.ensures.text in
    refuses_by c.args.fault _ c.raise.new.self.values.store.stack c.raise.result (λ e. search (rules, e, c.if-eq.ensures))
    (raises_as _ _ _ _ c.raise.new.self.values.store.stack c.raise.result
    (ap (λ k. text_of k (chars c.bytes.result.now) (chars [])) c.setting_message.ensures
    ∙ ap (λ t. text_of (setting_message c.args.fault) t (chars [])) named
    ∙ ap (text_of (setting_message c.args.fault) (element_name array (text_at c.args.machine.now.values.store (Stack c.args.index)))) chars-nil)
    (ap (error_code NoCode) named)
    c.raise.ensures.raises)
