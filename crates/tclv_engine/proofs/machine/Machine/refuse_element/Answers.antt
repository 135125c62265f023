use Rattle.std.proofs.Common.{◌∙◌, ap, []}
use Rattle.std.specs.Str.{chars}
use Rattle.std.proofs.lemmas.Str.{chars-nil}
use Rattle.tclv_model.specs.Message.{text_of}
use Rattle.tclv_model.specs.ErrorCodes.{error_code}
use Rattle.tclv_value.specs.View.{text_at}
use Rattle.tclv_value.specs.declared.places.At.TheVariants.{Stack}
use Rattle.tclv_engine.specs.Variables.{element_name, reading_message, reading_code}
use Rattle.tclv_engine.proofs.Leaves.{raises_as}
use Rattle.tclv_engine.proofs.machine.Machine.refuse_element.Goals as goal

pub returns-in-Ok-clause-raises : goal.returns-in-Ok-clause-raises
returns-in-Ok-clause-raises g c =
    let named = c.bytes.ensures.text ∙ c.in-Ok.ensures ∙ ap (element_name (chars c.args.array.now)) c.lend.ensures.text in
    raises_as _ _ _ _ c.raise.new.self.values.store.stack c.raise.result
    (ap (λ k. text_of k (chars c.bytes.result.now) (chars [])) c.unreadable-kind.ensures.message
    ∙ ap (λ t. text_of (reading_message c.args.fault) t (chars [])) named
    ∙ ap (text_of (reading_message c.args.fault) (element_name (chars c.args.array.now) (text_at c.args.self.now.values.store (Stack c.args.index)))) chars-nil)
    (ap (λ k. error_code k (chars c.bytes.result.now)) c.unreadable-kind.ensures.code ∙ ap (error_code (reading_code c.args.fault)) named)
    c.raise.ensures.raises
