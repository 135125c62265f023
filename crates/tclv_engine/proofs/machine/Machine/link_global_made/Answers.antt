use Rattle.std.proofs.Common.{◌∙◌, sym, refl}
use Rattle.tclv_value.specs.View.{text_at}
use Rattle.tclv_model.specs.declared.messages.MessageId.TheVariants as message
use Rattle.tclv_model.specs.declared.error_codes.ErrorCode.TheVariants.{NoCode}
use Rattle.tclv_engine.specs.State.{state_of}
use Rattle.tclv_engine.proofs.Binds.{runs_as}
use Rattle.tclv_engine.proofs.Leaves.{raise_first}
use Rattle.tclv_engine.proofs.NameLemmas.{bytes-are}
use Rattle.tclv_engine.proofs.LinkLemmas.{global-element, global-plain}
use Rattle.tclv_engine.proofs.machine.Machine.link_global_made.Goals as goal

pub returns-then-is_element-clause-answer : goal.returns-then-is_element-clause-answer
returns-then-is_element-clause-answer g c here w told =
    runs_as (global-element (text_at c.args.self.now.values.store c.args.name) c.lend.result.now (state_of c.args.self.now w) (bytes-are _ _ c.lend.ensures.utf8 c.lend.ensures.text) (sym c.is_element.ensures ∙ c.if-is_element.true))
    (raise_first c.args.self.now message.VariableNameIsElement message.VariableNameIsElement _ NoCode NoCode told c.raise_at.ensures.same refl refl c.raise_at.ensures.raises)

pub returns-clause-answer : goal.returns-clause-answer
returns-clause-answer g c here w told =
    runs_as (global-plain (text_at c.args.self.now.values.store c.args.name) c.lend.result.now (state_of c.args.self.now w) (bytes-are _ _ c.lend.ensures.utf8 c.lend.ensures.text) (sym c.is_element.ensures ∙ c.if-is_element.false))
    (c.link_plain.ensures.answer here w told)
