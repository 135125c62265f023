use Rattle.std.proofs.Common.{◌∙◌, sym, rules, refl}
use Rattle.tclv_value.specs.View.{text_at}
use Rattle.tclv_model.specs.declared.messages.MessageId.TheVariants as message
use Rattle.tclv_model.specs.declared.error_codes.ErrorCode.TheVariants.{NoCode}
use Rattle.tclv_engine.specs.State.{state_of}
use Rattle.tclv_engine.proofs.Binds.{runs_as}
use Rattle.tclv_engine.proofs.Leaves.{raise_first}
use Rattle.tclv_engine.proofs.NameLemmas.{bytes-are}
use Rattle.tclv_engine.proofs.LinkLemmas.{link-element, link-qualified, link-simple}
use Rattle.tclv_engine.proofs.machine.Machine.link_made.Goals as goal

pub returns-then-is_element-clause-answer : goal.returns-then-is_element-clause-answer
returns-then-is_element-clause-answer g c here w told =
    let store = c.args.self.now.values.store in
    runs_as (link-element c.args.root (text_at store c.args.other) (text_at store c.args.local) (state_of c.args.self.now w) c.lend.result.now (bytes-are _ _ c.lend.ensures.utf8 c.lend.ensures.text) (sym c.is_element.ensures ∙ c.if-is_element.true))
    (raise_first c.args.self.now message.VariableNameIsElement message.VariableNameIsElement _ NoCode NoCode told c.raise_at.ensures.same refl refl c.raise_at.ensures.raises)

pub returns-then-is_qualified-clause-answer : goal.returns-then-is_qualified-clause-answer
returns-then-is_qualified-clause-answer g c here w told =
    let store = c.args.self.now.values.store in
    runs_as (link-qualified c.args.root (text_at store c.args.other) (text_at store c.args.local) c.lend.result.now c.lend-2.result.now (state_of c.args.self.now w) (bytes-are _ _ c.lend.ensures.utf8 c.lend.ensures.text) (sym c.is_element.ensures ∙ c.if-is_element.false)
    (bytes-are _ _ c.lend-2.ensures.utf8 c.lend-2.ensures.text) (sym c.is_qualified.ensures ∙ c.if-is_qualified.true))
    (raise_first c.args.self.now message.VariableNameIsQualified message.VariableNameIsQualified _ NoCode NoCode told c.raise_at-then-is_qualified.ensures.same refl refl c.raise_at-then-is_qualified.ensures.raises)

pub returns-clause-answer : goal.returns-clause-answer
returns-clause-answer g c here w told =
    let store = c.args.self.now.values.store in
    runs_as (link-simple c.args.root (text_at store c.args.other) (text_at store c.args.local) c.lend.result.now c.lend-2.result.now (state_of c.args.self.now w) (bytes-are _ _ c.lend.ensures.utf8 c.lend.ensures.text) (sym c.is_element.ensures ∙ c.if-is_element.false)
    (bytes-are _ _ c.lend-2.ensures.utf8 c.lend-2.ensures.text) (sym c.is_qualified.ensures ∙ c.if-is_qualified.false))
    (c.link_plain.ensures.answer here w told)
