use Rattle.std.proofs.Common.{rules, refl, ap, ◌∙◌, sym}
use Rattle.tclv_text.specs.Truths.{truth}
use Rattle.tclv_model.specs.declared.messages.MessageId.TheVariants.{NotBoolean}
use Rattle.tclv_model.specs.declared.error_codes.ErrorCode.TheVariants.{NoCode}
use Rattle.tclv_value.specs.View.{text_at}
use Rattle.tclv_engine.specs.State.{state_of}
use Rattle.tclv_engine.proofs.Binds.{runs_as}
use Rattle.tclv_engine.proofs.Leaves.{value_runs, memory_runs}
use Rattle.tclv_engine.proofs.WordLemmas.{text_kept, raise_at_runs, values_then}
use Rattle.tclv_engine.proofs.OperationLemmas.{truth_is}
use Rattle.tclv_engine.proofs.machine.Machine.truth_at.Goals as goal

pub returns-in_err-make_text-clause-answer : goal.returns-in_err-make_text-clause-answer
returns-in_err-make_text-clause-answer g c here w told = memory_runs (search rules) told refl

pub returns-in-Some-clause-answer : goal.returns-in-Some-clause-answer
returns-in-Some-clause-answer g c here w told =
    let kept = text_kept c.args.self.now.values.store c.make_text.new.self.store c.args.at c.in_ok-make_text.ensures.stack c.in_ok-make_text.ensures.same.cells in
    runs_as (truth_is _ _ (state_of c.args.self.now w) (sym c.in-Some.is ∙ c.truth.ensures ∙ ap truth (c.lend.ensures.text ∙ kept)))
    (value_runs c.args.self.now told (search rules) refl)

pub returns-in-None-clause-answer : goal.returns-in-None-clause-answer
returns-in-None-clause-answer g c here w told =
    let kept = text_kept c.args.self.now.values.store c.make_text.new.self.store c.args.at c.in_ok-make_text.ensures.stack c.in_ok-make_text.ensures.same.cells in
    runs_as (truth_is (text_at c.args.self.now.values.store c.args.at) _ (state_of c.args.self.now w) (sym c.in-None.is ∙ c.truth.ensures ∙ ap truth (c.lend.ensures.text ∙ kept)))
    (raise_at_runs c.args.self.now NotBoolean _ _ NoCode told (values_then c.args.self.now _ c.make_text.new.self c.in_ok-make_text.ensures.same c.raise_at.ensures.same) kept c.raise_at.ensures.raises)
