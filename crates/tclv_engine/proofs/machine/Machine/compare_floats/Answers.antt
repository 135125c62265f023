use Rattle.std.proofs.Common.{rules, ap, ◌∙◌, ◌&&◌, not, [], get_or, ◌-◌}
use Rattle.std.specs.Ordering.{is_eq}
use Rattle.tclv_model.specs.declared.messages.MessageId.TheVariants.{FloatComparison}
use Rattle.tclv_model.specs.declared.error_codes.ErrorCode.TheVariants.{NoCode}
use Rattle.tclv_engine.specs.declared.operations.Comparands.TheVariants.{Floats}
use Rattle.tclv_engine.specs.State.{state_of}
use Rattle.tclv_engine.specs.Answers.{last_of}
use Rattle.tclv_engine.specs.Operations.{if_same, compared, second_of, is_nan}
use Rattle.tclv_engine.proofs.Binds.{runs_as}
use Rattle.tclv_engine.proofs.Leaves.{memory_runs, from_same}
use Rattle.tclv_engine.proofs.WordLemmas.{same_then}
use Rattle.tclv_engine.proofs.machine.Machine.compare_floats.Goals as goal

pub returns-in_err-by-clause-answer : goal.returns-in_err-by-clause-answer
returns-in_err-by-clause-answer g c here w told = memory_runs (search rules) told (search rules)

pub returns-in_err-nan-clause-answer : goal.returns-in_err-nan-clause-answer
returns-in_err-nan-clause-answer g c here w told = memory_runs (search rules) told (search rules)

pub returns-clause-answer : goal.returns-clause-answer
returns-clause-answer g c here w told =
    let stack = c.args.self.now.values.store.stack in
    let st = state_of c.is_nan_at.new.self w in
    let nan = c.in_ok-nan.ensures.nan ∙ ap (λ s. is_nan (get_or s (c.height.result - 2) [])) c.in_ok-by.ensures.stack ∙ ap (λ l. is_nan (get_or stack (l - 2) [])) c.height.ensures in
    from_same c.args.self.now c.is_nan_at.new.self (compared c.args.op (second_of stack) (last_of stack) Floats)
    (same_then c.args.self.now c.order_of_two.new.self c.is_nan_at.new.self c.in_ok-by.ensures.same c.in_ok-nan.ensures.same)
    (runs_as (ap (λ b. if_same b c.args.op c.in_ok-by.by FloatComparison NoCode st) (c.is_same_number-same.ensures ∙ ap (λ n. is_eq c.in_ok-by.by && not n) nan)
    ∙ ap (λ by. if_same (is_eq by && not (is_nan (second_of stack))) c.args.op by FloatComparison NoCode st) c.in_ok-by.ensures.order)
    (c.if_same.ensures.answer here w told))
