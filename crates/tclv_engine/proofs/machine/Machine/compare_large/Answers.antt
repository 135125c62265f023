use Rattle.std.proofs.Common.{rules, ap, ◌∙◌}
use Rattle.std.specs.Ordering.{is_eq}
use Rattle.tclv_model.specs.declared.messages.MessageId.TheVariants.{IntegerTooLarge}
use Rattle.tclv_model.specs.declared.error_codes.ErrorCode.TheVariants.{Overflow}
use Rattle.tclv_engine.specs.declared.operations.Comparands.TheVariants.{LargeNumbers}
use Rattle.tclv_engine.specs.State.{state_of}
use Rattle.tclv_engine.specs.Answers.{last_of}
use Rattle.tclv_engine.specs.Operations.{if_same, compared, second_of}
use Rattle.tclv_engine.proofs.Binds.{runs_as}
use Rattle.tclv_engine.proofs.Leaves.{memory_runs, from_same}
use Rattle.tclv_engine.proofs.machine.Machine.compare_large.Goals as goal

pub returns-in_err-by-clause-answer : goal.returns-in_err-by-clause-answer
returns-in_err-by-clause-answer g c here w told = memory_runs (search rules) told (search rules)

pub returns-clause-answer : goal.returns-clause-answer
returns-clause-answer g c here w told =
    let stack = c.args.self.now.values.store.stack in
    from_same c.args.self.now c.order_of_two.new.self (compared c.args.op (second_of stack) (last_of stack) LargeNumbers) c.in_ok-by.ensures.same
    (runs_as (ap (λ b. if_same b c.args.op c.in_ok-by.by IntegerTooLarge Overflow (state_of c.order_of_two.new.self w)) (search rules)
    ∙ ap (λ by. if_same (is_eq by) c.args.op by IntegerTooLarge Overflow (state_of c.order_of_two.new.self w)) c.in_ok-by.ensures.order)
    (c.if_same.ensures.answer here w told))
