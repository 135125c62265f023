use Rattle.std.proofs.Common.{rules, ap, ◌∙◌}
use Rattle.tclv_engine.specs.State.{state_of}
use Rattle.tclv_engine.specs.Operations.{order, holds, truth_number, second_of}
use Rattle.tclv_engine.specs.Answers.{last_of}
use Rattle.tclv_engine.proofs.Binds.{runs_as}
use Rattle.tclv_engine.proofs.Leaves.{memory_runs, from_same}
use Rattle.tclv_engine.proofs.machine.Machine.compare_texts.Goals as goal

pub returns-in_err-by-clause-answer : goal.returns-in_err-by-clause-answer
returns-in_err-by-clause-answer g c here w told = memory_runs (search rules) told (search rules)

pub returns-clause-answer : goal.returns-clause-answer
returns-clause-answer g c here w told =
    let stack = c.args.self.now.values.store.stack in
    from_same c.args.self.now c.order_of_two.new.self (truth_number (holds c.args.op (order (second_of stack) (last_of stack)))) c.in_ok-by.ensures.same
    (runs_as (ap (λ b. truth_number b (state_of c.order_of_two.new.self w)) (c.holds.ensures ∙ ap (holds c.args.op) c.in_ok-by.ensures.order))
    (c.truth_number.ensures.answer here w told))
