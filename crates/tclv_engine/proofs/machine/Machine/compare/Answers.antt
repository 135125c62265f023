use Rattle.std.proofs.Common.{rules, ap, ◌∙◌}
use Rattle.tclv_engine.specs.State.{state_of}
use Rattle.tclv_engine.specs.Operations.{compared, second_of, comparison}
use Rattle.tclv_engine.specs.Answers.{last_of}
use Rattle.tclv_engine.proofs.Binds.{runs_as}
use Rattle.tclv_engine.proofs.Leaves.{memory_runs, from_same}
use Rattle.tclv_engine.proofs.machine.Machine.compare.Goals as goal

pub returns-in_err-sorts-clause-answer : goal.returns-in_err-sorts-clause-answer
returns-in_err-sorts-clause-answer g c here w told = memory_runs (search rules) told (search rules)

pub returns-clause-answer : goal.returns-clause-answer
returns-clause-answer g c here w told =
    let stack = c.args.self.now.values.store.stack in
    from_same c.args.self.now c.sorts_of_two.new.self (comparison c.args.op (second_of stack) (last_of stack)) c.in_ok-sorts.ensures.same
    (runs_as (ap (λ s. compared c.args.op (second_of s) (last_of s) c.in_ok-sorts.sorts (state_of c.sorts_of_two.new.self w)) c.in_ok-sorts.ensures.stack
    ∙ ap (λ x. compared c.args.op (second_of stack) (last_of stack) x (state_of c.sorts_of_two.new.self w)) c.in_ok-sorts.ensures.sorts)
    (c.compare_as.ensures.answer here w told))
