use Rattle.std.proofs.Common.{ap, sym}
use Rattle.tclv_value.specs.Stacks.{top}
use Rattle.tclv_engine.specs.State.{state_of}
use Rattle.tclv_engine.proofs.Binds.{runs_as}
use Rattle.tclv_control.specs.ControlRows.{control_wanted}
use Rattle.tclv_control.proofs.control.plan_control.Goals as goal

pub returns-in-Eval-clause-answer : goal.returns-in-Eval-clause-answer
returns-in-Eval-clause-answer g c here w told =
    runs_as (ap (λ x. control_wanted c.args.hand_on x (top c.args.n c.args.machine.now.values.store.stack) (state_of c.args.machine.now w)) (sym c.in-Eval.is))
    (c.plan_eval.ensures.answer here w told)

pub returns-in-Expr-clause-answer : goal.returns-in-Expr-clause-answer
returns-in-Expr-clause-answer g c here w told =
    runs_as (ap (λ x. control_wanted c.args.hand_on x (top c.args.n c.args.machine.now.values.store.stack) (state_of c.args.machine.now w)) (sym c.in-Expr.is))
    (c.plan_expr.ensures.answer here w told)

pub returns-in-For-clause-answer : goal.returns-in-For-clause-answer
returns-in-For-clause-answer g c here w told =
    runs_as (ap (λ x. control_wanted c.args.hand_on x (top c.args.n c.args.machine.now.values.store.stack) (state_of c.args.machine.now w)) (sym c.in-For.is))
    (c.plan_for.ensures.answer here w told)

pub returns-in-Foreach-clause-answer : goal.returns-in-Foreach-clause-answer
returns-in-Foreach-clause-answer g c here w told =
    runs_as (ap (λ x. control_wanted c.args.hand_on x (top c.args.n c.args.machine.now.values.store.stack) (state_of c.args.machine.now w)) (sym c.in-Foreach.is))
    (c.plan_foreach.ensures.answer here w told)

pub returns-in-If-clause-answer : goal.returns-in-If-clause-answer
returns-in-If-clause-answer g c here w told =
    runs_as (ap (λ x. control_wanted c.args.hand_on x (top c.args.n c.args.machine.now.values.store.stack) (state_of c.args.machine.now w)) (sym c.in-If.is))
    (c.plan_if.ensures.answer here w told)

pub returns-in-Lmap-clause-answer : goal.returns-in-Lmap-clause-answer
returns-in-Lmap-clause-answer g c here w told =
    runs_as (ap (λ x. control_wanted c.args.hand_on x (top c.args.n c.args.machine.now.values.store.stack) (state_of c.args.machine.now w)) (sym c.in-Lmap.is))
    (c.plan_lmap.ensures.answer here w told)

pub returns-in-Switch-clause-answer : goal.returns-in-Switch-clause-answer
returns-in-Switch-clause-answer g c here w told =
    runs_as (ap (λ x. control_wanted c.args.hand_on x (top c.args.n c.args.machine.now.values.store.stack) (state_of c.args.machine.now w)) (sym c.in-Switch.is))
    (c.plan_switch.ensures.answer here w told)

pub returns-in-While-clause-answer : goal.returns-in-While-clause-answer
returns-in-While-clause-answer g c here w told =
    runs_as (ap (λ x. control_wanted c.args.hand_on x (top c.args.n c.args.machine.now.values.store.stack) (state_of c.args.machine.now w)) (sym c.in-While.is))
    (c.plan_while.ensures.answer here w told)

pub returns-in-Uplevel-clause-answer : goal.returns-in-Uplevel-clause-answer
returns-in-Uplevel-clause-answer g c here w told =
    runs_as (ap (λ x. control_wanted c.args.hand_on x (top c.args.n c.args.machine.now.values.store.stack) (state_of c.args.machine.now w)) (sym c.in-Uplevel.is))
    (c.plan_uplevel.ensures.answer here w told)
