use Rattle.std.proofs.Common.{ap, sym}
use Rattle.tclv_value.specs.Stacks.{top}
use Rattle.tclv_engine.specs.State.{state_of}
use Rattle.tclv_engine.proofs.Binds.{runs_as}
use Rattle.tclv_control.specs.CodeRows.{code_wanted}
use Rattle.tclv_control.proofs.codes.plan_code.Goals as goal

pub returns-in-Catch-clause-answer : goal.returns-in-Catch-clause-answer
returns-in-Catch-clause-answer g c here w told =
    runs_as (ap (λ x. code_wanted x (top c.args.n c.args.machine.now.values.store.stack) (state_of c.args.machine.now w)) (sym c.in-Catch.is)) (c.plan_catch.ensures.answer here w told)

pub returns-in-Error-clause-answer : goal.returns-in-Error-clause-answer
returns-in-Error-clause-answer g c here w told =
    runs_as (ap (λ x. code_wanted x (top c.args.n c.args.machine.now.values.store.stack) (state_of c.args.machine.now w)) (sym c.in-Error.is)) (c.plan_error.ensures.answer here w told)

pub returns-in-Return-clause-answer : goal.returns-in-Return-clause-answer
returns-in-Return-clause-answer g c here w told =
    runs_as (ap (λ x. code_wanted x (top c.args.n c.args.machine.now.values.store.stack) (state_of c.args.machine.now w)) (sym c.in-Return.is)) (c.plan_return.ensures.answer here w told)

pub returns-in-Throw-clause-answer : goal.returns-in-Throw-clause-answer
returns-in-Throw-clause-answer g c here w told =
    runs_as (ap (λ x. code_wanted x (top c.args.n c.args.machine.now.values.store.stack) (state_of c.args.machine.now w)) (sym c.in-Throw.is)) (c.plan_throw.ensures.answer here w told)

pub returns-in-Try-clause-answer : goal.returns-in-Try-clause-answer
returns-in-Try-clause-answer g c here w told =
    runs_as (ap (λ x. code_wanted x (top c.args.n c.args.machine.now.values.store.stack) (state_of c.args.machine.now w)) (sym c.in-Try.is)) (c.plan_try.ensures.answer here w told)
