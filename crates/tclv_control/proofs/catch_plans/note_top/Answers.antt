use Rattle.std.proofs.Common.{rules, arith, ap, ◌∙◌}
use Rattle.tclv_engine.specs.State.{state_of}
use Rattle.tclv_engine.specs.Answers.{last_of}
use Rattle.tclv_engine.specs.Variables.{assign}
use Rattle.tclv_engine.proofs.Binds.{runs_as}
use Rattle.tclv_engine.proofs.Leaves.{memory_runs, from_same}
use Rattle.tclv_control.proofs.CatchLemmas.{first_of_two, last_of_two, two_above, length_of_two, kept_over, unseen_runs}
use Rattle.tclv_control.proofs.catch_plans.note_top.Goals as goal

pub assign_top-requires-clause-place : goal.assign_top-requires-clause-place
assign_top-requires-clause-place g c =
    let old = c.args.machine.now.values.store.stack in
    let mid = c.push_named.new.machine.values.store.stack in
    omega (arith, c.height-at.ensures, length_of_two old mid c.args.name.now (last_of old) c.in_ok-push_named.ensures.pushed)

pub assign_top-requires-clause-some : goal.assign_top-requires-clause-some
assign_top-requires-clause-some g c =
    let old = c.args.machine.now.values.store.stack in
    let mid = c.push_named.new.machine.values.store.stack in
    omega (arith, length_of_two old mid c.args.name.now (last_of old) c.in_ok-push_named.ensures.pushed)

pub returns-in_err-push_named-clause-answer : goal.returns-in_err-push_named-clause-answer
returns-in_err-push_named-clause-answer g c here w told = memory_runs (search rules) told c.in_err-push_named.ensures.same.events

pub returns-clause-answer : goal.returns-clause-answer
returns-clause-answer g c here w told =
    let old = c.args.machine.now.values.store.stack in
    let mid = c.push_named.new.machine.values.store.stack in
    let name = c.args.name.now in
    let pushed = c.in_ok-push_named.ensures.pushed in
    let st = state_of c.push_named.new.machine w in
    from_same c.args.machine.now c.push_named.new.machine (assign name (last_of old)) c.in_ok-push_named.ensures.same
    (runs_as
    (ap (λ t. assign t (last_of mid) st) (first_of_two old mid name (last_of old) pushed _ c.height-at.ensures) ∙ ap (λ v. assign name v st) (last_of_two old mid name (last_of old) pushed))
    (unseen_runs c.assign_top.result (c.assign_top.ensures.answer here w told)))

pub returns-clause-stack : goal.returns-clause-stack
returns-clause-stack g c =
    let old = c.args.machine.now.values.store.stack in
    let mid = c.push_named.new.machine.values.store.stack in
    kept_over old mid c.assign_top.result c.assign_top.new.self.values.store.stack (two_above old mid c.args.name.now (last_of old) c.in_ok-push_named.ensures.pushed) c.assign_top.ensures.stack
