use Rattle.std.proofs.Common.{rules, arith, ap, ◌≡◌, ◌∙◌, ◌+◌, ◌<◌, ◌≤◌, length, drop, refl}
use Rattle.tclv_engine.specs.State.{state_of}
use Rattle.tclv_engine.proofs.Binds.{runs_as, bind_ok, then_stop}
use Rattle.tclv_engine.proofs.Leaves.{done_runs}
use Rattle.tclv_plain.specs.LinkRows.{link_globals}
use Rattle.tclv_plain.proofs.LinkLemmas.{links_begin, global_step, global_end}
use Rattle.tclv_plain.proofs.link_commands.link_globals.Goals as goal

pub loop-name-init : goal.loop-name-init
loop-name-init g c =
    let stack = c.args.machine.now.values.store.stack in
    links_begin (link_globals (drop c.args.from stack)) (link_globals (drop c.args.from stack)) c.args.machine.now (λ st. refl)

pub link_global-requires : goal.link_global-requires
link_global-requires g c = omega (arith, c.loop-name-test.true, c.height-name-end.ensures, ap length c.loop-name.invariant.stack)

pub returns-in_err-link_global-clause-answer : goal.returns-in_err-link_global-clause-answer
returns-in_err-link_global-clause-answer g c here w told =
    let stack = c.args.machine.now.values.store.stack in
    let l : c.loop-name.name < length stack = omega (arith, c.loop-name-test.true, c.height-name-end.ensures) in
    c.loop-name.invariant.goes here w told _ _
    (λ v e. runs_as (global_step stack _ c.loop-name.name (state_of c.loop-name.machine v) l c.loop-name.invariant.stack)
    (then_stop _ (search rules) (c.in_err-link_global.ensures.answer here v e)))

pub loop-name-preserved : goal.loop-name-preserved
loop-name-preserved g c =
    let stack = c.args.machine.now.values.store.stack in
    let l : c.loop-name.name < length stack = omega (arith, c.loop-name-test.true, c.height-name-end.ensures) in
    record {
      stack = c.in_ok-link_global.ensures.stack ∙ c.loop-name.invariant.stack;
      units_left = c.in_ok-link_global.ensures.units ∙ c.loop-name.invariant.units_left;
      goes = λ here w told r after k. c.loop-name.invariant.goes here w told r after
          (λ v e. runs_as (global_step stack _ c.loop-name.name (state_of c.loop-name.machine v) l c.loop-name.invariant.stack)
          (bind_ok _ (c.in_ok-link_global.ensures.answer here v e) (λ a v2 e2 shown. k v2 e2)));
    }

pub returns-clause-answer : goal.returns-clause-answer
returns-clause-answer g c here w told =
    let stack = c.args.machine.now.values.store.stack in
    let l : length stack ≤ c.loop-name.name = omega (arith, c.loop-name-test.false, c.height-name-end.ensures) in
    c.loop-name.invariant.goes here w told _ _
    (λ v e. runs_as (global_end stack c.loop-name.name (state_of c.loop-name.machine v) l) (done_runs e refl tt))
