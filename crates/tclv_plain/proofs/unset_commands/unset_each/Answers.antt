use Rattle.std.proofs.Common.{rules, arith, ap, ◌∙◌, ◌<◌, ◌≤◌, length, drop, refl}
use Rattle.tclv_engine.specs.State.{state_of}
use Rattle.tclv_engine.proofs.Binds.{runs_as, bind_ok, then_stop}
use Rattle.tclv_engine.proofs.Leaves.{done_runs}
use Rattle.tclv_plain.specs.UnsetRows.{unset_each}
use Rattle.tclv_plain.proofs.LinkLemmas.{links_begin}
use Rattle.tclv_plain.proofs.UnsetLemmas.{unset_step, unset_end}
use Rattle.tclv_plain.proofs.unset_commands.unset_each.Goals as goal

pub loop-name-init : goal.loop-name-init
loop-name-init g c =
    let stack = c.args.machine.now.values.store.stack in
    links_begin (unset_each c.args.complains (drop c.args.from stack)) (unset_each c.args.complains (drop c.args.from stack)) c.args.machine.now (λ st. refl)

pub unset_variable-requires : goal.unset_variable-requires
unset_variable-requires g c = omega (arith, c.loop-name-test.true, c.height-name-end.ensures, ap length c.loop-name.invariant.stack)

pub returns-in_err-unset_variable-clause-answer : goal.returns-in_err-unset_variable-clause-answer
returns-in_err-unset_variable-clause-answer g c here w told =
    let stack = c.args.machine.now.values.store.stack in
    let l : c.loop-name.name < length stack = omega (arith, c.loop-name-test.true, c.height-name-end.ensures) in
    c.loop-name.invariant.goes here w told _ _
    (λ v e. runs_as (unset_step c.args.complains stack _ c.loop-name.name (state_of c.loop-name.machine v) l c.loop-name.invariant.stack)
    (then_stop _ (search rules) (c.in_err-unset_variable.ensures.answer here v e)))

pub loop-name-preserved : goal.loop-name-preserved
loop-name-preserved g c =
    let stack = c.args.machine.now.values.store.stack in
    let l : c.loop-name.name < length stack = omega (arith, c.loop-name-test.true, c.height-name-end.ensures) in
    record {
      stack = c.in_ok-unset_variable.ensures.stack ∙ c.loop-name.invariant.stack;
      units_left = c.in_ok-unset_variable.ensures.units ∙ c.loop-name.invariant.units_left;
      goes = λ here w told r after k. c.loop-name.invariant.goes here w told r after
          (λ v e. runs_as (unset_step c.args.complains stack _ c.loop-name.name (state_of c.loop-name.machine v) l c.loop-name.invariant.stack)
          (bind_ok _ (c.in_ok-unset_variable.ensures.answer here v e) (λ a v2 e2 shown. k v2 e2)));
    }

pub returns-clause-answer : goal.returns-clause-answer
returns-clause-answer g c here w told =
    let stack = c.args.machine.now.values.store.stack in
    let l : length stack ≤ c.loop-name.name = omega (arith, c.loop-name-test.false, c.height-name-end.ensures) in
    c.loop-name.invariant.goes here w told _ _
    (λ v e. runs_as (unset_end c.args.complains stack c.loop-name.name (state_of c.loop-name.machine v) l) (done_runs e refl tt))
