use Rattle.std.proofs.Common.{rules, arith, ap, sym, ◌≡◌, ◌∙◌, ◌+◌, ◌*◌, ◌<◌, ◌≤◌, length, length-drop, drop, refl}
use Rattle.tclv_vars.specs.declared.places.Root.TheVariants.{Level}
use Rattle.tclv_engine.specs.State.{state_of}
use Rattle.tclv_engine.proofs.Binds.{runs_as, bind_ok, then_stop}
use Rattle.tclv_engine.proofs.Leaves.{done_runs}
use Rattle.tclv_plain.specs.LinkRows.{link_pairs}
use Rattle.tclv_plain.proofs.LinkLemmas.{links_begin, pair_step, pair_end}
use Rattle.tclv_plain.proofs.link_commands.link_pairs.Goals as goal

pub loop-i-init : goal.loop-i-init
loop-i-init g c =
    let stack = c.args.machine.now.values.store.stack in
    let start : c.args.from + 2 * 0 ≡ c.args.from = omega arith in
    links_begin (link_pairs (Level c.args.level) (drop c.args.from stack)) (link_pairs (Level c.args.level) (drop (c.args.from + 2 * 0) stack)) c.args.machine.now
    (λ st. ap (λ k. link_pairs (Level c.args.level) (drop k stack) st) start)

pub link-requires-clause-other : goal.link-requires-clause-other
link-requires-clause-other g c = omega (arith, c.loop-i-test.true, c.height.ensures, c.requires, ap length c.loop-i.invariant.stack)

pub link-requires-clause-local : goal.link-requires-clause-local
link-requires-clause-local g c = omega (arith, c.loop-i-test.true, c.height.ensures, c.requires, ap length c.loop-i.invariant.stack)

pub returns-in_err-link-clause-answer : goal.returns-in_err-link-clause-answer
returns-in_err-link-clause-answer g c here w told =
    let stack = c.args.machine.now.values.store.stack in
    let l : c.args.from + 2 * c.loop-i.i + 1 < length stack = omega (arith, c.loop-i-test.true, c.height.ensures, c.requires) in
    c.loop-i.invariant.goes here w told _ _
    (λ v e. runs_as (pair_step (Level c.args.level) stack _ c.args.from c.loop-i.i (state_of c.loop-i.machine v) l c.loop-i.invariant.stack)
    (then_stop _ (search rules) (c.in_err-link.ensures.answer here v e)))

pub loop-i-preserved : goal.loop-i-preserved
loop-i-preserved g c =
    let stack = c.args.machine.now.values.store.stack in
    let l : c.args.from + 2 * c.loop-i.i + 1 < length stack = omega (arith, c.loop-i-test.true, c.height.ensures, c.requires) in
    record {
      stack = c.in_ok-link.ensures.stack ∙ c.loop-i.invariant.stack;
      units_left = c.in_ok-link.ensures.units ∙ c.loop-i.invariant.units_left;
      goes = λ here w told r after k. c.loop-i.invariant.goes here w told r after
          (λ v e. runs_as (pair_step (Level c.args.level) stack _ c.args.from c.loop-i.i (state_of c.loop-i.machine v) l c.loop-i.invariant.stack)
          (bind_ok _ (c.in_ok-link.ensures.answer here v e) (λ a v2 e2 shown. k v2 e2)));
    }

pub returns-clause-answer : goal.returns-clause-answer
returns-clause-answer g c here w told =
    let stack = c.args.machine.now.values.store.stack in
    let rest = drop (c.args.from + 2 * c.loop-i.i) stack in
    let l : length rest ≤ 1 = omega (arith, c.loop-i-test.false, c.height.ensures, c.requires, length-drop (c.args.from + 2 * c.loop-i.i) stack) in
    c.loop-i.invariant.goes here w told _ _
    (λ v e. runs_as (pair_end (Level c.args.level) rest (state_of c.loop-i.machine v) l) (done_runs e refl tt))
