use Rattle.std.proofs.Common.{rules, arith, ap, ◌∙◌, ◌+◌, ◌*◌, ◌<◌, ◌≤◌, length, length-drop, drop, get_or, [], refl}
use Rattle.tclv_engine.specs.State.{state_of}
use Rattle.tclv_engine.specs.ListAssignment.{listed}
use Rattle.tclv_engine.proofs.ListLemmas.{list_stays}
use Rattle.tclv_engine.proofs.Binds.{runs_as, bind_ok, then_stop}
use Rattle.tclv_engine.proofs.Leaves.{done_runs}
use Rattle.tclv_plain.specs.ArrayRows.{assign_element, assign_pairs}
use Rattle.tclv_plain.proofs.LinkLemmas.{links_begin}
use Rattle.tclv_plain.proofs.ArrayLemmas.{pairs_step, pairs_end}
use Rattle.tclv_plain.proofs.array_setting.assign_pairs.Goals as goal

pub loop-i-init : goal.loop-i-init
loop-i-init g c =
    let stack = c.args.machine.now.values.store.stack in
    let name = get_or stack c.args.array [] in
    let texts = listed (get_or stack c.args.list []) in
    links_begin (assign_pairs name texts) (assign_pairs name (drop (2 * 0) texts)) c.args.machine.now (λ st. refl)

pub assign_pair-requires-clause-array : goal.assign_pair-requires-clause-array
assign_pair-requires-clause-array g c = omega (arith, c.requires.array, ap length c.loop-i.invariant.stack)

pub assign_pair-requires-clause-place : goal.assign_pair-requires-clause-place
assign_pair-requires-clause-place g c = omega (arith, c.requires.place, ap length c.loop-i.invariant.stack)

pub assign_pair-requires-clause-list : goal.assign_pair-requires-clause-list
assign_pair-requires-clause-list g c = list_stays _ _ (ap (λ s. get_or s c.args.list []) c.loop-i.invariant.stack) c.requires.list

pub returns-in_err-assign_pair-clause-answer : goal.returns-in_err-assign_pair-clause-answer
returns-in_err-assign_pair-clause-answer g c here w told =
    let stack = c.args.machine.now.values.store.stack in
    let name = get_or stack c.args.array [] in
    let texts = listed (get_or stack c.args.list []) in
    let i = c.loop-i.i in
    let l : 2 * i + 1 < length texts = omega (arith, c.loop-i-test.true, c.requires.len) in
    c.loop-i.invariant.goes here w told _ _
    (λ v e. runs_as (pairs_step name texts i (state_of c.loop-i.machine v) l)
    (then_stop _ (search rules)
    (runs_as (ap (λ s. assign_element (get_or s c.args.array []) (get_or (listed (get_or s c.args.list [])) (2 * i) []) (get_or (listed (get_or s c.args.list [])) (2 * i + 1) []) (state_of c.loop-i.machine v)) c.loop-i.invariant.stack)
    (c.in_err-assign_pair.ensures.answer here v e))))

pub loop-i-preserved : goal.loop-i-preserved
loop-i-preserved g c =
    let stack = c.args.machine.now.values.store.stack in
    let name = get_or stack c.args.array [] in
    let texts = listed (get_or stack c.args.list []) in
    let i = c.loop-i.i in
    let l : 2 * i + 1 < length texts = omega (arith, c.loop-i-test.true, c.requires.len) in
    record {
      stack = c.in_ok-assign_pair.ensures.stack ∙ c.loop-i.invariant.stack;
      units_left = c.in_ok-assign_pair.ensures.units ∙ c.loop-i.invariant.units_left;
      goes = λ here w told r after k. c.loop-i.invariant.goes here w told r after
          (λ v e. runs_as (pairs_step name texts i (state_of c.loop-i.machine v) l)
          (bind_ok _
          (runs_as (ap (λ s. assign_element (get_or s c.args.array []) (get_or (listed (get_or s c.args.list [])) (2 * i) []) (get_or (listed (get_or s c.args.list [])) (2 * i + 1) []) (state_of c.loop-i.machine v)) c.loop-i.invariant.stack)
          (c.in_ok-assign_pair.ensures.answer here v e))
          (λ a v2 e2 shown. k v2 e2)));
    }

pub returns-clause-answer : goal.returns-clause-answer
returns-clause-answer g c here w told =
    let stack = c.args.machine.now.values.store.stack in
    let name = get_or stack c.args.array [] in
    let texts = listed (get_or stack c.args.list []) in
    let rest = drop (2 * c.loop-i.i) texts in
    let l : length rest ≤ 1 = omega (arith, c.loop-i-test.false, c.requires.len, length-drop (2 * c.loop-i.i) texts) in
    c.loop-i.invariant.goes here w told _ _
    (λ v e. runs_as (pairs_end name rest (state_of c.loop-i.machine v) l) (done_runs e refl tt))
