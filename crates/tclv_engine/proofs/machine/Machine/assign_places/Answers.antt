use Rattle.std.proofs.Common.{rules, arith, ap, sym, ◌∙◌, ◌<◌, ◌≤◌, ◌-◌, ◌+◌, [], length, take, drop, get_or, refl}
use Rattle.std.proofs.lemmas.List.{drop_all}
use Rattle.tclv_engine.specs.State.{state_of}
use Rattle.tclv_engine.specs.ListAssignment.{listed}
use Rattle.tclv_engine.proofs.Binds.{runs_as, bind_ok, then_stop}
use Rattle.tclv_engine.proofs.Leaves.{done_runs}
use Rattle.tclv_engine.proofs.ListLemmas.{assigns_begin, assign_step, assign_none, name_between, length_between, list_stays}
use Rattle.tclv_engine.proofs.machine.Machine.assign_places.Goals as goal

pub loop-i-init : goal.loop-i-init
loop-i-init g c =
    let values = listed (get_or c.args.self.now.values.store.stack c.args.list []) in
    assigns_begin (take (c.args.to - c.args.from) (drop c.args.from c.args.self.now.values.store.stack)) values c.args.self.now (c.args.from - c.args.from) (omega arith)

pub assign_element-requires-clause-name : goal.assign_element-requires-clause-name
assign_element-requires-clause-name g c =
    let l : c.loop-i.i < length c.args.self.now.values.store.stack = search rules in
    omega (arith, l, ap length c.loop-i.invariant.stack)

pub assign_element-requires-clause-place : goal.assign_element-requires-clause-place
assign_element-requires-clause-place g c = omega (arith, c.requires.place, ap length c.loop-i.invariant.stack)

pub assign_element-requires-clause-list : goal.assign_element-requires-clause-list
assign_element-requires-clause-list g c =
    list_stays (get_or c.args.self.now.values.store.stack c.args.list []) _ (ap (λ s. get_or s c.args.list []) c.loop-i.invariant.stack) c.requires.list

pub returns-in_err-assign_element-clause-answer : goal.returns-in_err-assign_element-clause-answer
returns-in_err-assign_element-clause-answer g c here w told =
    let values = listed (get_or c.args.self.now.values.store.stack c.args.list []) in
    let stack = c.args.self.now.values.store.stack in
    let names = take (c.args.to - c.args.from) (drop c.args.from stack) in
    let after : c.args.from ≤ c.loop-i.i = search rules in
    let before : c.loop-i.i < c.args.to = search rules in
    let within : c.loop-i.i - c.args.from < length names = omega (arith, after, before, length_between stack c.args.from c.args.to c.requires.order c.requires.places) in
    c.loop-i.invariant.goes here w told _ _
    (λ v e. runs_as (assign_step names values (c.loop-i.i - c.args.from) (c.loop-i.i + 1 - c.args.from) _ _ (state_of c.loop-i.self v) within (omega (arith, after))
    (ap (λ s. get_or s c.loop-i.i []) c.loop-i.invariant.stack ∙ sym (name_between stack c.args.from c.args.to c.loop-i.i after before)) (ap (λ s. get_or (listed (get_or s c.args.list [])) (c.loop-i.i - c.args.from) []) c.loop-i.invariant.stack))
    (then_stop _ (search rules) (c.in_err-assign_element.ensures.answer here v e)))

pub loop-i-preserved : goal.loop-i-preserved
loop-i-preserved g c =
    let values = listed (get_or c.args.self.now.values.store.stack c.args.list []) in
    let stack = c.args.self.now.values.store.stack in
    let names = take (c.args.to - c.args.from) (drop c.args.from stack) in
    let after : c.args.from ≤ c.loop-i.i = search rules in
    let before : c.loop-i.i < c.args.to = search rules in
    let within : c.loop-i.i - c.args.from < length names = omega (arith, after, before, length_between stack c.args.from c.args.to c.requires.order c.requires.places) in
    record {
      stack = c.in_ok-assign_element.ensures.stack ∙ c.loop-i.invariant.stack;
      own = c.in_ok-assign_element.ensures.own ∙ c.loop-i.invariant.own;
      units_left = omega (arith, c.in_ok-assign_element.ensures.units, c.loop-i.invariant.units_left);
      goes = λ here w told r after_all k. c.loop-i.invariant.goes here w told r after_all
          (λ v e. runs_as (assign_step names values (c.loop-i.i - c.args.from) (c.loop-i.i + 1 - c.args.from) _ _ (state_of c.loop-i.self v) within (omega (arith, after))
          (ap (λ s. get_or s c.loop-i.i []) c.loop-i.invariant.stack ∙ sym (name_between stack c.args.from c.args.to c.loop-i.i after before)) (ap (λ s. get_or (listed (get_or s c.args.list [])) (c.loop-i.i - c.args.from) []) c.loop-i.invariant.stack))
          (bind_ok _ (c.in_ok-assign_element.ensures.answer here v e) (λ a v2 e2 shown. k v2 e2)));
    }

pub returns-clause-answer : goal.returns-clause-answer
returns-clause-answer g c here w told =
    let values = listed (get_or c.args.self.now.values.store.stack c.args.list []) in
    let stack = c.args.self.now.values.store.stack in
    let names = take (c.args.to - c.args.from) (drop c.args.from stack) in
    let ended : c.args.to ≤ c.loop-i.i = search rules in
    c.loop-i.invariant.goes here w told _ _
    (λ v e. runs_as (assign_none (drop (c.loop-i.i - c.args.from) names) (drop (c.loop-i.i - c.args.from) values) (state_of c.loop-i.self v)
    (drop_all (c.loop-i.i - c.args.from) names (omega (arith, ended, length_between stack c.args.from c.args.to c.requires.order c.requires.places))))
    (done_runs e refl tt))
