use Rattle.std.proofs.Common.{rules, arith, ◌∙◌, ◌<◌, ◌≤◌, length, drop, refl, get_or}
use Rattle.std.proofs.lemmas.List.{drop_all, get_or_default}
use Rattle.tclv_engine.specs.State.{state_of}
use Rattle.tclv_engine.specs.EachSteps.{groups_at}
use Rattle.tclv_engine.specs.declared.each_groups.Group.{Group as PlacedGroup}
use Rattle.tclv_engine.proofs.Binds.{runs_as, bind_ok, then_stop}
use Rattle.tclv_engine.proofs.Leaves.{done_runs}
use Rattle.tclv_engine.proofs.ForeachLemmas.{groups_begin, placed_step, placed_length, groups_none, one_inside}
use Rattle.tclv_engine.proofs.machine.Machine.assign_groups.Goals as goal

abbrev none : PlacedGroup
none = record { names = 0; values = 0; name_count = 0; value_count = 0 }

pub loop-i-init : goal.loop-i-init
loop-i-init g c = groups_begin c.args.turn (groups_at c.args.self.now.values.store.stack c.args.groups.now) c.args.self.now 0 refl

pub assign_group-requires : goal.assign_group-requires
assign_group-requires g c = one_inside c.args.self.now.values.store.stack c.loop-i.self.values.store.stack c.args.groups.now c.loop-i.i (get_or c.args.groups.now c.loop-i.i none) c.loop-i.invariant.stack c.requires c.loop-i-test.true (get_or_default c.args.groups.now c.loop-i.i (get_or c.args.groups.now c.loop-i.i none) none c.loop-i-test.true)

pub returns-in_err-assign_group-clause-answer : goal.returns-in_err-assign_group-clause-answer
returns-in_err-assign_group-clause-answer g c here w told =
    c.loop-i.invariant.goes here w told _ _
    (λ v e. runs_as (placed_step c.args.turn c.args.self.now.values.store.stack c.loop-i.self.values.store.stack c.args.groups.now c.loop-i.i (get_or c.args.groups.now c.loop-i.i none) (state_of c.loop-i.self v) c.loop-i-test.true (get_or_default c.args.groups.now c.loop-i.i (get_or c.args.groups.now c.loop-i.i none) none c.loop-i-test.true) c.loop-i.invariant.stack)
    (then_stop _ (search rules) (c.in_err-assign_group.ensures.answer here v e)))

pub loop-i-preserved : goal.loop-i-preserved
loop-i-preserved g c = record {
  stack = c.in_ok-assign_group.ensures.stack ∙ c.loop-i.invariant.stack;
  own = c.in_ok-assign_group.ensures.own ∙ c.loop-i.invariant.own;
  units_left = omega (arith, c.in_ok-assign_group.ensures.units, c.loop-i.invariant.units_left);
  goes = λ here w told r after k. c.loop-i.invariant.goes here w told r after
      (λ v e. runs_as (placed_step c.args.turn c.args.self.now.values.store.stack c.loop-i.self.values.store.stack c.args.groups.now c.loop-i.i (get_or c.args.groups.now c.loop-i.i none) (state_of c.loop-i.self v) c.loop-i-test.true (get_or_default c.args.groups.now c.loop-i.i (get_or c.args.groups.now c.loop-i.i none) none c.loop-i-test.true) c.loop-i.invariant.stack)
      (bind_ok _ (c.in_ok-assign_group.ensures.answer here v e) (λ a v2 e2 shown. k v2 e2)));
}

pub returns-clause-answer : goal.returns-clause-answer
returns-clause-answer g c here w told =
    let groups = groups_at c.args.self.now.values.store.stack c.args.groups.now in
    let ended : length c.args.groups.now ≤ c.loop-i.i = search rules in
    c.loop-i.invariant.goes here w told _ _
    (λ v e. runs_as (groups_none c.args.turn (drop c.loop-i.i groups) (state_of c.loop-i.self v) (drop_all c.loop-i.i groups (placed_length c.args.self.now.values.store.stack c.args.groups.now c.loop-i.i ended)))
    (done_runs e refl tt))
