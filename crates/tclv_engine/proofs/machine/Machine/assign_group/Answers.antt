use Rattle.std.proofs.Common.{rules, arith, ap, sym, ◌≡◌, ◌∙◌, ◌*◌, ◌+◌, ◌<◌, ◌≤◌, [], length, drop, get_or, min, refl, subst, List, ℕ}
use Rattle.std.proofs.lemmas.List.{drop_all}
use Rattle.tclv_engine.specs.State.{state_of}
use Rattle.tclv_engine.specs.EachSteps.{group_at}
use Rattle.tclv_engine.specs.ListAssignment.{listed}
use Rattle.tclv_engine.specs.Answers.{KeepsStack}
use Rattle.tclv_engine.proofs.Binds.{runs_as, bind_ok, then_stop}
use Rattle.tclv_engine.proofs.Leaves.{done_runs}
use Rattle.tclv_engine.proofs.ListLemmas.{assigns_begin, assign_step, assign_none}
use Rattle.tclv_engine.proofs.ForeachLemmas.{inside_same, turn_value}
use Rattle.tclv_engine.proofs.machine.Machine.assign_group.Goals as goal

pub loop-name-init : goal.loop-name-init
loop-name-init g c =
    let at = group_at c.args.self.now.values.store.stack c.args.group.now in
    assigns_begin at.0 (drop (c.args.turn * length at.0) at.1) c.args.self.now 0 refl

pub assign_named-requires : goal.assign_named-requires
assign_named-requires g c = inside_same c.args.self.now.values.store.stack c.loop-name.self.values.store.stack c.args.group.now c.loop-name.invariant.stack c.requires

pub returns-in_err-assign_named-clause-answer : goal.returns-in_err-assign_named-clause-answer
returns-in_err-assign_named-clause-answer g c here w told =
    let at = group_at c.args.self.now.values.store.stack c.args.group.now in
    let inside : c.loop-name.name < length at.0 = search rules in
    let first : c.first_value-first.result ≡ min (c.args.turn * length at.0) c.args.group.now.value_count = c.first_value-first.ensures ∙ ap (λ n. min (c.args.turn * n) c.args.group.now.value_count) c.requires.name_count in
    c.loop-name.invariant.goes here w told _ _
    (λ v e. runs_as (assign_step at.0 (drop (c.args.turn * length at.0) at.1) c.loop-name.name (c.loop-name.name + 1) _ _ (state_of c.loop-name.self v) inside refl
    (ap (λ s. get_or (listed (get_or s c.args.group.now.names [])) c.loop-name.name []) c.loop-name.invariant.stack)
    (ap (λ s. get_or (listed (get_or s c.args.group.now.values [])) c.value_behind-value.result []) c.loop-name.invariant.stack
    ∙ turn_value at.1 (c.args.turn * length at.0) c.args.group.now.value_count c.first_value-first.result c.loop-name.name c.value_behind-value.result first c.requires.value_count c.value_behind-value.ensures))
    (then_stop _ (search rules) (c.in_err-assign_named.ensures.answer here v e)))

pub returns-in_err-assign_named-clause-stack : goal.returns-in_err-assign_named-clause-stack
returns-in_err-assign_named-clause-stack g c =
    let P : List (List ℕ) → Type 0 = λ s. KeepsStack {T = Unit {0}} s c.from_residual.result c.assign_named.new.self.values.store.stack in
    subst P c.loop-name.invariant.stack (search rules)

pub returns-in_err-assign_named-clause-units : goal.returns-in_err-assign_named-clause-units
returns-in_err-assign_named-clause-units g c = omega (arith, c.in_err-assign_named.ensures.units, c.loop-name.invariant.units_left)

pub loop-name-preserved : goal.loop-name-preserved
loop-name-preserved g c =
    let at = group_at c.args.self.now.values.store.stack c.args.group.now in
    let inside : c.loop-name.name < length at.0 = search rules in
    let first : c.first_value-first.result ≡ min (c.args.turn * length at.0) c.args.group.now.value_count = c.first_value-first.ensures ∙ ap (λ n. min (c.args.turn * n) c.args.group.now.value_count) c.requires.name_count in
    record {
      stack = c.in_ok-assign_named.ensures.stack ∙ c.loop-name.invariant.stack;
      own = c.in_ok-assign_named.ensures.own ∙ c.loop-name.invariant.own;
      units_left = omega (arith, c.in_ok-assign_named.ensures.units, c.loop-name.invariant.units_left);
      goes = λ here w told r after k. c.loop-name.invariant.goes here w told r after
          (λ v e. runs_as (assign_step at.0 (drop (c.args.turn * length at.0) at.1) c.loop-name.name (c.loop-name.name + 1) _ _ (state_of c.loop-name.self v) inside refl
          (ap (λ s. get_or (listed (get_or s c.args.group.now.names [])) c.loop-name.name []) c.loop-name.invariant.stack)
          (ap (λ s. get_or (listed (get_or s c.args.group.now.values [])) c.value_behind-value.result []) c.loop-name.invariant.stack
          ∙ turn_value at.1 (c.args.turn * length at.0) c.args.group.now.value_count c.first_value-first.result c.loop-name.name c.value_behind-value.result first c.requires.value_count c.value_behind-value.ensures))
          (bind_ok _ (c.in_ok-assign_named.ensures.answer here v e) (λ a v2 e2 shown. k v2 e2)));
    }

pub returns-clause-answer : goal.returns-clause-answer
returns-clause-answer g c here w told =
    let at = group_at c.args.self.now.values.store.stack c.args.group.now in
    let values = drop (c.args.turn * length at.0) at.1 in
    let ended : length at.0 ≤ c.loop-name.name = search rules in
    c.loop-name.invariant.goes here w told _ _
    (λ v e. runs_as (assign_none (drop c.loop-name.name at.0) (drop c.loop-name.name values) (state_of c.loop-name.self v) (drop_all c.loop-name.name at.0 ended))
    (done_runs e refl tt))
