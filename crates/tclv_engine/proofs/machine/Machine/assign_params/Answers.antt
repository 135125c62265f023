use Rattle.std.proofs.Common.{◌≡◌, ◌<◌, ◌≤◌, ◌+◌, ◌-◌, rules, arith, ap, sym, ◌∙◌, [], length, drop, get_or, refl}
use Rattle.std.proofs.lemmas.List.{drop_all, get_or-drop, length-map}
use Rattle.tclv_value.specs.declared.procedures.Param.{Param}
use Rattle.tclv_engine.specs.State.{state_of}
use Rattle.tclv_engine.specs.Frames.{names_of}
use Rattle.tclv_engine.proofs.Binds.{runs_as, bind_ok, then_stop}
use Rattle.tclv_engine.proofs.Leaves.{done_runs}
use Rattle.tclv_engine.proofs.ListLemmas.{assigns_begin, assign_step, assign_none}
use Rattle.tclv_engine.proofs.FrameLemmas.{names_length}
use Rattle.tclv_engine.proofs.machine.Machine.assign_params.Goals as goal

pub loop-i-init : goal.loop-i-init
loop-i-init g c = assigns_begin (names_of c.args.params.now) (drop (c.args.end - length c.args.params.now) c.args.self.now.values.store.stack) c.args.self.now 0 refl

pub assign_param-requires-clause-place : goal.assign_param-requires-clause-place
assign_param-requires-clause-place g c =
    let l : c.loop-i.i < length c.args.params.now = search rules in
    omega (arith, l, c.requires.some, c.requires.places, ap length c.loop-i.invariant.stack)

pub returns-in_err-assign_param-clause-answer : goal.returns-in_err-assign_param-clause-answer
returns-in_err-assign_param-clause-answer g c here w told =
    let stack = c.args.self.now.values.store.stack in
    let names = names_of c.args.params.now in
    let l : c.loop-i.i < length c.args.params.now = search rules in
    c.loop-i.invariant.goes here w told _ _
    (λ v e. runs_as (assign_step names (drop (c.args.end - length c.args.params.now) stack) c.loop-i.i (c.loop-i.i + 1) _ _ (state_of c.loop-i.self v) (omega (arith, l, names_length c.args.params.now)) refl
    refl (ap (λ s. get_or s ((c.args.end - length c.args.params.now) + c.loop-i.i) []) c.loop-i.invariant.stack ∙ sym (get_or-drop (c.args.end - length c.args.params.now) stack c.loop-i.i [])))
    (then_stop _ (search rules) (c.in_err-assign_param.ensures.answer here v e)))

pub loop-i-preserved : goal.loop-i-preserved
loop-i-preserved g c =
    let stack = c.args.self.now.values.store.stack in
    let names = names_of c.args.params.now in
    let l : c.loop-i.i < length c.args.params.now = search rules in
    record {
      stack = c.in_ok-assign_param.ensures.stack ∙ c.loop-i.invariant.stack;
      own = c.in_ok-assign_param.ensures.own ∙ c.loop-i.invariant.own;
      units_left = omega (arith, c.in_ok-assign_param.ensures.units, c.loop-i.invariant.units_left);
      goes = λ here w told r after k. c.loop-i.invariant.goes here w told r after
          (λ v e. runs_as (assign_step names (drop (c.args.end - length c.args.params.now) stack) c.loop-i.i (c.loop-i.i + 1) _ _ (state_of c.loop-i.self v) (omega (arith, l, names_length c.args.params.now)) refl
          refl (ap (λ s. get_or s ((c.args.end - length c.args.params.now) + c.loop-i.i) []) c.loop-i.invariant.stack ∙ sym (get_or-drop (c.args.end - length c.args.params.now) stack c.loop-i.i [])))
          (bind_ok _ (c.in_ok-assign_param.ensures.answer here v e) (λ a v2 e2 shown. k v2 e2)));
    }

pub returns-clause-answer : goal.returns-clause-answer
returns-clause-answer g c here w told =
    let names = names_of c.args.params.now in
    let ended : length c.args.params.now ≤ c.loop-i.i = search rules in
    c.loop-i.invariant.goes here w told _ _
    (λ v e. runs_as (assign_none (drop c.loop-i.i names) (drop c.loop-i.i (drop (c.args.end - length c.args.params.now) c.args.self.now.values.store.stack)) (state_of c.loop-i.self v)
    (drop_all c.loop-i.i names (omega (arith, ended, names_length c.args.params.now))))
    (done_runs e refl tt))
