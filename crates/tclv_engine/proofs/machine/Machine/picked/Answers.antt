use Rattle.std.proofs.Common.{rules, refl, ap, ◌∙◌, ◌≡◌, ◌<◌, ◌+◌, [], get_or, length, drop, arith, to_z, of_z, w64, FitsSigned}
use Rattle.std.proofs.lemmas.Int.{ints, to_z-of_z}
use Rattle.std.specs.Str.{chars}
use Rattle.tclv_engine.specs.State.{state_of}
use Rattle.tclv_engine.specs.Operations.{operand}
use Rattle.tclv_engine.specs.Functions.{picked, picked_of}
use Rattle.tclv_engine.specs.Answers.{on_top}
use Rattle.tclv_engine.proofs.Binds.{runs_as, bind_ok, then_stop}
use Rattle.tclv_engine.proofs.Walks.{begins}
use Rattle.tclv_engine.proofs.FunctionLemmas.{picked-step, picked-end}
use Rattle.tclv_engine.proofs.machine.Machine.picked.Goals as goal

pub loop-i-init : goal.loop-i-init
loop-i-init g c =
    record { units = omega arith; stack = refl; own = refl; walk = λ here. begins on_top c.args.self.now c.args.self.now here 0 _ _ _ _ refl tt refl refl (λ w. refl) }

pub returns-in_err-next-clause-answer : goal.returns-in_err-next-clause-answer
returns-in_err-next-clause-answer g c here w told =
    let stack = c.args.self.now.values.store.stack in
    let here-i : c.loop-i.i < length stack = search rules in
    runs_as (ap (λ z. picked c.args.pick (chars c.args.name.now) z (drop c.args.from stack) (state_of c.args.self.now w)) (to_z-of_z w64 c.args.first c.ranges.first))
    ((c.loop-i.invariant.walk here).goes w told _ _ _
    (λ v e. runs_as (picked-step c.args.pick (chars c.args.name.now) _ stack c.loop-i.i (state_of c.loop-i.self v) here-i)
    (then_stop _ (search rules) (runs_as (ap (λ s. operand (chars c.args.name.now) (get_or s c.loop-i.i []) (state_of c.loop-i.self v)) c.loop-i.invariant.stack) (c.in_err-next.ensures.answer here v e)))))

pub loop-i-preserved : goal.loop-i-preserved
loop-i-preserved g c =
    let stack = c.args.self.now.values.store.stack in
    let here-i : c.loop-i.i < length stack = search rules in
    let kept = c.in_ok-next.ensures.stack ∙ c.loop-i.invariant.stack in
    let fits-n : FitsSigned w64 c.in_ok-next.next = search rules in
    let same-n : to_z w64 (of_z w64 c.in_ok-next.next) ≡ c.in_ok-next.next = omega (arith, ints) in
    let fits-r : FitsSigned w64 c.picked_of-found.result = search rules in
    let same-r : to_z w64 (of_z w64 c.picked_of-found.result) ≡ c.picked_of-found.result = omega (arith, ints) in
    record {
      units = omega (arith, c.loop-i.invariant.units, c.in_ok-next.ensures.units);
      stack = kept;
      own = c.in_ok-next.ensures.own ∙ c.loop-i.invariant.own;
      walk = λ here. record {
        quiet = refl;
        units_left = omega (arith, c.loop-i.invariant.units, c.in_ok-next.ensures.units);
        shape = kept;
        fits = tt;
        goes = λ w told r after end k.
            (c.loop-i.invariant.walk here).goes w told _ _ _
            (λ v e. runs_as (picked-step c.args.pick (chars c.args.name.now) _ stack c.loop-i.i (state_of c.loop-i.self v) here-i)
            (bind_ok _ (runs_as (ap (λ s. operand (chars c.args.name.now) (get_or s c.loop-i.i []) (state_of c.loop-i.self v)) c.loop-i.invariant.stack) (c.in_ok-next.ensures.answer here v e))
            (λ n v2 e2 shown. runs_as (ap (λ z. picked c.args.pick (chars c.args.name.now) z (drop (c.loop-i.i + 1) stack) (state_of c.operand.new.self v2)) (same-r ∙ c.picked_of-found.ensures ∙ ap (picked_of c.args.pick _) (same-n ∙ shown))) (k v2 e2))));
      };
    }

pub returns-clause-answer : goal.returns-clause-answer
returns-clause-answer g c here w told =
    let stack = c.args.self.now.values.store.stack in
    runs_as (ap (λ z. picked c.args.pick (chars c.args.name.now) z (drop c.args.from stack) (state_of c.args.self.now w)) (to_z-of_z w64 c.args.first c.ranges.first))
    ((c.loop-i.invariant.walk here).goes w told _ _ _
    (λ v e. runs_as (picked-end c.args.pick (chars c.args.name.now) _ stack c.loop-i.i (state_of c.loop-i.self v) (search rules))
    (c.number.ensures.answer here v e)))
