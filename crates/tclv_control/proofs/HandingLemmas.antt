-- An outcome that is handed on, by the code's answer.
use Rattle.std.proofs.Common.{◌≡◌, ℕ, ◌<◌, ◌-◌, List, length, length-take, take, arith, refl, ap, subst, sym, Some, Result}
use Rattle.tclv_io.specs.World.{World}
use Rattle.tclv_model.specs.declared.outcomes.Code.TheVariants as code
use Rattle.tclv_value.specs.Stacks.{under}
use Rattle.tclv_engine.specs.declared.endings.End.{End}
use Rattle.tclv_engine.specs.declared.endings.Ended.{Ended}
use Rattle.tclv_engine.specs.declared.endings.Ended.TheVariants as ended
use Rattle.tclv_engine.specs.declared.endings.Leaving.TheVariants.{Error, Other}
use Rattle.tclv_engine.specs.declared.machine.Machine.{Machine}
use Rattle.tclv_engine.specs.declared.plans.Plan.{Plan}
use Rattle.tclv_engine.specs.State.{Text, state_of}
use Rattle.tclv_engine.specs.Results.{Res}
use Rattle.tclv_engine.specs.Answers.{Outer, Runs, Caused, Leaves, Above, start, last_of}
use Rattle.tclv_engine.specs.Plans.{Conclusion, Wanted, PlanOver, as_plan, concluded}
use Rattle.tclv_engine.proofs.Leaves.{done_runs, left_runs}
use Rattle.tclv_engine.proofs.Binds.{answers_as}
use Rattle.tclv_control.specs.HandingOn.{hand_on}
use Rattle.tclv_control.specs.HandingSteps.{handed_on}

handed-runs : {W : Type 0} (K : Type 0) (e : Ended) (m : Machine W) (w : World) (here : Outer) → here.told ≡ Some w →
    Runs {A = Wanted K} {T = Plan K} (hand_on (concluded e (last_of m.values.store.stack)).code (concluded e (last_of m.values.store.stack)).text (concluded e (last_of m.values.store.stack)).options (state_of m w)) as_plan (start m w here.torn) (handed_on e) m here
handed-runs K (ended.Ok kept) m w here told = done_runs told refl refl
handed-runs K (ended.Left (Error c)) m w here told = left_runs {l = Error c} told refl
handed-runs K (ended.Left (Other code.Ok kept)) m w here told = done_runs told refl refl
handed-runs K (ended.Left (Other code.Error kept)) m w here told = left_runs {l = Other code.Error kept} told refl
handed-runs K (ended.Left (Other code.Return kept)) m w here told = left_runs {l = Other code.Return kept} told refl
handed-runs K (ended.Left (Other code.Break kept)) m w here told = left_runs {l = Other code.Break kept} told refl
handed-runs K (ended.Left (Other code.Continue kept)) m w here told = left_runs {l = Other code.Continue kept} told refl
handed-runs K (ended.Left (Other (code.Other n) kept)) m w here told = left_runs {l = Other (code.Other n) kept} told refl

pub handed_runs : {W : Type 0} (K : Type 0) (e : Ended) (r : Result (Plan K) End) (m : Machine W) (w : World) (here : Outer) → here.told ≡ Some w → r ≡ handed_on e →
    Runs {A = Wanted K} {T = Plan K} (hand_on (concluded e (last_of m.values.store.stack)).code (concluded e (last_of m.values.store.stack)).text (concluded e (last_of m.values.store.stack)).options (state_of m w)) as_plan (start m w here.torn) r m here
handed_runs K e r m w here told is = answers_as is (handed-runs K e m w here told)

one_above : (stack : List Text) → 0 < length stack → Above (under 1 stack) stack
one_above stack h =
    let len : length (under 1 stack) ≡ length stack - 1 = omega (arith, length-take (length stack - 1) stack) in
    record { kept = ap (λ n. take n stack) len; some = omega (arith, len, h) }

handed-leaves : (K : Type 0) (e : Ended) (stack : List Text) → 0 < length stack → Leaves {T = Plan K} (PlanOver (under 1 stack)) (under 1 stack) (handed_on e) stack
handed-leaves K (ended.Ok kept) stack h = one_above stack h
handed-leaves K (ended.Left (Error c)) stack h = one_above stack h
handed-leaves K (ended.Left (Other code.Ok kept)) stack h = one_above stack h
handed-leaves K (ended.Left (Other code.Error kept)) stack h = one_above stack h
handed-leaves K (ended.Left (Other code.Return kept)) stack h = one_above stack h
handed-leaves K (ended.Left (Other code.Break kept)) stack h = one_above stack h
handed-leaves K (ended.Left (Other code.Continue kept)) stack h = one_above stack h
handed-leaves K (ended.Left (Other (code.Other n) kept)) stack h = one_above stack h

handed-caused : (K : Type 0) (e : Ended) (n : ℕ) → Caused {T = Plan K} n n (handed_on e)
handed-caused K (ended.Ok kept) n = refl
handed-caused K (ended.Left (Error c)) n = refl
handed-caused K (ended.Left (Other code.Ok kept)) n = refl
handed-caused K (ended.Left (Other code.Error kept)) n = refl
handed-caused K (ended.Left (Other code.Return kept)) n = refl
handed-caused K (ended.Left (Other code.Break kept)) n = refl
handed-caused K (ended.Left (Other code.Continue kept)) n = refl
handed-caused K (ended.Left (Other (code.Other m) kept)) n = refl

pub handed_leaves : {K : Type 0} (e : Ended) (r : Result (Plan K) End) (stack : List Text) → r ≡ handed_on e → 0 < length stack → Leaves (PlanOver (under 1 stack)) (under 1 stack) r stack
handed_leaves {K} e r stack is h =
    let P : Result (Plan K) End → Type 0 = λ x. Leaves (PlanOver (under 1 stack)) (under 1 stack) x stack in
    subst P (sym is) (handed-leaves K e stack h)

pub handed_caused : {K : Type 0} (e : Ended) (r : Result (Plan K) End) (n : ℕ) → r ≡ handed_on e → Caused n n r
handed_caused {K} e r n is =
    let P : Result (Plan K) End → Type 0 = λ x. Caused n n x in
    subst P (sym is) (handed-caused K e n)
