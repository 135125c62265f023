-- What a plan leaves of the stack.
use Rattle.std.proofs.Common.{◌≡◌, ℕ, ◌-◌, ◌≤◌, List, length, take, arith, length-take, ap, ◌∙◌, sym, subst, take-take, Result, Ok, Err}
use Rattle.tclv_value.specs.Stacks.{under}
use Rattle.tclv_engine.specs.declared.endings.End.{End}
use Rattle.tclv_engine.specs.declared.endings.End.TheVariants as end
use Rattle.tclv_engine.specs.declared.plans.Plan.{Plan}
use Rattle.tclv_engine.specs.declared.plans.Plan.TheVariants as plan
use Rattle.tclv_engine.specs.State.{Text}
use Rattle.tclv_engine.specs.Plans.{PlanOver}
use Rattle.tclv_engine.specs.Answers.{Above, Keeps, Leaves, PushesWords}
use Rattle.tclv_engine.proofs.StackLemmas.{keeps_on, take-under}

-- ---- what is below fewer words, and below more

module _ (m n : ℕ) (stack now : List Text) (more : m ≤ n) where
  below : take (length (under m stack)) now ≡ under m stack → take (length (under n stack)) now ≡ under n stack
  below h =
      let a : length (under m stack) ≡ length stack - m = omega (arith, length-take (length stack - m) stack) in
      let b : length (under n stack) ≡ length stack - n = omega (arith, length-take (length stack - n) stack) in
      ap (λ i. take i now) b
      ∙ sym (take-take (length stack - n) (length stack - m) now (omega (arith, more)))
      ∙ ap (take (length stack - n)) (ap (λ i. take i now) (sym a) ∙ h)
      ∙ take-take (length stack - n) (length stack - m) stack (omega (arith, more))

  shorter : length (under n stack) ≤ length (under m stack)
  shorter = omega (arith, more, length-take (length stack - m) stack, length-take (length stack - n) stack)

  pub keeps_under : Keeps (under m stack) now → Keeps (under n stack) now
  keeps_under h = record { kept = below h.kept; some = omega (arith, shorter, h.some) }

  pub above_under : Above (under m stack) now → Above (under n stack) now
  above_under h = record { kept = below h.kept; some = omega (arith, shorter, h.some) }

-- ---- errors

error-under : {T : Type 0} (P : T → List Text → Type 0) (S : Type 0) (m n : ℕ) (stack : List Text) (e : End) (now : List Text) → m ≤ n → PushesWords {T = S} (under m stack) (Err e) now → Leaves P (under n stack) (Err e) now
error-under P S m n stack (end.Left l) now more h = above_under m n stack now more h
error-under P S m n stack end.Budget now more h = tt
error-under P S m n stack (end.Exit s) now more h = tt
error-under P S m n stack end.Device now more h = tt
error-under P S m n stack end.Memory now more h = tt

-- An error over what is below fewer words is one over what is below more.
pub error_under : {T : Type 0} (P : T → List Text → Type 0) (S : Type 0) (m n : ℕ) (stack : List Text) (e : End) (r : Result T End) (now : List Text) → m ≤ n → r ≡ Err e →
    PushesWords {T = S} (under m stack) (Err e) now → Leaves P (under n stack) r now
error_under {T} P S m n stack e r now more is h = let Q : Result T End → Type 0 = λ x. Leaves P (under n stack) x now in subst Q (sym is) (error-under P S m n stack e now more h)

-- ---- plans

above-on : (base mid now : List Text) → Keeps base mid → Above mid now → Above base now
above-on base mid now h k = record { kept = take-under base mid now h.some k.kept h.kept; some = omega (arith, h.some, k.some) }

plan-on : {K : Type 0} (base mid : List Text) (p : Plan K) (now : List Text) → Keeps base mid → PlanOver mid p now → PlanOver base p now
plan-on base mid (plan.Finished kept) now h k = above-on base mid now h k
plan-on base mid (plan.Run at behind) now h k = (keeps_on base mid now h k.0, k.1)
plan-on base mid (plan.Called def behind) now h k = (keeps_on base mid now h k.0, k.1)
plan-on base mid (plan.AtLevel level at behind) now h k = (keeps_on base mid now h k.0, k.1)
plan-on base mid (plan.Value at) now h k = (keeps_on base mid now h k.0, k.1)
plan-on base mid (plan.Choice branches) now h k = (keeps_on base mid now h k.0, k.1)
plan-on base mid (plan.Tested test body) now h k = (keeps_on base mid now h k.0, k.1)
plan-on base mid (plan.Started start test next body) now h k = (keeps_on base mid now h k.0, k.1)
plan-on base mid (plan.Each groups body keep) now h k = (keeps_on base mid now h k.0, k.1)

-- A plan over texts that stand over a base is one over the base.
pub plan_on : {K : Type 0} (base mid : List Text) (r : Result (Plan K) End) (now : List Text) → Keeps base mid → Leaves (PlanOver mid) mid r now → Leaves (PlanOver base) base r now
plan_on base mid (Ok p) now h k = plan-on base mid p now h k
plan_on base mid (Err (end.Left l)) now h k = above-on base mid now h k
plan_on base mid (Err end.Budget) now h k = tt
plan_on base mid (Err (end.Exit s)) now h k = tt
plan_on base mid (Err end.Device) now h k = tt
plan_on base mid (Err end.Memory) now h k = tt
