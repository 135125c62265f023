-- What a command wants done, and how a script ended, by what the code hands on.
use Rattle.std.proofs.Common.{◌≡◌, ℕ, zero, suc, ◌<◌, ◌≤◌, ◌+◌, ◌-◌, List, [], ◌∷◌, length, map, take, drop, get_or, if◌then◌else◌, ap, ◌∙◌, sym, refl, subst, arith, length-take, take-take, Result, Ok, Err}
use Rattle.std.proofs.lemmas.List.{drop_more, at_drop_all, drop-map, length-map}
use Rattle.tclv_io.specs.World.{World}
use Rattle.tclv_model.specs.declared.outcomes.Code.TheVariants as code
use Rattle.tclv_value.specs.Stacks.{top, under}
use Rattle.tclv_engine.specs.declared.endings.Carried.{Carried}
use Rattle.tclv_engine.specs.declared.endings.Ended.{Ended}
use Rattle.tclv_engine.specs.declared.endings.End.{End}
use Rattle.tclv_engine.specs.declared.endings.End.TheVariants as end
use Rattle.tclv_engine.specs.declared.machine.Machine.{Machine}
use Rattle.tclv_engine.specs.declared.plans.Plan.{Plan}
use Rattle.tclv_engine.specs.declared.plans.Plan.TheVariants as plan
use Rattle.tclv_engine.specs.declared.plans.Branch.{Branch}
use Rattle.tclv_engine.specs.State.{Text, State, state_of}
use Rattle.tclv_engine.specs.Results.{Ending, Budget, Res, Outcome, ends, ok, bind, carried}
use Rattle.tclv_engine.specs.Answers.{Outer, Start, start, Ends, Cut, Says, Runs, Caused, Leaves, Above, Keeps, PushesOne, PushesResult, as_outcome, last_of, code_of, options_of}
use Rattle.tclv_engine.specs.Words.{Evaluator}
use Rattle.tclv_engine.specs.Expressions.{condition}
use Rattle.tclv_engine.specs.Plans.{Lead, Alternative, Inner, Conclusion, concluded, ended_of, alternative_of, alternatives_of, lead_of, PlanOver}
use Rattle.tclv_engine.specs.Evaluation.{Given, steady, conclusion, concluding, inner, lead, choose, around, perform, call}
use Rattle.tclv_engine.proofs.Binds.{answers_as}
use Rattle.tclv_engine.proofs.Walks.{drops_one}

-- ---- the words of a command

pub call-empty : {W K : Type 0} → (given : Given W K) (ev : Evaluator W) (n : ℕ) (stack : List Text) (st : State W) → n ≡ 0 → ok [] st ≡ call given ev (top n stack) st
unfolding call
call-empty given ev n stack st h = ap (λ ws. call given ev ws st) (sym (at_drop_all (λ ws. ws) stack (length stack - n) (omega (arith, h))))

pub call-some : {W K : Type 0} → (given : Given W K) (ev : Evaluator W) (n : ℕ) (stack : List Text) (st : State W) → 0 < n → n ≤ length stack →
    bind (steady (given.plan (top n stack)) st) (λ p s1. perform 3 given ev p s1) ≡ call given ev (top n stack) st
unfolding call
call-some given ev n stack st h k =
    let words = drop_more stack (length stack - n) [] (omega (arith, h, k)) in
    ap (λ ws. bind (steady (given.plan ws) st) (λ p s1. perform 3 given ev p s1)) words ∙ sym (ap (λ ws. call given ev ws st) words)

-- ---- a script, and what stands behind it

pub around-step : {W K : Type 0} → (left : ℕ) (given : Given W K) (ev : Evaluator W) (i : Inner) (behind : K) (st : State W) → 0 < left →
    bind (concluding (inner ev i st)) (λ e s1. bind (steady (given.finish behind e) s1) (λ p s2. perform (left - 1) given ev p s2)) ≡ around left given ev i behind st
around-step zero given ev i behind st h = absurd (omega (arith, h))
around-step (suc left) given ev i behind st h =
    let one : suc left - 1 ≡ left = omega arith in
    ap (λ n. bind (concluding (inner ev i st)) (λ e s1. bind (steady (given.finish behind e) s1) (λ p s2. perform n given ev p s2))) one

pub around-end : {W K : Type 0} → (left : ℕ) (given : Given W K) (ev : Evaluator W) (i : Inner) (behind : K) (st : State W) → left ≡ 0 → ends Budget st ≡ around left given ev i behind st
around-end left given ev i behind st h = sym (ap (λ n. around n given ev i behind st) h)

-- ---- how a script ended

-- the conclusion is that of the code's value
abbrev pub as_conclusion : Conclusion → Ended → List Text → Type 0
as_conclusion c e stack = concluded e (last_of stack) ≡ c

concluding-ends : {W : Type 0} → (m : Res W Outcome) (s : Start) (e : Ending Outcome) (f : Ending Conclusion) (after : Machine W) (w : World) (torn : ℕ) → conclusion e ≡ f →
    Ends m s e after w torn → Ends (concluding m) s f after w torn
concluding-ends m s e f after w torn is h = record { ending = ap conclusion h.ending ∙ is; state = h.state; out = h.out; whole = h.whole; counted = h.counted }

concluding-cut : {W : Type 0} → (m : Res W Outcome) (s : Start) (part : ℕ) (after : Machine W) (w : World) (torn : ℕ) → Cut m s part after w torn → Cut (concluding m) s part after w torn
concluding-cut m s part after w torn h = record { first = h.first; rest = h.rest; split = h.split; out = h.out; within = h.within; part_is = h.part_is; counted = h.counted }

concluding-says : {W : Type 0} → (m : Res W Outcome) (s : Start) (r : Result Carried End) (after : Machine W) (w : World) (torn : ℕ) → Says m as_outcome s r after w torn →
    Says (concluding m) as_conclusion s (ended_of r) after w torn
concluding-says m s (Ok kept) after w torn h =
    let o = h.value in
    record {
      value = record { code = code.Ok; text = o.text; options = o.options };
      ends = concluding-ends m s _ _ after w torn refl h.ends;
      shown = ap (λ t. record { code = code.Ok; text = t; options = carried code.Ok kept }) h.shown.0 ∙ ap (λ os. record { code = code.Ok; text = o.text; options = os }) (sym h.shown.1);
    }
concluding-says m s (Err (end.Left l)) after w torn h =
    record { value = record { code = code_of l; text = last_of after.values.store.stack; options = options_of l }; ends = concluding-ends m s _ _ after w torn refl h; shown = refl }
concluding-says m s (Err end.Budget) after w torn h = concluding-ends m s _ _ after w torn refl h
concluding-says m s (Err (end.Exit n)) after w torn h = concluding-ends m s _ _ after w torn refl h
concluding-says m s (Err end.Device) after w torn h = (h.0, concluding-cut m s h.0 after w torn h.1)
concluding-says m s (Err end.Memory) after w torn h = concluding-cut m s 0 after w torn h

pub concluding_runs : {W : Type 0} → {m : Res W Outcome} {s : Start} {r : Result Carried End} {e : Result Ended End} {after : Machine W} {now : Outer} → e ≡ ended_of r →
    Runs m as_outcome s r after now → Runs (concluding m) as_conclusion s e after now
concluding_runs {m = m} {s = s} {r = r} {after = after} {now = now} is h =
    answers_as is (record { world = h.world; told = h.told; says = concluding-says m s r after h.world now.torn h.says })

caused-ended : (before now : ℕ) (r : Result Carried End) → Caused before now r → Caused before now (ended_of r)
caused-ended before now (Ok kept) h = h
caused-ended before now (Err (end.Left l)) h = h
caused-ended before now (Err end.Budget) h = h
caused-ended before now (Err (end.Exit n)) h = h
caused-ended before now (Err end.Device) h = h
caused-ended before now (Err end.Memory) h = h

pub ended_caused : (before now : ℕ) (r : Result Carried End) (e : Result Ended End) → e ≡ ended_of r → Caused before now r → Caused before now e
ended_caused before now r e is h = subst (λ x. Caused before now x) (sym is) (caused-ended before now r h)

-- a refusal is no value
abbrev IsRefusal : {T E : Type 0} → Result T E → Type 0
IsRefusal (Ok t) = ⊥
IsRefusal (Err e) = Unit {0}

not-ok : {T E : Type 0} {t : T} {e : E} → Err e ≡ Ok t → ⊥
not-ok h = subst (λ r. IsRefusal r) h tt

-- where the end of a script is a value, its result is on top of the stack
ended-above : (base stack : List Text) (r : Result Carried End) (e : Ended) → ended_of r ≡ Ok e → PushesOne base r stack → Above base stack
ended-above base stack (Ok kept) e h p = record { kept = p.kept; some = omega (arith, p.count_is) }
ended-above base stack (Err (end.Left l)) e h p = p
ended-above base stack (Err end.Budget) e h p = absurd (not-ok h)
ended-above base stack (Err (end.Exit n)) e h p = absurd (not-ok h)
ended-above base stack (Err end.Device) e h p = absurd (not-ok h)
ended-above base stack (Err end.Memory) e h p = absurd (not-ok h)

pub ended_above : (base stack : List Text) (r : Result Carried End) (x : Result Ended End) (e : Ended) → x ≡ ended_of r → x ≡ Ok e → PushesOne base r stack → Above base stack
ended_above base stack r x e is h p = ended-above base stack r e (sym is ∙ h) p

-- ---- a step that takes no unit

abbrev pub with_units : {W : Type 0} → ℕ → State W → State W
with_units n st = record st { units = n }

steady-ends : {W A : Type 0} → (m : Res W A) (n : ℕ) (s : Start) (e : Ending A) (after : Machine W) (w : World) (torn : ℕ) → after.units ≡ n → Ends m s e after w torn →
    Ends (record m { after = with_units n m.after }) s e after w torn
steady-ends m n s e after w torn u h =
    record { ending = h.ending; state = ap (with_units n) h.state ∙ ap (λ k. with_units k (state_of after w)) (sym u); out = h.out; whole = h.whole; counted = h.counted }

steady-cut : {W A : Type 0} → (m : Res W A) (n : ℕ) (s : Start) (part : ℕ) (after : Machine W) (w : World) (torn : ℕ) → Cut m s part after w torn →
    Cut (record m { after = with_units n m.after }) s part after w torn
steady-cut m n s part after w torn h = record { first = h.first; rest = h.rest; split = h.split; out = h.out; within = h.within; part_is = h.part_is; counted = h.counted }

steady-says : {W A T : Type 0} → (m : Res W A) (n : ℕ) (shows : A → T → List Text → Type 0) (s : Start) (r : Result T End) (after : Machine W) (w : World) (torn : ℕ) → after.units ≡ n →
    Says m shows s r after w torn → Says (record m { after = with_units n m.after }) shows s r after w torn
steady-says m n shows s (Ok t) after w torn u h = record { value = h.value; ends = steady-ends m n s _ after w torn u h.ends; shown = h.shown }
steady-says m n shows s (Err (end.Left l)) after w torn u h = steady-ends m n s _ after w torn u h
steady-says m n shows s (Err end.Budget) after w torn u h = steady-ends m n s _ after w torn u h
steady-says m n shows s (Err (end.Exit k)) after w torn u h = steady-ends m n s _ after w torn u h
steady-says m n shows s (Err end.Device) after w torn u h = (h.0, steady-cut m n s h.0 after w torn h.1)
steady-says m n shows s (Err end.Memory) after w torn u h = steady-cut m n s 0 after w torn h

-- a call that takes no unit answers as the steady step says
pub steady_runs : {W A T : Type 0} → (step : State W → Res W A) {st : State W} {shows : A → T → List Text → Type 0} {s : Start} {r : Result T End} {after : Machine W} {now : Outer} →
    after.units ≡ st.units → Runs (step st) shows s r after now → Runs (steady step st) shows s r after now
steady_runs step {st = st} {shows = shows} {s = s} {r = r} {after = after} {now = now} u h =
    record { world = h.world; told = h.told; says = steady-says (step st) st.units shows s r after h.world now.torn u h.says }

-- ---- tests one after another

dropped : {X Y : Type 0} (f : X → Y) (xs : List X) (i : ℕ) (x : X) → i < length xs → get_or xs i x ≡ x → f x ∷ drop (i + 1) (map f xs) ≡ drop i (map f xs)
dropped f xs i x h e = ap (λ ys. f x ∷ ys) (drop-map f (i + 1) xs) ∙ ap (map f) (drops_one xs i x h e) ∙ sym (drop-map f i xs)

pub choose-step : {W : Type 0} → (ev : Evaluator W) (stack : List Text) (bs : List Branch) (last : Lead) (i : ℕ) (x : Branch) (st : State W) → i < length bs → get_or bs i x ≡ x →
    bind (condition ev (get_or stack x.test []) st) (λ t s1. if t then lead ev (lead_of stack x.way) s1 else choose ev (drop (i + 1) (alternatives_of stack bs)) last s1)
    ≡ choose ev (drop i (alternatives_of stack bs)) last st
unfolding choose
choose-step ev stack bs last i x st h e = ap (λ list. choose ev list last st) (dropped (alternative_of stack) bs i x h e)

pub choose-end : {W : Type 0} → (ev : Evaluator W) (stack : List Text) (bs : List Branch) (last : Lead) (i : ℕ) (st : State W) → length bs ≤ i →
    lead ev last st ≡ choose ev (drop i (alternatives_of stack bs)) last st
unfolding choose
choose-end ev stack bs last i st h = sym (at_drop_all (λ list. choose ev list last st) (alternatives_of stack bs) i (omega (arith, length-map {B = Alternative} bs (alternative_of stack))))

-- ---- the stack under a plan

above_keeps : (base stack : List Text) → Above base stack → Keeps base stack
above_keeps base stack h = record { kept = h.kept; some = omega (arith, h.some) }

pub plan_keeps : {K : Type 0} → (base stack : List Text) (p : Plan K) → PlanOver base p stack → Keeps base stack
plan_keeps base stack (plan.Finished kept) h = above_keeps base stack h
plan_keeps base stack (plan.Run at behind) h = h.0
plan_keeps base stack (plan.Called def behind) h = h.0
plan_keeps base stack (plan.AtLevel level at behind) h = h.0
plan_keeps base stack (plan.Value at) h = h.0
plan_keeps base stack (plan.Choice branches) h = h.0
plan_keeps base stack (plan.Tested test body) h = h.0
plan_keeps base stack (plan.Started start test next body) h = h.0
plan_keeps base stack (plan.Each groups body keep) h = h.0

lower : (base stack : List Text) (n : ℕ) → Keeps base stack → n ≤ length base → Keeps (take n stack) stack
lower base stack n h l =
    let len : length (take n stack) ≡ n = omega (arith, length-take n stack, h.some, l) in
    record { kept = ap (λ k. take k stack) len; some = omega (arith, len, h.some, l) }

-- a plan over some texts is one over the lowest of them
pub plan_lower : {K : Type 0} → (base stack : List Text) (n : ℕ) (p : Plan K) → n ≤ length base → PlanOver base p stack → PlanOver (take n stack) p stack
plan_lower base stack n (plan.Finished kept) l h =
    let len : length (take n stack) ≡ n = omega (arith, length-take n stack, h.some, l) in
    record { kept = ap (λ k. take k stack) len; some = omega (arith, len, h.some, l) }
plan_lower base stack n (plan.Run at behind) l h = (lower base stack n h.0 l, h.1)
plan_lower base stack n (plan.Called def behind) l h = (lower base stack n h.0 l, h.1)
plan_lower base stack n (plan.AtLevel level at behind) l h = (lower base stack n h.0 l, h.1)
plan_lower base stack n (plan.Value at) l h = (lower base stack n h.0 l, h.1)
plan_lower base stack n (plan.Choice branches) l h = (lower base stack n h.0 l, h.1)
plan_lower base stack n (plan.Tested test body) l h = (lower base stack n h.0 l, h.1)
plan_lower base stack n (plan.Started start test next body) l h = (lower base stack n h.0 l, h.1)
plan_lower base stack n (plan.Each groups body keep) l h = (lower base stack n h.0 l, h.1)

-- what a stack keeps, it keeps of the lowest texts too
kept_lower : (base stack : List Text) (n : ℕ) → Keeps base stack → n ≤ length base → take n stack ≡ take n base
kept_lower base stack n h l = sym (take-take n (length base) stack l) ∙ ap (take n) h.kept

-- a script left its result over a stack, and a plan stands over all but that
pub lowest_kept : (first mid last : List Text) (n : ℕ) → n ≤ length first → Above first mid → Keeps (under 1 mid) last → take n last ≡ take n first
lowest_kept first mid last n l h k =
    let len : length (under 1 mid) ≡ length mid - 1 = omega (arith, length-take (length mid - 1) mid) in
    kept_lower (under 1 mid) last n k (omega (arith, len, h.some, l))
    ∙ take-take n (length mid - 1) mid (omega (arith, h.some, l))
    ∙ kept_lower first mid n (above_keeps first mid h) l

pub under_length : (first mid : List Text) (n : ℕ) → n ≤ length first → Above first mid → n ≤ length (under 1 mid)
under_length first mid n l h = omega (arith, length-take (length mid - 1) mid, h.some, l)

-- what stands above a stack with a result stands above the lowest texts
above-lowest : (first mid last : List Text) (n : ℕ) → n ≤ length first → Above first mid → Above (under 1 mid) last → Above (take n first) last
above-lowest first mid last n l h k =
    let same = lowest_kept first mid last n l h (above_keeps (under 1 mid) last k) in
    let len : length (take n first) ≡ n = omega (arith, length-take n first, l) in
    let under_len : length (under 1 mid) ≡ length mid - 1 = omega (arith, length-take (length mid - 1) mid) in
    record { kept = ap (λ m. take m last) len ∙ same; some = omega (arith, len, under_len, h.some, k.some, l) }

stopped-by : {S : Type 0} → (T : Type 0) (P : S → List Text → Type 0) (first mid last : List Text) (n : ℕ) (e : End) → n ≤ length first → Above first mid → Leaves P (under 1 mid) (Err e) last →
    PushesResult {T = T} (take n first) (Err e) last
stopped-by T P first mid last n (end.Left leaving) l h k = above-lowest first mid last n l h k
stopped-by T P first mid last n end.Budget l h k = tt
stopped-by T P first mid last n (end.Exit status) l h k = tt
stopped-by T P first mid last n end.Device l h k = tt
stopped-by T P first mid last n end.Memory l h k = tt

pub stopped_lowest : {S T : Type 0} → (P : S → List Text → Type 0) (first mid last : List Text) (n : ℕ) (e : End) (r : Result T End) → r ≡ Err e → n ≤ length first → Above first mid →
    Leaves P (under 1 mid) (Err e) last → PushesResult (take n first) r last
stopped_lowest {T = T} P first mid last n e r is l h k =
    let Q : Result T End → Type 0 = λ x. PushesResult (take n first) x last in subst Q (sym is) (stopped-by T P first mid last n e l h k)
