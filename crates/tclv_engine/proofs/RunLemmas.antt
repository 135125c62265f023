-- The loop over the instructions of an expression: one instruction, and the stack.
use Rattle.std.proofs.Common.{◌≡◌, ℕ, zero, suc, ◌+◌, ◌-◌, ◌≤◌, List, [], ◌∷◌, ◌++◌, length, take, drop, get_or, Bool, true, false, if◌then◌else◌, Option, Some, None, Result, Ok, Err, refl, sym, ap, ◌∙◌, subst, arith, take-take, length-take, length-append}
use Rattle.std.proofs.lemmas.List.{append_assoc, get_or-append_right, take_all}
use Rattle.std.proofs.Math.Seq.{take-append-add, drop-append-add, drop-append_seam}
use Rattle.tclv_exprp.specs.declared.tree.ExprTree.{ExprTree}
use Rattle.tclv_exprp.specs.declared.instructions.Operation.{Operation}
use Rattle.tclv_exprp.specs.declared.instructions.Operation.TheVariants as o
use Rattle.tclv_exprp.specs.declared.instructions.Instruction.{Instruction}
use Rattle.tclv_exprp.specs.declared.instructions.Instruction.TheVariants as act
use Rattle.tclv_parse.specs.declared.tree.Script.{Script}
use Rattle.tclv_parse.specs.Grammar.{commands}
use Rattle.std.specs.declared.rc.Rc.{Rc}
use Rattle.std.specs.Rc.{rc_value}
use Rattle.tclv_exprp.specs.declared.faults.ExprFault.{ExprFault}
use Rattle.tclv_exprp.specs.declared.faults.ExprFault.TheVariants as fault
use Rattle.tclv_exprp.specs.ExpressionGrammar as grammar
use Rattle.tclv_exprp.specs.ExpressionGrammar.{expression}
use Rattle.tclv_exprp.specs.Flat as laid_answers
use Rattle.tclv_exprp.specs.Flat.{flat, laid, instructions_of}
use Rattle.tclv_value.specs.Stacks.{top, under}
use Rattle.tclv_engine.specs.State.{Text, State}
use Rattle.tclv_engine.specs.Results.{Res, bind, done, ok}
use Rattle.tclv_engine.specs.Words.{Evaluator}
use Rattle.tclv_engine.specs.declared.endings.End.{End}
use Rattle.tclv_engine.specs.declared.endings.End.TheVariants as end
use Rattle.tclv_engine.specs.Operations.{second_of, truth_of, unary, between, words_between}
use Rattle.tclv_engine.specs.Functions.{call}
use Rattle.tclv_engine.specs.Answers.{last_of, Over, Keeps, Above, Leaves, PushesOne}
use Rattle.tclv_engine.specs.Instructions.{Next, next, takes, truth_text, operated, needs, kept, passed_where, does, run, as_next, Stands, Fits, run_result, run_test, run_turn, IsBetween}
use Rattle.tclv_engine.specs.Expressions.{settled, result, test}
use Rattle.tclv_engine.specs.Loops.{paid_body, between_turns, turns, loop}
use Rattle.tclv_engine.specs.TestedLoops.{tested_turn, stepped_turn, turned}
use Rattle.tclv_engine.specs.Plans.{placed}
use Rattle.tclv_engine.proofs.BindLaws.{bind_value, bind_then, bind_cong}
use Rattle.tclv_engine.proofs.Binds.{bind-done}
use Rattle.tclv_engine.proofs.StackLemmas.{keeps_all, keeps_on, keeps-split, drop-base}
use Rattle.tclv_engine.proofs.InstructionLemmas.{run_drop, runs_flat}
use Rattle.tclv_engine.proofs.FitLemmas.{fits_drop, fits_flat}

-- the texts over a base
abbrev pub over : List Text → List Text → List Text
over base stack = drop (length base) stack

-- ---- the top of a stack whose lower texts don't count

last-over : (base xs : List Text) → 1 ≤ length xs → last_of (base ++ xs) ≡ last_of xs
last-over base xs h =
    get_or-append_right base xs (length base) (length (base ++ xs) - 1) [] refl (omega (arith, h, length-append base xs))
    ∙ ap (λ k. get_or xs k []) (omega (arith, h, length-append base xs))

second-over : (base xs : List Text) → 2 ≤ length xs → second_of (base ++ xs) ≡ second_of xs
second-over base xs h =
    get_or-append_right base xs (length base) (length (base ++ xs) - 2) [] refl (omega (arith, h, length-append base xs))
    ∙ ap (λ k. get_or xs k []) (omega (arith, h, length-append base xs))

under-over : (n : ℕ) (base xs : List Text) → n ≤ length xs → under n (base ++ xs) ≡ base ++ under n xs
under-over n base xs h = ap (λ k. take k (base ++ xs)) (omega (arith, h, length-append base xs)) ∙ take-append-add base xs (length xs - n)

top-over : (n : ℕ) (base xs : List Text) → n ≤ length xs → top n (base ++ xs) ≡ top n xs
top-over n base xs h = ap (λ k. drop k (base ++ xs)) (omega (arith, h, length-append base xs)) ∙ drop-append-add base xs (length xs - n)

pushed-over : (n : ℕ) (base xs : List Text) (x : Text) → n ≤ length xs → over base (under n (base ++ xs) ++ x ∷ []) ≡ under n xs ++ x ∷ []
pushed-over n base xs x h =
    ap (λ s. over base (s ++ x ∷ [])) (under-over n base xs h) ∙ ap (over base) (append_assoc base (under n xs) (x ∷ [])) ∙ drop-append_seam base (under n xs ++ x ∷ [])

module _ {W : Type 0} (ev : (Evaluator W)) where
  operated-over : (op : Operation) (base xs : List Text) (st : (State W)) → takes op ≤ length xs → operated ev op (base ++ xs) st ≡ operated ev op xs st
  operated-over (o.Literal text) base xs st h = refl
  operated-over (o.Parts parts) base xs st h = refl
  operated-over (o.Unary op) base xs st h = ap (λ x. unary op x st) (last-over base xs h)
  operated-over (o.Number op) base xs st h = ap (λ x. between op x (last_of (base ++ xs)) st) (second-over base xs h) ∙ ap (λ y. between op (second_of xs) y st) (last-over base xs (omega (arith, h)))
  operated-over (o.Words op) base xs st h = ap (λ x. words_between op x (last_of (base ++ xs)) st) (second-over base xs h) ∙ ap (λ y. words_between op (second_of xs) y st) (last-over base xs (omega (arith, h)))
  operated-over o.Truth base xs st h = ap (λ x. truth_text x st) (last-over base xs h)
  operated-over (o.Call name n) base xs st h = ap (λ ys. call name ys st) (top-over n base xs h)
  operated-over o.TooDeep base xs st h = refl

  -- what is run behind an instruction
  abbrev follow : List Instruction → List Text → Next → (State W) → Res W Text
  follow is base p st = run ev is p.passed (over base p.stack) st

  -- an instruction over the whole stack, and the rest over what is over the base
  step-over : (i : Instruction) (is : List Instruction) (base xs : List Text) (st : (State W)) → needs i ≤ length xs → bind (does ev i (base ++ xs) st) (follow is base) ≡ run ev (i ∷ is) 0 xs st
  unfolding run
  step-over (act.Operate op) is base xs st h =
      let n = takes op in
      bind_then (operated ev op (base ++ xs) st) (λ x s1. done (next (under n (base ++ xs) ++ x ∷ []) 0) s1) (follow is base) (λ x s1. run ev is 0 (under n xs ++ x ∷ []) s1)
      (λ x s1. bind_value (next (under n (base ++ xs) ++ x ∷ []) 0) s1 (follow is base) ∙ ap (λ ys. run ev is 0 ys s1) (pushed-over n base xs x h))
      ∙ ap (λ r. bind r (λ x s1. run ev is 0 (under n xs ++ x ∷ []) s1)) (operated-over op base xs st h)
      ∙ sym (bind_then (operated ev op xs st) (λ x s1. done (next (under n xs ++ x ∷ []) 0) s1) (λ p s1. run ev is p.passed p.stack s1) (λ x s1. run ev is 0 (under n xs ++ x ∷ []) s1)
      (λ x s1. bind_value (next (under n xs ++ x ∷ []) 0) s1 (λ p s2. run ev is p.passed p.stack s2)))
  step-over (act.SkipIf wanted n) is base xs st h =
      bind_then (truth_of (last_of (base ++ xs)) st) (λ b s1. done (next (base ++ xs) (passed_where wanted n b)) s1) (follow is base) (λ b s1. run ev is (passed_where wanted n b) xs s1)
      (λ b s1. bind_value (next (base ++ xs) (passed_where wanted n b)) s1 (follow is base) ∙ ap (λ ys. run ev is (passed_where wanted n b) ys s1) (drop-append_seam base xs))
      ∙ ap (λ y. bind (truth_of y st) (λ b s1. run ev is (passed_where wanted n b) xs s1)) (last-over base xs h)
      ∙ sym (bind_then (truth_of (last_of xs) st) (λ b s1. done (next xs (passed_where wanted n b)) s1) (λ p s1. run ev is p.passed p.stack s1) (λ b s1. run ev is (passed_where wanted n b) xs s1)
      (λ b s1. bind_value (next xs (passed_where wanted n b)) s1 (λ p s2. run ev is p.passed p.stack s2)))
  step-over (act.Skip n) is base xs st h =
      bind_value (next (base ++ xs) n) st (follow is base) ∙ ap (λ ys. run ev is n ys st) (drop-append_seam base xs) ∙ sym (bind_value (next xs n) st (λ p s2. run ev is p.passed p.stack s2))
  step-over act.Forget is base xs st h =
      bind_value (next (under 1 (base ++ xs)) 0) st (follow is base)
      ∙ ap (λ ys. run ev is 0 ys st) (ap (over base) (under-over 1 base xs h) ∙ drop-append_seam base (under 1 xs))
      ∙ sym (bind_value (next (under 1 xs) 0) st (λ p s2. run ev is p.passed p.stack s2))

-- ---- the stack

-- what is to be run fits over a base
pub record Running (rest : List Instruction) (base stack : List Text) : Type 0 where
  pub keeps : Keeps base stack
  pub fits : Fits rest 0 (length stack - length base)

pub running_starts : (rest : List Instruction) (base : List Text) → Fits rest 0 0 → Running rest base base
running_starts rest base h =
    let none : 0 ≡ length base - length base = omega arith in
    record { keeps = keeps_all base; fits = subst (λ n. Fits rest 0 n) none h }

pub running_as : (rest all : List Instruction) (base stack : List Text) → all ≡ rest → Running all base stack → Running rest base stack
running_as rest all base stack e h = subst (λ is. Running is base stack) e h

needs-over : (i : Instruction) (is : List Instruction) (base stack : List Text) → Running (i ∷ is) base stack → needs i ≤ length stack - length base
unfolding Fits
needs-over (act.Operate op) is base stack h = h.fits.0
needs-over (act.SkipIf wanted n) is base stack h = h.fits.0
needs-over (act.Skip n) is base stack h = omega arith
needs-over act.Forget is base stack h = h.fits.0

pub running_needs : (i : Instruction) (is : List Instruction) (base stack : List Text) → Running (i ∷ is) base stack → needs i ≤ length stack
running_needs i is base stack h = omega (arith, h.keeps.some, needs-over i is base stack h)

over-length : (base stack : List Text) → Keeps base stack → length (over base stack) ≡ length stack - length base
over-length base stack h = omega (arith, h.some, ap length (keeps-split base stack h), length-append base (over base stack))

-- One instruction of the loop.
pub run_step : {W : Type 0} (ev : (Evaluator W)) (i : Instruction) (is all : List Instruction) (base stack : List Text) (st : (State W)) → all ≡ i ∷ is → Running (i ∷ is) base stack →
    bind (does ev i stack st) (λ p s1. run ev is p.passed (over base p.stack) s1) ≡ run ev all 0 (over base stack) st
run_step ev i is all base stack st e h =
    let few : needs i ≤ length (over base stack) = omega (arith, needs-over i is base stack h, over-length base stack h.keeps) in
    ap (λ s. bind (does ev i s st) (λ p s1. run ev is p.passed (over base p.stack) s1)) (keeps-split base stack h.keeps)
    ∙ step-over ev i is base (over base stack) st few
    ∙ sym (ap (λ xs. run ev xs 0 (over base stack) st) e)

-- what is run behind it
pub run_on : {W : Type 0} (ev : (Evaluator W)) (is rest : List Instruction) (p : Next) (passed : ℕ) (base stack : List Text) (st : (State W)) → rest ≡ drop passed is → as_next p passed stack →
    run ev rest 0 (over base stack) st ≡ run ev is p.passed (over base p.stack) st
run_on ev is rest p passed base stack st e shown =
    ap (λ xs. run ev xs 0 (over base stack) st) e
    ∙ sym (run_drop ev is passed (over base stack) st)
    ∙ ap (λ n. run ev is n (over base stack) st) shown.1
    ∙ ap (λ s. run ev is p.passed (over base s) st) shown.0

pub run_starts : {W : Type 0} (ev : (Evaluator W)) (is all : List Instruction) (base : List Text) (st : (State W)) → is ≡ all → run ev is 0 (over base base) st ≡ run ev all 0 [] st
run_starts ev is all base st e = ap (λ xs. run ev xs 0 (over base base) st) e ∙ ap (λ s. run ev all 0 s st) (drop-base base)

under-length : (n : ℕ) (stack : List Text) → n ≤ length stack → length (under n stack) ≡ length stack - n
under-length n stack h = omega (arith, h, length-take (length stack - n) stack)

-- so many texts over a base go
keeps-under : (n : ℕ) (base stack : List Text) → Keeps base stack → n ≤ length stack - length base → Keeps base (under n stack)
keeps-under n base stack h l =
    record {
      kept = take-take (length base) (length stack - n) stack (omega (arith, h.some, l)) ∙ h.kept;
      some = omega (arith, h.some, l, under-length n stack (omega (arith, h.some, l)));
    }

over-keeps : (base stack : List Text) → Over 1 base stack → Keeps base stack
over-keeps base stack h = record { kept = h.kept; some = omega (arith, h.count_is) }

pub kept_keeps : (i : Instruction) (is : List Instruction) (base stack : List Text) → Running (i ∷ is) base stack → Keeps base (kept i stack)
unfolding Fits
kept_keeps (act.Operate op) is base stack h = keeps-under (takes op) base stack h.keeps h.fits.0
kept_keeps (act.SkipIf wanted n) is base stack h = h.keeps
kept_keeps (act.Skip n) is base stack h = h.keeps
kept_keeps act.Forget is base stack h = keeps-under 1 base stack h.keeps h.fits.0

fits-passed : (wanted b : Bool) (n h : ℕ) (is : List Instruction) → Fits is 0 h → Fits is n h → Fits is (passed_where wanted n b) h
fits-passed true true n h is p q = q
fits-passed true false n h is p q = p
fits-passed false true n h is p q = p
fits-passed false false n h is p q = q

fits-as : (is : List Instruction) (k n : ℕ) → k ≡ n → (h : ℕ) → Fits is n h → Fits is k h
fits-as is k n e h f = subst (λ x. Fits is x h) (sym e) f

behind : (i : Instruction) (is : List Instruction) (base stack now : List Text) (passed : ℕ) → Running (i ∷ is) base stack → Stands i stack passed now → Keeps base now × Fits is passed (length now - length base)
unfolding Fits
behind (act.Operate op) is base stack now passed h s =
    let low = keeps-under (takes op) base stack h.keeps h.fits.0 in
    let fewer = under-length (takes op) stack (omega (arith, h.keeps.some, h.fits.0)) in
    let height : suc ((length stack - length base) - takes op) ≡ length now - length base = omega (arith, h.keeps.some, h.fits.0, s.0.count_is, fewer) in
    (keeps_on base (under (takes op) stack) now low (over-keeps (under (takes op) stack) now s.0), fits-as is passed 0 s.1 (length now - length base) (subst (λ n. Fits is 0 n) height h.fits.1))
behind (act.SkipIf wanted n) is base stack now passed h s =
    let P : List Text → Type 0 = λ x. Keeps base x × Fits is passed (length x - length base) in
    subst P (sym s.0) (h.keeps, fits-as is passed (passed_where wanted n s.1.0) s.1.1 (length stack - length base) (fits-passed wanted s.1.0 n (length stack - length base) is h.fits.1.0 h.fits.1.1))
behind (act.Skip n) is base stack now passed h s =
    let P : List Text → Type 0 = λ x. Keeps base x × Fits is passed (length x - length base) in
    subst P (sym s.0) (h.keeps, fits-as is passed n s.1 (length stack - length base) h.fits)
behind act.Forget is base stack now passed h s =
    let P : List Text → Type 0 = λ x. Keeps base x × Fits is passed (length x - length base) in
    let fewer = under-length 1 stack (omega (arith, h.keeps.some, h.fits.0)) in
    let height : (length stack - length base) - 1 ≡ length (under 1 stack) - length base = omega (arith, h.keeps.some, h.fits.0, fewer) in
    subst P (sym s.0) (keeps-under 1 base stack h.keeps h.fits.0, fits-as is passed 0 s.1 (length (under 1 stack) - length base) (subst (λ n. Fits is 0 n) height h.fits.1))

pub running_on : (i : Instruction) (is rest : List Instruction) (base stack now : List Text) (passed : ℕ) → Running (i ∷ is) base stack → Stands i stack passed now → rest ≡ drop passed is → Running rest base now
running_on i is rest base stack now passed h s e =
    let b = behind i is base stack now passed h s in
    record { keeps = b.0; fits = subst (λ xs. Fits xs 0 (length now - length base)) (sym e) (fits_drop is passed (length now - length base) b.1) }

pub running_ends : (rest : List Instruction) (base stack : List Text) → length rest ≡ 0 → Running rest base stack → Over 1 base stack
unfolding Fits
running_ends [] base stack e h = record { kept = h.keeps.kept; count_is = omega (arith, h.keeps.some, h.fits) }
running_ends (i ∷ is) base stack e h = absurd (omega (arith, e))

-- Behind the last instruction the top text is the value.
pub run_end : {W : Type 0} (ev : (Evaluator W)) (rest : List Instruction) (base stack : List Text) (st : (State W)) → length rest ≡ 0 → Running rest base stack →
    done (last_of stack) st ≡ run ev rest 0 (over base stack) st
unfolding run
run_end ev [] base stack st e h =
    let one = running_ends [] base stack e h in
    ap (λ x. done x st) (ap last_of (keeps-split base stack h.keeps) ∙ last-over base (over base stack) (omega (arith, over-length base stack h.keeps, one.count_is)))
run_end ev (i ∷ is) base stack st e h = absurd (omega (arith, e))

above-lower : (base mid now : List Text) → Keeps base mid → Above mid now → Above base now
above-lower base mid now h k =
    let on = keeps_on base mid now h (record { kept = k.kept; some = omega (arith, k.some) }) in
    record { kept = on.kept; some = omega (arith, h.some, k.some) }

-- An instruction that is not ok leaves what its loop leaves.
pub stops_over : (T : Type 0) (P : ℕ → List Text → Type 0) (base mid now : List Text) (e : End) → Keeps base mid → Leaves P mid (Err e) now → PushesOne {T = T} base (Err e) now
stops_over T P base mid now (end.Left l) h k = above-lower base mid now h k
stops_over T P base mid now end.Budget h k = tt
stops_over T P base mid now (end.Exit n) h k = tt
stops_over T P base mid now end.Device h k = tt
stops_over T P base mid now end.Memory h k = tt

pub stops_as : {T : Type 0} (P : ℕ → List Text → Type 0) (base mid now : List Text) (e : End) (r : Result T End) → r ≡ Err e → Keeps base mid → Leaves P mid (Err e) now → PushesOne base r now
stops_as {T = T} P base mid now e r same h k =
    let Q : Result T End → Type 0 = λ x. PushesOne base x now in
    subst Q (sym same) (stops_over T P base mid now e h k)

-- what a call leaves that isn't ok doesn't depend on what one leaves that is
leaves-any : {S T : Type 0} (P : S → List Text → Type 0) (Q : T → List Text → Type 0) (base now : List Text) (e : End) → Leaves P base (Err e) now → Leaves Q base (Err e) now
leaves-any P Q base now (end.Left l) h = h
leaves-any P Q base now end.Budget h = tt
leaves-any P Q base now (end.Exit n) h = tt
leaves-any P Q base now end.Device h = tt
leaves-any P Q base now end.Memory h = tt

-- An operation that is not ok leaves what its instruction leaves.
pub operate_stops : (i : Instruction) (op : Operation) (stack now : List Text) (e : End) (r : Result ℕ End) → i ≡ act.Operate op → r ≡ Err e →
    PushesOne {T = Unit {0}} (under (takes op) stack) (Err e) now → Leaves (Stands i stack) (kept i stack) r now
operate_stops i op stack now e r same stopped h =
    let Q : Result ℕ End → Type 0 = λ x. Leaves (Stands i stack) (kept i stack) x now in
    let R : Instruction → Type 0 = λ j. Leaves {T = ℕ} (Stands j stack) (kept j stack) (Err e) now in
    let P : Unit {0} → List Text → Type 0 = λ t s. Over 1 (under (takes op) stack) s in
    subst Q (sym stopped) (subst R (sym same) (leaves-any P (Stands (act.Operate op) stack) (under (takes op) stack) now e h))

-- an operation that takes nothing
pub pushes_over : {T : Type 0} (stack : List Text) (r : Result T End) (now : List Text) → PushesOne stack r now → PushesOne (under 0 stack) r now
pushes_over {T = T} stack r now h =
    let all : stack ≡ under 0 stack = sym (take_all (length stack - 0) stack (omega arith)) in
    let P : List Text → Type 0 = λ b. PushesOne {T = T} b r now in
    subst P all h

-- ---- trees

pub result_same : {W : Type 0} (ev : (Evaluator W)) (is : List Instruction) (e : ExprTree) (st : (State W)) → is ≡ flat e → run_result ev is st ≡ result ev e st
result_same ev is e st h = ap (λ xs. run_result ev xs st) h ∙ ap (λ r. bind r settled) (runs_flat ev e [] st)

pub test_same : {W : Type 0} (ev : (Evaluator W)) (is : List Instruction) (e : ExprTree) (st : (State W)) → is ≡ flat e → run_test ev is st ≡ test ev e st
test_same ev is e st h = ap (λ r. bind r truth_of) (result_same ev is e st h)

bool-done : {W : Type 0} (on : Bool) (st : (State W)) → (if on then done true st else done false st) ≡ done on st
bool-done true st = refl
bool-done false st = refl

-- where nothing comes between, the turn goes on as its body says
nothing-between : {W : Type 0} (m : Res W Bool) → bind m (λ on s. if on then done true s else done false s) ≡ m
nothing-between m = bind_cong m (λ on s. if on then done true s else done false s) (λ on s. done on s) (λ on s. bool-done on s) ∙ bind-done m

if-same : {W A : Type 0} (b : Bool) (m n k : Res W A) → m ≡ n → (if b then m else k) ≡ (if b then n else k)
if-same true m n k h = h
if-same false m n k h = refl

-- what comes behind a turn whose test is false is nothing
behind-first : {W : Type 0} (more : Bool) (m : Res W Bool) (f : Bool → (State W) → Res W Bool) (st : (State W)) → f false st ≡ done false st →
    bind (if more then m else done false st) f ≡ (if more then bind m f else done false st)
behind-first true m f st h = refl
behind-first false m f st h = bind_value false st f ∙ h

tested-same : {W : Type 0} (Z : Type 0) (ev : (Evaluator W)) (is : List Instruction) (e : ExprTree) (body : Script) (st : (State W)) → is ≡ flat e → run_turn {Z = Z} ev is None body st ≡ tested_turn ev e body st
tested-same Z ev is e body st h =
    ap (λ r. bind r (λ more s1. if more then bind (paid_body ev body s1) (λ on s2. if on then done true s2 else done false s2) else done false s1)) (test_same ev is e st h)
    ∙ bind_cong (test ev e st) (λ more s1. if more then bind (paid_body ev body s1) (λ on s2. if on then done true s2 else done false s2) else done false s1)
    (λ more s1. if more then paid_body ev body s1 else done false s1)
    (λ more s1. if-same more (bind (paid_body ev body s1) (λ on s2. if on then done true s2 else done false s2)) (paid_body ev body s1) (done false s1) (nothing-between (paid_body ev body s1)))

stepped-same : {W Z : Type 0} (ev : (Evaluator W)) (is : List Instruction) (e : ExprTree) (next : Rc Script Z) (body : Script) (st : (State W)) → is ≡ flat e →
    run_turn ev is (Some next) body st ≡ stepped_turn ev e (rc_value next) body st
stepped-same ev is e next body st h =
    let f : Bool → (State _) → Res _ Bool = λ on s2. if on then between_turns ev (rc_value next) s2 else done false s2 in
    ap (λ r. bind r (λ more s1. if more then bind (paid_body ev body s1) f else done false s1)) (test_same ev is e st h)
    ∙ sym (bind_then (test ev e st) (λ more s1. if more then paid_body ev body s1 else done false s1) f (λ more s1. if more then bind (paid_body ev body s1) f else done false s1)
    (λ more s1. behind-first more (paid_body ev body s1) f s1 refl))

turns-same : {W : Type 0} (fuel : ℕ) (turn turn' : (State W) → Res W Bool) → ((st : (State W)) → turn st ≡ turn' st) → (st : (State W)) → turns fuel turn st ≡ turns fuel turn' st
unfolding turns
turns-same zero turn turn' h st = refl
turns-same (suc fuel) turn turn' h st =
    ap (λ m. bind m (λ more s1. if more then turns fuel turn s1 else done tt s1)) (h st)
    ∙ bind_cong (turn' st) (λ more s1. if more then turns fuel turn s1 else done tt s1) (λ more s1. if more then turns fuel turn' s1 else done tt s1)
    (λ more s1. if-same more (turns fuel turn s1) (turns fuel turn' s1) (done tt s1) (turns-same fuel turn turn' h s1))

-- The turns of a loop over instructions are those of its tree.
pub turned_is : {W Z : Type 0} (ev : (Evaluator W)) (placed : ℕ → Text) (next : Option ℕ) (body : ℕ) (found : Option (Rc Script Z)) (is : List Instruction) (e : ExprTree) (script : Script) (st : (State W)) →
    is ≡ flat e → script ≡ commands (placed body) → IsBetween placed next found →
    bind (loop (run_turn ev is found script) st) (λ u s1. ok [] s1) ≡ turned ev placed next body e st
turned_is {Z = Z} ev placed None body None is e script st h k b =
    ap (λ s. bind (loop (run_turn {Z = Z} ev is None s) st) (λ u s1. ok [] s1)) k
    ∙ ap (λ m. bind m (λ u s1. ok [] s1))
    (turns-same (st.units + 1) (run_turn {Z = Z} ev is None (commands (placed body))) (tested_turn ev e (commands (placed body))) (λ s. tested-same Z ev is e (commands (placed body)) s h) st)
turned_is ev placed None body (Some found) is e script st h k b = absurd b
turned_is ev placed (Some at) body None is e script st h k b = absurd b
turned_is ev placed (Some at) body (Some found) is e script st h k b =
    ap (λ s. bind (loop (run_turn ev is (Some found) s) st) (λ u s1. ok [] s1)) k
    ∙ ap (λ m. bind m (λ u s1. ok [] s1))
    (turns-same (st.units + 1) (run_turn ev is (Some found) (commands (placed body))) (stepped_turn ev e (rc_value found) (commands (placed body))) (λ s. stepped-same ev is e found (commands (placed body)) s h) st)
    ∙ ap (λ s. bind (loop (stepped_turn ev e s (commands (placed body))) st) (λ u s1. ok [] s1)) b

-- the script between turns, of a stack that is the same
pub between_kept : {Z : Type 0} (old new : List Text) (next : Option ℕ) (found : Option (Rc Script Z)) → new ≡ old → IsBetween (placed new) next found → IsBetween (placed old) next found
between_kept old new next found e h = subst (λ s. IsBetween (placed s) next found) e h

-- ---- texts

laid-tree : (r : Result ExprTree ExprFault) (is : List Instruction) → laid r ≡ Ok is → (e : ExprTree) × ((r ≡ Ok e) × (is ≡ flat e))
laid-tree (Ok e) is h = let same : flat e ≡ is = cc in (e, (refl, sym same))
laid-tree (Err x) is h = absurd (cc)

laid-fault : (r : Result ExprTree ExprFault) (x : ExprFault) → laid r ≡ Err x → r ≡ Err x
laid-fault (Ok e) x h = absurd (cc)
laid-fault (Err y) x h = let same : y ≡ x = cc in ap Err same

-- the tree whose instructions were found
pub tree_found : (text : Text) (is : List Instruction) → instructions_of text ≡ Ok is → (e : ExprTree) × ((expression text ≡ Ok e) × (is ≡ flat e))
tree_found text is h = laid-tree (expression text) is h

pub fits_found : (text : Text) (is : List Instruction) → instructions_of text ≡ Ok is → Fits is 0 0
fits_found text is h = let found = tree_found text is h in subst (λ xs. Fits xs 0 0) (sym found.1.1) (fits_flat found.0)

pub fault_found : (text : Text) (why : ExprFault) → laid_answers.Answers (instructions_of text) (Err why) → grammar.Answers (expression text) (Err why)
fault_found text (fault.Syntax at) h = laid-fault (expression text) (fault.Syntax at) h
fault_found text (fault.Bareword at len) h = laid-fault (expression text) (fault.Bareword at len) h
fault_found text (fault.UnknownFunction at len) h = laid-fault (expression text) (fault.UnknownFunction at len) h
fault_found text (fault.WrongCount at len) h = laid-fault (expression text) (fault.WrongCount at len) h
fault_found text (fault.FloatLiteral at len) h = laid-fault (expression text) (fault.FloatLiteral at len) h
fault_found text fault.TooDeep h = laid-fault (expression text) fault.TooDeep h
fault_found text fault.TooLarge h = laid-fault (expression text) fault.TooLarge h
fault_found text fault.NoMemory h = tt
