-- Running the instructions of a tree gives its value.
use Rattle.std.proofs.Common.{◌≡◌, ℕ, zero, suc, ◌+◌, ◌-◌, List, [], ◌∷◌, ◌++◌, length, take, drop, get_or, ◌<◌, Bool, true, false, Option, Some, None, refl, sym, ap, ◌∙◌, arith}
use Rattle.std.proofs.lemmas.List.{append_assoc, append-nil, length-append, take_all}
use Rattle.std.proofs.Math.ListN.{get_or-append}
use Rattle.std.proofs.Math.Seq.{take-append_seam, drop-append_seam}
use Rattle.tclv_text.specs.Truths.{truth}
use Rattle.tclv_exprp.specs.declared.operators.Op1.{Op1}
use Rattle.tclv_exprp.specs.declared.operators.Op2.{Op2}
use Rattle.tclv_exprp.specs.declared.operators.WordOp.{WordOp}
use Rattle.tclv_exprp.specs.declared.operators.Infix.{Infix}
use Rattle.tclv_exprp.specs.declared.operators.Infix.TheVariants as i
use Rattle.tclv_exprp.specs.declared.tree.Step.{Step, out-Step}
use Rattle.tclv_exprp.specs.declared.tree.ExprTree.{ExprTree, out-ExprTree}
use Rattle.tclv_exprp.specs.declared.tree.ExprTree.TheOpen as layer
use Rattle.tclv_exprp.specs.declared.instructions.Operation.{Operation}
use Rattle.tclv_exprp.specs.declared.instructions.Operation.TheVariants as o
use Rattle.tclv_exprp.specs.declared.instructions.Instruction.{Instruction}
use Rattle.tclv_exprp.specs.declared.instructions.Instruction.TheVariants as act
use Rattle.tclv_exprp.specs.Flat as f
use Rattle.tclv_exprp.specs.Flat.{Layer, flat_at, flat}
use Rattle.tclv_value.specs.Stacks.{top, under}
use Rattle.tclv_engine.specs.State.{Text, State}
use Rattle.tclv_engine.specs.Results.{Res, bind, done}
use Rattle.tclv_engine.specs.Words.{Evaluator}
use Rattle.tclv_engine.specs.Answers.{last_of}
use Rattle.tclv_engine.specs.Operations.{second_of, truth_by, truth_of, truth_number, unary, between, words_between}
use Rattle.tclv_engine.specs.Functions.{call}
use Rattle.tclv_engine.specs.Expressions.{Valuer, right_truth, both, either, step, steps, choice, values, node, value, max_tree}
use Rattle.tclv_engine.specs.Instructions.{next, takes, truth_text, operated, passed_where, run, GivesValue}
use Rattle.tclv_engine.proofs.BindLaws.{bind_value, bind_assoc, bind_cong, bind_then}
use Rattle.tclv_engine.proofs.Binds.{bind-done}
use Rattle.tclv_engine.proofs.StackLemmas.{last-push}

-- ---- the top of a stack

under-more : (xs ys : List Text) (n : ℕ) → length ys ≡ n → under n (xs ++ ys) ≡ xs
under-more xs ys n h = ap (λ k. take k (xs ++ ys)) (omega (arith, h, length-append xs ys)) ∙ take-append_seam xs ys

top-more : (xs ys : List Text) (n : ℕ) → length ys ≡ n → top n (xs ++ ys) ≡ ys
top-more xs ys n h = ap (λ k. drop k (xs ++ ys)) (omega (arith, h, length-append xs ys)) ∙ drop-append_seam xs ys

under-none : (xs : List Text) → under 0 xs ≡ xs
under-none xs = take_all (length xs - 0) xs (omega arith)

under-two : (xs : List Text) (x y : Text) → under 2 ((xs ++ x ∷ []) ++ y ∷ []) ≡ xs
under-two xs x y = ap (λ s. under 2 s) (append_assoc xs (x ∷ []) (y ∷ [])) ∙ under-more xs (x ∷ y ∷ []) 2 refl

second-more : (xs : List Text) (x y : Text) → second_of ((xs ++ x ∷ []) ++ y ∷ []) ≡ x
second-more xs x y =
    let s = xs ++ x ∷ [] in
    let i : length (s ++ y ∷ []) - 2 ≡ length s - 1 = omega (arith, length-append s (y ∷ []), length-append xs (x ∷ [])) in
    let some : 0 < length s = omega (arith, length-append xs (x ∷ [])) in
    ap (λ k. get_or (s ++ y ∷ []) k []) i ∙ get_or-append s (y ∷ []) [] (length s - 1) (omega (arith, some)) ∙ last-push xs x

-- ---- passing over

pub run_past : {W : Type 0} (ev : (Evaluator W)) (ys rest : List Instruction) (stack : List Text) (st : (State W)) → run ev (ys ++ rest) (length ys) stack st ≡ run ev rest 0 stack st
unfolding run
run_past ev [] rest stack st = refl
run_past ev (y ∷ ys) rest stack st = run_past ev ys rest stack st

run_over : {W : Type 0} (ev : (Evaluator W)) (ys : List Instruction) (y : Instruction) (rest : List Instruction) (stack : List Text) (st : (State W)) →
    run ev (ys ++ y ∷ rest) (suc (length ys)) stack st ≡ run ev rest 0 stack st
unfolding run
run_over ev [] y rest stack st = refl
run_over ev (z ∷ ys) y rest stack st = run_over ev ys y rest stack st

-- so many instructions are passed over, or all
pub run_drop : {W : Type 0} (ev : (Evaluator W)) (is : List Instruction) (n : ℕ) (stack : List Text) (st : (State W)) → run ev is n stack st ≡ run ev (drop n is) 0 stack st
unfolding run
run_drop ev [] zero stack st = refl
run_drop ev [] (suc n) stack st = refl
run_drop ev (i ∷ is) zero stack st = refl
run_drop ev (i ∷ is) (suc n) stack st = run_drop ev is n stack st

module _ {W : Type 0} (ev : (Evaluator W)) where
  -- what runs behind a text that is pushed
  abbrev behind : List Instruction → List Text → Text → (State W) → Res W Text
  behind rest xs x st = run ev rest 0 (xs ++ x ∷ []) st

  -- ---- one instruction

  at-operation : (op : Operation) (rest : List Instruction) (stack xs : List Text) (st : (State W)) → under (takes op) stack ≡ xs →
      run ev (act.Operate op ∷ rest) 0 stack st ≡ bind (operated ev op stack st) (behind rest xs)
  unfolding run
  at-operation op rest stack xs st e =
      bind_then (operated ev op stack st) (λ x s1. done (next (under (takes op) stack ++ x ∷ []) 0) s1) (λ p s1. run ev rest p.passed p.stack s1) (behind rest xs)
      (λ x s1. bind_value (next (under (takes op) stack ++ x ∷ []) 0) s1 (λ p s2. run ev rest p.passed p.stack s2) ∙ ap (λ ys. run ev rest 0 (ys ++ x ∷ []) s1) e)

  at-unary : (op : Op1) (rest : List Instruction) (xs : List Text) (x : Text) (st : (State W)) → run ev (act.Operate (o.Unary op) ∷ rest) 0 (xs ++ x ∷ []) st ≡ bind (unary op x st) (behind rest xs)
  at-unary op rest xs x st =
      at-operation (o.Unary op) rest (xs ++ x ∷ []) xs st (under-more xs (x ∷ []) 1 refl)
      ∙ ap (λ y. bind (unary op y st) (behind rest xs)) (last-push xs x)

  at-truth : (rest : List Instruction) (xs : List Text) (x : Text) (st : (State W)) → run ev (act.Operate o.Truth ∷ rest) 0 (xs ++ x ∷ []) st ≡ bind (truth_text x st) (behind rest xs)
  at-truth rest xs x st =
      at-operation o.Truth rest (xs ++ x ∷ []) xs st (under-more xs (x ∷ []) 1 refl)
      ∙ ap (λ y. bind (truth_text y st) (behind rest xs)) (last-push xs x)

  at-number : (op : Op2) (rest : List Instruction) (xs : List Text) (x y : Text) (st : (State W)) → run ev (act.Operate (o.Number op) ∷ rest) 0 ((xs ++ x ∷ []) ++ y ∷ []) st ≡ bind (between op x y st) (behind rest xs)
  at-number op rest xs x y st =
      let stack = (xs ++ x ∷ []) ++ y ∷ [] in
      at-operation (o.Number op) rest stack xs st (under-two xs x y)
      ∙ ap (λ z. bind (between op z (last_of stack) st) (behind rest xs)) (second-more xs x y)
      ∙ ap (λ z. bind (between op x z st) (behind rest xs)) (last-push (xs ++ x ∷ []) y)

  at-words : (op : WordOp) (rest : List Instruction) (xs : List Text) (x y : Text) (st : (State W)) → run ev (act.Operate (o.Words op) ∷ rest) 0 ((xs ++ x ∷ []) ++ y ∷ []) st ≡ bind (words_between op x y st) (behind rest xs)
  at-words op rest xs x y st =
      let stack = (xs ++ x ∷ []) ++ y ∷ [] in
      at-operation (o.Words op) rest stack xs st (under-two xs x y)
      ∙ ap (λ z. bind (words_between op z (last_of stack) st) (behind rest xs)) (second-more xs x y)
      ∙ ap (λ z. bind (words_between op x z st) (behind rest xs)) (last-push (xs ++ x ∷ []) y)

  at-call : (name : Text) (n : ℕ) (rest : List Instruction) (xs ys : List Text) (st : (State W)) → length ys ≡ n → run ev (act.Operate (o.Call name n) ∷ rest) 0 (xs ++ ys) st ≡ bind (call name ys st) (behind rest xs)
  at-call name n rest xs ys st h =
      at-operation (o.Call name n) rest (xs ++ ys) xs st (under-more xs ys n h)
      ∙ ap (λ zs. bind (call name zs st) (behind rest xs)) (top-more xs ys n h)

  at-skip-if : (wanted : Bool) (n : ℕ) (rest : List Instruction) (xs : List Text) (x : Text) (st : (State W)) →
      run ev (act.SkipIf wanted n ∷ rest) 0 (xs ++ x ∷ []) st ≡ bind (truth_of x st) (λ b s1. run ev rest (passed_where wanted n b) (xs ++ x ∷ []) s1)
  unfolding run
  at-skip-if wanted n rest xs x st =
      let stack = xs ++ x ∷ [] in
      bind_then (truth_of (last_of stack) st) (λ b s1. done (next stack (passed_where wanted n b)) s1) (λ p s1. run ev rest p.passed p.stack s1) (λ b s1. run ev rest (passed_where wanted n b) stack s1)
      (λ b s1. bind_value (next stack (passed_where wanted n b)) s1 (λ p s2. run ev rest p.passed p.stack s2))
      ∙ ap (λ y. bind (truth_of y st) (λ b s1. run ev rest (passed_where wanted n b) stack s1)) (last-push xs x)

  at-forget : (rest : List Instruction) (xs : List Text) (x : Text) (st : (State W)) → run ev (act.Forget ∷ rest) 0 (xs ++ x ∷ []) st ≡ run ev rest 0 xs st
  unfolding run
  at-forget rest xs x st =
      bind_value (next (under 1 (xs ++ x ∷ [])) 0) st (λ p s1. run ev rest p.passed p.stack s1) ∙ ap (λ ys. run ev rest 0 ys st) (under-more xs (x ∷ []) 1 refl)

  at-skip : (n : ℕ) (rest : List Instruction) (stack : List Text) (st : (State W)) → run ev (act.Skip n ∷ rest) 0 stack st ≡ run ev rest n stack st
  unfolding run
  at-skip n rest stack st = bind_value (next stack n) st (λ p s1. run ev rest p.passed p.stack s1)

  ends-run : (xs : List Text) (x : Text) (st : (State W)) → run ev [] 0 (xs ++ x ∷ []) st ≡ done x st
  unfolding run
  ends-run xs x st = ap (λ y. done y st) (last-push xs x)

  -- ---- where the truth of a text is asked twice

  truth-cases : (x : Text) (o : Option Bool) (st : (State W)) (g h : Bool → (State W) → Res W Text) → o ≡ truth x → ((b : Bool) → truth x ≡ Some b → g b st ≡ h b st) →
      bind (truth_by x o st) g ≡ bind (truth_by x o st) h
  unfolding bind
  truth-cases x (Some b) st g h e k = k b (sym e)
  truth-cases x None st g h e k = refl

  truth-again : (x : Text) (b : Bool) (st : (State W)) → truth x ≡ Some b → truth_text x st ≡ truth_number b st
  truth-again x b st e = ap (λ o. bind (truth_by x o st) truth_number) e ∙ bind_value b st truth_number

  -- ---- the instructions of a tree, where those of its operands are known

  module _ (v : Valuer W) (fl : Layer) (h : (e : ExprTree) (rest : List Instruction) (xs : List Text) (st : (State W)) → run ev (fl e ++ rest) 0 xs st ≡ bind (v e st) (behind rest xs)) where
    -- the right operand of `&&` or `||` counts
    counts : (right : ExprTree) (rest : List Instruction) (xs : List Text) (x : Text) (st : (State W)) →
        run ev (act.Forget ∷ (fl right ++ (act.Operate o.Truth ∷ [])) ++ rest) 0 (xs ++ x ∷ []) st ≡ bind (right_truth v right st) (behind rest xs)
    counts right rest xs x st =
        at-forget ((fl right ++ (act.Operate o.Truth ∷ [])) ++ rest) xs x st
        ∙ ap (λ is. run ev is 0 xs st) (append_assoc (fl right) (act.Operate o.Truth ∷ []) rest)
        ∙ h right (act.Operate o.Truth ∷ rest) xs st
        ∙ bind_cong (v right st) (behind (act.Operate o.Truth ∷ rest) xs) (λ y s1. bind (truth_text y s1) (behind rest xs)) (λ y s1. at-truth rest xs y s1)
        ∙ sym (bind_assoc (v right st) truth_text (behind rest xs))

    -- the left one decides
    decided : (right : ExprTree) (rest : List Instruction) (xs : List Text) (x : Text) (st : (State W)) (b : Bool) → truth x ≡ Some b →
        run ev (act.Forget ∷ (fl right ++ (act.Operate o.Truth ∷ [])) ++ rest) (suc (length (fl right))) (xs ++ x ∷ []) st ≡ bind (truth_number b st) (behind rest xs)
    unfolding run
    decided right rest xs x st b e =
        ap (λ is. run ev is (length (fl right)) (xs ++ x ∷ []) st) (append_assoc (fl right) (act.Operate o.Truth ∷ []) rest)
        ∙ run_past ev (fl right) (act.Operate o.Truth ∷ rest) (xs ++ x ∷ []) st
        ∙ at-truth rest xs x st
        ∙ ap (λ r. bind r (behind rest xs)) (truth-again x b st e)

    both-cases : (right : ExprTree) (rest : List Instruction) (xs : List Text) (x : Text) (st : (State W)) (b : Bool) → truth x ≡ Some b →
        run ev (act.Forget ∷ (fl right ++ (act.Operate o.Truth ∷ [])) ++ rest) (passed_where false (suc (length (fl right))) b) (xs ++ x ∷ []) st ≡ bind (both v right b st) (behind rest xs)
    both-cases right rest xs x st true e = counts right rest xs x st
    both-cases right rest xs x st false e = decided right rest xs x st false e

    either-cases : (right : ExprTree) (rest : List Instruction) (xs : List Text) (x : Text) (st : (State W)) (b : Bool) → truth x ≡ Some b →
        run ev (act.Forget ∷ (fl right ++ (act.Operate o.Truth ∷ [])) ++ rest) (passed_where true (suc (length (fl right))) b) (xs ++ x ∷ []) st ≡ bind (either v right b st) (behind rest xs)
    either-cases right rest xs x st false e = counts right rest xs x st
    either-cases right rest xs x st true e = decided right rest xs x st true e

    step-runs : (op : Infix) (right : ExprTree) (rest : List Instruction) (xs : List Text) (x : Text) (st : (State W)) →
        run ev (f.step fl op right ++ rest) 0 (xs ++ x ∷ []) st ≡ bind (step v op x right st) (behind rest xs)
    step-runs (i.Number op) right rest xs x st =
        ap (λ is. run ev is 0 (xs ++ x ∷ []) st) (append_assoc (fl right) (act.Operate (o.Number op) ∷ []) rest)
        ∙ h right (act.Operate (o.Number op) ∷ rest) (xs ++ x ∷ []) st
        ∙ bind_cong (v right st) (behind (act.Operate (o.Number op) ∷ rest) (xs ++ x ∷ [])) (λ y s1. bind (between op x y s1) (behind rest xs)) (λ y s1. at-number op rest xs x y s1)
        ∙ sym (bind_assoc (v right st) (λ y s1. between op x y s1) (behind rest xs))
    step-runs (i.Words op) right rest xs x st =
        ap (λ is. run ev is 0 (xs ++ x ∷ []) st) (append_assoc (fl right) (act.Operate (o.Words op) ∷ []) rest)
        ∙ h right (act.Operate (o.Words op) ∷ rest) (xs ++ x ∷ []) st
        ∙ bind_cong (v right st) (behind (act.Operate (o.Words op) ∷ rest) (xs ++ x ∷ [])) (λ y s1. bind (words_between op x y s1) (behind rest xs)) (λ y s1. at-words op rest xs x y s1)
        ∙ sym (bind_assoc (v right st) (λ y s1. words_between op x y s1) (behind rest xs))
    step-runs i.And right rest xs x st =
        let inner = act.Forget ∷ (fl right ++ (act.Operate o.Truth ∷ [])) ++ rest in
        at-skip-if false (suc (length (fl right))) inner xs x st
        ∙ truth-cases x (truth x) st (λ b s1. run ev inner (passed_where false (suc (length (fl right))) b) (xs ++ x ∷ []) s1) (λ b s1. bind (both v right b s1) (behind rest xs)) refl (λ b e. both-cases right rest xs x st b e)
        ∙ sym (bind_assoc (truth_of x st) (both v right) (behind rest xs))
    step-runs i.Or right rest xs x st =
        let inner = act.Forget ∷ (fl right ++ (act.Operate o.Truth ∷ [])) ++ rest in
        at-skip-if true (suc (length (fl right))) inner xs x st
        ∙ truth-cases x (truth x) st (λ b s1. run ev inner (passed_where true (suc (length (fl right))) b) (xs ++ x ∷ []) s1) (λ b s1. bind (either v right b s1) (behind rest xs)) refl (λ b e. either-cases right rest xs x st b e)
        ∙ sym (bind_assoc (truth_of x st) (either v right) (behind rest xs))

    steps-run : (ss : List Step) (rest : List Instruction) (xs : List Text) (x : Text) (st : (State W)) → run ev (f.steps fl ss ++ rest) 0 (xs ++ x ∷ []) st ≡ bind (steps v x ss st) (behind rest xs)
    unfolding f.steps steps
    steps-run [] rest xs x st = sym (bind_value x st (behind rest xs))
    steps-run (s ∷ ss) rest xs x st =
        let op = (out-Step s).op in
        let right = (out-Step s).right in
        ap (λ is. run ev is 0 (xs ++ x ∷ []) st) (append_assoc (f.step fl op right) (f.steps fl ss) rest)
        ∙ step-runs op right (f.steps fl ss ++ rest) xs x st
        ∙ bind_cong (step v op x right st) (behind (f.steps fl ss ++ rest) xs) (λ y s1. bind (steps v y ss s1) (behind rest xs)) (λ y s1. steps-run ss rest xs y s1)
        ∙ sym (bind_assoc (step v op x right st) (λ y s1. steps v y ss s1) (behind rest xs))

    arguments-run : (es : List ExprTree) (before : List Text) (rest : List Instruction) (xs : List Text) (g : List Text → (State W) → Res W Text) (st : (State W)) →
        ((ys : List Text) (s : (State W)) → length ys ≡ length before + length es → run ev rest 0 (xs ++ ys) s ≡ g ys s) →
        run ev (f.arguments fl es ++ rest) 0 (xs ++ before) st ≡ bind (values v before es st) g
    unfolding f.arguments values
    arguments-run [] before rest xs g st k = k before st (omega arith) ∙ sym (bind_value before st g)
    arguments-run (e ∷ es) before rest xs g st k =
        let more = f.arguments fl es ++ rest in
        ap (λ is. run ev is 0 (xs ++ before) st) (append_assoc (fl e) (f.arguments fl es) rest)
        ∙ h e more (xs ++ before) st
        ∙ bind_cong (v e st) (behind more (xs ++ before)) (λ x s1. bind (values v (before ++ x ∷ []) es s1) g) (λ x s1.
        ap (λ zs. run ev more 0 zs s1) (append_assoc xs before (x ∷ []))
        ∙ arguments-run es (before ++ x ∷ []) rest xs g s1 (λ ys s q. k ys s (omega (arith, q, length-append before (x ∷ [])))))
        ∙ sym (bind_assoc (v e st) (λ x s1. values v (before ++ x ∷ []) es s1) g)

    choice-cases : (a b : ExprTree) (rest : List Instruction) (xs : List Text) (x : Text) (c : Bool) (st : (State W)) →
        run ev (act.Forget ∷ (fl a ++ (act.Skip (suc (length (fl b))) ∷ act.Forget ∷ fl b)) ++ rest) (passed_where false (suc (suc (length (fl a)))) c) (xs ++ x ∷ []) st ≡ bind (choice v a b c st) (behind rest xs)
    unfolding run
    choice-cases a b rest xs x true st =
        let other = act.Skip (suc (length (fl b))) ∷ act.Forget ∷ fl b in
        at-forget ((fl a ++ other) ++ rest) xs x st
        ∙ ap (λ is. run ev is 0 xs st) (append_assoc (fl a) other rest)
        ∙ h a (other ++ rest) xs st
        ∙ bind_cong (v a st) (behind (other ++ rest) xs) (behind rest xs) (λ y s1. at-skip (suc (length (fl b))) (act.Forget ∷ fl b ++ rest) (xs ++ y ∷ []) s1 ∙ run_past ev (fl b) rest (xs ++ y ∷ []) s1)
    choice-cases a b rest xs x false st =
        let other = act.Skip (suc (length (fl b))) ∷ act.Forget ∷ fl b in
        ap (λ is. run ev is (suc (length (fl a))) (xs ++ x ∷ []) st) (append_assoc (fl a) other rest)
        ∙ run_over ev (fl a) (act.Skip (suc (length (fl b)))) (act.Forget ∷ fl b ++ rest) (xs ++ x ∷ []) st
        ∙ at-forget (fl b ++ rest) xs x st
        ∙ h b rest xs st

    choice-runs : (a b : ExprTree) (rest : List Instruction) (xs : List Text) (x : Text) (st : (State W)) →
        run ev (f.choice (fl a) (fl b) ++ rest) 0 (xs ++ x ∷ []) st ≡ bind (bind (truth_of x st) (choice v a b)) (behind rest xs)
    choice-runs a b rest xs x st =
        let inner = act.Forget ∷ (fl a ++ (act.Skip (suc (length (fl b))) ∷ act.Forget ∷ fl b)) ++ rest in
        let n = suc (suc (length (fl a))) in
        at-skip-if false n inner xs x st
        ∙ bind_cong (truth_of x st) (λ c s1. run ev inner (passed_where false n c) (xs ++ x ∷ []) s1) (λ c s1. bind (choice v a b c s1) (behind rest xs)) (λ c s1. choice-cases a b rest xs x c s1)
        ∙ sym (bind_assoc (truth_of x st) (choice v a b) (behind rest xs))

    node-runs : (x : layer.ExprTree-F ExprTree Step) (rest : List Instruction) (xs : List Text) (st : (State W)) → run ev (f.node fl x ++ rest) 0 xs st ≡ bind (node ev v x st) (behind rest xs)
    node-runs (layer.Literal text) rest xs st = at-operation (o.Literal text) rest xs xs st (under-none xs)
    node-runs (layer.Parts parts) rest xs st = at-operation (o.Parts parts) rest xs xs st (under-none xs)
    node-runs (layer.Unary op x) rest xs st =
        ap (λ is. run ev is 0 xs st) (append_assoc (fl x) (act.Operate (o.Unary op) ∷ []) rest)
        ∙ h x (act.Operate (o.Unary op) ∷ rest) xs st
        ∙ bind_cong (v x st) (behind (act.Operate (o.Unary op) ∷ rest) xs) (λ y s1. bind (unary op y s1) (behind rest xs)) (λ y s1. at-unary op rest xs y s1)
        ∙ sym (bind_assoc (v x st) (unary op) (behind rest xs))
    node-runs (layer.Chain x ss) rest xs st =
        ap (λ is. run ev is 0 xs st) (append_assoc (fl x) (f.steps fl ss) rest)
        ∙ h x (f.steps fl ss ++ rest) xs st
        ∙ bind_cong (v x st) (behind (f.steps fl ss ++ rest) xs) (λ y s1. bind (steps v y ss s1) (behind rest xs)) (λ y s1. steps-run ss rest xs y s1)
        ∙ sym (bind_assoc (v x st) (λ y s1. steps v y ss s1) (behind rest xs))
    node-runs (layer.Cond x a b) rest xs st =
        ap (λ is. run ev is 0 xs st) (append_assoc (fl x) (f.choice (fl a) (fl b)) rest)
        ∙ h x (f.choice (fl a) (fl b) ++ rest) xs st
        ∙ bind_cong (v x st) (behind (f.choice (fl a) (fl b) ++ rest) xs) (λ y s1. bind (bind (truth_of y s1) (choice v a b)) (behind rest xs)) (λ y s1. choice-runs a b rest xs y s1)
        ∙ sym (bind_assoc (v x st) (λ y s1. bind (truth_of y s1) (choice v a b)) (behind rest xs))
    node-runs (layer.Call name es) rest xs st =
        let n = length es in
        ap (λ is. run ev is 0 xs st) (append_assoc (f.arguments fl es) (act.Operate (o.Call name n) ∷ []) rest)
        ∙ ap (λ ys. run ev (f.arguments fl es ++ act.Operate (o.Call name n) ∷ rest) 0 ys st) (sym (append-nil xs))
        ∙ arguments-run es [] (act.Operate (o.Call name n) ∷ rest) xs (λ ys s. bind (call name ys s) (behind rest xs)) st (λ ys s q. at-call name n rest xs ys s (omega (arith, q)))
        ∙ sym (bind_assoc (values v [] es st) (call name) (behind rest xs))

  value-runs : (levels : ℕ) (e : ExprTree) (rest : List Instruction) (xs : List Text) (st : (State W)) → run ev (flat_at levels e ++ rest) 0 xs st ≡ bind (value levels ev e st) (behind rest xs)
  unfolding flat_at value
  value-runs zero e rest xs st = at-operation o.TooDeep rest xs xs st (under-none xs)
  value-runs (suc levels) e rest xs st = node-runs (value levels ev) (flat_at levels) (value-runs levels) (out-ExprTree e) rest xs st

  -- The instructions of a tree give its value.
  pub runs_flat : (e : ExprTree) (xs : List Text) (st : (State W)) → run ev (flat e) 0 xs st ≡ value max_tree ev e st
  runs_flat e xs st =
      ap (λ is. run ev is 0 xs st) (sym (append-nil (flat e)))
      ∙ value-runs max_tree e [] xs st
      ∙ bind_cong (value max_tree ev e st) (behind [] xs) (λ x s1. done x s1) (λ x s1. ends-run xs x s1)
      ∙ bind-done (value max_tree ev e st)

pub gives_value : {W : Type 0} (ev : (Evaluator W)) (e : ExprTree) (st : (State W)) → GivesValue ev e st
gives_value ev e st = runs_flat ev e [] st
