-- The instructions of a tree leave one text more, and find those that they take.
use Rattle.std.proofs.Common.{◌≡◌, ℕ, zero, suc, ◌+◌, ◌-◌, ◌≤◌, List, [], ◌∷◌, ◌++◌, length, drop, Bool, true, false, refl, sym, subst, arith}
use Rattle.std.proofs.lemmas.List.{append_assoc, append-nil}
use Rattle.tclv_exprp.specs.declared.operators.Infix.{Infix}
use Rattle.tclv_exprp.specs.declared.operators.Infix.TheVariants as i
use Rattle.tclv_exprp.specs.declared.tree.Step.{Step, out-Step}
use Rattle.tclv_exprp.specs.declared.tree.ExprTree.{ExprTree, out-ExprTree}
use Rattle.tclv_exprp.specs.declared.tree.ExprTree.TheOpen as layer
use Rattle.tclv_exprp.specs.declared.instructions.Operation.{Operation}
use Rattle.tclv_exprp.specs.declared.instructions.Operation.TheVariants as o
use Rattle.tclv_exprp.specs.declared.instructions.Instruction.{Instruction}
use Rattle.tclv_exprp.specs.declared.instructions.Instruction.TheVariants as act
use Rattle.tclv_exprp.specs.Flat as f
use Rattle.tclv_exprp.specs.Flat.{Layer, flat_at, flat}
use Rattle.tclv_engine.specs.Instructions.{takes, Fits}

-- ---- passing over

past : (ys rest : List Instruction) (n : ℕ) → Fits rest 0 n → Fits (ys ++ rest) (length ys) n
unfolding Fits
past [] rest n h = h
past (y ∷ ys) rest n h = past ys rest n h

over : (ys : List Instruction) (y : Instruction) (rest : List Instruction) (n : ℕ) → Fits rest 0 n → Fits (ys ++ y ∷ rest) (suc (length ys)) n
unfolding Fits
over [] y rest n h = h
over (z ∷ ys) y rest n h = over ys y rest n h

pub fits_drop : (is : List Instruction) (passed n : ℕ) → Fits is passed n → Fits (drop passed is) 0 n
unfolding Fits
fits_drop [] zero n h = h
fits_drop [] (suc passed) n h = h
fits_drop (i ∷ is) zero n h = h
fits_drop (i ∷ is) (suc passed) n h = fits_drop is passed n h

-- ---- one instruction

operates : (op : Operation) (rest : List Instruction) (n m : ℕ) → takes op ≤ n → n + 1 ≡ m + takes op → Fits rest 0 m → Fits (act.Operate op ∷ rest) 0 n
unfolding Fits
operates op rest n m l e h =
    let same : m ≡ suc (n - takes op) = omega (arith, l, e) in
    (l, subst (λ k. Fits rest 0 k) same h)

skips-if : (wanted : Bool) (k : ℕ) (rest : List Instruction) (n : ℕ) → Fits rest 0 (suc n) → Fits rest k (suc n) → Fits (act.SkipIf wanted k ∷ rest) 0 (suc n)
unfolding Fits
skips-if wanted k rest n h g = (omega arith, (h, g))

forgets : (rest : List Instruction) (n : ℕ) → Fits rest 0 n → Fits (act.Forget ∷ rest) 0 (suc n)
unfolding Fits
forgets rest n h =
    let same : n ≡ suc n - 1 = omega arith in
    (omega arith, subst (λ k. Fits rest 0 k) same h)

skips : (k : ℕ) (rest : List Instruction) (n : ℕ) → Fits rest k n → Fits (act.Skip k ∷ rest) 0 n
unfolding Fits
skips k rest n h = h

-- an instruction is passed over
passed-one : (i : Instruction) (rest : List Instruction) (k n : ℕ) → Fits rest k n → Fits (i ∷ rest) (suc k) n
unfolding Fits
passed-one i rest k n h = h

regroup : (xs ys rest : List Instruction) (k n : ℕ) → Fits (xs ++ (ys ++ rest)) k n → Fits ((xs ++ ys) ++ rest) k n
regroup xs ys rest k n h = subst (λ is. Fits is k n) (sym (append_assoc xs ys rest)) h

-- ---- the instructions of a tree, where those of its operands fit

module _ (fl : Layer) (h : (e : ExprTree) (rest : List Instruction) (n : ℕ) → Fits rest 0 (suc n) → Fits (fl e ++ rest) 0 n) where
  deciding : (decides : Bool) (right : ExprTree) (rest : List Instruction) (n : ℕ) → Fits rest 0 (suc n) → Fits (f.deciding decides (fl right) ++ rest) 0 (suc n)
  deciding decides right rest n g =
      let truth : Fits (act.Operate o.Truth ∷ rest) 0 (suc n) = operates o.Truth rest (suc n) (suc n) (omega arith) (omega arith) g in
      let inner = (fl right ++ (act.Operate o.Truth ∷ [])) ++ rest in
      skips-if decides (suc (length (fl right))) (act.Forget ∷ inner) n
      (forgets inner n (regroup (fl right) (act.Operate o.Truth ∷ []) rest 0 n (h right (act.Operate o.Truth ∷ rest) n truth)))
      (passed-one act.Forget inner (length (fl right)) (suc n) (regroup (fl right) (act.Operate o.Truth ∷ []) rest (length (fl right)) (suc n) (past (fl right) (act.Operate o.Truth ∷ rest) (suc n) truth)))

  step : (op : Infix) (right : ExprTree) (rest : List Instruction) (n : ℕ) → Fits rest 0 (suc n) → Fits (f.step fl op right ++ rest) 0 (suc n)
  step (i.Number op) right rest n g =
      regroup (fl right) (act.Operate (o.Number op) ∷ []) rest 0 (suc n) (h right (act.Operate (o.Number op) ∷ rest) (suc n) (operates (o.Number op) rest (suc (suc n)) (suc n) (omega arith) (omega arith) g))
  step (i.Words op) right rest n g =
      regroup (fl right) (act.Operate (o.Words op) ∷ []) rest 0 (suc n) (h right (act.Operate (o.Words op) ∷ rest) (suc n) (operates (o.Words op) rest (suc (suc n)) (suc n) (omega arith) (omega arith) g))
  step i.And right rest n g = deciding false right rest n g
  step i.Or right rest n g = deciding true right rest n g

  steps : (ss : List Step) (rest : List Instruction) (n : ℕ) → Fits rest 0 (suc n) → Fits (f.steps fl ss ++ rest) 0 (suc n)
  unfolding f.steps
  steps [] rest n g = g
  steps (s ∷ ss) rest n g =
      regroup (f.step fl (out-Step s).op (out-Step s).right) (f.steps fl ss) rest 0 (suc n) (step (out-Step s).op (out-Step s).right (f.steps fl ss ++ rest) n (steps ss rest n g))

  arguments : (es : List ExprTree) (rest : List Instruction) (n m : ℕ) → m ≡ length es + n → Fits rest 0 m → Fits (f.arguments fl es ++ rest) 0 n
  unfolding f.arguments
  arguments [] rest n m e g =
      let same : m ≡ n = omega (arith, e) in
      subst (λ k. Fits rest 0 k) same g
  arguments (x ∷ es) rest n m e g =
      regroup (fl x) (f.arguments fl es) rest 0 n (h x (f.arguments fl es ++ rest) n (arguments es rest (suc n) m (omega (arith, e)) g))

  choice : (a b : ExprTree) (rest : List Instruction) (n : ℕ) → Fits rest 0 (suc n) → Fits (f.choice (fl a) (fl b) ++ rest) 0 (suc n)
  choice a b rest n g =
      let other = act.Skip (suc (length (fl b))) ∷ act.Forget ∷ fl b in
      let inner = (fl a ++ other) ++ rest in
      skips-if false (suc (suc (length (fl a)))) (act.Forget ∷ inner) n
      (forgets inner n (regroup (fl a) other rest 0 n (h a (other ++ rest) n
      (skips (suc (length (fl b))) (act.Forget ∷ fl b ++ rest) (suc n) (passed-one act.Forget (fl b ++ rest) (length (fl b)) (suc n) (past (fl b) rest (suc n) g))))))
      (passed-one act.Forget inner (suc (length (fl a))) (suc n) (regroup (fl a) other rest (suc (length (fl a))) (suc n)
      (over (fl a) (act.Skip (suc (length (fl b)))) (act.Forget ∷ fl b ++ rest) (suc n) (forgets (fl b ++ rest) n (h b rest n g)))))

  node : (x : layer.ExprTree-F ExprTree Step) (rest : List Instruction) (n : ℕ) → Fits rest 0 (suc n) → Fits (f.node fl x ++ rest) 0 n
  node (layer.Literal text) rest n g = operates (o.Literal text) rest n (suc n) (omega arith) (omega arith) g
  node (layer.Parts parts) rest n g = operates (o.Parts parts) rest n (suc n) (omega arith) (omega arith) g
  node (layer.Unary op x) rest n g =
      regroup (fl x) (act.Operate (o.Unary op) ∷ []) rest 0 n (h x (act.Operate (o.Unary op) ∷ rest) n (operates (o.Unary op) rest (suc n) (suc n) (omega arith) (omega arith) g))
  node (layer.Chain x ss) rest n g = regroup (fl x) (f.steps fl ss) rest 0 n (h x (f.steps fl ss ++ rest) n (steps ss rest n g))
  node (layer.Cond x a b) rest n g = regroup (fl x) (f.choice (fl a) (fl b)) rest 0 n (h x (f.choice (fl a) (fl b) ++ rest) n (choice a b rest n g))
  node (layer.Call name es) rest n g =
      regroup (f.arguments fl es) (act.Operate (o.Call name (length es)) ∷ []) rest 0 n
      (arguments es (act.Operate (o.Call name (length es)) ∷ rest) n (length es + n) refl (operates (o.Call name (length es)) rest (length es + n) (suc n) (omega arith) (omega arith) g))

fits_at : (levels : ℕ) (e : ExprTree) (rest : List Instruction) (n : ℕ) → Fits rest 0 (suc n) → Fits (flat_at levels e ++ rest) 0 n
unfolding flat_at
fits_at zero e rest n g = operates o.TooDeep rest n (suc n) (omega arith) (omega arith) g
fits_at (suc levels) e rest n g = node (flat_at levels) (fits_at levels) (out-ExprTree e) rest n g

fits-end : Fits [] 0 1
unfolding Fits
fits-end = refl

-- The instructions of a tree fit over nothing.
pub fits_flat : (e : ExprTree) → Fits (flat e) 0 0
fits_flat e = subst (λ is. Fits is 0 0) (append-nil (flat e)) (fits_at f.max_tree e [] 0 fits-end)
