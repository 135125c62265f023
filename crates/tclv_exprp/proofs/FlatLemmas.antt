-- Instructions that are laid from the last to the first.
use Rattle.std.proofs.Common.{◌≡◌, ℕ, zero, suc, ◌+◌, ◌-◌, ◌<◌, ◌∷◌, [], List, ◌++◌, false, reverse, length, refl, sym, ap, ◌∙◌, subst, arith, rules}
use Rattle.std.proofs.lemmas.List.{append_assoc, length-append, length-reverse, reverse-append, append-nil}
use Rattle.tclv_parse.specs.declared.tree.Part.{Part}
use Rattle.tclv_parse.specs.Runs.{Text}
use Rattle.tclv_exprp.specs.declared.operators.Op1.{Op1}
use Rattle.tclv_exprp.specs.declared.tree.Step.{Step, out-Step}
use Rattle.tclv_exprp.specs.declared.tree.ExprTree.{ExprTree, out-ExprTree, the_lemmas}
use Rattle.tclv_exprp.specs.declared.tree.ExprTree.TheVariants as tree
use Rattle.tclv_exprp.specs.declared.instructions.Operation.TheVariants as op
use Rattle.tclv_exprp.specs.declared.instructions.Instruction.{Instruction}
use Rattle.tclv_exprp.specs.declared.instructions.Instruction.TheVariants as act
use Rattle.tclv_exprp.specs.Flat.{Layer, step, steps, arguments, choice, node, flat_at}

-- these instructions are laid behind those that were there
abbrev pub Lays : List Instruction → List Instruction → List Instruction → Type 0
Lays old new xs = new ≡ old ++ reverse xs

pub lays_one : (old new : List Instruction) (i : Instruction) → new ≡ old ++ i ∷ [] → Lays old new (i ∷ [])
lays_one old new i h = h

-- what is laid later comes first
pub lays_both : (old mid new xs ys : List Instruction) → Lays old mid ys → Lays mid new xs → Lays old new (xs ++ ys)
lays_both old mid new xs ys h k = k ∙ ap (λ m. m ++ reverse xs) h ∙ append_assoc old (reverse ys) (reverse xs) ∙ ap (λ r. old ++ r) (sym (reverse-append xs ys))

pub lays_count : (old new xs : List Instruction) → Lays old new xs → length new ≡ length old + length xs
lays_count old new xs h = ap length h ∙ length-append old (reverse xs) ∙ ap (λ n. length old + n) (length-reverse xs)

pub lays_as : (old new xs ys : List Instruction) → xs ≡ ys → Lays old new xs → Lays old new ys
lays_as old new xs ys e h = subst (λ zs. Lays old new zs) e h

-- the last of several is laid: what is laid and what is to be laid is the same
pub next_last : (out new item before all : List Instruction) → Lays out new item → all ≡ before ++ item → new ++ reverse before ≡ out ++ reverse all
next_last out new item before all h k =
    ap (λ o. o ++ reverse before) h ∙ append_assoc out (reverse item) (reverse before) ∙ ap (λ r. out ++ r) (sym (reverse-append before item)) ∙ ap (λ xs. out ++ reverse xs) (sym k)

pub none_left : (out new all : List Instruction) → all ≡ [] → out ++ reverse all ≡ new → out ≡ new
none_left out new all e h = sym (append-nil out) ∙ ap (λ xs. out ++ reverse xs) (sym e) ∙ h

-- what stands behind the test of `?:`, from the last to the first
pub choice_laid : (old a b c d e : List Instruction) (n m : ℕ) (one other : List Instruction) →
    Lays old a other → b ≡ a ++ act.Forget ∷ [] → c ≡ b ++ act.Skip n ∷ [] → Lays c d one → e ≡ d ++ act.Forget ∷ [] → n ≡ length b - length old → m ≡ length e - length b →
    e ++ act.SkipIf false m ∷ [] ≡ old ++ reverse (choice one other)
choice_laid old a b c d e n m one other ha hb hc hd he hn hm =
    let to-b : Lays old b (act.Forget ∷ other) = lays_both old a b (act.Forget ∷ []) other ha hb in
    let to-c : Lays old c (act.Skip n ∷ act.Forget ∷ other) = lays_both old b c (act.Skip n ∷ []) (act.Forget ∷ other) to-b hc in
    let to-d : Lays old d (one ++ (act.Skip n ∷ act.Forget ∷ other)) = lays_both old c d one (act.Skip n ∷ act.Forget ∷ other) to-c hd in
    let to-e : Lays old e (act.Forget ∷ one ++ (act.Skip n ∷ act.Forget ∷ other)) = lays_both old d e (act.Forget ∷ []) (one ++ (act.Skip n ∷ act.Forget ∷ other)) to-d he in
    let last : Lays old (e ++ act.SkipIf false m ∷ []) (act.SkipIf false m ∷ act.Forget ∷ one ++ (act.Skip n ∷ act.Forget ∷ other)) =
    lays_both old e (e ++ act.SkipIf false m ∷ []) (act.SkipIf false m ∷ []) (act.Forget ∷ one ++ (act.Skip n ∷ act.Forget ∷ other)) to-e refl in
    let high : length e ≡ length old + suc (length one + suc (suc (length other))) = lays_count old e (act.Forget ∷ one ++ (act.Skip n ∷ act.Forget ∷ other)) to-e ∙ ap (λ k. length old + suc k) (length-append one (act.Skip n ∷ act.Forget ∷ other)) in
    let low : length b ≡ length old + suc (length other) = lays_count old b (act.Forget ∷ other) to-b in
    let n-is : n ≡ suc (length other) = omega (arith, hn, low) in
    let m-is : m ≡ suc (suc (length one)) = omega (arith, hm, low, high) in
    last ∙ ap (λ k. old ++ reverse (act.SkipIf false k ∷ act.Forget ∷ one ++ (act.Skip n ∷ act.Forget ∷ other))) m-is
    ∙ ap (λ k. old ++ reverse (act.SkipIf false (suc (suc (length one))) ∷ act.Forget ∷ one ++ (act.Skip k ∷ act.Forget ∷ other))) n-is

-- ---- the last of several

pub steps_more : (flat : Layer) (ss ts : List Step) → steps flat (ss ++ ts) ≡ steps flat ss ++ steps flat ts
unfolding steps
steps_more flat [] ts = refl
steps_more flat (s ∷ ss) ts = ap (λ r. step flat (out-Step s).op (out-Step s).right ++ r) (steps_more flat ss ts) ∙ sym (append_assoc (step flat (out-Step s).op (out-Step s).right) (steps flat ss) (steps flat ts))

pub steps_last : (flat : Layer) (ss : List Step) (s : Step) → steps flat (ss ++ s ∷ []) ≡ steps flat ss ++ step flat (out-Step s).op (out-Step s).right
unfolding steps
steps_last flat ss s = steps_more flat ss (s ∷ []) ∙ ap (λ r. steps flat ss ++ r) (append-nil (step flat (out-Step s).op (out-Step s).right))

pub arguments_more : (flat : Layer) (es fs : List ExprTree) → arguments flat (es ++ fs) ≡ arguments flat es ++ arguments flat fs
unfolding arguments
arguments_more flat [] fs = refl
arguments_more flat (e ∷ es) fs = ap (λ r. flat e ++ r) (arguments_more flat es fs) ∙ sym (append_assoc (flat e) (arguments flat es) (arguments flat fs))

pub arguments_last : (flat : Layer) (es : List ExprTree) (e : ExprTree) → arguments flat (es ++ e ∷ []) ≡ arguments flat es ++ flat e
unfolding arguments
arguments_last flat es e = arguments_more flat es (e ∷ []) ∙ ap (λ r. arguments flat es ++ r) (append-nil (flat e))

-- ---- one layer of a tree

module _ (flat : Layer) (e : ExprTree) where
  pub literal_node : (text : Text) → e ≡ tree.Literal text → node flat (out-ExprTree e) ≡ act.Operate (op.Literal text) ∷ []
  literal_node text h = ap (λ x. node flat (out-ExprTree x)) (h ∙ sym (tree.rolls-Literal text)) ∙ search (rules, the_lemmas)

  pub parts_node : (parts : List Part) → e ≡ tree.Parts parts → node flat (out-ExprTree e) ≡ act.Operate (op.Parts parts) ∷ []
  parts_node parts h = ap (λ x. node flat (out-ExprTree x)) (h ∙ sym (tree.rolls-Parts parts)) ∙ search (rules, the_lemmas)

  pub unary_node : (o : Op1) (x : ExprTree) → e ≡ tree.Unary o x → node flat (out-ExprTree e) ≡ flat x ++ (act.Operate (op.Unary o) ∷ [])
  unary_node o x h = ap (λ y. node flat (out-ExprTree y)) (h ∙ sym (tree.rolls-Unary o x)) ∙ search (rules, the_lemmas)

  pub chain_node : (x : ExprTree) (ss : List Step) → e ≡ tree.Chain x ss → node flat (out-ExprTree e) ≡ flat x ++ steps flat ss
  chain_node x ss h = ap (λ y. node flat (out-ExprTree y)) (h ∙ sym (tree.rolls-Chain x ss)) ∙ search (rules, the_lemmas)

  pub cond_node : (x a b : ExprTree) → e ≡ tree.Cond x a b → node flat (out-ExprTree e) ≡ flat x ++ choice (flat a) (flat b)
  cond_node x a b h = ap (λ y. node flat (out-ExprTree y)) (h ∙ sym (tree.rolls-Cond x a b)) ∙ search (rules, the_lemmas)

  pub call_node : (name : Text) (es : List ExprTree) → e ≡ tree.Call name es → node flat (out-ExprTree e) ≡ arguments flat es ++ (act.Operate (op.Call name (length es)) ∷ [])
  call_node name es h = ap (λ y. node flat (out-ExprTree y)) (h ∙ sym (tree.rolls-Call name es)) ∙ search (rules, the_lemmas)

-- ---- levels

pub no_level : (levels : ℕ) (e : ExprTree) → levels ≡ 0 → flat_at levels e ≡ act.Operate op.TooDeep ∷ []
unfolding flat_at
no_level levels e h = ap (λ n. flat_at n e) h

pub one_level : (levels : ℕ) (e : ExprTree) → 0 < levels → flat_at levels e ≡ node (flat_at (levels - 1)) (out-ExprTree e)
unfolding flat_at
one_level zero e h = absurd (omega (arith, h))
one_level (suc n) e h =
    let one : n ≡ suc n - 1 = omega arith in
    ap (λ k. node (flat_at k) (out-ExprTree e)) one
