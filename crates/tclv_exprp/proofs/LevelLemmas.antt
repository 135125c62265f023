-- How many levels the trees have that the readers give.
use Rattle.std.proofs.Common.{rules, ◌≡◌, ℕ, zero, suc, ◌+◌, ◌*◌, ◌≤◌, ◌==◌, ◌∷◌, [], List, Bool, true, false, cond, drop, take, Option, Some, None, Result, Ok, Err, ℤ, refl, sym, ap, ◌∙◌, subst, arith, length}
use Rattle.std.specs.List.{AllByRecursion}
use Rattle.tclv_text.specs.Cursors.{sign}
use Rattle.tclv_text.specs.declared.cursors.Sign.{Sign}
use Rattle.tclv_text.specs.declared.cursors.Sign.TheVariants as s
use Rattle.tclv_text.specs.declared.numbers.WholeFault.{WholeFault}
use Rattle.tclv_text.specs.declared.numbers.WholeFault.TheVariants as w
use Rattle.tclv_text.specs.Numbers.{whole}
use Rattle.tclv_text.specs.Truths.{truth}
use Rattle.tclv_parse.specs.declared.tree.Part.{Part}
use Rattle.tclv_parse.specs.declared.tree.Part.TheVariants as part
use Rattle.tclv_parse.specs.Grammar as g
use Rattle.tclv_parse.specs.declared.runs.Form.TheVariants as form
use Rattle.tclv_parse.specs.declared.runs.Run.TheVariants as run
use Rattle.tclv_parse.specs.Readings.{End, done}
use Rattle.tclv_parse.specs.Levels as script
use Rattle.tclv_parse.specs.Runs as script_runs
use Rattle.tclv_parse.specs.Fix.{go, fix}
use Rattle.tclv_parse.specs.Runs.{Text}
use Rattle.tclv_exprp.specs.declared.tree.ExprTree.{ExprTree, out-ExprTree, the_lemmas}
use Rattle.tclv_exprp.specs.declared.tree.ExprTree.TheVariants as tree
use Rattle.tclv_exprp.specs.declared.tree.ExprTree.TheOpen as layer
use Rattle.tclv_exprp.specs.declared.tree.Step.{Step, out-Step}
use Rattle.tclv_exprp.specs.declared.tree.Step as step_type
use Rattle.tclv_exprp.specs.declared.operators.Infix.{Infix}
use Rattle.tclv_exprp.specs.declared.operators.Op1.{Op1}
use Rattle.tclv_exprp.specs.declared.faults.Fault.TheVariants.{TooDeep, WrongCount}
use Rattle.tclv_exprp.specs.declared.fronts.Class.TheVariants as class
use Rattle.tclv_exprp.specs.declared.functions.Count.{Count}
use Rattle.tclv_exprp.specs.declared.operands.Begins.{Begins}
use Rattle.tclv_exprp.specs.declared.operands.Begins.TheVariants as b
use Rattle.tclv_exprp.specs.Fronts.{first, blanks, run_len, sign_len}
use Rattle.tclv_exprp.specs.Numerals.{whole_len, lacks_digits}
use Rattle.tclv_exprp.specs.Functions.{arity, takes}
use Rattle.tclv_exprp.specs.Infixes.{at_level, behind, levels, power_level}
use Rattle.tclv_exprp.specs.Operands.{start}
use Rattle.tclv_exprp.specs.Outcomes.{Outcome, Parser, and_then, after, leaf}
use Rattle.tclv_exprp.specs.ExpressionGrammar as e
use Rattle.tclv_exprp.specs.ExpressionGrammar.{Readers, step, steps, steps_by, steps_step, binary, chained, lone, readers, expression, max_room}
use Rattle.tclv_exprp.specs.Levels.{EachOperand, HasLevels, max_levels}

-- ---- a greater bound

all_more : {A : Type 0} (P Q : A → Type 0) → ((a : A) → P a → Q a) → (xs : List A) → AllByRecursion P xs → AllByRecursion Q xs
all_more P Q f [] h = tt
all_more P Q f (x ∷ xs) h = (f x h.0, all_more P Q f xs h.1)

each_more : (P Q : ExprTree → Type 0) → ((x : ExprTree) → P x → Q x) → (y : layer.ExprTree-F ExprTree Step) → EachOperand P y → EachOperand Q y
each_more P Q f (layer.Literal text) h = tt
each_more P Q f (layer.Parts parts) h = h
each_more P Q f (layer.Unary op x) h = f x h
each_more P Q f (layer.Chain x ss) h = (f x h.0, all_more (λ s. P (out-Step s).right) (λ s. Q (out-Step s).right) (λ s. f (out-Step s).right) ss h.1)
each_more P Q f (layer.Cond test a b) h = (f test h.0, (f a h.1.0, f b h.1.1))
each_more P Q f (layer.Call name es) h = all_more P Q f es h

pub more : (n m : ℕ) (x : ExprTree) → n ≤ m → HasLevels n x → HasLevels m x
unfolding HasLevels
more zero m x l h = absurd h
more (suc n) zero x l h = absurd (omega arith)
more (suc n) (suc m) x l h = each_more (HasLevels n) (HasLevels m) (λ y. more n m y (omega arith)) (out-ExprTree x) h

-- ---- trees

module _ (n : ℕ) where
  literal_has : (text : Text) → HasLevels (suc n) (tree.Literal text)
  unfolding HasLevels
  literal_has text =
      let opens : out-ExprTree (tree.Literal text) ≡ layer.Literal text = ap (λ p. out-ExprTree p) (sym (tree.rolls-Literal text)) ∙ search (rules, the_lemmas) in
      subst (EachOperand (HasLevels n)) (sym opens) tt

  parts_has : (parts : List Part) → AllByRecursion (script.HasLevels g.max_depth) parts → HasLevels (suc n) (tree.Parts parts)
  unfolding HasLevels
  parts_has parts h =
      let opens : out-ExprTree (tree.Parts parts) ≡ layer.Parts parts = ap (λ p. out-ExprTree p) (sym (tree.rolls-Parts parts)) ∙ search (rules, the_lemmas) in
      subst (EachOperand (HasLevels n)) (sym opens) h

  unary_has : (op : Op1) (x : ExprTree) → HasLevels n x → HasLevels (suc n) (tree.Unary op x)
  unfolding HasLevels
  unary_has op x h =
      let opens : out-ExprTree (tree.Unary op x) ≡ layer.Unary op x = ap (λ p. out-ExprTree p) (sym (tree.rolls-Unary op x)) ∙ search (rules, the_lemmas) in
      subst (EachOperand (HasLevels n)) (sym opens) h

  chain_has : (x : ExprTree) (ss : List Step) → HasLevels n x → AllByRecursion (λ s. HasLevels n (out-Step s).right) ss → HasLevels (suc n) (tree.Chain x ss)
  unfolding HasLevels
  chain_has x ss h k =
      let opens : out-ExprTree (tree.Chain x ss) ≡ layer.Chain x ss = ap (λ p. out-ExprTree p) (sym (tree.rolls-Chain x ss)) ∙ search (rules, the_lemmas) in
      subst (EachOperand (HasLevels n)) (sym opens) (h, k)

  cond_has : (x y z : ExprTree) → HasLevels n x → HasLevels n y → HasLevels n z → HasLevels (suc n) (tree.Cond x y z)
  unfolding HasLevels
  cond_has x y z h k l =
      let opens : out-ExprTree (tree.Cond x y z) ≡ layer.Cond x y z = ap (λ p. out-ExprTree p) (sym (tree.rolls-Cond x y z)) ∙ search (rules, the_lemmas) in
      subst (EachOperand (HasLevels n)) (sym opens) (h, (k, l))

  call_has : (name : Text) (xs : List ExprTree) → AllByRecursion (HasLevels n) xs → HasLevels (suc n) (tree.Call name xs)
  unfolding HasLevels
  call_has name xs h =
      let opens : out-ExprTree (tree.Call name xs) ≡ layer.Call name xs = ap (λ p. out-ExprTree p) (sym (tree.rolls-Call name xs)) ∙ search (rules, the_lemmas) in
      subst (EachOperand (HasLevels n)) (sym opens) h

  step_has : (op : Infix) (x : ExprTree) → HasLevels n x → HasLevels n (out-Step (step op x)).right
  step_has op x h =
      let opens : (out-Step (step op x)).right ≡ x = search (rules, step_type.the_lemmas) in
      subst (HasLevels n) (sym opens) h

-- ---- outcomes

-- what is read has this
abbrev Holds : {A : Type 0} → (A → Type 0) → Outcome A → Type 0
Holds P (Ok p) = P p.0
Holds P (Err e) = Unit {0}

abbrev Always : {A : Type 0} → (A → Type 0) → Parser A → Type 0
Always P p = (t : Text) → Holds P (p t)

then : {A B : Type 0} (P : A → Type 0) (Q : B → Type 0) (o : Outcome A) (f : A → Parser B) → Holds P o → ((a : A) (u : Text) → P a → Holds Q (f a u)) → Holds Q (and_then o f)
then P Q (Ok p) f h k = k p.0 p.1 h
then P Q (Err e) f h k = tt

anything : {A : Type 0} (o : Outcome A) → Holds (λ _. Unit {0}) o
anything (Ok p) = tt
anything (Err e) = tt

-- what the rules of scripts read
leaf_is : {A : Type 0} (P : A → Type 0) (at : ℕ) (o : End A) → ((a : A) (u : Text) → o ≡ Ok (a, u) → P a) → Holds P (leaf at o)
leaf_is P at (Ok p) h = h p.0 p.1 refl
leaf_is P at (Err e) h = tt

either : {A : Type 0} (P : A → Type 0) (c : Bool) (x y : Outcome A) → Holds P x → Holds P y → Holds P (cond c x y)
either P true x y h k = h
either P false x y h k = k

added : {A : Type 0} (P : A → Type 0) (x : A) (o : Outcome (List A)) → P x → Holds (AllByRecursion P) o → Holds (AllByRecursion P) (after (x ∷ []) o)
added P x (Ok p) h k = (h, k)
added P x (Err e) h k = tt

wider : (n m : ℕ) (o : Outcome ExprTree) → n ≤ m → Holds (HasLevels n) o → Holds (HasLevels m) o
wider n m (Ok p) l h = more n m p.0 l h
wider n m (Err e) l h = tt

-- ---- rows

abbrev StepHas : ℕ → Step → Type 0
StepHas n x = HasLevels n (out-Step x).right

module _ (n : ℕ) (p : Parser ExprTree) (gives : Always (HasLevels n) p) (level : ℕ) where
  steps_by_have : (m : Parser (List Step)) → Always (AllByRecursion (StepHas n)) m → (t : Text) (o : Option Infix) → Holds (AllByRecursion (StepHas n)) (steps_by p level m t o)
  steps_by_have m h t None = tt
  steps_by_have m h t (Some op) =
      then (HasLevels n) (AllByRecursion (StepHas n)) (p (behind op (blanks t))) (λ x u. after (step op x ∷ []) (m u)) (gives (behind op (blanks t))) (λ x u g. added (StepHas n) (step op x) (m u) (step_has n op x g) (h u))

  steps_go : (k : ℕ) → Always (AllByRecursion (StepHas n)) (go (steps_step p level) (Err TooDeep) k)
  unfolding go
  steps_go zero t = steps_by_have (λ _. Err TooDeep) (λ _. tt) t (at_level level (blanks t))
  steps_go (suc k) t = steps_by_have (go (steps_step p level) (Err TooDeep) k) (steps_go k) t (at_level level (blanks t))

  steps_have : Always (AllByRecursion (StepHas n)) (steps p level)
  unfolding steps fix
  steps_have t = steps_go (length t) t

chained_has : (n : ℕ) (x : ExprTree) (ss : List Step) → HasLevels n x → AllByRecursion (StepHas n) ss → HasLevels (suc n) (chained x ss)
chained_has n x [] h k = more n (suc n) x (omega arith) h
chained_has n x (y ∷ ys) h k = chain_has n x (y ∷ ys) h k

binary_has : (n : ℕ) (p : Parser ExprTree) → Always (HasLevels n) p → (k : ℕ) → Always (HasLevels (n + k)) (binary p k)
unfolding binary
binary_has n p h zero t = wider n (n + 0) (p t) (omega arith) (h t)
binary_has n p h (suc k) t =
    let before = binary_has n p h k in
    let last : suc (n + k) ≤ n + suc k = omega arith in
    then (HasLevels (n + k)) (HasLevels (n + suc k)) (binary p k t) (λ x u. and_then (steps (binary p k) k u) (λ ys v. Ok (chained x ys, v))) (before t) (λ x u g.
    then (AllByRecursion (StepHas (n + k))) (HasLevels (n + suc k)) (steps (binary p k) k u) (λ ys v. Ok (chained x ys, v)) (steps_have (n + k) (binary p k) before k u) (λ ys v a.
    more (suc (n + k)) (n + suc k) (chained x ys) last (chained_has (n + k) x ys g a)))

-- ---- leaves

module _ (below : script.ReadersHaveLevels) (total n : ℕ) where
  abbrev Shallow : List Part → Type 0
  Shallow = AllByRecursion (script.HasLevels g.max_depth)

  sized_by_has : (x t : Text) (r : Result ℤ WholeFault) → Holds (HasLevels (suc n)) (e.sized_by x t r)
  sized_by_has x t (Ok z) = literal_has n x
  sized_by_has x t (Err w.TooLarge) = tt
  sized_by_has x t (Err _) = literal_has n x

  sized_has : (x t : Text) → Holds (HasLevels (suc n)) (e.sized x t)
  unfolding e.sized
  sized_has x t = sized_by_has x t (whole x)

  number_has : Always (HasLevels (suc n)) (e.number total)
  unfolding e.number
  number_has t =
      let k = sign_len t in
      let u = drop k t in
      either (HasLevels (suc n)) _ (Err _) _ tt (either (HasLevels (suc n)) (lacks_digits u) (Err _) (e.sized (take (k + whole_len u) t) (drop (k + whole_len u) t)) tt (sized_has (take (k + whole_len u) t) (drop (k + whole_len u) t)))

  variable_has : Always (HasLevels (suc n)) (e.variable total)
  unfolding e.variable
  variable_has t =
      let len = script_runs.run_len run.Variable t in
      let end = script_runs.run_end run.Variable t in
      let o = (g.variable_by (g.deeper_by total g.max_depth) false (done []) t len end).1 in
      then Shallow (HasLevels (suc n)) (leaf (g.place total t) o) (λ ps u. Ok (tree.Parts ps, u)) (leaf_is Shallow (g.place total t) o (λ ps u h. below.variable total len false end t u ps h)) (λ ps u h. parts_has n ps h)

  end_quote_by_has : (at : ℕ) (ps : List Part) (t : Text) (x : Sign) → Shallow ps → Holds (HasLevels (suc n)) (e.end_quote_by at ps t x)
  end_quote_by_has at ps t s.Quote h = parts_has n ps h
  end_quote_by_has at ps t _ h = tt

  end_quote_has : (at : ℕ) (ps : List Part) → Shallow ps → Always (HasLevels (suc n)) (e.end_quote at ps)
  unfolding e.end_quote
  end_quote_has at ps h t = end_quote_by_has at ps t (sign t) h

  quoted_has : Always (HasLevels (suc n)) (e.quoted total)
  unfolding e.quoted
  quoted_has t =
      let at = g.place total t in
      let o = (g.parts (g.deeper_by total g.max_depth) false form.Quoted (drop 1 t)).1 in
      then Shallow (HasLevels (suc n)) (leaf at o) (e.end_quote at) (leaf_is Shallow at o (λ ps u h. below.parts total false form.Quoted (drop 1 t) u ps h)) (λ ps u h. end_quote_has at ps h u)

  braced_has : Always (HasLevels (suc n)) (e.braced total)
  unfolding e.braced
  braced_has t = then (λ _. Unit {0}) (HasLevels (suc n)) _ (λ x u. Ok (tree.Literal x, u)) (anything _) (λ x u h. literal_has n x)

  bracketed_has : Always (HasLevels (suc n)) (e.bracketed total)
  unfolding e.bracketed
  bracketed_has t =
      let at = g.place total t in
      let o = ((g.deeper_by total g.max_depth).script t).1 in
      then (λ x. script.HasLevels g.max_depth (part.Script x)) (HasLevels (suc n)) (leaf at o) (λ x u. Ok (tree.Parts (part.Script x ∷ []), u)) (leaf_is (λ x. script.HasLevels g.max_depth (part.Script x)) at o (λ x u h. below.script total t u x h))
      (λ x u h. parts_has n (part.Script x ∷ []) (h, tt))

  word_by_has : (at len : ℕ) (x t : Text) (o : Option Bool) → Holds (HasLevels (suc n)) (e.word_by at len x t o)
  word_by_has at len x t None = tt
  word_by_has at len x t (Some v) = literal_has n x

  word_has : (at len : ℕ) (x : Text) → Always (HasLevels (suc n)) (e.word at len x)
  unfolding e.word
  word_has at len x t = word_by_has at len x t (truth x)

  -- ---- functions

  module _ (p : Parser ExprTree) (gives : Always (HasLevels n) p) where
    abbrev All : List ExprTree → Type 0
    All = AllByRecursion (HasLevels n)

    more_have : (m : Parser (List ExprTree)) → Always All m → Always All (e.more_step total p m)
    more_have m h t =
        either All (first (blanks t) == 44) _ _
        (then (HasLevels n) All (p (drop 1 (blanks t))) (λ x u. after (x ∷ []) (m u)) (gives (drop 1 (blanks t))) (λ x u g. added (HasLevels n) x (m u) g (h u)))
        (either All (first (blanks t) == 41) (Ok ([], drop 1 (blanks t))) (Err (e.stray total (blanks t))) tt tt)

    more_go : (k : ℕ) → Always All (go (e.more_step total p) (Err TooDeep) k)
    unfolding go
    more_go zero t = more_have (λ _. Err TooDeep) (λ _. tt) t
    more_go (suc k) t = more_have (go (e.more_step total p) (Err TooDeep) k) (more_go k) t

    more_arguments_have : Always All (e.more_arguments total p)
    unfolding e.more_arguments fix
    more_arguments_have t = more_go (length t) t

    arguments_have : Always All (e.arguments total p)
    unfolding e.arguments
    arguments_have t =
        either All (first (blanks t) == 41) (Ok ([], drop 1 (blanks t))) _ tt
        (then (HasLevels n) All (p t) (λ x u. after (x ∷ []) (e.more_arguments total p u)) (gives t) (λ x u g. added (HasLevels n) x (e.more_arguments total p u) g (more_arguments_have u)))

    call_by_has : (at len : ℕ) (x : Text) (o : Option Count) (t : Text) → Holds (HasLevels (suc n)) (e.call_by total p at len x t o)
    call_by_has at len x None t = tt
    call_by_has at len x (Some a) t =
        then All (HasLevels (suc n)) (e.arguments total p t) (e.counted total p at len x a) (arguments_have t) (λ xs u g. either (HasLevels (suc n)) (takes a (length xs)) (Ok (tree.Call x xs, u)) (Err (WrongCount at len)) (call_has n x xs g) tt)

    named_by_has : (at len : ℕ) (x : Text) → Always (HasLevels (suc n)) (e.named_by total p at len x)
    named_by_has at len x t = either (HasLevels (suc n)) (first (blanks t) == 40) _ _ (call_by_has at len x (arity x) (drop 1 (blanks t))) (word_has at len x t)

    named_has : Always (HasLevels (suc n)) (e.named total p)
    unfolding e.named
    named_has t = let k = run_len class.Name t in named_by_has _ k (take k t) (drop k t)

  -- ---- operands

  closed_has : (m : ℕ) (x : ExprTree) → HasLevels m x → Always (HasLevels m) (e.closed total x)
  unfolding e.closed
  closed_has m x h t = either (HasLevels m) (first (blanks t) == 41) (Ok (x, drop 1 (blanks t))) (Err (e.stray total (blanks t))) h tt

  module _ (r : Readers) (r0 : Always (HasLevels n) r.0) (r1 : Always (HasLevels n) r.1) (r2 : Always (HasLevels n) r.2) where
    operand_by_has : (t : Text) (x : Begins) → Holds (HasLevels (suc n)) (e.operand_by total r t x)
    operand_by_has t b.Number = number_has t
    operand_by_has t (b.Unary op) = then (HasLevels n) (HasLevels (suc n)) (r.0 (drop 1 t)) (λ x u. Ok (tree.Unary op x, u)) (r0 (drop 1 t)) (λ x u h. unary_has n op x h)
    operand_by_has t b.Variable = variable_has t
    operand_by_has t b.Quoted = quoted_has t
    operand_by_has t b.Braced = braced_has t
    operand_by_has t b.Script = bracketed_has t
    operand_by_has t b.Paren = then (HasLevels n) (HasLevels (suc n)) (r.2 (drop 1 t)) (e.closed total) (r2 (drop 1 t)) (λ x u h. closed_has (suc n) x (more n (suc n) x (omega arith) h) u)
    operand_by_has t b.Name = named_has r.2 r2 t
    operand_by_has t b.Other = tt

    operand_has : Always (HasLevels (suc n)) (e.operand total r)
    unfolding e.operand
    operand_has t = operand_by_has (blanks t) (start (blanks t))

    power_by_has : (x : ExprTree) (t : Text) (o : Option Infix) → HasLevels (suc n) x → Holds (HasLevels (2 + n)) (e.power_by total r x t o)
    power_by_has x t None h = more (suc n) (2 + n) x (omega arith) h
    power_by_has x t (Some op) h =
        let two : 2 + n ≡ suc (suc n) = omega arith in
        then (HasLevels n) (HasLevels (2 + n)) (r.1 (behind op (blanks t))) (λ y u. Ok (lone x op y, u)) (r1 (behind op (blanks t))) (λ y u g.
        subst (λ k. HasLevels k (lone x op y)) (sym two) (chain_has (suc n) x (step op y ∷ []) h (step_has (suc n) op y (more n (suc n) y (omega arith) g), tt)))

    power_has : Always (HasLevels (2 + n)) (e.power total r)
    unfolding e.power
    power_has t = then (HasLevels (suc n)) (HasLevels (2 + n)) (e.operand total r t) (λ x u. e.power_by total r x u (at_level power_level (blanks u))) (operand_has t) (λ x u h. power_by_has x u (at_level power_level (blanks u)) h)

    otherwise_has : (x y : ExprTree) → HasLevels (15 + n) x → HasLevels n y → Always (HasLevels (16 + n)) (e.otherwise total r x y)
    unfolding e.otherwise
    otherwise_has x y h k t =
        let next : 16 + n ≡ suc (15 + n) = omega arith in
        either (HasLevels (16 + n)) (first (blanks t) == 58) _ (Err (e.stray total (blanks t)))
        (then (HasLevels n) (HasLevels (16 + n)) (r.2 (drop 1 (blanks t))) (λ z u. Ok (tree.Cond x y z, u)) (r2 (drop 1 (blanks t))) (λ z u g.
        subst (λ j. HasLevels j (tree.Cond x y z)) (sym next) (cond_has (15 + n) x y z h (more n (15 + n) y (omega arith) k) (more n (15 + n) z (omega arith) g))))
        tt

    choice_has : (x : ExprTree) → HasLevels (15 + n) x → Always (HasLevels (16 + n)) (e.choice total r x)
    unfolding e.choice
    choice_has x h t =
        either (HasLevels (16 + n)) (first (blanks t) == 63) _ (Ok (x, t))
        (then (HasLevels n) (HasLevels (16 + n)) (r.2 (drop 1 (blanks t))) (e.otherwise total r x) (r2 (drop 1 (blanks t))) (λ y u g. otherwise_has x y h g u))
        (more (15 + n) (16 + n) x (omega arith) h)

    expr_has : Always (HasLevels (16 + n)) (e.expr total r)
    unfolding e.expr
    expr_has t =
        let rows : (2 + n) + levels ≤ 15 + n = omega arith in
        then (HasLevels (15 + n)) (HasLevels (16 + n)) (binary (e.power total r) levels t) (e.choice total r) (wider ((2 + n) + levels) (15 + n) (binary (e.power total r) levels t) rows (binary_has (2 + n) (e.power total r) power_has levels t)) (λ x u h. choice_has x h u)

-- ---- nesting

deep_by_has : (total n : ℕ) (t : Text) (x : Begins) → Holds (HasLevels n) (e.deep_by total t x)
deep_by_has total n t b.Number = tt
deep_by_has total n t (b.Unary op) = tt
deep_by_has total n t b.Variable = tt
deep_by_has total n t b.Quoted = tt
deep_by_has total n t b.Braced = tt
deep_by_has total n t b.Script = tt
deep_by_has total n t b.Paren = tt
deep_by_has total n t b.Name = tt
deep_by_has total n t b.Other = tt

deep_has : (total n : ℕ) → Always (HasLevels n) (e.deep total)
unfolding e.deep
deep_has total n t = deep_by_has total n (blanks t) (start (blanks t))

record Have (n : ℕ) (r : Readers) : Type 0 where
  first : Always (HasLevels n) r.0
  second : Always (HasLevels n) r.1
  third : Always (HasLevels n) r.2

readers_have : (below : script.ReadersHaveLevels) (total room : ℕ) → Have (16 * room) (readers total room)
unfolding readers
readers_have below total zero = record { first = deep_has total 0; second = deep_has total 0; third = deep_has total 0 }
readers_have below total (suc room) =
    let n = 16 * room in
    let r = readers total room in
    let h = readers_have below total room in
    let all : 16 + n ≡ 16 * suc room = omega arith in
    subst (λ k. Have k (e.operand total r, e.power total r, e.expr total r)) all
    (record {
      first = λ t. wider (suc n) (16 + n) (e.operand total r t) (omega arith) (operand_has below total n r h.first h.second h.third t);
      second = λ t. wider (2 + n) (16 + n) (e.power total r t) (omega arith) (power_has below total n r h.first h.second h.third t);
      third = expr_has below total n r h.first h.second h.third;
    })

-- ---- whole texts

finished_has : (total n : ℕ) (x y : ExprTree) (t : Text) → HasLevels n x → e.finished total x t ≡ Ok y → HasLevels n y
finished_has total n x y [] h k = let same : x ≡ y = cc in subst (HasLevels n) same h
finished_has total n x y (c ∷ t) h k = absurd (cc)

whole_by_has : (total n : ℕ) (o : Outcome ExprTree) (y : ExprTree) → Holds (HasLevels n) o → e.whole_by total o ≡ Ok y → HasLevels n y
whole_by_has total n (Ok p) y h k = finished_has total n p.0 y (blanks p.1) h k
whole_by_has total n (Err f) y h k = absurd (cc)

pub trees_have_levels : (below : script.ReadersHaveLevels) (t : Text) (x : ExprTree) → expression t ≡ Ok x → HasLevels max_levels x
unfolding expression
trees_have_levels below t x h = whole_by_has _ max_levels _ x ((readers_have below _ max_room).third t) h
