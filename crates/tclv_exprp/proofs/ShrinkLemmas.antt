-- What the readers of expressions leave behind is never longer than what they were given, so that no count of turns shows.
use Rattle.std.proofs.Common.{ℕ, zero, suc, ◌+◌, ◌≤◌, ◌==◌, ◌∷◌, [], List, Bool, true, false, cond, drop, take, Option, Some, None, Result, Ok, Err, ℤ, arith, length, length-drop}
use Rattle.tclv_text.specs.Cursors.{sign}
use Rattle.tclv_text.specs.declared.cursors.Sign.{Sign}
use Rattle.tclv_text.specs.declared.cursors.Sign.TheVariants as s
use Rattle.tclv_text.specs.declared.numbers.WholeFault.{WholeFault}
use Rattle.tclv_text.specs.declared.numbers.WholeFault.TheVariants as w
use Rattle.tclv_text.specs.Numbers.{whole}
use Rattle.tclv_text.specs.Truths.{truth}
use Rattle.tclv_parse.specs.declared.runs.Form.TheVariants as form
use Rattle.tclv_parse.specs.declared.runs.Run.TheVariants as run
use Rattle.tclv_parse.specs.declared.tree.Part.{Part}
use Rattle.tclv_parse.specs.Fix.{go, fix}
use Rattle.tclv_parse.specs.Runs.{Text}
use Rattle.tclv_parse.specs.Runs as script
use Rattle.tclv_parse.specs.Readings.{End, done}
use Rattle.tclv_parse.specs.Grammar as g
use Rattle.tclv_exprp.specs.declared.tree.ExprTree.{ExprTree}
use Rattle.tclv_exprp.specs.declared.tree.ExprTree.TheVariants as tree
use Rattle.tclv_exprp.specs.declared.tree.Step.{Step}
use Rattle.tclv_exprp.specs.declared.operators.Infix.{Infix}
use Rattle.tclv_exprp.specs.declared.faults.Fault.TheVariants.{TooDeep, WrongCount}
use Rattle.tclv_exprp.specs.declared.fronts.Class.TheVariants as class
use Rattle.tclv_exprp.specs.declared.functions.Count.{Count}
use Rattle.tclv_exprp.specs.declared.operands.Begins.{Begins}
use Rattle.tclv_exprp.specs.declared.operands.Begins.TheVariants as b
use Rattle.tclv_exprp.specs.Fronts.{first, blanks, is_blank, run_len, sign_len}
use Rattle.tclv_exprp.specs.Numerals.{whole_len, lacks_digits}
use Rattle.tclv_exprp.specs.Functions.{arity, takes}
use Rattle.tclv_exprp.specs.Infixes.{at_level, behind, is_single, levels, power_level}
use Rattle.tclv_exprp.specs.Operands.{start}
use Rattle.tclv_exprp.specs.Outcomes.{Outcome, Parser, and_then, after, leaf}
use Rattle.tclv_exprp.specs.ExpressionGrammar as e
use Rattle.tclv_exprp.specs.ExpressionGrammar.{Readers, step, steps, steps_by, steps_step, binary, chained, lone, readers}
use Rattle.tclv_exprp.proofs.ScriptLemmas.{Within, wider, further, variable_less, parts_less, braced_less, deeper_less}

abbrev pub Shrinks : {A : Type 0} → Parser A → Type 0
Shrinks p = (t : Text) → Within (length t) (p t)

chains : {A B : Type 0} (n : ℕ) (o : Outcome A) (f : A → Parser B) → Within n o → ((a : A) → Shrinks (f a)) → Within n (and_then o f)
chains n (Ok p) f w g = wider (length p.1) n (f p.0 p.1) w (g p.0 p.1)
chains n (Err e) f w g = tt

adds : {A : Type 0} (n : ℕ) (xs : List A) (o : Outcome (List A)) → Within n o → Within n (after xs o)
adds n xs (Ok p) w = w
adds n xs (Err e) w = tt

either : {A : Type 0} (n : ℕ) (c : Bool) (x y : Outcome A) → Within n x → Within n y → Within n (cond c x y)
either n true x y p q = p
either n false x y p q = q

drop_less : (k : ℕ) (t : Text) → length (drop k t) ≤ length t
drop_less k t = omega (arith, length-drop k t)

choose_less : (c : Bool) (n : ℕ) (t u : Text) → length t ≤ n → length u ≤ n → length (cond c t u) ≤ n
choose_less true n t u p q = p
choose_less false n t u p q = q

pub blanks_less : (t : Text) → length (blanks t) ≤ length t
unfolding blanks
blanks_less [] = omega arith
blanks_less (c ∷ t) = choose_less (is_blank (sign (c ∷ t))) (length (c ∷ t)) _ (c ∷ t) (let h = blanks_less t in omega arith) (omega arith)

pub over_blanks : (t : Text) → length (drop 1 (blanks t)) ≤ length t
over_blanks t = omega (arith, blanks_less t, length-drop 1 (blanks t))

pub behind_less : (op : Infix) (t : Text) → length (behind op t) ≤ length (drop 1 t)
unfolding behind
behind_less op t = choose_less (is_single op) (length (drop 1 t)) _ _ (omega arith) (drop_less 1 (drop 1 t))

-- at a reader that begins further on
later : {A : Type 0} (p : Parser A) (t u : Text) → Shrinks p → length u ≤ length t → Within (length t) (p u)
later p t u h k = wider (length u) (length t) (p u) k (h u)

-- ---- rows

module _ (p : Parser ExprTree) (shrinks : Shrinks p) (level : ℕ) where
  steps_by_less : (more : Parser (List Step)) (t : Text) (o : Option Infix) → Shrinks more → Within (length t) (steps_by p level more t o)
  steps_by_less more t None h = omega arith
  steps_by_less more t (Some op) h =
      chains (length t) _ _ (later p t (behind op (blanks t)) shrinks (omega (arith, behind_less op (blanks t), over_blanks t)))
      (λ x u. adds (length u) (step op x ∷ []) _ (h u))

  steps_go : (n : ℕ) → Shrinks (go (steps_step p level) (Err TooDeep) n)
  unfolding go
  steps_go zero t = steps_by_less (λ _. Err TooDeep) t (at_level level (blanks t)) (λ _. tt)
  steps_go (suc n) t = steps_by_less (go (steps_step p level) (Err TooDeep) n) t (at_level level (blanks t)) (steps_go n)

  steps_less : Shrinks (steps p level)
  unfolding steps fix
  steps_less t = steps_go (length t) t

binary_less : (p : Parser ExprTree) → Shrinks p → (level : ℕ) → Shrinks (binary p level)
unfolding binary
binary_less p h zero t = h t
binary_less p h (suc level) t =
    chains (length t) _ _ (binary_less p h level t) (λ x u. chains (length u) _ _ (steps_less (binary p level) (binary_less p h level) level u) (λ ys v. omega arith))

-- ---- leaves

leaf_less : {A : Type 0} (n at : ℕ) (x : End A) → Within n x → Within n (leaf at x)
leaf_less n at (Ok p) w = w
leaf_less n at (Err e) w = tt

sized_by_less : (n : ℕ) (x t : Text) (r : Result ℤ WholeFault) → length t ≤ n → Within n (e.sized_by x t r)
sized_by_less n x t (Ok z) h = h
sized_by_less n x t (Err w.TooLarge) h = tt
sized_by_less n x t (Err _) h = h

sized_less : (n : ℕ) (x t : Text) → length t ≤ n → Within n (e.sized x t)
unfolding e.sized
sized_less n x t h = sized_by_less n x t (whole x) h

module _ (total : ℕ) where
  number_less : Shrinks (e.number total)
  unfolding e.number
  number_less t =
      let n = sign_len t in
      let u = drop n t in
      either (length t) _ (Err _) _ tt (either (length t) (lacks_digits u) (Err _) (e.sized (take (n + whole_len u) t) (drop (n + whole_len u) t)) tt (sized_less (length t) (take (n + whole_len u) t) (drop (n + whole_len u) t) (drop_less (n + whole_len u) t)))

  variable_is_less : Shrinks (e.variable total)
  unfolding e.variable
  variable_is_less t =
      chains (length t) _ _
      (leaf_less (length t) (g.place total t) _ (variable_less (g.deeper_by total g.max_depth) (deeper_less total g.max_depth) false (done []) (λ u. omega arith) t (script.run_len run.Variable t) (script.run_end run.Variable t)))
      (λ ps u. omega arith)

  end_quote_by_less : (at : ℕ) (ps : List Part) (t : Text) (x : Sign) → Within (length t) (e.end_quote_by at ps t x)
  end_quote_by_less at ps t s.Quote = drop_less 1 t
  end_quote_by_less at ps t _ = tt

  end_quote_less : (at : ℕ) (ps : List Part) → Shrinks (e.end_quote at ps)
  unfolding e.end_quote
  end_quote_less at ps t = end_quote_by_less at ps t (sign t)

  quoted_less : Shrinks (e.quoted total)
  unfolding e.quoted
  quoted_less t =
      chains (length t) _ _
      (leaf_less (length t) (g.place total t) _ (further 1 t _ (parts_less (g.deeper_by total g.max_depth) (deeper_less total g.max_depth) false form.Quoted (drop 1 t))))
      (end_quote_less (g.place total t))

  braced_is_less : Shrinks (e.braced total)
  unfolding e.braced
  braced_is_less t = chains (length t) _ _ (leaf_less (length t) (g.place total t) _ (further 1 t _ (braced_less (drop 1 t) 0))) (λ x u. omega arith)

  bracketed_less : Shrinks (e.bracketed total)
  unfolding e.bracketed
  bracketed_less t = chains (length t) _ _ (leaf_less (length t) (g.place total t) _ ((deeper_less total g.max_depth).script t)) (λ x u. omega arith)

  word_by_less : (at len : ℕ) (x t : Text) (o : Option Bool) → Within (length t) (e.word_by at len x t o)
  word_by_less at len x t None = tt
  word_by_less at len x t (Some v) = omega arith

  word_less : (at len : ℕ) (x : Text) → Shrinks (e.word at len x)
  unfolding e.word
  word_less at len x t = word_by_less at len x t (truth x)

  -- ---- functions

  module _ (p : Parser ExprTree) (shrinks : Shrinks p) where
    more_less : (more : Parser (List ExprTree)) → Shrinks more → Shrinks (e.more_step total p more)
    more_less more h t =
        either (length t) (first (blanks t) == 44) _ _
        (chains (length t) _ _ (later p t (drop 1 (blanks t)) shrinks (over_blanks t)) (λ x u. adds (length u) (x ∷ []) _ (h u)))
        (either (length t) (first (blanks t) == 41) (Ok ([], drop 1 (blanks t))) (Err (e.stray total (blanks t))) (over_blanks t) tt)

    more_go : (n : ℕ) → Shrinks (go (e.more_step total p) (Err TooDeep) n)
    unfolding go
    more_go zero t = more_less (λ _. Err TooDeep) (λ _. tt) t
    more_go (suc n) t = more_less (go (e.more_step total p) (Err TooDeep) n) (more_go n) t

    more_arguments_less : Shrinks (e.more_arguments total p)
    unfolding e.more_arguments fix
    more_arguments_less t = more_go (length t) t

    arguments_less : Shrinks (e.arguments total p)
    unfolding e.arguments
    arguments_less t = either (length t) (first (blanks t) == 41) (Ok ([], drop 1 (blanks t))) _ (over_blanks t) (chains (length t) _ _ (shrinks t) (λ x u. adds (length u) (x ∷ []) _ (more_arguments_less u)))

    call_by_less : (at len : ℕ) (x : Text) (o : Option Count) (t : Text) → Within (length t) (e.call_by total p at len x t o)
    call_by_less at len x None t = tt
    call_by_less at len x (Some a) t = chains (length t) _ _ (arguments_less t) (λ xs u. either (length u) (takes a (length xs)) (Ok (tree.Call x xs, u)) (Err (WrongCount at len)) (omega arith) tt)

    named_by_less : (at len : ℕ) (x : Text) → Shrinks (e.named_by total p at len x)
    named_by_less at len x t =
        either (length t) (first (blanks t) == 40) _ _
        (wider (length (drop 1 (blanks t))) (length t) _ (over_blanks t) (call_by_less at len x (arity x) (drop 1 (blanks t))))
        (word_less at len x t)

    named_less : Shrinks (e.named total p)
    unfolding e.named
    named_less t = let n = run_len class.Name t in further n t _ (named_by_less (g.place total t) n (take n t) (drop n t))

  -- ---- operands

  deep_by_less : (n : ℕ) (t : Text) (x : Begins) → Within n (e.deep_by total t x)
  deep_by_less n t b.Number = tt
  deep_by_less n t (b.Unary op) = tt
  deep_by_less n t b.Variable = tt
  deep_by_less n t b.Quoted = tt
  deep_by_less n t b.Braced = tt
  deep_by_less n t b.Script = tt
  deep_by_less n t b.Paren = tt
  deep_by_less n t b.Name = tt
  deep_by_less n t b.Other = tt

  deep_less : Shrinks (e.deep total)
  unfolding e.deep
  deep_less t = deep_by_less (length t) (blanks t) (start (blanks t))

  closed_less : (x : ExprTree) → Shrinks (e.closed total x)
  unfolding e.closed
  closed_less x t = either (length t) (first (blanks t) == 41) (Ok (x, drop 1 (blanks t))) (Err (e.stray total (blanks t))) (over_blanks t) tt

  module _ (r : Readers) (r0 : Shrinks r.0) (r1 : Shrinks r.1) (r2 : Shrinks r.2) where
    operand_by_less : (t : Text) (x : Begins) → Within (length t) (e.operand_by total r t x)
    operand_by_less t b.Number = number_less t
    operand_by_less t (b.Unary op) = chains (length t) _ _ (later r.0 t (drop 1 t) r0 (drop_less 1 t)) (λ x u. omega arith)
    operand_by_less t b.Variable = variable_is_less t
    operand_by_less t b.Quoted = quoted_less t
    operand_by_less t b.Braced = braced_is_less t
    operand_by_less t b.Script = bracketed_less t
    operand_by_less t b.Paren = chains (length t) _ _ (later r.2 t (drop 1 t) r2 (drop_less 1 t)) closed_less
    operand_by_less t b.Name = named_less r.2 r2 t
    operand_by_less t b.Other = tt

    operand_less : Shrinks (e.operand total r)
    unfolding e.operand
    operand_less t = wider (length (blanks t)) (length t) _ (blanks_less t) (operand_by_less (blanks t) (start (blanks t)))

    power_by_less : (x : ExprTree) (t : Text) (o : Option Infix) → Within (length t) (e.power_by total r x t o)
    power_by_less x t None = omega arith
    power_by_less x t (Some op) = chains (length t) _ _ (later r.1 t (behind op (blanks t)) r1 (omega (arith, behind_less op (blanks t), over_blanks t))) (λ y u. omega arith)

    power_less : Shrinks (e.power total r)
    unfolding e.power
    power_less t = chains (length t) _ _ (operand_less t) (λ x u. power_by_less x u (at_level power_level (blanks u)))

    otherwise_less : (x y : ExprTree) → Shrinks (e.otherwise total r x y)
    unfolding e.otherwise
    otherwise_less x y t = either (length t) (first (blanks t) == 58) _ (Err (e.stray total (blanks t))) (chains (length t) _ _ (later r.2 t (drop 1 (blanks t)) r2 (over_blanks t)) (λ z u. omega arith)) tt

    choice_less : (x : ExprTree) → Shrinks (e.choice total r x)
    unfolding e.choice
    choice_less x t = either (length t) (first (blanks t) == 63) _ (Ok (x, t)) (chains (length t) _ _ (later r.2 t (drop 1 (blanks t)) r2 (over_blanks t)) (otherwise_less x)) (omega arith)

    expr_less : Shrinks (e.expr total r)
    unfolding e.expr
    expr_less t = chains (length t) _ _ (binary_less (e.power total r) power_less levels t) choice_less

  pub readers_shrink : (n : ℕ) → Shrinks (readers total n).0 × Shrinks (readers total n).1 × Shrinks (readers total n).2
  unfolding readers
  readers_shrink zero = (deep_less, deep_less, deep_less)
  readers_shrink (suc n) =
      let h = readers_shrink n in
      (operand_less (readers total n) h.0 h.1 h.2, power_less (readers total n) h.0 h.1 h.2, expr_less (readers total n) h.0 h.1 h.2)

pub binary_shrinks : (total n level : ℕ) → Shrinks (binary (readers total n).1 level)
binary_shrinks total n level = binary_less (readers total n).1 (readers_shrink total n).1 level
