-- The recursions of rows and of arguments, without a count of turns.
use Rattle.std.proofs.Common.{◌≡◌, ℕ, zero, suc, ◌<◌, ◌≤◌, ◌==◌, ◌∷◌, [], List, Bool, true, false, cond, drop, Option, Some, None, Ok, Err, refl, sym, ap, ◌∙◌, arith, length}
use Rattle.std.proofs.lemmas.Bool.{eqb-true}
use Rattle.tclv_parse.specs.Fix.{go, fix, IsLocal}
use Rattle.tclv_parse.specs.Runs.{Text}
use Rattle.tclv_exprp.specs.declared.tree.ExprTree.{ExprTree}
use Rattle.tclv_exprp.specs.declared.tree.Step.{Step}
use Rattle.tclv_exprp.specs.declared.operators.Infix.{Infix}
use Rattle.tclv_exprp.specs.declared.faults.Fault.TheVariants.{TooDeep}
use Rattle.tclv_exprp.specs.Fronts.{first, blanks}
use Rattle.tclv_exprp.specs.Infixes.{at_level, behind, operator, infix_of, double_of, word_of, single_of}
use Rattle.tclv_exprp.specs.Outcomes.{Outcome, Parser, and_then, after}
use Rattle.tclv_exprp.specs.ExpressionGrammar.{step, steps, steps_by, steps_step, binary, readers, more_step, more_arguments, stray}
use Rattle.tclv_exprp.proofs.ScriptLemmas.{Within}
use Rattle.tclv_exprp.proofs.ShrinkLemmas.{Shrinks, blanks_less, behind_less, readers_shrink, binary_shrinks}

module _ {A : Type 0} (step : (Text → A) → Text → A) (stuck : A) (local : IsLocal step) where
  enough : (n m : ℕ) (t : Text) → length t ≤ n → length t ≤ m → go step stuck n t ≡ go step stuck m t
  unfolding go
  enough zero zero t p q = refl
  enough zero (suc m) t p q = local _ _ t (λ u h. absurd (omega arith))
  enough (suc n) zero t p q = local _ _ t (λ u h. absurd (omega arith))
  enough (suc n) (suc m) t p q = local _ _ t (λ u h. enough n m u (omega arith) (omega arith))

  once : (t : Text) → go step stuck (suc (length t)) t ≡ step (fix step stuck) t
  unfolding go fix
  once t = local _ _ t (λ u h. enough (length t) (length u) u (omega arith) (omega arith))

  fixed : (t : Text) → fix step stuck t ≡ step (fix step stuck) t
  unfolding fix
  fixed t = enough (length t) (suc (length t)) t (omega arith) (omega arith) ∙ once t

-- what is read behind an outcome is the same where it is the same on texts no longer than this
follow : {A B : Type 0} (k : ℕ) (f g : Text → Outcome (List B)) (xs : A → List B) (o : Outcome A) → Within k o → ((u : Text) → length u ≤ k → f u ≡ g u) → and_then o (λ x u. after (xs x) (f u)) ≡ and_then o (λ x u. after (xs x) (g u))
follow k f g xs (Ok q) w h = ap (after (xs q.0)) (h q.1 w)
follow k f g xs (Err e) w h = refl

-- ---- rows

nothing : (level : ℕ) → at_level level [] ≡ None
unfolding at_level operator infix_of double_of word_of single_of first
nothing level = refl

smaller : (level : ℕ) (op : Infix) (t : Text) → at_level level t ≡ Some op → length (behind op t) < length t
smaller level op [] e = let z : None ≡ Some op = sym (nothing level) ∙ e in cc
smaller level op (c ∷ t) e = let h = behind_less op (c ∷ t) in omega arith

pub past_operator : (level : ℕ) (op : Infix) (t : Text) → at_level level (blanks t) ≡ Some op → length (behind op (blanks t)) < length t
past_operator level op t e = omega (arith, smaller level op (blanks t) e, blanks_less t)

module _ (p : Parser ExprTree) (shrinks : Shrinks p) (level : ℕ) where
  same_by : (f g : Parser (List Step)) (t : Text) (o : Option Infix) → at_level level (blanks t) ≡ o → ((u : Text) → length u < length t → f u ≡ g u) → steps_by p level f t o ≡ steps_by p level g t o
  same_by f g t None e h = refl
  same_by f g t (Some op) e h =
      let a = past_operator level op t e in
      follow (length (behind op (blanks t))) f g (λ x. step op x ∷ []) (p (behind op (blanks t))) (shrinks (behind op (blanks t))) (λ u k. h u (omega arith))

  steps_are : (t : Text) → steps p level t ≡ steps_by p level (steps p level) t (at_level level (blanks t))
  unfolding steps
  steps_are t = fixed (steps_step p level) (Err TooDeep) (λ f g t h. same_by f g t (at_level level (blanks t)) refl h) t

pub rows_are : (total n level : ℕ) (t : Text) →
    steps (binary (readers total n).1 level) level t ≡ steps_by (binary (readers total n).1 level) level (steps (binary (readers total n).1 level) level) t (at_level level (blanks t))
rows_are total n level t = steps_are (binary (readers total n).1 level) (binary_shrinks total n level) level t

-- ---- arguments

at_end : first [] ≡ 0
unfolding first
at_end = refl

past_first : (c : ℕ) (t : Text) → first t ≡ suc c → length (drop 1 t) < length t
past_first c [] e = let z : 0 ≡ suc c = sym at_end ∙ e in cc
past_first c (d ∷ t) e = omega arith

pub past_mark : (c : ℕ) (t : Text) → first (blanks t) ≡ suc c → length (drop 1 (blanks t)) < length t
past_mark c t e = omega (arith, past_first c (blanks t) e, blanks_less t)

module _ (total : ℕ) (p : Parser ExprTree) (shrinks : Shrinks p) where
  same_test : (f g : Parser (List ExprTree)) (t : Text) (x : Bool) → (first (blanks t) == 44) ≡ x → ((u : Text) → length u < length t → f u ≡ g u) →
      cond x (and_then (p (drop 1 (blanks t))) (λ y u. after (y ∷ []) (f u))) (cond (first (blanks t) == 41) (Ok ([], drop 1 (blanks t))) (Err (stray total (blanks t))))
      ≡ cond x (and_then (p (drop 1 (blanks t))) (λ y u. after (y ∷ []) (g u))) (cond (first (blanks t) == 41) (Ok ([], drop 1 (blanks t))) (Err (stray total (blanks t))))
  same_test f g t false e h = refl
  same_test f g t true e h =
      let a = past_mark 43 t (eqb-true (first (blanks t)) 44 e) in
      follow (length (drop 1 (blanks t))) f g (λ x. x ∷ []) (p (drop 1 (blanks t))) (shrinks (drop 1 (blanks t))) (λ u k. h u (omega arith))

  more_are : (t : Text) → more_arguments total p t ≡ more_step total p (more_arguments total p) t
  unfolding more_arguments
  more_are t = fixed (more_step total p) (Err TooDeep) (λ f g t h. same_test f g t (first (blanks t) == 44) refl h) t

pub arguments_are : (total n : ℕ) (t : Text) → more_arguments total (readers total n).2 t ≡ more_step total (readers total n).2 (more_arguments total (readers total n).2) t
arguments_are total n t = more_are total (readers total n).2 (readers_shrink total n).2 t
