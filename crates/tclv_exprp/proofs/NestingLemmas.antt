-- Levels of nesting, rows of operators, and whole texts.
use Rattle.std.proofs.Common.{◌≡◌, ℕ, zero, suc, ◌<◌, ◌≤◌, ◌∷◌, [], List, Result, Ok, Err, refl, sym, ap, ◌∙◌, arith, ⊎_elim, length, length-append}
use Rattle.std.proofs.lemmas.Bool.{cases_lt}
use Rattle.std.proofs.lemmas.Bool.Decides.{nat_tests}
use Rattle.std.proofs.lemmas.Str.{encodes-chars, length-encode}
use Rattle.std.specs.Str.{chars}
use Rattle.std.specs.Char.{len_utf8}
use lib.Utf8.{encode, encodes}
use Rattle.tclv_text.specs.Cursors.{size}
use Rattle.tclv_text.specs.Texts.{IsText}
use Rattle.tclv_parse.specs.Runs.{Text}
use Rattle.tclv_exprp.specs.declared.tree.ExprTree.{ExprTree}
use Rattle.tclv_exprp.specs.declared.faults.Fault.{Fault}
use Rattle.tclv_exprp.specs.declared.faults.Fault.TheVariants as f
use Rattle.tclv_exprp.specs.declared.faults.ExprFault.{ExprFault}
use Rattle.tclv_exprp.specs.declared.faults.Stop.{Stop}
use Rattle.tclv_exprp.specs.declared.faults.Stop.TheVariants as stop
use Rattle.tclv_exprp.specs.Fronts.{blanks}
use Rattle.tclv_exprp.specs.Infixes.{at_level, power_level, levels}
use Rattle.tclv_exprp.specs.Operands.{start}
use Rattle.tclv_exprp.specs.Outcomes.{Outcome, Parser, Reads, and_then, expr_fault, stop_fault}
use Rattle.tclv_exprp.specs.ExpressionGrammar.{binary, steps, chained, readers, deep, operand, operand_by, power, power_by, choice, expr, Answers, whole_by, finished, stray}

pub reads_fails : {A B : Type 0} (o : Outcome A) (o' : Outcome B) (s : Stop) (u v : Text) → ((e : Fault) → o ≡ Err e → o' ≡ Err e) → Reads o (Err s) u → Reads o' (Err s) v
reads_fails o o' (stop.Fault e) u v f h = f e h
reads_fails o o' stop.NoMemory u v f h = tt

-- ---- nesting

pub operand_none : (total n : ℕ) (t : Text) → n ≡ 0 → (readers total n).0 t ≡ deep total t
unfolding readers
operand_none total n t e = ap (λ k. (readers total k).0 t) e

pub power_none : (total n : ℕ) (t : Text) → n ≡ 0 → (readers total n).1 t ≡ deep total t
unfolding readers
power_none total n t e = ap (λ k. (readers total k).1 t) e

pub expr_none : (total n : ℕ) (t : Text) → n ≡ 0 → (readers total n).2 t ≡ deep total t
unfolding readers
expr_none total n t e = ap (λ k. (readers total k).2 t) e

pub operand_in : (total n m : ℕ) (t : Text) → n ≡ suc m → (readers total n).0 t ≡ operand_by total (readers total m) (blanks t) (start (blanks t))
unfolding readers operand
operand_in total n m t e = ap (λ k. (readers total k).0 t) e

pub power_in : (total n m : ℕ) (t : Text) → n ≡ suc m → (readers total n).1 t ≡ and_then ((readers total n).0 t) (λ x u. power_by total (readers total m) x u (at_level power_level (blanks u)))
unfolding readers power
power_in total n m t e = ap (λ k. (readers total k).1 t) e ∙ ap (λ k. and_then ((readers total k).0 t) (λ x u. power_by total (readers total m) x u (at_level power_level (blanks u)))) (sym e)

pub expr_in : (total n m : ℕ) (t : Text) → n ≡ suc m → (readers total n).2 t ≡ and_then (binary (readers total n).1 levels t) (choice total (readers total m))
unfolding readers expr
expr_in total n m t e = ap (λ k. (readers total k).2 t) e ∙ ap (λ k. and_then (binary (readers total k).1 levels t) (choice total (readers total m))) (sym e)

-- ---- rows

pub binary_fails : (p : Parser ExprTree) (k top : ℕ) (t : Text) (e : Fault) → k ≤ top → binary p k t ≡ Err e → binary p top t ≡ Err e
unfolding binary
binary_fails p k zero t e h f = let z : k ≡ 0 = omega arith in sym (ap (λ n. binary p n t) z) ∙ f
binary_fails p k (suc top) t e h f =
    ⊎_elim
    (λ (l : top < k). let z : k ≡ suc top = omega arith in sym (ap (λ n. binary p n t) z) ∙ f)
    (λ (g : k ≤ top). ap (λ o. and_then o (λ x u. and_then (steps (binary p top) top u) (λ ys v. Ok (chained x ys, v)))) (binary_fails p k top t e g f))
    (cases_lt top k)

pub binary_next : (p : Parser ExprTree) (k n : ℕ) (t u : Text) (x : ExprTree) → n ≡ suc k → binary p k t ≡ Ok (x, u) → binary p n t ≡ and_then (steps (binary p k) k u) (λ ys v. Ok (chained x ys, v))
unfolding binary
binary_next p k n t u x e h = ap (λ j. binary p j t) e ∙ ap (λ o. and_then o (λ x u. and_then (steps (binary p k) k u) (λ ys v. Ok (chained x ys, v)))) h

-- ---- whole texts

pub stops : (meaning : Result ExprTree ExprFault) (x : Stop) → ((e : Fault) → x ≡ stop.Fault e → meaning ≡ Err (expr_fault e)) → Answers meaning (Err (stop_fault x))
stops meaning (stop.Fault (f.Syntax at)) h = h (f.Syntax at) refl
stops meaning (stop.Fault (f.Bareword at len)) h = h (f.Bareword at len) refl
stops meaning (stop.Fault (f.UnknownFunction at len)) h = h (f.UnknownFunction at len) refl
stops meaning (stop.Fault (f.WrongCount at len)) h = h (f.WrongCount at len) refl
stops meaning (stop.Fault (f.FloatLiteral at len)) h = h (f.FloatLiteral at len) refl
stops meaning (stop.Fault f.TooLarge) h = h f.TooLarge refl
stops meaning (stop.Fault f.TooDeep) h = h f.TooDeep refl
stops meaning stop.NoMemory h = tt

err_of : (total : ℕ) (o : Outcome ExprTree) (x : Stop) (u : Text) → Reads o (Err x) u → (e : Fault) → x ≡ stop.Fault e → whole_by total o ≡ Err (expr_fault e)
err_of total o (stop.Fault d) u h e z = let same : d ≡ e = cc in ap (whole_by total) h ∙ ap (λ y. Err (expr_fault y)) same
err_of total o stop.NoMemory u h e z = cc

-- a text whose expression isn't read
pub answers_fails : (total : ℕ) (o : Outcome ExprTree) (x : Stop) (u : Text) → Reads o (Err x) u → Answers (whole_by total o) (Err (stop_fault x))
answers_fails total o x u h = stops (whole_by total o) x (err_of total o x u h)

some_len : (c : ℕ) → 0 < len_utf8 c
some_len c = grind (arith, nat_tests)

filled : (c : ℕ) (t : Text) → 0 < size (c ∷ t)
unfolding size
filled c t = omega (arith, length-append (encode c) (encodes t), length-encode c, some_len c)

pub finished_more : (total : ℕ) (x : ExprTree) (t : Text) → 0 < size t → finished total x t ≡ Err (expr_fault (stray total t))
unfolding size
finished_more total x [] h = absurd (omega arith)
finished_more total x (c ∷ t) h = refl

pub finished_none : (total : ℕ) (x : ExprTree) (t : Text) → size t ≤ 0 → finished total x t ≡ Ok x
finished_none total x [] h = refl
finished_none total x (c ∷ t) h = absurd (omega (arith, filled c t))

pub whole_size : (bs : List ℕ) → IsText bs → length bs ≡ size (chars bs)
unfolding size
whole_size bs u = ap length (sym (encodes-chars bs u.utf8))
