-- What a glob pattern fits, by cases on whole patterns.
use Rattle.std.proofs.Common.{◌≡◌, ℕ, ◌+◌, true, false, cond, List, [], ◌∷◌, ◌++◌, length, take, drop, sym, ap, ◌∙◌, subst, refl, eqb, ◌&&◌}
use Rattle.std.proofs.lemmas.Bool.{cond-false, and_parts, ne_eqb}
use Rattle.std.proofs.lemmas.List.{take-append-drop, drop_at}
use Rattle.std.specs.List.{prefix_len, take_while, list_all}
use Rattle.std.specs.Prelude.{IsTrue}
use Rattle.tclv_text.specs.Globs.{is_member, is_open, fits_one, somewhere, begins, is_empty, fits_behind, fits, folded, matches}
use Rattle.tclv_text.specs.GlobSearch.{behind_set}
use Rattle.tclv_text.proofs.GlobLemmas.{front_open, behind_open, behind_is, somewhere_at, somewhere_drop, somewhere_here}

-- what stands behind a star is the rest of the text from some place on
pub star_splits : (p t : List ℕ) → IsTrue (fits (42 ∷ p) t) → (u : List ℕ) × (v : List ℕ) × (t ≡ u ++ v) × IsTrue (fits p v)
star_splits p t h = let k = somewhere_at (fits p) t h in (take k.0 t, drop k.0 t, sym (take-append-drop k.0 t), k.1)

pub star_joins : (p u v : List ℕ) → IsTrue (fits p v) → IsTrue (fits (42 ∷ p) (u ++ v))
star_joins p u v h =
    somewhere_drop (fits p) (length u) (u ++ v) (subst (λ y. somewhere (fits p) y ≡ true) (sym (drop_at u v (length u) refl)) (somewhere_here (fits p) v h))

-- a set up to its `]`
closed_front : (s p : List ℕ) → list_all is_open s ≡ true → take_while is_open (s ++ 93 ∷ p) ≡ s
closed_front [] p h = refl
closed_front (x ∷ s) p h = let q = and_parts (is_open x) (list_all is_open s) h in front_open x (s ++ 93 ∷ p) q.0 ∙ ap (λ y. x ∷ y) (closed_front s p q.1)

closed_rest : (s p : List ℕ) → list_all is_open s ≡ true → behind_set (s ++ 93 ∷ p) ≡ p
closed_rest [] p h = refl
closed_rest (x ∷ s) p h = let q = and_parts (is_open x) (list_all is_open s) h in behind_open x (s ++ 93 ∷ p) q.0 ∙ closed_rest s p q.1

open_front : (s : List ℕ) → list_all is_open s ≡ true → take_while is_open s ≡ s
open_front [] h = refl
open_front (x ∷ s) h = let q = and_parts (is_open x) (list_all is_open s) h in front_open x s q.0 ∙ ap (λ y. x ∷ y) (open_front s q.1)

open_rest : (s : List ℕ) → list_all is_open s ≡ true → behind_set s ≡ []
open_rest [] h = refl
open_rest (x ∷ s) h = let q = and_parts (is_open x) (list_all is_open s) h in behind_open x s q.0 ∙ open_rest s q.1

pub set_fits : (s p t : List ℕ) → IsTrue (list_all is_open s) → fits (91 ∷ (s ++ 93 ∷ p)) t ≡ begins (λ c. is_member c s) (fits p) t
set_fits s p t h =
    ap (λ y. begins (λ c. is_member c y) (fits_behind (prefix_len is_open (s ++ 93 ∷ p) + 1) (s ++ 93 ∷ p)) t) (closed_front s p h)
    ∙ ap (λ f. begins (λ c. is_member c s) f t) (behind_is (prefix_len is_open (s ++ 93 ∷ p) + 1) (s ++ 93 ∷ p) ∙ ap fits (closed_rest s p h))

pub open_set_fits : (s t : List ℕ) → IsTrue (list_all is_open s) → fits (91 ∷ s) t ≡ begins (λ c. is_member c s) is_empty t
open_set_fits s t h =
    ap (λ y. begins (λ c. is_member c y) (fits_behind (prefix_len is_open s + 1) s) t) (open_front s h)
    ∙ ap (λ f. begins (λ c. is_member c s) f t) (behind_is (prefix_len is_open s + 1) s ∙ ap fits (open_rest s h))

pub last_backslash : (t : List ℕ) → fits (92 ∷ []) t ≡ false
last_backslash [] = refl
last_backslash (c ∷ t) = refl

plain_one : (x : ℕ) (p : List ℕ) (c : ℕ) → (x ≡ 63 → ⊥) → (x ≡ 91 → ⊥) → (x ≡ 92 → ⊥) → fits_one x p c ≡ eqb c x
plain_one x p c b d e = cond-false _ _ _ (ne_eqb x 63 b) ∙ cond-false _ _ _ (ne_eqb x 91 d) ∙ cond-false _ _ _ (ne_eqb x 92 e)

pub plain_fits : (x : ℕ) (p t : List ℕ) → (x ≡ 42 → ⊥) → (x ≡ 63 → ⊥) → (x ≡ 91 → ⊥) → (x ≡ 92 → ⊥) → fits (x ∷ p) t ≡ begins (λ c. eqb c x) (fits p) t
plain_fits x p [] a b d e = cond-false _ _ _ (ne_eqb x 42 a)
plain_fits x p (c ∷ t) a b d e =
    let n : cond (eqb x 91) (prefix_len is_open p + 1) (cond (eqb x 92) 1 0) ≡ 0 = cond-false _ _ _ (ne_eqb x 91 d) ∙ cond-false _ _ _ (ne_eqb x 92 e) in
    cond-false _ _ _ (ne_eqb x 42 a)
    ∙ ap (λ k. fits_one x p c && fits_behind k p t) n
    ∙ ap (λ y. y && fits p t) (plain_one x p c b d e)

-- where case counts, nothing is folded
unfolded : (t : List ℕ) → folded false t ≡ t
unfolded [] = refl
unfolded (c ∷ t) = ap (λ y. c ∷ y) (unfolded t)

pub case_counts : (p t : List ℕ) → matches false p t ≡ fits p t
case_counts p t = ap (λ y. fits y (folded false t)) (unfolded p) ∙ ap (fits p) (unfolded t)
