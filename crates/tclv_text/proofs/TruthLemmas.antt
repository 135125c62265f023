-- Truth words by the first letter, and texts that are none.
use Rattle.std.proofs.Common.{◌≡◌, ℕ, zero, suc, ◌<◌, Bool, true, false, cond, List, [], ◌∷◌, Option, Some, None, length, take, sym, ap, ◌∙◌, subst, refl, arith, ltb, eqb, ◌&&◌, ◌||◌}
use Rattle.std.proofs.lemmas.Bool.{cases_eq, ne_eqb, and_right, and_parts, and_from}
use Rattle.std.specs.Prelude.{codes}
use Rattle.std.specs.List.{list_all}
use Rattle.std.specs.Option.{option_or}
use Rattle.std.specs.Str.{chars, str_eq_ignore_ascii_case}
use Rattle.std.specs.Char.{to_ascii_lowercase}
use mathlib.Core.Logic.{⊎_elim}
use Rattle.tclv_text.specs.Texts.{IsText}
use Rattle.tclv_text.specs.Truths.{only_value, word_truth, number_truth, truth}
use Rattle.tclv_text.proofs.AsciiLemmas.{HasHigh, lifted, no_word}
use Rattle.tclv_text.proofs.NumbersLifted.{whole_high}

-- a longer text is no front
pub longer : (t w : List ℕ) → length w < length t → str_eq_ignore_ascii_case t (take (length t) w) ≡ false
longer [] w h = absurd (omega arith)
longer (x ∷ t) [] h = refl
longer (x ∷ t) (y ∷ w) h = and_right (eqb (to_ascii_lowercase x) (to_ascii_lowercase y)) _ (longer t w (omega arith))

-- the value, by which words fit
abbrev by_words : Bool → Bool → Option Bool
by_words true true = None
by_words true false = Some true
by_words false true = Some false
by_words false false = None

abbrev keep : Bool → List ℕ × Bool → List (List ℕ × Bool) → List (List ℕ × Bool)
keep b w ws = cond b (w ∷ ws) ws

abbrev kept : Bool → Bool → Bool → Bool → Bool → Bool → List (List ℕ × Bool)
kept a b c d e f =
    keep a (codes "true", true) (keep b (codes "yes", true) (keep c (codes "on", true) (keep d (codes "false", false) (keep e (codes "no", false) (keep f (codes "off", false) [])))))

-- What is said of the first letter's tests t y o f n, and of how the words go on.
abbrev Agree : Bool → Bool → Bool → Bool → Bool → Bool → Bool → Bool → Bool → Bool → Bool → Type 0
Agree t y o f n r1 r2 r3 r4 r5 r6 =
    by_words ((t && r1) || ((y && r2) || (o && r3))) ((f && r4) || ((n && r5) || (o && r6))) ≡ only_value (kept (t && r1) (y && r2) (o && r3) (f && r4) (n && r5) (o && r6))

AgreeAt : ℕ → Bool → Bool → Bool → Bool → Bool → Bool → Type 0
AgreeAt x r1 r2 r3 r4 r5 r6 = Agree (eqb x 116) (eqb x 121) (eqb x 111) (eqb x 102) (eqb x 110) r1 r2 r3 r4 r5 r6

letters : (x : ℕ) (r1 r2 r3 r4 r5 r6 : Bool) → AgreeAt x r1 r2 r3 r4 r5 r6
unfolding AgreeAt
letters x r1 r2 r3 r4 r5 r6 =
    ⊎_elim (λ (q : x ≡ 116). subst (λ z. Agree (eqb z 116) (eqb z 121) (eqb z 111) (eqb z 102) (eqb z 110) r1 r2 r3 r4 r5 r6) (sym q) (elim r1 as (λ r. Agree true false false false false r r2 r3 r4 r5 r6) [ true ↦ refl | false ↦ refl ])) (λ (n1 : x ≡ 116 → ⊥).
    ⊎_elim (λ (q : x ≡ 121). subst (λ z. Agree (eqb z 116) (eqb z 121) (eqb z 111) (eqb z 102) (eqb z 110) r1 r2 r3 r4 r5 r6) (sym q) (elim r2 as (λ r. Agree false true false false false r1 r r3 r4 r5 r6) [ true ↦ refl | false ↦ refl ])) (λ (n2 : x ≡ 121 → ⊥).
    ⊎_elim (λ (q : x ≡ 111). subst (λ z. Agree (eqb z 116) (eqb z 121) (eqb z 111) (eqb z 102) (eqb z 110) r1 r2 r3 r4 r5 r6) (sym q) (elim r3 as (λ r. Agree false false true false false r1 r2 r r4 r5 r6) [
      | true ↦ elim r6 as (λ r. Agree false false true false false r1 r2 true r4 r5 r) [ true ↦ refl | false ↦ refl ]
      | false ↦ elim r6 as (λ r. Agree false false true false false r1 r2 false r4 r5 r) [ true ↦ refl | false ↦ refl ]
    ])) (λ (n3 : x ≡ 111 → ⊥).
    ⊎_elim (λ (q : x ≡ 102). subst (λ z. Agree (eqb z 116) (eqb z 121) (eqb z 111) (eqb z 102) (eqb z 110) r1 r2 r3 r4 r5 r6) (sym q) (elim r4 as (λ r. Agree false false false true false r1 r2 r3 r r5 r6) [ true ↦ refl | false ↦ refl ])) (λ (n4 : x ≡ 102 → ⊥).
    ⊎_elim (λ (q : x ≡ 110). subst (λ z. Agree (eqb z 116) (eqb z 121) (eqb z 111) (eqb z 102) (eqb z 110) r1 r2 r3 r4 r5 r6) (sym q) (elim r5 as (λ r. Agree false false false false true r1 r2 r3 r4 r r6) [ true ↦ refl | false ↦ refl ])) (λ (n5 : x ≡ 110 → ⊥).
    subst (λ t. Agree t (eqb x 121) (eqb x 111) (eqb x 102) (eqb x 110) r1 r2 r3 r4 r5 r6) (sym (ne_eqb x 116 n1))
    (subst (λ y. Agree false y (eqb x 111) (eqb x 102) (eqb x 110) r1 r2 r3 r4 r5 r6) (sym (ne_eqb x 121 n2))
    (subst (λ o. Agree false false o (eqb x 102) (eqb x 110) r1 r2 r3 r4 r5 r6) (sym (ne_eqb x 111 n3))
    (subst (λ f. Agree false false false f (eqb x 110) r1 r2 r3 r4 r5 r6) (sym (ne_eqb x 102 n4))
    (subst (λ n. Agree false false false false n r1 r2 r3 r4 r5 r6) (sym (ne_eqb x 110 n5)) refl)))))
    (cases_eq x 110)) (cases_eq x 102)) (cases_eq x 111)) (cases_eq x 121)) (cases_eq x 116)

abbrev fits : List ℕ → List ℕ → Bool
fits t w = str_eq_ignore_ascii_case t (take (length t) w)

-- two tests, of the words for true and of those for false, tell the one word
pub words_agree : (t : List ℕ) → by_words (fits t (codes "true") || (fits t (codes "yes") || fits t (codes "on"))) (fits t (codes "false") || (fits t (codes "no") || fits t (codes "off"))) ≡ word_truth t
unfolding AgreeAt word_truth
words_agree [] = refl
words_agree (c ∷ cs) = letters (to_ascii_lowercase c) _ _ _ _ _ _

low_take : (n : ℕ) (w : List ℕ) → list_all (λ y. ltb y 128) w ≡ true → list_all (λ y. ltb y 128) (take n w) ≡ true
low_take zero w h = refl
low_take (suc n) [] h = refl
low_take (suc n) (y ∷ w) h = let p = and_parts (ltb y 128) (list_all (λ y. ltb y 128) w) h in and_from (ltb y 128) _ p.0 (low_take n w p.1)

no_front : (t w : List ℕ) → list_all (λ y. ltb y 128) w ≡ true → HasHigh t → str_eq_ignore_ascii_case t (take (length t) w) ≡ false
no_front t w l h = no_word t (take (length t) w) (low_take (length t) w l) h

word_high : (t : List ℕ) → HasHigh t → word_truth t ≡ None
unfolding word_truth
word_high t h =
    rw (no_front t (codes "true") refl h, no_front t (codes "yes") refl h, no_front t (codes "on") refl h, no_front t (codes "false") refl h, no_front t (codes "no") refl h, no_front t (codes "off") refl h) refl

truth_high : (t : List ℕ) → HasHigh t → truth t ≡ None
truth_high t h = ap (λ r. option_or (number_truth r) (word_truth t)) (whole_high t h) ∙ word_high t h

pub truth_lifted : (bs : List ℕ) → IsText bs → truth bs ≡ truth (chars bs)
truth_lifted = lifted truth None truth_high
