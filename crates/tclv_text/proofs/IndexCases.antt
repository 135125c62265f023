-- The place that a text is, by cases on the whole text.
use Rattle.std.proofs.Common.{◌≡◌, ℕ, ◌<◌, ◌≤◌, true, false, List, [], ◌∷◌, ◌++◌, Option, Some, None, length, sym, ap, ◌∙◌, subst, refl, arith, append_assoc, ℤ}
use Rattle.std.proofs.Math.Seq.{get_or-append_seam}
use Rattle.std.proofs.lemmas.List.{get_or_append_left, length-append}
use Rattle.std.proofs.lemmas.Bool.{cases_lt, cases_Bool, true≢false}
use Rattle.std.specs.Option.{option_or}
use mathlib.Core.Logic.{⊎_elim, inl, inr}
use Rattle.tclv_text.specs.Indices.{base, before, behind, moved, cut, place, IsPlace, is_sign, is_lead}
use Rattle.tclv_text.proofs.IndexLemmas.{HasBody, base_body, before_body, sign_behind, cut_some, no_sign_none}

-- no text is a place both ways
never_both : (u v : List ℕ) (c : ℕ) → HasBody u → HasBody (u ++ c ∷ v) → is_sign c ≡ true → ⊥
never_both u v c b t s =
    ⊎_elim
    (λ (l : length u < t.at). true≢false (sym (t.lead b.at (omega (arith, b.inside))) ∙ ap is_lead (get_or_append_left u (c ∷ v) 0 b.at b.inside) ∙ b.body))
    (λ (g : t.at ≤ length u). true≢false (sym s ∙ ap is_sign (sym (get_or-append_seam u c v 0)) ∙ t.behind (length u) g (omega (arith, length-append u (c ∷ v)))))
    (cases_lt (length u) t.at)

-- a sum or a difference has a place and a sign
moved_parts : (o w : Option ℤ) (c : ℕ) (z : ℤ) → moved o c w ≡ Some z → ((a : ℤ) × (o ≡ Some a)) × (is_sign c ≡ true)
moved_parts None w c z e = absurd (cc)
moved_parts (Some a) None c z e = absurd (cc)
moved_parts (Some a) (Some b) c z e =
    ((a, refl), ⊎_elim (λ (t : is_sign c ≡ true). t) (λ (f : is_sign c ≡ false). let q : None ≡ Some z = sym (no_sign_none a b c f) ∙ e in absurd (cc)) (cases_Bool (is_sign c)))

moved_read : (len : ℕ) (u v : List ℕ) (c : ℕ) (z : ℤ) → moved (before len u) c (behind v) ≡ Some z → place (u ++ c ∷ v) len ≡ Some z
unfolding place
moved_read len u v c z e =
    let parts = moved_parts (before len u) (behind v) c z e in
    let body = before_body len u parts.0.0 parts.0.1 in
    let none = no_base len (u ++ c ∷ v) (λ a h. never_both u v c body (base_body len (u ++ c ∷ v) a h) parts.1) in
    ap (λ o. option_or o (cut len [] (u ++ c ∷ v))) none ∙ cut_some len [] u v c (sign_behind u v c body parts.1 ∙ omega arith) ∙ e
  where
    no_base : (len : ℕ) (t : List ℕ) → ((a : ℤ) → base len t ≡ Some a → ⊥) → base len t ≡ None
    no_base len t h = go (base len t) refl
      where
        go : (o : Option ℤ) → base len t ≡ o → o ≡ None
        go None e = refl
        go (Some a) e = absurd (h a e)

pub place_is_read : (t : List ℕ) (len : ℕ) (z : ℤ) → IsPlace t len z → place t len ≡ Some z
unfolding place
place_is_read t len z h =
    ⊎_elim
    (λ (e : base len t ≡ Some z). ap (λ o. option_or o (cut len [] t)) e)
    (λ (s : (u : List ℕ) × (sign : ℕ) × (v : List ℕ) × (t ≡ u ++ sign ∷ v) × (moved (before len u) sign (behind v) ≡ Some z)). ap (λ y. place y len) s.3 ∙ moved_read len s.0 s.2 s.1 z s.4)
    h

-- a cut that is found is a sum or a difference
abbrev Cut : ℕ → List ℕ → ℤ → Type 0
Cut len t z = (u : List ℕ) × (sign : ℕ) × (v : List ℕ) × (t ≡ u ++ sign ∷ v) × (moved (before len u) sign (behind v) ≡ Some z)

cut_found : (len : ℕ) (u t : List ℕ) (z : ℤ) → cut len u t ≡ Some z → Cut len (u ++ t) z
cut_found len u [] z e = absurd (cc)
cut_found len u (c ∷ t) z e = go (cut_found len (u ++ c ∷ []) t z) (moved (before len u) c (behind t)) refl e
  where
    go : (cut len (u ++ c ∷ []) t ≡ Some z → Cut len ((u ++ c ∷ []) ++ t) z) → (o : Option ℤ) → moved (before len u) c (behind t) ≡ o → option_or o (cut len (u ++ c ∷ []) t) ≡ Some z → Cut len (u ++ c ∷ t) z
    go later (Some a) m f = (u, c, t, refl, m ∙ f)
    go later None m f = subst (λ y. Cut len y z) (append_assoc u (c ∷ []) t) (later f)

pub place_alone : (t : List ℕ) (len : ℕ) (z : ℤ) → place t len ≡ Some z → IsPlace t len z
unfolding place
place_alone t len z e = go (base len t) refl e
  where
    go : (o : Option ℤ) → base len t ≡ o → option_or o (cut len [] t) ≡ Some z → IsPlace t len z
    go (Some a) b f = inl (b ∙ f)
    go None b f = inr (cut_found len [] t z f)
