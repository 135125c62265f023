-- What stands at a place, from the bytes there.
use Rattle.std.proofs.Common.{◌≡◌, ℕ, ◌+◌, ◌-◌, ◌<◌, ◌≤◌, ◌==◌, Bool, List, [], ◌∷◌, length, get_or, slice_index, take, drop, length-append, true, false, if◌then◌else◌, sym, ap, ◌∙◌, arith, refl}
use Rattle.std.specs.Str.{chars}
use Rattle.std.proofs.lemmas.Bool.{cases_lt}
use Rattle.std.proofs.lemmas.Bool.Decides.{nat_tests}
use Rattle.std.proofs.lemmas.Str.{chars-nil, encodes-chars, encodes-append, length-le-encodes}
use Rattle.std.proofs.lemmas.List.{take-append-drop}
use lib.Utf8.{encodes}
use mathlib.Core.Logic.{⊎_elim}
use Rattle.tclv_text.specs.Texts.{IsText}
use Rattle.tclv_text.specs.Cuts.{IsCut}
use Rattle.tclv_text.specs.Cursors.{sign, sign_of, is_name, is_separator, begins_variable, begins_escape}
use Rattle.tclv_text.specs.declared.cursors.Sign.{Sign}
use Rattle.tclv_text.specs.declared.cursors.Sign.TheVariants as s
use Rattle.tclv_text.proofs.Lifted.{Spells, text_spells, head_ascii, head_high, cut_at}

not_at : (x k : ℕ) → k < x → (x == k) ≡ false
not_at x k h = grind (arith, nat_tests)

no_name : (x : ℕ) → 128 ≤ x → is_name x ≡ false
no_name x h = grind (arith, nat_tests)

no_separator : (x : ℕ) → 128 ≤ x → is_separator x ≡ false
no_separator x h = grind (arith, nat_tests)

-- behind a character that is not ASCII nothing is looked at
high_next : (c x y : ℕ) → 128 ≤ x → sign_of c x y ≡ sign_of c 0 0
unfolding sign_of
high_next c x y h = rw (not_at x 10 (omega arith), not_at x 123 (omega arith), not_at x 40 (omega arith), not_at x 58 (omega arith), no_name x h)

high_third : (c x y : ℕ) → 128 ≤ y → sign_of c x y ≡ sign_of c x 0
unfolding sign_of
high_third c x y h = rw (not_at y 58 (omega arith))

high_sign : (c x y : ℕ) → 128 ≤ c → sign_of c x y ≡ s.Other
unfolding sign_of
high_sign c x y h =
    rw (no_separator c h, not_at c 10 (omega arith), not_at c 59 (omega arith), not_at c 35 (omega arith), not_at c 123 (omega arith), not_at c 125 (omega arith), not_at c 34 (omega arith), not_at c 91 (omega arith), not_at c 93 (omega arith), not_at c 40 (omega arith), not_at c 41 (omega arith), not_at c 42 (omega arith), not_at c 92 (omega arith), not_at c 36 (omega arith), not_at c 58 (omega arith), no_name c h)

no_bytes : (c : ℕ) (cs : List ℕ) → Spells [] (c ∷ cs) → ⊥
no_bytes c cs w = let l = length-le-encodes (c ∷ cs) in omega (arith, l, ap length w.bytes)

-- the third one, as a code point and as a byte
third_alike : (a d : ℕ) (bs cs : List ℕ) → Spells bs cs → sign_of a d (slice_index cs 0) ≡ sign_of a d (get_or bs 0 0)
third_alike a d bs [] w = ap (λ x. sign_of a d (get_or x 0 0)) w.bytes
third_alike a d [] (c ∷ cs) w = absurd (no_bytes c cs w)
third_alike a d (b ∷ bs) (c ∷ cs) w =
    ⊎_elim
    (λ (l : c < 128). ap (sign_of a d) (sym (head_ascii b c bs cs w l).0))
    (λ (g : 128 ≤ c). high_third a d c g ∙ sym (high_third a d b (head_high b c bs cs w g)))
    (cases_lt c 128)

-- the second one and the third
next_alike : (a : ℕ) (bs cs : List ℕ) → Spells bs cs → sign_of a (slice_index cs 0) (slice_index cs 1) ≡ sign_of a (get_or bs 0 0) (get_or bs 1 0)
next_alike a bs [] w = ap (λ x. sign_of a (get_or x 0 0) (get_or x 1 0)) w.bytes
next_alike a [] (c ∷ cs) w = absurd (no_bytes c cs w)
next_alike a (b ∷ bs) (c ∷ cs) w =
    ⊎_elim
    (λ (l : c < 128). let h = head_ascii b c bs cs w l in third_alike a c bs cs h.1 ∙ ap (λ x. sign_of a x (get_or bs 0 0)) (sym h.0))
    (λ (g : 128 ≤ c). high_next a c (slice_index cs 0) g ∙ sym (high_next a b (get_or bs 0 0) (head_high b c bs cs w g)))
    (cases_lt c 128)

sign-spelled : (bs cs : List ℕ) → Spells bs cs → 0 < length bs → sign cs ≡ sign_of (get_or bs 0 0) (get_or bs 1 0) (get_or bs 2 0)
unfolding sign
sign-spelled bs [] w some = absurd (omega (arith, ap length w.bytes))
sign-spelled [] (c ∷ cs) w some = absurd (no_bytes c cs w)
sign-spelled (b ∷ bs) (c ∷ cs) w some =
    ⊎_elim
    (λ (l : c < 128). let h = head_ascii b c bs cs w l in next_alike c bs cs h.1 ∙ ap (λ x. sign_of x (get_or bs 0 0) (get_or bs 1 0)) (sym h.0))
    (λ (g : 128 ≤ c). high_sign c (slice_index cs 0) (slice_index cs 1) g ∙ sym (high_sign b (get_or bs 0 0) (get_or bs 1 0) (head_high b c bs cs w g)))
    (cases_lt c 128)

-- the sign of a text is told by its first three bytes
pub sign-bytes : (bs : List ℕ) → IsText bs → 0 < length bs → sign (chars bs) ≡ sign_of (get_or bs 0 0) (get_or bs 1 0) (get_or bs 2 0)
sign-bytes bs t some = sign-spelled bs (chars bs) (text_spells t) some

pub chars-empty : (bs : List ℕ) → length bs ≡ 0 → chars bs ≡ []
chars-empty [] e = chars-nil
chars-empty (b ∷ bs) e = cc

pub sign-empty : (bs : List ℕ) → length bs ≡ 0 → sign (chars bs) ≡ s.End
unfolding sign
sign-empty bs e = ap sign (chars-empty bs e)

-- ---- escapes

if_escape : (b : Bool) (x y : Sign) → begins_escape x ≡ false → begins_escape y ≡ false → begins_escape (if b then x else y) ≡ false
if_escape true x y p q = p
if_escape false x y p q = q

no_escape : (c x y : ℕ) → (c == 92) ≡ false → begins_escape (sign_of c x y) ≡ false
unfolding sign_of
no_escape c x y h =
    if_escape (is_separator c) _ _ refl (if_escape (c == 10) _ _ refl (if_escape (c == 59) _ _ refl (if_escape (c == 35) _ _ refl (if_escape (c == 123) _ _ refl (if_escape (c == 125) _ _ refl (if_escape (c == 34) _ _ refl (if_escape (c == 91) _ _ refl (if_escape (c == 93) _ _ refl (if_escape (c == 40) _ _ refl (if_escape (c == 41) _ _ refl (if_escape (c == 42) _ _ refl
    (rw h (if_escape (c == 36) _ _ (if_escape (begins_variable x y) _ _ refl refl) (if_escape (c == 58) _ _ (if_escape (x == 58) _ _ refl refl) (if_escape (is_name c) _ _ refl refl)))))))))))))))

is_backslash : (c : ℕ) → (c == 92) ≡ true → c ≡ 92
is_backslash c h = grind (arith, nat_tests)

first_backslash : (b : Bool) (c x y : ℕ) → (c == 92) ≡ b → begins_escape (sign_of c x y) ≡ true → c ≡ 92
first_backslash true c x y e h = is_backslash c e
first_backslash false c x y e h = let f = no_escape c x y e in cc

pub record BeginsEscape (bs : List ℕ) : Type 0 where
  pub some : 0 < length bs
  pub begins : slice_index bs 0 ≡ 92

pub escape-bytes : (bs : List ℕ) → IsText bs → begins_escape (sign (chars bs)) ≡ true → BeginsEscape bs
escape-bytes [] t h = let e : begins_escape s.End ≡ true = ap begins_escape (sym (sign-empty [] refl)) ∙ h in cc
escape-bytes (b ∷ bs) t h =
    record { some = omega arith; begins = first_backslash (b == 92) b (get_or (b ∷ bs) 1 0) (get_or (b ∷ bs) 2 0) refl (ap begins_escape (sym (sign-bytes (b ∷ bs) t (omega arith))) ∙ h) }

-- ---- cuts

-- what stands before a later place
pub cut-before : (bs ds : List ℕ) (k : ℕ) → IsText bs → IsText ds → k ≤ length (chars bs) → chars ds ≡ drop k (chars bs) → IsCut bs (length bs - length ds) k
cut-before bs ds k t u m e =
    let cs = chars bs in
    let behind : encodes (drop k cs) ≡ ds = ap encodes (sym e) ∙ encodes-chars ds u.utf8 in
    let whole : length (encodes (take k cs)) + length (encodes (drop k cs)) ≡ length bs
    = sym (length-append (encodes (take k cs)) (encodes (drop k cs))) ∙ ap length (sym (encodes-append (take k cs) (drop k cs)) ∙ ap encodes (take-append-drop k cs) ∙ encodes-chars bs t.utf8) in
    cut_at k (length bs - length ds) (text_spells t) m (omega (arith, whole, ap length behind))

pub chars-short : (bs : List ℕ) → IsText bs → length (chars bs) ≤ length bs
chars-short bs t = omega (arith, length-le-encodes (chars bs), ap length (encodes-chars bs t.utf8))
