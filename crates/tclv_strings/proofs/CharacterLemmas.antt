-- Laws of single characters of texts, and of places in texts.
use Rattle.std.proofs.Common.{◌≡◌, ◌≢◌, ◌==◌, false, ℕ, ◌+◌, ◌-◌, ◌<◌, ◌≤◌, List, [], ◌∷◌, ◌++◌, length, take, drop, min, refl, sym, ap, ◌∙◌, subst, arith, append-nil, inl, inr}
use Rattle.std.specs.Prelude.{◌⊎◌, Result, OnOk}
use Rattle.std.specs.Char.{IsScalar, len_utf8}
use Rattle.std.specs.Str.{chars, IsUtf8}
use Rattle.std.proofs.lemmas.Bool.{cases_lt, ne_eqb}
use Rattle.std.proofs.lemmas.List.{take_at, take_all, drop_all, length-drop, length-append, drop-drop}
use Rattle.std.proofs.lemmas.Str.{chars-nil, chars-append, chars_past_char, encodes-chars, length-le-encodes, length-encode, len_utf8_bounds, IsUtf8-encode, IsUtf8-take, IsCharBoundary-at_seam}
use lib.Utf8.{encode, encodes}
use mathlib.Core.Logic.{⊎_elim}
use Rattle.tclv_text.specs.Texts.{IsText}
use Rattle.tclv_text.specs.Globs.{is_empty}

-- the code points of a character's bytes
pub char_points : (c : ℕ) → IsScalar c → chars (encode c) ≡ c ∷ []
char_points c h = chars_past_char (encode c) [] c (IsUtf8-encode c h) (sym (append-nil (encode c))) ∙ ap (λ x. c ∷ x) chars-nil

-- a text before its last character
pub last_split : (bs front : List ℕ) (c n : ℕ) → IsText bs → IsScalar c → bs ≡ front ++ encode c → n ≡ len_utf8 c →
    (chars bs ≡ chars (take (length bs - n) bs) ++ c ∷ []) × IsText (take (length bs - n) bs) × (0 < n) × (n ≤ length bs)
last_split bs front c n u h e l =
    let len : length (encode c) ≡ n = length-encode c ∙ sym l in
    let all : length bs ≡ length front + length (encode c) = ap length e ∙ length-append front (encode c) in
    let k : length front ≡ length bs - n = omega arith in
    let t : take (length bs - n) bs ≡ front = ap (take (length bs - n)) e ∙ ap (λ m. take m (front ++ encode c)) (sym k) ∙ take_at front (encode c) (length front) refl in
    let seam = IsCharBoundary-at_seam bs front (encode c) e (IsUtf8-encode c h) in
    let before : IsUtf8 (take (length bs - n) bs) = subst (λ m. IsUtf8 (take m bs)) k (IsUtf8-take bs (length front) u.utf8 seam) in
    let whole : IsUtf8 front = subst IsUtf8 t before in (
      ap chars e ∙ chars-append front (encode c) whole ∙ ap (λ x. chars front ++ x) (char_points c h) ∙ ap (λ x. chars x ++ c ∷ []) (sym t),
      record { utf8 = before },
      omega (arith, len_utf8_bounds c),
      omega arith,
    )

-- a text without bytes has no code points
pub empty_points : (bs : List ℕ) → length bs ≡ 0 → chars bs ≡ []
empty_points [] e = chars-nil
empty_points (b ∷ bs) e = absurd (omega arith)

pub points_short : (bs : List ℕ) → IsText bs → length (chars bs) ≤ length bs
points_short bs t = omega (arith, length-le-encodes (chars bs), ap length (encodes-chars bs t.utf8))

-- a text with bytes has code points
pub some_points : (bs : List ℕ) → IsText bs → 0 < length bs → 0 < length (chars bs)
some_points bs t h = go (chars bs) refl
  where
    go : (cs : List ℕ) → chars bs ≡ cs → 0 < length cs
    go [] e = let q : bs ≡ [] = sym (encodes-chars bs t.utf8) ∙ ap encodes e in absurd (omega (arith, ap length q))
    go (c ∷ cs) e = omega arith

-- the code points before a place that is k code points further on, if there are so many
pub place_by_rest : (k : ℕ) (t at : List ℕ) → at ≡ drop k t → at ≡ drop (length t - length at) t
place_by_rest k t at e =
    let len : length at ≡ length t - k = ap length e ∙ length-drop k t in
    ⊎_elim
    (λ (h : k < length t). let same : k ≡ length t - length at = omega arith in e ∙ ap (λ m. drop m t) same)
    (λ (h : length t ≤ k). let same : length t - length at ≡ length t = omega arith in e ∙ drop_all k t h ∙ sym (ap (λ m. drop m t) same ∙ drop_all (length t) t (omega arith)))
    (cases_lt k (length t))

pub front_by_rest : (k n : ℕ) (t at : List ℕ) → at ≡ drop k t → (k ≡ n) ⊎ ((length t ≤ k) × (k ≤ n)) → take (length t - length at) t ≡ take n t
front_by_rest k n t at e h =
    let len : length at ≡ length t - k = ap length e ∙ length-drop k t in
    let whole : (m : ℕ) → length t ≤ m → take m t ≡ t = λ m l. take_all m t l in
    ⊎_elim
    (λ (l : k < length t). ⊎_elim
    (λ (q : k ≡ n). let same : length t - length at ≡ n = omega arith in ap (λ m. take m t) same)
    (λ (q : (length t ≤ k) × (k ≤ n)). absurd (omega (arith, q.0)))
    h)
    (λ (l : length t ≤ k).
    let enough : length t ≤ n = ⊎_elim (λ (q : k ≡ n). omega arith) (λ (q : (length t ≤ k) × (k ≤ n)). omega (arith, q.0, q.1)) h in
    whole (length t - length at) (omega arith) ∙ sym (whole n enough))
    (cases_lt k (length t))

-- so many places, or all that there are
pub min_either : (k n len : ℕ) (t : List ℕ) → k ≡ min n len → length t ≤ len → (k ≡ n) ⊎ ((length t ≤ k) × (k ≤ n))
min_either k n len t e l =
    ⊎_elim
    (λ (h : n < len). inl (omega arith))
    (λ (h : len ≤ n). inr (omega arith, omega arith))
    (cases_lt n len)

-- a text that is known by another name
pub text_as : {E : Type 0} (r : Result (Unit {0}) E) (old new t u : List ℕ) → u ≡ t → OnOk r (new ≡ old ++ u) → OnOk r (new ≡ old ++ t)
text_as r old new t u e = subst (λ x. OnOk r (new ≡ old ++ x)) e

pub some_left : (bs : List ℕ) → IsText bs → length bs ≢ 0 → 0 < length (chars bs)
some_left bs t h = some_points bs t (omega (arith, h))

-- one place further on
pub next_place : (k : ℕ) (t at new : List ℕ) → at ≡ drop k t → new ≡ drop 1 at → new ≡ drop (k + 1) t
next_place k t at new e f = f ∙ ap (drop 1) e ∙ drop-drop 1 k t

-- a text has no code points exactly where it has no bytes
pub none_as : (bs : List ℕ) → IsText bs → (length bs == 0) ≡ is_empty (chars bs)
none_as [] t = sym (ap is_empty chars-nil)
none_as (b ∷ bs) t = ne_eqb (length (b ∷ bs)) 0 (λ e. omega (arith, e)) ∙ some (chars (b ∷ bs)) (some_points (b ∷ bs) t (omega arith))
  where
    some : (cs : List ℕ) → 0 < length cs → false ≡ is_empty cs
    some [] h = absurd (omega arith)
    some (c ∷ cs) h = refl
