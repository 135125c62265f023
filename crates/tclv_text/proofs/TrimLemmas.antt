-- Laws of texts without the white space at their ends.
use Rattle.std.proofs.Common.{◌≡◌, ℕ, zero, suc, ◌+◌, ◌-◌, ◌<◌, ◌≤◌, Bool, true, false, cond, List, [], ◌∷◌, ◌++◌, length, get_or, take, drop, reverse, eqb, refl, sym, ap, ◌∙◌, subst, arith}
use Rattle.std.proofs.Math.Numerals.{one-add}
use Rattle.std.proofs.Math.Seq.{get_or-append_right}
use Rattle.std.proofs.lemmas.Bool.{cases_lt, cond-false, ne_eqb, false≢true}
use Rattle.std.proofs.lemmas.Str.{encode_ascii, encodes-append}
use Rattle.std.proofs.lemmas.List.{take-append-drop, take_more, take_all, append-nil, length-append, length-take-le, length-reverse, length-drop, get_or_append_left, get_or-append-add, get_or-reverse, get_or-take, get_or-drop}
use Rattle.std.proofs.lemmas.List.Sums.{suffix_len-le-length, prefix_len_passes, prefix_len_stops, suffix_len_is}
use Rattle.std.specs.List.{prefix_len, suffix_len}
use Rattle.std.specs.Str.{chars}
use lib.Utf8.{encode, encodes}
use mathlib.Core.Logic.{⊎_elim}
use Rattle.tclv_text.specs.Texts.{IsText}
use Rattle.tclv_text.specs.Characters.{is_space}
use Rattle.tclv_text.specs.Numbers.{trim}
use Rattle.tclv_text.proofs.Lifted.{Spells, text_spells, spells_text, spells_chars, spells_take, spells_drop, AreHigh, IsHighBlock, high_encode, high_no_space}
use Rattle.tclv_text.specs.Trims.{trim_unescaped, ends_in_backslash}

-- white space in front takes the same part of a text, whichever way it is given
high_front : (bs rest : List ℕ) → IsHighBlock bs → prefix_len is_space (bs ++ rest) ≡ 0
high_front [] rest h = absurd h
high_front (b ∷ bs) rest h = cond-false _ _ _ (high_no_space b h.0)

front_bytes : (cs : List ℕ) → prefix_len is_space (encodes cs) ≡ length (encodes (take (prefix_len is_space cs) cs))
front_bytes [] = refl
front_bytes (c ∷ cs) =
    ⊎_elim
    (λ (l : c < 128).
    ap (λ e. prefix_len is_space (e ++ encodes cs)) (encode_ascii c l)
    ∙ (elim (is_space c) as (λ b. cond b (1 + prefix_len is_space (encodes cs)) 0 ≡ length (encodes (take (cond b (1 + prefix_len is_space cs) 0) (c ∷ cs)))) [
      | true ↦ one-add (prefix_len is_space (encodes cs)) ∙ ap suc (front_bytes cs)
          ∙ ap (λ e. length (e ++ encodes (take (prefix_len is_space cs) cs))) (sym (encode_ascii c l))
          ∙ ap (λ k. length (encodes (take k (c ∷ cs)))) (sym (one-add (prefix_len is_space cs)))
      | false ↦ refl
    ]))
    (λ (g : 128 ≤ c). high_front (encode c) (encodes cs) (high_encode c g) ∙ ap (λ k. length (encodes (take k (c ∷ cs)))) (sym (cond-false (is_space c) (1 + prefix_len is_space cs) 0 (high_no_space c g))))
    (cases_lt c 128)

spells_front : {bs cs : List ℕ} → Spells bs cs → Spells (drop (prefix_len is_space bs) bs) (drop (prefix_len is_space cs) cs)
spells_front {bs} {cs} s = subst (λ n. Spells (drop n bs) (drop (prefix_len is_space cs) cs)) (sym (front_bytes cs) ∙ ap (prefix_len is_space) s.bytes) (spells_drop (prefix_len is_space cs) s)

-- the last byte of a text and its last character, to a test that none but ASCII passes
module _ (p : ℕ → Bool) (fails : (c : ℕ) → 128 ≤ c → p c ≡ false) where
  last_on : (b d : ℕ) (bs : List ℕ) → get_or (b ∷ d ∷ bs) (length (b ∷ d ∷ bs) - 1) 0 ≡ get_or (d ∷ bs) (length (d ∷ bs) - 1) 0
  last_on b d bs = let e : length (b ∷ d ∷ bs) - 1 ≡ suc (length (d ∷ bs) - 1) = omega arith in ap (λ k. get_or (b ∷ d ∷ bs) k 0) e

  last_high : (bs : List ℕ) → AreHigh bs → 0 < length bs → p (get_or bs (length bs - 1) 0) ≡ false
  last_high [] h l = absurd (omega arith)
  last_high (b ∷ []) h l = fails b h.0
  last_high (b ∷ d ∷ bs) h l = ap p (last_on b d bs) ∙ last_high (d ∷ bs) h.1 (omega arith)

  block_high : (bs : List ℕ) → IsHighBlock bs → AreHigh bs × (0 < length bs)
  block_high [] h = absurd h
  block_high (b ∷ bs) h = (h, omega arith)

  last_behind : (xs ys : List ℕ) → 0 < length ys → get_or (xs ++ ys) (length (xs ++ ys) - 1) 0 ≡ get_or ys (length ys - 1) 0
  last_behind xs ys h =
      let e : length (xs ++ ys) - 1 ≡ length xs + (length ys - 1) = omega (arith, length-append xs ys) in
      ap (λ k. get_or (xs ++ ys) k 0) e ∙ get_or-append-add xs ys (length ys - 1) 0

  some_bytes : (c : ℕ) (cs : List ℕ) → 0 < length (encodes (c ∷ cs))
  some_bytes c cs =
      ⊎_elim
      (λ (l : c < 128). omega (arith, length-append (encode c) (encodes cs), ap length (encode_ascii c l)))
      (λ (g : 128 ≤ c). omega (arith, length-append (encode c) (encodes cs), (block_high (encode c) (high_encode c g)).1))
      (cases_lt c 128)

  pub last_byte : (cs : List ℕ) → p (get_or (encodes cs) (length (encodes cs) - 1) 0) ≡ p (get_or cs (length cs - 1) 0)
  last_byte [] = refl
  last_byte (c ∷ []) =
      ⊎_elim
      (λ (l : c < 128). ap (λ e. p (get_or (e ++ []) (length (e ++ []) - 1) 0)) (encode_ascii c l))
      (λ (g : 128 ≤ c).
      let b = block_high (encode c) (high_encode c g) in
      ap (λ e. p (get_or e (length e - 1) 0)) (append-nil (encode c)) ∙ last_high (encode c) b.0 b.1 ∙ sym (fails c g))
      (cases_lt c 128)
  last_byte (c ∷ d ∷ cs) = ap p (last_behind (encode c) (encodes (d ∷ cs)) (some_bytes d cs)) ∙ last_byte (d ∷ cs) ∙ ap p (sym (last_on c d cs))

-- white space at the end
ascii_bytes : (cs : List ℕ) → ((k : ℕ) → k < length cs → get_or cs k 0 < 128) → encodes cs ≡ cs
ascii_bytes [] h = refl
ascii_bytes (c ∷ cs) h = ap (λ e. e ++ encodes cs) (encode_ascii c (h 0 (omega arith))) ∙ ap (λ x. c ∷ x) (ascii_bytes cs (λ k l. h (suc k) (omega arith)))

space_low : (c : ℕ) → is_space c ≡ true → c < 128
space_low c h = ⊎_elim (λ (l : c < 128). l) (λ (g : 128 ≤ c). absurd (false≢true (sym (high_no_space c g) ∙ h))) (cases_lt c 128)

-- how many units stand before the white space at the end
abbrev kept : List ℕ → ℕ
kept cs = length cs - suffix_len is_space cs

behind_kept : (cs : List ℕ) (k : ℕ) → kept cs ≤ k → k < length cs → is_space (get_or cs k 0) ≡ true
behind_kept cs k h l =
    let j = length cs - 1 - k in
    let back : length cs - 1 - j ≡ k = omega arith in
    ap is_space (sym (get_or-reverse cs j 0 (omega arith) ∙ ap (λ m. get_or cs m 0) back)) ∙ prefix_len_passes is_space (reverse cs) j 0 (omega (arith, suffix_len-le-length is_space cs))

last_kept : (cs : List ℕ) → 0 < kept cs → is_space (get_or cs (kept cs - 1) 0) ≡ false
last_kept cs h =
    let s = suffix_len is_space cs in
    let inside : s < length cs = omega arith in
    let back : length cs - 1 - s ≡ kept cs - 1 = omega arith in
    ap is_space (sym (get_or-reverse cs s 0 inside ∙ ap (λ m. get_or cs m 0) back)) ∙ prefix_len_stops is_space (reverse cs) 0 (omega (arith, length-reverse cs))

some_kept : (m : ℕ) (cs : List ℕ) → 0 < length (encodes (take m cs)) → 0 < m
some_kept zero cs h = absurd (omega arith)
some_kept (suc m) cs h = omega arith

kept_bytes : (cs : List ℕ) → kept (encodes cs) ≡ length (encodes (take (kept cs) cs))
kept_bytes cs =
    let m = kept cs in
    let front = encodes (take m cs) in
    let rest = drop m cs in
    let in_rest : (k : ℕ) → k < length rest → is_space (get_or rest k 0) ≡ true = λ k l. ap is_space (get_or-drop m cs k 0) ∙ behind_kept cs (m + k) (omega arith) (omega (arith, length-drop m cs)) in
    let rest_bytes : encodes rest ≡ rest = ascii_bytes rest (λ k l. space_low (get_or rest k 0) (in_rest k l)) in
    let all : encodes cs ≡ front ++ rest = ap encodes (sym (take-append-drop m cs)) ∙ encodes-append (take m cs) rest ∙ ap (λ x. front ++ x) rest_bytes in
    let long = length-append front rest in
    let behind : (k : ℕ) → length front ≤ k → k < length (front ++ rest) → is_space (get_or (front ++ rest) k 0) ≡ true = λ k h l. ap is_space (get_or-append_right front rest k 0 h) ∙ in_rest (k - length front) (omega arith) in
    let before : 0 < length front → is_space (get_or (front ++ rest) (length front - 1) 0) ≡ false = λ h.
    ap is_space (get_or_append_left front rest 0 (length front - 1) (omega arith)) ∙ last_byte is_space high_no_space (take m cs)
    ∙ ap (λ k. is_space (get_or (take m cs) (k - 1) 0)) (length-take-le m cs (omega arith))
    ∙ ap is_space (get_or-take m cs (m - 1) 0 (omega (arith, some_kept m cs h))) ∙ last_kept cs (some_kept m cs h) in
    let same = suffix_len_is is_space (front ++ rest) (length front) 0 (omega arith) behind before in
    ap kept all ∙ omega arith

spells_kept : {bs cs : List ℕ} → Spells bs cs → Spells (take (kept bs) bs) (take (kept cs) cs)
spells_kept {bs} {cs} s = subst (λ n. Spells (take n bs) (take (kept cs) cs)) (sym (kept_bytes cs) ∙ ap kept s.bytes) (spells_take (kept cs) s)

-- one unit more, where there is white space behind
more_kept : (cs : List ℕ) → kept cs < length cs → length (encodes (take (kept cs + 1) cs)) ≡ length (encodes (take (kept cs) cs)) + 1
more_kept cs h =
    let m = kept cs in
    let c = get_or cs m 0 in
    let low : c < 128 = space_low c (behind_kept cs m (omega arith) h) in
    let one : length (encodes (c ∷ [])) ≡ 1 = ap (λ e. length (e ++ [])) (encode_ascii c low) in
    ap (λ t. length (encodes t)) (take_more cs m 0 h) ∙ ap length (encodes-append (take m cs) (c ∷ [])) ∙ length-append (encodes (take m cs)) (encodes (c ∷ [])) ∙ ap (λ k. length (encodes (take m cs)) + k) one

spells_more : {bs cs : List ℕ} → Spells bs cs → Spells (take (kept bs + 1) bs) (take (kept cs + 1) cs)
spells_more {bs} {cs} s =
    let m = kept cs in
    let n : kept bs ≡ length (encodes (take m cs)) = ap kept (sym s.bytes) ∙ kept_bytes cs in
    ⊎_elim
    (λ (l : m < length cs). subst (λ k. Spells (take k bs) (take (m + 1) cs)) (more_kept cs l ∙ ap (λ k. k + 1) (sym n)) (spells_take (m + 1) s))
    (λ (g : length cs ≤ m).
    let whole : encodes (take m cs) ≡ bs = ap encodes (take_all m cs g) ∙ s.bytes in
    let same : take (kept bs + 1) bs ≡ bs = take_all (kept bs + 1) bs (omega (arith, ap length whole)) in
    subst (λ b. Spells b (take (m + 1) cs)) (sym same) (subst (λ c. Spells bs c) (sym (take_all (m + 1) cs (omega arith))) s))
    (cases_lt m (length cs))

abbrev back : List ℕ → List ℕ
back u = take (cond (ends_in_backslash (take (kept u) u)) (kept u + 1) (kept u)) u

abbrev is_backslash : ℕ → Bool
is_backslash c = eqb c 92

backslash_ascii : (c : ℕ) → 128 ≤ c → is_backslash c ≡ false
backslash_ascii c h = ne_eqb c 92 (λ e. omega arith)

same_end : {bs cs : List ℕ} → Spells bs cs → ends_in_backslash bs ≡ ends_in_backslash cs
same_end {bs} {cs} s = ap ends_in_backslash (sym s.bytes) ∙ last_byte is_backslash backslash_ascii cs

spells_back : {bs cs : List ℕ} → Spells bs cs → Spells (back bs) (back cs)
spells_back {bs} {cs} s =
    let kept_both = spells_kept s in
    let e = same_end kept_both in
    subst (λ b. Spells (take (cond b (kept bs + 1) (kept bs)) bs) (back cs)) (sym e)
    (elim (ends_in_backslash (take (kept cs) cs)) as (λ b. Spells (take (cond b (kept bs + 1) (kept bs)) bs) (take (cond b (kept cs + 1) (kept cs)) cs)) [
      | true ↦ spells_more s
      | false ↦ kept_both
    ])

pub trim_text : (bs r : List ℕ) → IsText bs → r ≡ trim bs → IsText r × (chars r ≡ trim (chars bs))
unfolding trim
trim_text bs r t e =
    let s = spells_kept (spells_front (text_spells t)) in
    (subst IsText (sym e) (spells_text s), ap chars e ∙ sym (spells_chars s))

pub unescaped_text : (bs r : List ℕ) → IsText bs → r ≡ trim_unescaped bs → IsText r × (chars r ≡ trim_unescaped (chars bs))
unfolding trim_unescaped
unescaped_text bs r t e =
    let s = spells_back (spells_front (text_spells t)) in
    (subst IsText (sym e) (spells_text s), ap chars e ∙ sym (spells_chars s))
