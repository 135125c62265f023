-- A text with a character that is not ASCII is as much to a test of ASCII, whichever way it is given.
use Rattle.std.proofs.Common.{◌≡◌, ℕ, suc, ◌+◌, ◌-◌, ◌<◌, ◌≤◌, Bool, true, false, List, [], ◌∷◌, ◌++◌, length, get_or, take, drop, sym, ap, ◌∙◌, subst, refl, arith, reverse, ltb}
use Rattle.std.proofs.lemmas.List.{length-drop, length-take, get_or-drop, get_or-take, get_or-reverse}
use Rattle.std.proofs.lemmas.List.Sums.{prefix_len_passes}
use Rattle.std.proofs.lemmas.Bool.{cases_lt, ne_eqb, and_left, and_right, and_parts, false≢true}
use Rattle.std.proofs.lemmas.Bool.Decides.{nat_tests}
use Rattle.std.proofs.lemmas.Str.{encode_ascii, chars-IsAscii, scalars-chars, IsUtf8-from_ascii}
use Rattle.std.specs.List.{prefix_len, suffix_len, list_all}
use Rattle.std.specs.Str.{chars, str_eq_ignore_ascii_case, IsAscii}
use Rattle.std.proofs.lemmas.Str.Ascii.{encodes-IsAscii}
use Rattle.std.specs.Char.{to_ascii_lowercase}
use lib.Utf8.{encode, encodes, scalars}
use mathlib.Core.Logic.{⊎_elim, inl, inr, ◌⊎◌}
use Rattle.tclv_text.specs.Texts.{IsText, Appends, AppendsText}
use Rattle.tclv_text.proofs.TextLemmas.{text_append, chars_append}
use Rattle.tclv_text.proofs.Lifted.{text_spells, IsHighBlock, high_encode}

-- a unit of the list is no ASCII
pub record HasHigh (xs : List ℕ) : Type 0 where
  pub at : ℕ
  pub inside : at < length xs
  pub high : 128 ≤ get_or xs at 0

pub high_front : (xs ys : List ℕ) → IsHighBlock xs → HasHigh (xs ++ ys)
high_front [] ys h = absurd h
high_front (x ∷ xs) ys h = record { at = 0; inside = omega arith; high = h.0 }

pub high_behind : (c : ℕ) (xs : List ℕ) → HasHigh xs → HasHigh (c ∷ xs)
high_behind c xs h = record { at = suc h.at; inside = omega (arith, h.inside); high = h.high }

-- the bytes of code points are these, or both have one that is no ASCII
pub ascii_or_high : (cs : List ℕ) → (encodes cs ≡ cs) ⊎ (HasHigh (encodes cs) × HasHigh cs)
ascii_or_high [] = inl refl
ascii_or_high (c ∷ cs) =
    ⊎_elim
    (λ (l : c < 128).
    let e = encode_ascii c l in
    ⊎_elim
    (λ (q : encodes cs ≡ cs). inl (ap (λ x. x ++ encodes cs) e ∙ ap (λ x. c ∷ x) q))
    (λ (q : HasHigh (encodes cs) × HasHigh cs). inr (subst HasHigh (ap (λ x. x ++ encodes cs) (sym e)) (high_behind c (encodes cs) q.0), high_behind c cs q.1))
    (ascii_or_high cs))
    (λ (g : 128 ≤ c). inr (high_front (encode c) (encodes cs) (high_encode c g), record { at = 0; inside = omega arith; high = g }))
    (cases_lt c 128)

-- what holds of a text and of its bytes, if it does not look at what is no ASCII
pub lifted : {A : Type 0} (f : List ℕ → A) (none : A) → ((xs : List ℕ) → HasHigh xs → f xs ≡ none) → (bs : List ℕ) → IsText bs → f bs ≡ f (chars bs)
lifted f none h bs t =
    let s = text_spells t in
    ap f (sym s.bytes) ∙ ⊎_elim (λ (e : encodes (chars bs) ≡ chars bs). ap f e) (λ (q : HasHigh (encodes (chars bs)) × HasHigh (chars bs)). h _ q.0 ∙ sym (h _ q.1)) (ascii_or_high (chars bs))

-- a front of units that are all ASCII ends before it
pub front_ends : (p : ℕ → Bool) → ((c : ℕ) → 128 ≤ c → p c ≡ false) → (xs : List ℕ) (h : HasHigh xs) → prefix_len p xs ≤ h.at
front_ends p fails xs h =
    ⊎_elim
    (λ (l : h.at < prefix_len p xs). absurd (false≢true (sym (fails (get_or xs h.at 0) h.high) ∙ prefix_len_passes p xs h.at 0 l)))
    (λ (g : prefix_len p xs ≤ h.at). g)
    (cases_lt h.at (prefix_len p xs))

pub drop_high : (n : ℕ) (xs : List ℕ) (h : HasHigh xs) → n ≤ h.at → HasHigh (drop n xs)
drop_high n xs h l =
    let e : n + (h.at - n) ≡ h.at = omega arith in
    record { at = h.at - n; inside = omega (arith, length-drop n xs, h.inside); high = subst (λ x. 128 ≤ x) (sym (get_or-drop n xs (h.at - n) 0 ∙ ap (λ k. get_or xs k 0) e)) h.high }

pub take_high : (n : ℕ) (xs : List ℕ) (h : HasHigh xs) → h.at < n → HasHigh (take n xs)
take_high n xs h l = record { at = h.at; inside = omega (arith, length-take n xs, h.inside); high = subst (λ x. 128 ≤ x) (sym (get_or-take n xs h.at 0 l)) h.high }

pub back_ends : (p : ℕ → Bool) → ((c : ℕ) → 128 ≤ c → p c ≡ false) → (xs : List ℕ) (h : HasHigh xs) → h.at < length xs - suffix_len p xs
back_ends p fails xs h =
    let k = length xs - 1 - h.at in
    let back : length xs - 1 - k ≡ h.at = omega (arith, h.inside) in
    let e = get_or-reverse xs k 0 (omega (arith, h.inside)) ∙ ap (λ m. get_or xs m 0) back in
    ⊎_elim
    (λ (l : k < prefix_len p (reverse xs)). absurd (false≢true (sym (fails (get_or xs h.at 0) h.high) ∙ ap p (sym e) ∙ prefix_len_passes p (reverse xs) k 0 l)))
    (λ (g : prefix_len p (reverse xs) ≤ k). omega (arith, h.inside))
    (cases_lt k (prefix_len p (reverse xs)))

pub tail_high : (c : ℕ) (cs : List ℕ) → c < 128 → HasHigh (c ∷ cs) → HasHigh cs
tail_high c cs l h = drop_high 1 (c ∷ cs) h (⊎_elim (λ (z : h.at < 1). let e : h.at ≡ 0 = omega arith in absurd (omega (arith, subst (λ k. 128 ≤ get_or (c ∷ cs) k 0) e h.high))) (λ (g : 1 ≤ h.at). g) (cases_lt h.at 1))

high_lower : (x : ℕ) → 128 ≤ x → 128 ≤ to_ascii_lowercase x
high_lower x h = grind (arith, nat_tests)

low_lower : (x : ℕ) → ltb x 128 ≡ true → to_ascii_lowercase x < 128
low_lower x h = grind (arith, nat_tests)

-- it is no word of ASCII
pub no_word : (d w : List ℕ) → list_all (λ y. ltb y 128) w ≡ true → HasHigh d → str_eq_ignore_ascii_case d w ≡ false
no_word [] w l h = absurd (omega (arith, h.inside))
no_word (x ∷ d) [] l h = refl
no_word (x ∷ d) (y ∷ w) l h =
    let p = and_parts (ltb y 128) (list_all (λ y. ltb y 128) w) l in
    ⊎_elim
    (λ (k : x < 128). and_right _ _ (no_word d w p.1 (tail_high x d k h)))
    (λ (g : 128 ≤ x). and_left _ _ (ne_eqb (to_ascii_lowercase x) (to_ascii_lowercase y) (λ e. omega (arith, high_lower x g, low_lower y p.0))))
    (cases_lt x 128)

-- text of ASCII is its own bytes
pub appends_ascii : (old new cs : List ℕ) → IsAscii cs → new ≡ old ++ cs → Appends old new cs
appends_ascii old new cs h e = record { bytes = e ∙ ap (λ x. old ++ x) (sym (encodes-IsAscii cs h)); points = subst (λ (x : List ℕ). scalars x ≡ true) (chars-IsAscii cs h) (scalars-chars cs (IsUtf8-from_ascii cs h)) }

pub appends_ascii_text : (old new cs : List ℕ) → IsAscii cs → new ≡ old ++ cs → AppendsText old new cs
appends_ascii_text old new cs h e t =
    let more : IsText cs = record { utf8 = IsUtf8-from_ascii cs h } in (
      subst IsText (sym e) (text_append t more),
      ap chars e ∙ chars_append old cs t ∙ ap (λ x. chars old ++ x) (chars-IsAscii cs h),
    )
