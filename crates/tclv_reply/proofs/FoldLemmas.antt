-- Laws of texts whose ASCII letters are taken in lower case.
use Rattle.std.proofs.Common.{◌≡◌, ℕ, suc, ◌<◌, ◌≤◌, true, false, List, [], ◌∷◌, ◌++◌, length, map, get_or, refl, sym, ap, ◌∙◌, arith, append-nil}
use Rattle.std.specs.Char.{to_ascii_lowercase}
use Rattle.std.specs.Str.{chars, bytes_eq, str_to_ascii_lowercase}
use Rattle.std.proofs.lemmas.Bool.{cases_lt}
use Rattle.std.proofs.lemmas.Bool.Decides.{same_from_decides, Decides-like}
use Rattle.std.proofs.lemmas.List.{map-append}
use Rattle.std.proofs.lemmas.Slice.Eq.{bytes_eq-Decides}
use Rattle.std.proofs.lemmas.Str.{encode_ascii, encodes-chars, encodes_same, inside_one}
use Rattle.std.proofs.lemmas.Str.Ascii.{lowercase_ascii, lowercase_is}
use lib.Utf8.{encodes, encode}
use mathlib.Core.Logic.{⊎_elim}
use Rattle.tclv_text.specs.Texts.{IsText}
use Rattle.tclv_text.specs.Globs.{folded}

-- the bytes of a character that is no ASCII are none
high_byte : (c k : ℕ) → 128 ≤ c → k < length (encode c) → 128 ≤ get_or (encode c) k 0
high_byte c k h l =
    ⊎_elim
    (λ (low : get_or (encode c) k 0 < 128). absurd (let is = inside_one c [] (encode c) k (sym (append-nil (encode c))) l low in omega (arith, is)))
    (λ (high : 128 ≤ get_or (encode c) k 0). high)
    (cases_lt (get_or (encode c) k 0) 128)

high_same : (xs : List ℕ) → ((k : ℕ) → k < length xs → 128 ≤ get_or xs k 0) → map to_ascii_lowercase xs ≡ xs
high_same [] h = refl
high_same (x ∷ xs) h =
    let first : 128 ≤ x = h 0 (omega arith) in
    ap (λ y. y ∷ map to_ascii_lowercase xs) ((lowercase_is x).2 (omega arith)) ∙ ap (λ ys. x ∷ ys) (high_same xs (λ k l. h (suc k) (omega arith)))

low_one : (c : ℕ) → map to_ascii_lowercase (encode c) ≡ encode (to_ascii_lowercase c)
low_one c =
    ⊎_elim
    (λ (l : c < 128). ap (map to_ascii_lowercase) (encode_ascii c l) ∙ sym (encode_ascii (to_ascii_lowercase c) (lowercase_ascii c l)))
    (λ (h : 128 ≤ c). high_same (encode c) (λ k l. high_byte c k h l) ∙ ap encode (sym ((lowercase_is c).2 (omega arith))))
    (cases_lt c 128)

low_encodes : (cs : List ℕ) → map to_ascii_lowercase (encodes cs) ≡ encodes (map to_ascii_lowercase cs)
low_encodes [] = refl
low_encodes (c ∷ cs) =
    map-append to_ascii_lowercase (encode c) (encodes cs) ∙ ap (λ x. x ++ map to_ascii_lowercase (encodes cs)) (low_one c) ∙ ap (λ x. encode (to_ascii_lowercase c) ++ x) (low_encodes cs)

encodes_eq : (xs ys : List ℕ) → bytes_eq (encodes xs) (encodes ys) ≡ bytes_eq xs ys
encodes_eq xs ys = same_from_decides _ _ (bytes_eq-Decides (encodes xs) (encodes ys)) (Decides-like (bytes_eq xs ys) (λ p. ap encodes p) (λ q. encodes_same xs ys q) (bytes_eq-Decides xs ys))

folded_low : (t : List ℕ) → map to_ascii_lowercase t ≡ folded true t
folded_low [] = refl
folded_low (c ∷ t) = ap (λ y. to_ascii_lowercase c ∷ y) (folded_low t)

folded_not : (t : List ℕ) → t ≡ folded false t
folded_not [] = refl
folded_not (c ∷ t) = ap (λ y. c ∷ y) (folded_not t)

module _ (a b : List ℕ) (u : IsText a) (v : IsText b) where
  low_is : (x : List ℕ) → IsText x → map to_ascii_lowercase x ≡ encodes (folded true (chars x))
  low_is x w = ap (map to_ascii_lowercase) (sym (encodes-chars x w.utf8)) ∙ low_encodes (chars x) ∙ ap encodes (folded_low (chars x))

  pub same_folded : bytes_eq (str_to_ascii_lowercase a) (str_to_ascii_lowercase b) ≡ bytes_eq (folded true (chars a)) (folded true (chars b))
  same_folded = ap (λ x. bytes_eq x (map to_ascii_lowercase b)) (low_is a u) ∙ ap (λ y. bytes_eq (encodes (folded true (chars a))) y) (low_is b v) ∙ encodes_eq (folded true (chars a)) (folded true (chars b))

  as_it_is : (x : List ℕ) → IsText x → x ≡ encodes (folded false (chars x))
  as_it_is x w = sym (encodes-chars x w.utf8) ∙ ap encodes (folded_not (chars x))

  pub same_unfolded : bytes_eq a b ≡ bytes_eq (folded false (chars a)) (folded false (chars b))
  same_unfolded = ap (λ x. bytes_eq x b) (as_it_is a u) ∙ ap (λ y. bytes_eq (encodes (folded false (chars a))) y) (as_it_is b v) ∙ encodes_eq (folded false (chars a)) (folded false (chars b))
