-- Laws of ASCII texts.
use Rattle.std.proofs.Common.{◌≡◌, ℕ, zero, suc, ◌<◌, true, ◌&&◌, List, [], ◌∷◌, ltb, refl, sym, ap, ◌∙◌, arith}
use Rattle.std.specs.List.{list_all}
use Rattle.std.specs.Char.{is_ascii}
use Rattle.std.specs.Str.{chars, encode_utf8_all, IsAscii}
use Rattle.std.proofs.lemmas.Bool.{and_parts, ltb-true}
use Rattle.std.proofs.lemmas.Bool.Decides.{nat_tests}
use Rattle.std.proofs.lemmas.Str.{chars-IsAscii, IsUtf8-from_ascii, encodes-chars}
use Rattle.tclv_text.specs.Texts.{IsText}

pub ascii_from_test : (bs : List ℕ) → list_all is_ascii bs ≡ true → IsAscii bs
ascii_from_test [] h i = omega arith
ascii_from_test (b ∷ bs) h zero = ltb-true b 128 (and_parts (ltb b 128) (list_all is_ascii bs) h).0
ascii_from_test (b ∷ bs) h (suc i) = ascii_from_test bs (and_parts (ltb b 128) (list_all is_ascii bs) h).1 i

-- the code points of ASCII bytes are the bytes
pub ascii_points : (bs : List ℕ) → list_all is_ascii bs ≡ true → chars bs ≡ bs
ascii_points bs h = chars-IsAscii bs (ascii_from_test bs h)

pub ascii_text : (bs : List ℕ) → list_all is_ascii bs ≡ true → IsText bs
ascii_text bs h = record { utf8 = IsUtf8-from_ascii bs (ascii_from_test bs h) }

-- a text and its bytes
module _ (bs t : List ℕ) (h : IsText bs × (chars bs ≡ t)) where
  pub bytes_are : encode_utf8_all t ≡ bs
  bytes_are = ap encode_utf8_all (sym h.1) ∙ encodes-chars bs h.0.utf8

  pub points_are : chars (encode_utf8_all t) ≡ t
  points_are = ap chars bytes_are ∙ h.1

-- each byte is ASCII
below : (c : ℕ) → c < 128 → is_ascii c ≡ true
below c h = grind (arith, nat_tests)

pub all_ascii : (bs : List ℕ) → IsAscii bs → list_all is_ascii bs ≡ true
all_ascii [] h = refl
all_ascii (b ∷ bs) h = ap (λ x. x && list_all is_ascii bs) (below b (h 0)) ∙ all_ascii bs (λ i. h (suc i))
