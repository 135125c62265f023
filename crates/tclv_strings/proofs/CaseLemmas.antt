-- Laws of texts whose ASCII letters are put in one case.
use Rattle.std.proofs.Common.{◌≡◌, ◌≢◌, ℕ, suc, ◌<◌, ◌≤◌, true, List, [], ◌∷◌, ◌++◌, length, map, get_or, refl, sym, ap, ◌∙◌, arith, append-nil}
use Rattle.std.specs.Char.{to_ascii_lowercase, to_ascii_uppercase}
use Rattle.std.specs.Str.{chars}
use Rattle.std.proofs.lemmas.Bool.{cases_lt, and_parts, and_from}
use Rattle.std.proofs.lemmas.Bool.Decides.{nat_tests}
use Rattle.std.proofs.lemmas.List.{map-append}
use Rattle.std.proofs.lemmas.Str.{encode_ascii, inside_one}
use Rattle.std.proofs.lemmas.Str.Ascii.{lowercase_ascii, lowercase_is, uppercase_ascii, uppercase_is}
use lib.Utf8.{encodes, encode, scalar, scalars}
use mathlib.Core.Logic.{⊎_elim}
use Rattle.tclv_text.specs.Texts.{IsText}
use Rattle.tclv_model.specs.Usages.{usage_of}
use Rattle.tclv_model.specs.Rows.{wrong_count}
use Rattle.tclv_strings.specs.declared.folding.Case.{Case}
use Rattle.tclv_strings.specs.Folding.{case_usage, row_case}
use Rattle.tclv_text.proofs.Lifted.{Spells, text_spells, spells_text, spells_chars}

-- the bytes of a character that is no ASCII are none
high_byte : (c k : ℕ) → 128 ≤ c → k < length (encode c) → 128 ≤ get_or (encode c) k 0
high_byte c k h l =
    ⊎_elim
    (λ (low : get_or (encode c) k 0 < 128). absurd (let is = inside_one c [] (encode c) k (sym (append-nil (encode c))) l low in omega (arith, is)))
    (λ (high : 128 ≤ get_or (encode c) k 0). high)
    (cases_lt (get_or (encode c) k 0) 128)

-- a change of ASCII characters alone, which stay ASCII
pub record IsCaseChange (f : ℕ → ℕ) : Type 0 where
  pub low : (c : ℕ) → c < 128 → f c < 128
  pub high : (c : ℕ) → 128 ≤ c → f c ≡ c

module _ (f : ℕ → ℕ) (u : IsCaseChange f) where
  high_same : (xs : List ℕ) → ((k : ℕ) → k < length xs → 128 ≤ get_or xs k 0) → map f xs ≡ xs
  high_same [] h = refl
  high_same (x ∷ xs) h =
      let first : 128 ≤ x = h 0 (omega arith) in
      ap (λ y. y ∷ map f xs) (u.high x first) ∙ ap (λ ys. x ∷ ys) (high_same xs (λ k l. h (suc k) (omega arith)))

  changed_one : (c : ℕ) → map f (encode c) ≡ encode (f c)
  changed_one c =
      ⊎_elim
      (λ (l : c < 128). ap (map f) (encode_ascii c l) ∙ sym (encode_ascii (f c) (u.low c l)))
      (λ (h : 128 ≤ c). high_same (encode c) (λ k l. high_byte c k h l) ∙ ap encode (sym (u.high c h)))
      (cases_lt c 128)

  changed : (cs : List ℕ) → map f (encodes cs) ≡ encodes (map f cs)
  changed [] = refl
  changed (c ∷ cs) = map-append f (encode c) (encodes cs) ∙ ap (λ x. x ++ map f (encodes cs)) (changed_one c) ∙ ap (λ x. encode (f c) ++ x) (changed cs)

  one_scalar : (c : ℕ) → scalar c ≡ true → scalar (f c) ≡ true
  one_scalar c h =
      ⊎_elim
      (λ (l : c < 128). ascii_scalar (f c) (u.low c l))
      (λ (g : 128 ≤ c). ap scalar (u.high c g) ∙ h)
      (cases_lt c 128)
    where
      ascii_scalar : (d : ℕ) → d < 128 → scalar d ≡ true
      ascii_scalar d l = grind (arith, nat_tests)

  all_scalars : (cs : List ℕ) → scalars cs ≡ true → scalars (map f cs) ≡ true
  all_scalars [] h = refl
  all_scalars (c ∷ cs) h = let p = and_parts (scalar c) (scalars cs) h in and_from (scalar (f c)) (scalars (map f cs)) (one_scalar c p.0) (all_scalars cs p.1)

  pub text_changed : (bs new : List ℕ) → IsText bs → new ≡ map f bs → IsText new × (chars new ≡ map f (chars bs))
  text_changed bs new t e =
      let s = text_spells t in
      let spelled : Spells new (map f (chars bs)) = record { points = all_scalars (chars bs) s.points; bytes = sym (changed (chars bs)) ∙ ap (map f) s.bytes ∙ sym e } in
      (spells_text spelled, sym (spells_chars spelled))

pub lower_case : IsCaseChange to_ascii_lowercase
lower_case = record { low = lowercase_ascii; high = λ c h. (lowercase_is c).2 (omega arith) }

pub upper_case : IsCaseChange to_ascii_uppercase
upper_case = record { low = uppercase_ascii; high = λ c h. (uppercase_is c).2 (omega arith) }

pub case_count : (case : Case) (call : List ℕ) (words : List (List ℕ)) → length words ≢ 2 → row_case case call words ≡ wrong_count call (usage_of (case_usage case))
case_count case call [] h = refl
case_count case call (a ∷ []) h = refl
case_count case call (a ∷ b ∷ []) h = absurd (h refl)
case_count case call (a ∷ b ∷ c ∷ ws) h = refl
