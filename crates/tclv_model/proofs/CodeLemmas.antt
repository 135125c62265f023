-- The texts of error codes and of usages.
use Rattle.std.proofs.Common.{◌≡◌, ℕ, zero, suc, true, false, List, [], ◌∷◌, ◌++◌, ltb, refl, sym, ap, subst, ◌∙◌, arith}
use Rattle.std.specs.Prelude.{codes}
use Rattle.std.specs.List.{list_all}
use Rattle.std.specs.Char.{is_ascii}
use Rattle.std.specs.Str.{chars, IsAscii}
use Rattle.std.proofs.lemmas.List.{append-nil}
use Rattle.std.proofs.lemmas.Bool.{and_parts, ltb-true, cond-true, cond-false}
use Rattle.std.proofs.lemmas.Str.{chars-IsAscii, IsUtf8-from_ascii}
use Rattle.tclv_text.specs.Texts.{IsText, AppendsText}
use Rattle.tclv_text.specs.Quotes.{quoted, quoted_some, list_text}
use Rattle.tclv_model.specs.declared.error_codes.ErrorCode.{ErrorCode}
use Rattle.tclv_model.specs.declared.error_codes.ErrorCode.TheVariants.{NoCode, WrongArguments, UnknownCommand, UnknownVariable, NotNumber, Overflow, DivideByZero, ZeroToNegativePower}
use Rattle.tclv_model.specs.ErrorCodes.{code_front, is_naming, error_code, code_words}

ascii_from_test : (bs : List ℕ) → list_all is_ascii bs ≡ true → IsAscii bs
ascii_from_test [] h i = omega arith
ascii_from_test (b ∷ bs) h zero = ltb-true b 128 (and_parts (ltb b 128) (list_all is_ascii bs) h).0
ascii_from_test (b ∷ bs) h (suc i) = ascii_from_test bs (and_parts (ltb b 128) (list_all is_ascii bs) h).1 i

pub ascii_text : (bs : List ℕ) → list_all is_ascii bs ≡ true → IsText bs
ascii_text bs h = record { utf8 = IsUtf8-from_ascii bs (ascii_from_test bs h) }

pub ascii_points : (bs : List ℕ) → list_all is_ascii bs ≡ true → chars bs ≡ bs
ascii_points bs h = chars-IsAscii bs (ascii_from_test bs h)

pub codes_are_lists : (errorcode : ErrorCode) (name : List ℕ) → error_code errorcode name ≡ list_text (code_words errorcode name)
unfolding quoted quoted_some
codes_are_lists NoCode name = refl
codes_are_lists WrongArguments name = refl
codes_are_lists UnknownCommand name = ap (λ q. codes "TCL LOOKUP COMMAND " ++ q) (sym (append-nil (quoted name false)))
codes_are_lists UnknownVariable name = ap (λ q. codes "TCL LOOKUP VARNAME " ++ q) (sym (append-nil (quoted name false)))
codes_are_lists NotNumber name = refl
codes_are_lists Overflow name = refl
codes_are_lists DivideByZero name = refl
codes_are_lists ZeroToNegativePower name = refl

-- bytes that are the front of a code are its text, alone or with the name behind them
module _ (errorcode : ErrorCode) (bytes front name : List ℕ) (same : bytes ≡ front) (is : front ≡ code_front errorcode) (ascii : list_all is_ascii front ≡ true) where
  front_points : chars bytes ≡ code_front errorcode
  front_points = ap chars same ∙ ascii_points front ascii ∙ is

  pub front_alone : is_naming errorcode ≡ false → chars bytes ≡ error_code errorcode name
  front_alone none = front_points ∙ sym (cond-false _ _ _ none)

  pub front_named : (new : List ℕ) → is_naming errorcode ≡ true → AppendsText bytes new (quoted name false) → chars new ≡ error_code errorcode name
  front_named new some put = (put (subst IsText (sym same) (ascii_text front ascii))).1 ∙ ap (λ x. x ++ quoted name false) front_points ∙ sym (cond-true _ _ _ some)
