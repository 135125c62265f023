-- The number of a budget fits 64 bits, so it is read whole.
use Rattle.std.proofs.Common.{◌≡◌, ℕ, ◌<◌, ◌≤◌, ◌^◌, true, List, length, arith, Ok, rules}
use Rattle.std.specs.Prelude.{Result, nat_le, ◌==◌, ◌&&◌, not}
use Rattle.std.specs.Char.{is_ascii_digit}
use Rattle.std.specs.List.{list_all}
use Rattle.std.specs.Str.Parse.{ParsesUnsigned, digits_value}
use Rattle.std.proofs.lemmas.Str.Parse.{IsNumeralModel, numerals_by_value, digits_value_short, parse_gives}
use Rattle.std.proofs.lemmas.Bool.{and_parts}
use Rattle.std.proofs.lemmas.Bool.Decides.{nat_tests}
use Rattle.tclv_shell.specs.Words.{is_budget}

own : IsNumeralModel (λ ds. list_all is_ascii_digit ds ≡ true) (digits_value 10)
own = numerals_by_value _ (search rules)

some_digits : (word : List ℕ) → not (length word == 0) ≡ true → 0 < length word
some_digits word e = grind (arith, nat_tests)

few_digits : (word : List ℕ) → nat_le (length word) 19 ≡ true → length word ≤ 19
few_digits word e = grind (arith, nat_tests)

fits : (n : ℕ) → n < 10 ^ 19 → n < 2 ^ 64
fits n h = omega arith

pub parsed : {E : Type 0} (word : List ℕ) (r : Result ℕ E) → ParsesUnsigned 64 10 word r → is_budget word ≡ true → r ≡ Ok (digits_value 10 word)
parsed word r h is =
    let parts = and_parts (not (length word == 0)) (nat_le (length word) 19 && list_all is_ascii_digit word) is in
    let digits = and_parts (nat_le (length word) 19) (list_all is_ascii_digit word) parts.1 in
    parse_gives own 64 word r h digits.1 (some_digits word parts.0) (fits (digits_value 10 word) (digits_value_short own word 19 digits.1 (few_digits word digits.0)))
