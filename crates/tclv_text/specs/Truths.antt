-- What a text is as a truth value.
use Rattle.std.specs.Prelude.{ℕ, Bool, true, false, not, List, [], ◌∷◌, length, take, Option, Some, None, Result, Ok, Err, ℤ, pos, codes, filter}
use Rattle.std.specs.Option.{option_or}
use Rattle.std.specs.Ordering.{int_eq}
use Rattle.std.specs.Str.{str_eq_ignore_ascii_case}
use Rattle.tclv_text.specs.declared.numbers.WholeFault.{WholeFault}
use Rattle.tclv_text.specs.Numbers.{whole}

-- a word of truth values, and its value
abbrev pub Word : Type 0
Word = List ℕ × Bool

abbrev pub truth_words : List Word
truth_words = (codes "true", true) ∷ (codes "yes", true) ∷ (codes "on", true) ∷ (codes "false", false) ∷ (codes "no", false) ∷ (codes "off", false) ∷ []

-- the text is, in any case, a front of the word
abbrev pub is_front : List ℕ → Word → Bool
is_front t w = str_eq_ignore_ascii_case t (take (length t) w.0)

-- the value of the only word there is
abbrev pub only_value : List Word → Option Bool
only_value [] = None
only_value (w ∷ []) = Some w.1
only_value (v ∷ w ∷ ws) = None

-- a word, or a front that is one of no other word, in any case
unfoldable pub word_truth : List ℕ → Option Bool
word_truth t = only_value (filter (is_front t) truth_words)

-- a whole number is true unless it is 0
abbrev pub number_truth : Result ℤ WholeFault → Option Bool
number_truth (Ok z) = Some (not (int_eq z (pos 0)))
number_truth (Err e) = None

-- The truth value that the text is: a whole number, with white space around it or not, or a word, with none.
abbrev pub truth : List ℕ → Option Bool
truth t = option_or (number_truth (whole t)) (word_truth t)
