-- Characters and runs at the front of a text.
use Rattle.std.proofs.Common.{◌≡◌, ℕ, zero, suc, ◌+◌, ◌-◌, ◌<◌, ◌≤◌, Bool, true, false, cond, List, [], ◌∷◌, ◌++◌, length, drop, take, length-drop, length-append, add-one, inl, inr, refl, sym, ap, ◌∙◌, arith}
use Rattle.std.proofs.str.Laws as laws
use Rattle.std.specs.Str.{chars}
use Rattle.std.proofs.lemmas.Str.{chars_past_char, chars-nil}
use lib.Utf8.{encode}
use Rattle.tclv_text.specs.Texts.{IsText}
use Rattle.tclv_text.specs.Cursors.{sign}
use Rattle.tclv_parse.specs.Runs.{Text}
use Rattle.tclv_exprp.specs.declared.fronts.Class.{Class}
use Rattle.tclv_exprp.specs.declared.fronts.Class.TheVariants as class
use Rattle.tclv_exprp.specs.Fronts.{first, is_in, is_blank, blanks, run_len}

-- ---- places

drop-suc : (n : ℕ) (t : Text) → drop 1 (drop n t) ≡ drop (suc n) t
drop-suc zero [] = refl
drop-suc zero (c ∷ t) = refl
drop-suc (suc n) [] = refl
drop-suc (suc n) (c ∷ t) = drop-suc n t

pub drop-next : (n : ℕ) (t : Text) → drop 1 (drop n t) ≡ drop (n + 1) t
drop-next n t = rw add-one (drop-suc n t)

drop-past : (n : ℕ) (t : Text) → length t ≤ n → drop n t ≡ []
drop-past zero [] h = refl
drop-past zero (c ∷ t) h = absurd (omega arith)
drop-past (suc n) [] h = refl
drop-past (suc n) (c ∷ t) h = drop-past n t (omega arith)

take-past : (n : ℕ) (t : Text) → length t ≤ n → take n t ≡ t
take-past zero [] h = refl
take-past zero (c ∷ t) h = absurd (omega arith)
take-past (suc n) [] h = refl
take-past (suc n) (c ∷ t) h = ap (λ u. c ∷ u) (take-past n t (omega arith))

pub ruleset drops = (length-drop)

-- a later place, and the characters up to it
pub record Later (old t : Text) (n : ℕ) : Type 0 where
  pub rest : t ≡ drop (length old - length t) old
  pub front : take (length old - length t) old ≡ take n old

behind : (old : Text) (n : ℕ) → Later old (drop n old) n
behind old n =
    let len = length-drop n old in
    elim (laws.order n (length old)) [
      | inl l ↦ (let e : n ≡ length old - length (drop n old) = omega arith in record { rest = ap (λ k. drop k old) e; front = sym (ap (λ k. take k old) e) })
      | inr g ↦ (
          let e : length old ≤ length old - length (drop n old) = omega arith in
          record { rest = drop-past n old g ∙ sym (drop-past _ old e); front = take-past _ old e ∙ sym (take-past n old g) }
          )
    ]

pub later : (old t : Text) (n : ℕ) → t ≡ drop n old → Later old t n
later old t n e = let b = behind old n in rw e b

-- ---- the first character

at_first : (t : Text) (x : Text) (c : ℕ) → c ∷ x ≡ take 1 t → c ≡ first t
unfolding first
at_first [] x c e = cc
at_first (d ∷ t) x c e = cc

pub first_some : (bs rest : List ℕ) (c : ℕ) (t u : Text) → IsText bs → chars bs ≡ take (length t - length u) t → u ≡ drop 1 t → bs ≡ encode c ++ rest → c ≡ first t
first_some bs rest c t u v e d h = at_first t (chars rest) c (sym (chars_past_char bs rest c v.utf8 h) ∙ e ∙ (later t u 1 d).front)

no_first : (t : Text) → [] ≡ take 1 t → 0 ≡ first t
unfolding first
no_first [] e = refl
no_first (d ∷ t) e = cc

pub first_none : (bs : List ℕ) (t u : Text) → chars bs ≡ take (length t - length u) t → u ≡ drop 1 t → length bs ≡ 0 → 0 ≡ first t
first_none [] t u e d h = no_first t (sym chars-nil ∙ e ∙ (later t u 1 d).front)
first_none (b ∷ bs) t u e d h = absurd (omega arith)

-- ---- white space

pub blanks_on : (t u : Text) → is_blank (sign t) ≡ true → u ≡ drop 1 t → blanks t ≡ blanks u
unfolding blanks sign
blanks_on [] u h e = cc
blanks_on (c ∷ t) u h e = rw h (ap blanks (sym e))

pub blanks_less : (t : Text) → is_blank (sign t) ≡ true → length (drop 1 t) < length t
unfolding sign
blanks_less [] h = cc
blanks_less (c ∷ t) h = omega arith

pub blanks_done : (t : Text) → is_blank (sign t) ≡ false → t ≡ blanks t
unfolding blanks
blanks_done [] h = refl
blanks_done (c ∷ t) h = rw h refl

-- ---- runs

end_of_run : (k : Class) → is_in k 0 ≡ false
end_of_run class.Name = refl
end_of_run class.Binary = refl
end_of_run class.Octal = refl
end_of_run class.Decimal = refl
end_of_run class.Hexadecimal = refl

pub run_on : (k : Class) (t u : Text) → is_in k (first t) ≡ true → u ≡ drop 1 t → run_len k t ≡ 1 + run_len k u
unfolding run_len first
run_on k [] u h e = let z = end_of_run k in cc
run_on k (c ∷ t) u h e = rw h (ap (λ x. 1 + run_len k x) (sym e))

pub run_less : (k : Class) (t : Text) → is_in k (first t) ≡ true → length (drop 1 t) < length t
unfolding first
run_less k [] h = let z = end_of_run k in cc
run_less k (c ∷ t) h = omega arith

pub run_done : (k : Class) (t : Text) → is_in k (first t) ≡ false → run_len k t ≡ 0
unfolding run_len first
run_done k [] h = refl
run_done k (c ∷ t) h = rw h refl
