-- Laws of what a message shows of a text.
use Rattle.std.proofs.Common.{◌≡◌, ℕ, ◌+◌, ◌-◌, ◌<◌, ◌≤◌, Bool, true, false, cond, not, List, [], ◌∷◌, length, take, drop, get_or, refl, sym, ap, ◌∙◌, subst, ⊎_elim, arith}
use Rattle.std.specs.Prelude.{◌==◌, ◌||◌, if◌then◌else◌, slice_index}
use Rattle.std.specs.List.{prefix_len}
use Rattle.std.proofs.lemmas.List.{drop_more, drop_all, take_all, take-take, length-take, length-drop, drop-drop}
use Rattle.std.proofs.lemmas.List.Sums.{prefix_len-le-length, prefix_len_passes, prefix_len_stops}
use Rattle.std.proofs.lemmas.Bool.{cases_lt, false≢true}
use Rattle.std.proofs.lemmas.Bool.Decides.{nat_tests}
use Rattle.tclv_text.specs.Characters.{is_space}
use Rattle.tclv_text.specs.Cursors.{sign, sign_of, is_separator, begins_variable, is_name}
use Rattle.tclv_text.specs.declared.cursors.Sign.{Sign}
use Rattle.tclv_text.specs.declared.cursors.Sign.TheVariants.{Blank, Fold, Newline, Semicolon, Hash, OpenBrace, CloseBrace, Quote, Dollar, OpenBracket, CloseBracket, OpenParen, CloseParen, Star, Backslash, Name, Colons, Colon, Other}
use Rattle.tclv_model.specs.Values.{shown}
use Rattle.tclv_reply.specs.Shown.{is_shown, begins_shown}

both : (b : Bool) (x y : Sign) → is_shown x ≡ true → is_shown y ≡ true → is_shown (cond b x y) ≡ true
both true x y h k = h
both false x y h k = k

-- the signs but the two of white space
rest_shown : (c next third : ℕ) → is_shown (
    if c == 59 then Semicolon
    else (if c == 35 then Hash
    else (if c == 123 then OpenBrace
    else (if c == 125 then CloseBrace
    else (if c == 34 then Quote
    else (if c == 91 then OpenBracket
    else (if c == 93 then CloseBracket
    else (if c == 40 then OpenParen
    else (if c == 41 then CloseParen
    else (if c == 42 then Star
    else (if c == 92 then (if next == 10 then Fold else Backslash)
    else (if c == 36 then (if begins_variable next third then Dollar else Other)
    else (if c == 58 then (if next == 58 then Colons else Colon)
    else (if is_name c then Name
    else Other)))))))))))))) ≡ true
rest_shown c next third =
    let s14 : Sign = if is_name c then Name else Other in
    let h14 = both (is_name c) Name Other refl refl in
    let s13 : Sign = if c == 58 then (if next == 58 then Colons else Colon) else s14 in
    let h13 = both (c == 58) (if next == 58 then Colons else Colon) s14 (both (next == 58) Colons Colon refl refl) h14 in
    let s12 : Sign = if c == 36 then (if begins_variable next third then Dollar else Other) else s13 in
    let h12 = both (c == 36) (if begins_variable next third then Dollar else Other) s13 (both (begins_variable next third) Dollar Other refl refl) h13 in
    let s11 : Sign = if c == 92 then (if next == 10 then Fold else Backslash) else s12 in
    let h11 = both (c == 92) (if next == 10 then Fold else Backslash) s12 (both (next == 10) Fold Backslash refl refl) h12 in
    let s10 : Sign = if c == 42 then Star else s11 in
    let h10 = both (c == 42) Star s11 refl h11 in
    let s9 : Sign = if c == 41 then CloseParen else s10 in
    let h9 = both (c == 41) CloseParen s10 refl h10 in
    let s8 : Sign = if c == 40 then OpenParen else s9 in
    let h8 = both (c == 40) OpenParen s9 refl h9 in
    let s7 : Sign = if c == 93 then CloseBracket else s8 in
    let h7 = both (c == 93) CloseBracket s8 refl h8 in
    let s6 : Sign = if c == 91 then OpenBracket else s7 in
    let h6 = both (c == 91) OpenBracket s7 refl h7 in
    let s5 : Sign = if c == 34 then Quote else s6 in
    let h5 = both (c == 34) Quote s6 refl h6 in
    let s4 : Sign = if c == 125 then CloseBrace else s5 in
    let h4 = both (c == 125) CloseBrace s5 refl h5 in
    let s3 : Sign = if c == 123 then OpenBrace else s4 in
    let h3 = both (c == 123) OpenBrace s4 refl h4 in
    let s2 : Sign = if c == 35 then Hash else s3 in
    let h2 = both (c == 35) Hash s3 refl h3 in
    let s1 : Sign = if c == 59 then Semicolon else s2 in
    let h1 = both (c == 59) Semicolon s2 refl h2 in
    h1

space_cases : (c : ℕ) → is_space c ≡ is_separator c || (c == 10)
space_cases c = grind (arith, nat_tests)

choice : (a b : Bool) (z : Sign) → is_shown z ≡ true → is_shown (cond a Blank (cond b Newline z)) ≡ not (a || b)
choice true b z h = refl
choice false true z h = refl
choice false false z h = h

pub sign_shown : (t : List ℕ) → is_shown (sign t) ≡ begins_shown t
unfolding sign sign_of
sign_shown [] = refl
sign_shown (c ∷ cs) = choice (is_separator c) (c == 10) _ (rest_shown c (slice_index cs 0) (slice_index cs 1)) ∙ ap not (sym (space_cases c))

-- a character that is shown
abbrev pub p : ℕ → Bool
p c = not (is_space c)

begins_at : (n : ℕ) (t : List ℕ) → n < length t → begins_shown (drop n t) ≡ p (get_or t n 0)
begins_at n t h = ap begins_shown (drop_more t n 0 h)

begins_past : (n : ℕ) (t : List ℕ) → length t ≤ n → begins_shown (drop n t) ≡ false
begins_past n t h = ap begins_shown (drop_all n t h)

-- one more character is shown
pub shown_more : (n : ℕ) (t : List ℕ) → n ≤ prefix_len p t → begins_shown (drop n t) ≡ true → n + 1 ≤ prefix_len p t
shown_more n t h b =
    ⊎_elim (λ (l : n < prefix_len p t). let r : n + 1 ≤ prefix_len p t = omega arith in r)
    (λ (g : prefix_len p t ≤ n).
    let e : prefix_len p t ≡ n = omega arith in
    ⊎_elim (λ (l : n < length t).
    let stop : p (get_or t n 0) ≡ false = subst (λ k. p (get_or t k 0) ≡ false) e (prefix_len_stops p t 0 (subst (λ k. k < length t) (sym e) l)) in absurd (false≢true (sym stop ∙ sym (begins_at n t l) ∙ b)))
    (λ (l : length t ≤ n). absurd (false≢true (sym (begins_past n t l) ∙ b))) (cases_lt n (length t)))
    (cases_lt n (prefix_len p t))

-- where white space or the end comes, all is shown
pub shown_end : (n : ℕ) (t : List ℕ) → n ≤ 20 → n ≤ prefix_len p t → begins_shown (drop n t) ≡ false → take n t ≡ shown t
shown_end n t l h b =
    ⊎_elim (λ (g : n < prefix_len p t).
    let inside : n < length t = omega (arith, prefix_len-le-length p t) in absurd (false≢true (sym b ∙ begins_at n t inside ∙ prefix_len_passes p t n 0 g)))
    (λ (g : prefix_len p t ≤ n).
    let e : prefix_len p t ≡ n = omega arith in
    let few : length (take n t) ≤ 20 = omega (arith, length-take n t) in
    sym (ap (λ k. take 20 (take k t)) e ∙ take_all 20 (take n t) few))
    (cases_lt n (prefix_len p t))

-- or where 20 are
pub shown_all : (n : ℕ) (t : List ℕ) → n ≡ 20 → n ≤ prefix_len p t → take n t ≡ shown t
shown_all n t e h = ap (λ k. take k t) e ∙ sym (take-take 20 (prefix_len p t) t (subst (λ k. k ≤ prefix_len p t) e h))

-- a text up to a later place
pub front_is : (from at t : List ℕ) (n : ℕ) → from ≡ t → at ≡ drop n from → n ≤ prefix_len p from → take (length from - length at) from ≡ take n t
front_is from at t n f e h =
    let l : n ≤ length from = omega (arith, prefix_len-le-length p from) in
    let k : length from - length at ≡ n = omega (arith, ap length e, length-drop n from) in
    ap (λ m. take m from) k ∙ ap (take n) f

pub step_on : (at new from : List ℕ) (n : ℕ) → at ≡ drop n from → new ≡ drop 1 at → new ≡ drop (n + 1) from
step_on at new from n e f = f ∙ ap (drop 1) e ∙ drop-drop 1 n from
