-- Where an operand must begin and none does.
use Rattle.std.proofs.Common.{◌≡◌, ◌≢◌, ℕ, zero, suc, ◌+◌, ◌<◌, ◌==◌, ◌⊎◌, inl, inr, Bool, true, false, cond, ◌||◌, ◌&&◌, if◌then◌else◌, [], ◌∷◌, ◌++◌, drop, take, length, nat_lt, slice_index, Ok, Err, refl, sym, ap, subst, ◌∙◌, arith}
use Rattle.std.proofs.lemmas.Bool.{eqb-true}
use Rattle.std.proofs.lemmas.Bool.Decides.{nat_tests}
use Rattle.std.specs.Char.{is_ascii_digit}
use Rattle.std.specs.List.{prefix_len}
use Rattle.tclv_text.specs.Cursors.{sign, sign_of, is_separator, is_name, begins_variable}
use Rattle.tclv_text.specs.declared.cursors.Sign.{Sign}
use Rattle.tclv_text.specs.declared.cursors.Sign.TheVariants as s
use Rattle.tclv_parse.specs.Runs.{Text}
use Rattle.tclv_parse.specs.Grammar.{place}
use Rattle.tclv_exprp.specs.declared.faults.Fault.{Fault}
use Rattle.tclv_exprp.specs.declared.faults.Fault.TheVariants as f
use Rattle.tclv_exprp.specs.declared.operands.Begins.{Begins}
use Rattle.tclv_exprp.specs.declared.operands.Begins.TheVariants as b
use Rattle.tclv_exprp.specs.declared.operators.Op1.TheVariants as u
use Rattle.tclv_exprp.specs.declared.tree.ExprTree.{ExprTree}
use Rattle.tclv_exprp.specs.Fronts.{first, second, third, blanks, is_blank, run_len, digits_len, sign_len}
use Rattle.tclv_exprp.specs.Numerals.{based_digits, whole_len, floating_len, exponent_len, lacks_digits}
use Rattle.tclv_exprp.specs.Infixes.{levels, at_level, power_level}
use Rattle.tclv_exprp.specs.Operands.{begins_number, plain_start, start_by, start, half_len}
use Rattle.tclv_exprp.specs.Outcomes.{Outcome, and_then}
use Rattle.tclv_exprp.specs.ExpressionGrammar.{Readers, binary, readers, deep, deep_by, operand_by, number, sized, no_operand, power_by, choice}
use Rattle.tclv_exprp.specs.OperandFaults.{FailWith, ReadNothing, FaultsOfOperands}
use Rattle.tclv_exprp.proofs.NestingLemmas.{operand_none, power_none, expr_none, operand_in, power_in, expr_in, binary_fails}

-- ---- a fault of the operand is that of the power and of the expression

powers_alone : (total n : ℕ) (t : Text) → binary (readers total n).1 zero t ≡ (readers total n).1 t
unfolding binary
powers_alone total n t = refl

all_fail : (total n : ℕ) (t : Text) (e : Fault) → (readers total n).0 t ≡ Err e → FailWith (readers total n) t e
all_fail total zero t e h =
    let d : deep total t ≡ Err e = sym (operand_none total 0 t refl) ∙ h in
    record { operand = h; power = power_none total 0 t refl ∙ d; expression = expr_none total 0 t refl ∙ d }
all_fail total (suc n) t e h =
    let p : (readers total (suc n)).1 t ≡ Err e = power_in total (suc n) n t refl ∙ ap (λ o. and_then o (λ x u. power_by total (readers total n) x u (at_level power_level (blanks u)))) h in
    record {
      operand = h;
      power = p;
      expression = expr_in total (suc n) n t refl ∙ ap (λ o. and_then o (choice total (readers total n))) (binary_fails (readers total (suc n)).1 0 levels t e (omega arith) (powers_alone total (suc n) t ∙ p));
    }

err_not_ok : {A E : Type 0} {e : E} {a : A} → Err e ≡ Ok a → ⊥
err_not_ok h = cc

nothing_read : (r : Readers) (t : Text) (e : Fault) → FailWith r t e → ReadNothing r t
nothing_read r t e h = record { operand = λ p q. err_not_ok (sym h.operand ∙ q); power = λ p q. err_not_ok (sym h.power ∙ q); expression = λ p q. err_not_ok (sym h.expression ∙ q) }

-- ---- what is met where none begins

missed : (total room : ℕ) (t : Text) → start (blanks t) ≡ b.Other → (readers total room).0 t ≡ Err (no_operand total (blanks t))
unfolding deep
missed total zero t h = operand_none total 0 t refl ∙ ap (deep_by total (blanks t)) h
missed total (suc room) t h = operand_in total (suc room) room t refl ∙ ap (operand_by total (readers total room) (blanks t)) h

-- a point with digits behind it is of floating form
fraction_counts : (m e : ℕ) → 0 < m → nat_lt 0 (if 0 + m == 0 then 0 else 0 + (1 + m) + e) ≡ true
fraction_counts m e h = grind (arith, nat_tests)

some_digits : (d : ℕ) (y : Text) → is_ascii_digit d ≡ true → 0 < digits_len (d ∷ y)
unfolding run_len
some_digits d y h = subst (λ b. 0 < cond b (1 + prefix_len is_ascii_digit y) 0) (sym h) (omega arith)

point_floats : (d : ℕ) (y : Text) → is_ascii_digit d ≡ true → nat_lt (whole_len (46 ∷ d ∷ y)) (floating_len (46 ∷ d ∷ y)) ≡ true
unfolding whole_len based_digits floating_len run_len first
point_floats d y h = fraction_counts (digits_len (d ∷ y)) (exponent_len (drop (digits_len (d ∷ y)) (d ∷ y))) (some_digits d y h)

abbrev not_floating : ℕ → Text → Outcome ExprTree
not_floating total t = if lacks_digits t then Err (f.Syntax (place total (drop 2 t))) else sized (take (0 + whole_len t) t) (drop (0 + whole_len t) t)

point_refused : (total d : ℕ) (y : Text) → is_ascii_digit d ≡ true → (e : Fault) × (number total (46 ∷ d ∷ y) ≡ Err e)
unfolding number sign_len first
point_refused total d y h = (f.FloatLiteral (place total (46 ∷ d ∷ y)) (0 + floating_len (46 ∷ d ∷ y)), subst (λ c. (if c then Err (f.FloatLiteral (place total (46 ∷ d ∷ y)) (0 + floating_len (46 ∷ d ∷ y))) else not_floating total (46 ∷ d ∷ y)) ≡ Err (f.FloatLiteral (place total (46 ∷ d ∷ y)) (0 + floating_len (46 ∷ d ∷ y)))) (sym (point_floats d y h)) refl)

-- a point with a digit behind it
record Point (v : Text) : Type 0 where
  digit : ℕ
  rest : Text
  is : v ≡ 46 ∷ digit ∷ rest
  one : is_ascii_digit digit ≡ true

-- no white space comes, and no operand that is one of an expression
record Misses (v : Text) : Type 0 where
  bare : is_blank (sign v) ≡ false
  begins : (start v ≡ b.Other) ⊎ Point v

blanks_same : (v : Text) → is_blank (sign v) ≡ false → blanks v ≡ v
unfolding blanks
blanks_same [] h = refl
blanks_same (c ∷ t) h = ap (λ b. if b then blanks t else c ∷ t) h

blanks_bare : (t : Text) → is_blank (sign (blanks t)) ≡ false
unfolding blanks sign
blanks_bare [] = refl
blanks_bare (c ∷ t) = elim (is_blank (sign (c ∷ t))) as (λ b. is_blank (sign (c ∷ t)) ≡ b → is_blank (sign (if b then blanks t else c ∷ t)) ≡ false) [ true ↦ λ _. blanks_bare t | false ↦ λ e. e ] refl

point_start : (d : ℕ) (y : Text) → is_ascii_digit d ≡ true → start (46 ∷ d ∷ y) ≡ b.Number
unfolding start sign sign_of plain_start begins_number first
point_start d y h = ap (λ c. if c || false then b.Number else b.Other) h

deep_refused : (total : ℕ) (t : Text) (x : Begins) → (e : Fault) × (deep_by total t x ≡ Err e)
deep_refused total t b.Other = (no_operand total t, refl)
deep_refused total t _ = (f.TooDeep, refl)

point_at : (total room : ℕ) (v : Text) → is_blank (sign v) ≡ false → Point v → (e : Fault) × ((readers total room).0 v ≡ Err e)
unfolding deep
point_at total zero v bare p = let d = deep_refused total (blanks v) (start (blanks v)) in (d.0, operand_none total 0 v refl ∙ d.1)
point_at total (suc n) v bare p =
    let e = point_refused total p.digit p.rest p.one in (
      e.0,
      operand_in total (suc n) n v refl ∙ ap (λ x. operand_by total (readers total n) x (start x)) (blanks_same v bare ∙ p.is) ∙ ap (operand_by total (readers total n) (46 ∷ p.digit ∷ p.rest)) (point_start p.digit p.rest p.one) ∙ e.1,
    )

refused : (total room : ℕ) (v : Text) → Misses v → (e : Fault) × ((readers total room).0 v ≡ Err e)
refused total room v m = elim m.begins as (λ _. (e : Fault) × ((readers total room).0 v ≡ Err e)) [
  | inl h ↦ (no_operand total (blanks v), missed total room v (ap start (blanks_same v m.bare) ∙ h))
  | inr p ↦ point_at total room v m.bare p
]

-- ---- by the first character

abbrev Stays : ℕ → Text → Type 0
Stays c us = is_blank (sign (c ∷ us)) ≡ false → start (c ∷ us) ≡ b.Other → half_len (c ∷ us) < length (c ∷ us) → (rest : Text) → Misses (take (suc (half_len (c ∷ us))) (c ∷ us) ++ rest)

at_backslash : (us : Text) → Stays 92 us
unfolding sign sign_of start plain_start begins_number first half_len
at_backslash [] bare none more rest = absurd (omega (arith, more))
at_backslash (d ∷ ds) bare none more rest = record {
  bare = bare;
  begins = inl (elim (d == 10) as (λ c. start_by (if c then s.Fold else s.Backslash) (92 ∷ d ∷ rest) ≡ b.Other) [ true ↦ refl | false ↦ refl ]);
}

at_colons : (ds : Text) → Stays 36 (58 ∷ ds)
unfolding sign sign_of start plain_start begins_number first half_len
at_colons [] bare none more rest = absurd (omega (arith, more))
at_colons (e ∷ es) bare none more rest = record {
  bare = bare;
  begins = inl ((elim (begins_variable 58 e) as (λ c. start_by (if c then s.Dollar else s.Other) (36 ∷ 58 ∷ e ∷ es) ≡ b.Other → start_by (if c then s.Dollar else s.Other) (36 ∷ 58 ∷ e ∷ rest) ≡ b.Other) [
    | true ↦ λ h. absurd (cc)
    | false ↦ λ h. refl
  ]) none);
}

abbrev no_colons : ℕ → Bool
no_colons d = d == 123 || d == 40 || is_name d || false

no_dollar : (d : ℕ) (ds rest : Text) → (d == 58) ≡ false → start (36 ∷ d ∷ ds) ≡ b.Other → Misses (36 ∷ d ∷ rest)
unfolding sign sign_of start plain_start begins_number first
no_dollar d ds rest e none =
    let alone : (t : ℕ) → begins_variable d t ≡ no_colons d = λ t. ap (λ c. d == 123 || d == 40 || is_name d || (c && t == 58)) e in
    let t1 = slice_index (d ∷ ds) 1 in
    let t2 = slice_index (d ∷ rest) 1 in
    let never : no_colons d ≡ false = (elim (no_colons d) as (λ c. start_by (if c then s.Dollar else s.Other) (36 ∷ d ∷ ds) ≡ b.Other → c ≡ false) [
      | true ↦ λ h. absurd (cc)
      | false ↦ λ h. refl
    ]) (ap (λ c. start_by (if c then s.Dollar else s.Other) (36 ∷ d ∷ ds)) (sym (alone t1)) ∙ none) in
    record {
      bare = ap (λ c. is_blank (if c then s.Dollar else s.Other)) (alone t2 ∙ never);
      begins = inl (ap (λ c. start_by (if c then s.Dollar else s.Other) (36 ∷ d ∷ rest)) (alone t2 ∙ never));
    }

at_dollar : (us : Text) → Stays 36 us
unfolding half_len first
at_dollar [] bare none more rest = absurd (omega (arith, more))
at_dollar (d ∷ ds) bare none more rest = (elim (d == 58) as (λ c. (d == 58) ≡ c → Misses (take (suc (half_len (36 ∷ d ∷ ds))) (36 ∷ d ∷ ds) ++ rest)) [
  | true ↦ λ e. let same = eqb-true d 58 e in subst (λ k. Stays 36 (k ∷ ds)) (sym same) (at_colons ds) bare none more rest
  | false ↦ λ e. subst (λ (n : ℕ). Misses (take (suc n) (36 ∷ d ∷ ds) ++ rest)) (sym (ap (λ c. if c then 2 else 1) e)) (no_dollar d ds rest e none)
]) refl

point_alone : (rest : Text) → (start (46 ∷ rest) ≡ b.Other) ⊎ Point (46 ∷ rest)
unfolding sign sign_of start plain_start begins_number first
point_alone [] = inl refl
point_alone (d ∷ y) = (elim (is_ascii_digit d) as (λ c. is_ascii_digit d ≡ c → (start (46 ∷ d ∷ y) ≡ b.Other) ⊎ Point (46 ∷ d ∷ y)) [
  | true ↦ λ e. inr (record { digit = d; rest = y; is = refl; one = e })
  | false ↦ λ e. inl (ap (λ c. if c || false then b.Number else b.Other) e)
]) refl

at_point : (us : Text) → Stays 46 us
unfolding sign sign_of half_len first
at_point us bare none more rest = record { bare = refl; begins = point_alone rest }

at_colon : (us : Text) → Stays 58 us
unfolding sign sign_of start plain_start begins_number first half_len
at_colon us bare none more rest = record {
  bare = elim (slice_index rest 0 == 58) as (λ c. is_blank (if c then s.Colons else s.Colon) ≡ false) [ true ↦ refl | false ↦ refl ];
  begins = inl (elim (slice_index rest 0 == 58) as (λ c. start_by (if c then s.Colons else s.Colon) (58 ∷ rest) ≡ b.Other) [ true ↦ refl | false ↦ refl ]);
}

-- another character has one sign, whatever stands behind it
abbrev sign_tree : ℕ → Bool → Sign → Bool → Sign → Bool → Sign → Sign
sign_tree c backslash x dollar y colon z =
    if is_separator c then s.Blank
    else (if c == 10 then s.Newline
    else (if c == 59 then s.Semicolon
    else (if c == 35 then s.Hash
    else (if c == 123 then s.OpenBrace
    else (if c == 125 then s.CloseBrace
    else (if c == 34 then s.Quote
    else (if c == 91 then s.OpenBracket
    else (if c == 93 then s.CloseBracket
    else (if c == 40 then s.OpenParen
    else (if c == 41 then s.CloseParen
    else (if c == 42 then s.Star
    else (if backslash then x
    else (if dollar then y
    else (if colon then z
    else (if is_name c then s.Name
    else s.Other)))))))))))))))

one_sign : (c x y : ℕ) → (c == 92) ≡ false → (c == 36) ≡ false → (c == 58) ≡ false → sign_of c x y ≡ sign_tree c false s.Other false s.Other false s.Other
unfolding sign_of
one_sign c x y e f g =
    let p : Sign = if x == 10 then s.Fold else s.Backslash in
    let q : Sign = if begins_variable x y then s.Dollar else s.Other in
    let r : Sign = if x == 58 then s.Colons else s.Colon in
    ap (λ b. sign_tree c b p (c == 36) q (c == 58) r) e ∙ ap (λ b. sign_tree c false p b q (c == 58) r) f ∙ ap (λ b. sign_tree c false p false q b r) g

abbrev plain_tree : Bool → Bool → Bool → Bool → Bool → Bool → Bool → Bool → Bool → Begins
plain_tree digit point x plus minus y invert not name =
    if (digit || (point && x)) || ((plus || minus) && y) then b.Number
    else (if minus then b.Unary u.Minus
    else (if plus then b.Unary u.Plus
    else (if invert then b.Unary u.Invert
    else (if not then b.Unary u.Not
    else (if name then b.Name
    else b.Other)))))

tree_alone : (digit x plus minus y invert not name x' y' : Bool) → plain_tree digit false x plus minus y invert not name ≡ b.Other → plain_tree digit false x' plus minus y' invert not name ≡ b.Other
tree_alone true x plus minus y invert not name x' y' h = absurd (cc)
tree_alone false x true true true invert not name x' y' h = absurd (cc)
tree_alone false x true true false invert not name x' y' h = absurd (cc)
tree_alone false x true false true invert not name x' y' h = absurd (cc)
tree_alone false x true false false invert not name x' y' h = absurd (cc)
tree_alone false x false true true invert not name x' y' h = absurd (cc)
tree_alone false x false true false invert not name x' y' h = absurd (cc)
tree_alone false x false false y invert not name x' y' h = h

plain_alone : (c d e d' e' : ℕ) → (c == 46) ≡ false → plain_start c d e ≡ b.Other → plain_start c d' e' ≡ b.Other
unfolding plain_start begins_number
plain_alone c d e d' e' p h =
    let t = λ (o : Bool) (d e : ℕ). plain_tree (is_ascii_digit c) o (is_ascii_digit d) (c == 43) (c == 45) (is_ascii_digit d || (d == 46 && is_ascii_digit e)) (c == 126) (c == 33) (is_name c) in
    ap (λ o. t o d' e') p ∙ tree_alone (is_ascii_digit c) (is_ascii_digit d) (c == 43) (c == 45) (is_ascii_digit d || (d == 46 && is_ascii_digit e)) (c == 126) (c == 33) (is_name c) (is_ascii_digit d') (is_ascii_digit d' || (d' == 46 && is_ascii_digit e'))
    (sym (ap (λ o. t o d e) p) ∙ h)

start_alone : (z : Sign) (c : ℕ) (us rest : Text) → (c == 46) ≡ false → start_by z (c ∷ us) ≡ b.Other → start_by z (c ∷ rest) ≡ b.Other
unfolding first
start_alone s.Dollar c us rest p h = absurd (cc)
start_alone s.Quote c us rest p h = absurd (cc)
start_alone s.OpenBrace c us rest p h = absurd (cc)
start_alone s.OpenBracket c us rest p h = absurd (cc)
start_alone s.OpenParen c us rest p h = absurd (cc)
start_alone _ c us rest p h = plain_alone c (second (c ∷ us)) (third (c ∷ us)) (second (c ∷ rest)) (third (c ∷ rest)) p h

at_other : (c : ℕ) (us : Text) → (c == 92) ≡ false → (c == 36) ≡ false → (c == 58) ≡ false → (c == 46) ≡ false → Stays c us
unfolding sign start half_len first
at_other c us e f g p bare none more rest =
    let n : half_len (c ∷ us) ≡ 0 = ap (λ b. if b then 1 else (if c == 36 then (if second (c ∷ us) == 58 then 2 else 1) else 0)) e ∙ ap (λ b. if b then (if second (c ∷ us) == 58 then 2 else 1) else 0) f in
    let same : sign (c ∷ rest) ≡ sign (c ∷ us) = one_sign c (slice_index rest 0) (slice_index rest 1) e f g ∙ sym (one_sign c (slice_index us 0) (slice_index us 1) e f g) in
    subst (λ (k : ℕ). Misses (take (suc k) (c ∷ us) ++ rest)) (sym n) (record {
      bare = ap is_blank same ∙ bare;
      begins = inl (ap (λ z. start_by z (c ∷ rest)) same ∙ start_alone (sign (c ∷ us)) c us rest p none);
    })

by_character : (c : ℕ) (us : Text) → Stays c us
by_character c us = (elim (c == 92) as (λ x. (c == 92) ≡ x → Stays c us) [
  | true ↦ λ e. subst (λ k. Stays k us) (sym (eqb-true c 92 e)) (at_backslash us)
  | false ↦ λ e. (elim (c == 36) as (λ x. (c == 36) ≡ x → Stays c us) [
    | true ↦ λ f. subst (λ k. Stays k us) (sym (eqb-true c 36 f)) (at_dollar us)
    | false ↦ λ f. (elim (c == 58) as (λ x. (c == 58) ≡ x → Stays c us) [
      | true ↦ λ g. subst (λ k. Stays k us) (sym (eqb-true c 58 g)) (at_colon us)
      | false ↦ λ g. (elim (c == 46) as (λ x. (c == 46) ≡ x → Stays c us) [
        | true ↦ λ p. subst (λ k. Stays k us) (sym (eqb-true c 46 p)) (at_point us)
        | false ↦ λ p. at_other c us e f g p
      ]) refl
    ]) refl
  ]) refl
]) refl

none_begins : (v : Text) → is_blank (sign v) ≡ false → start v ≡ b.Other → half_len v < length v → (rest : Text) → Misses (take (suc (half_len v)) v ++ rest)
none_begins [] bare none more rest = absurd (omega (arith, more))
none_begins (c ∷ us) bare none more rest = by_character c us bare none more rest

-- ---- what could still begin

abbrev Could : Text → Type 0
Could front = (rest : Text) × (start (blanks (front ++ rest)) ≢ b.Other)

could_digit : Could []
unfolding blanks sign sign_of start plain_start begins_number first
could_digit = (49 ∷ [], λ h. cc)

could_fold : Could (92 ∷ [])
unfolding blanks sign sign_of start plain_start begins_number first
could_fold = (10 ∷ 49 ∷ [], λ h. cc)

could_name : Could (36 ∷ [])
unfolding blanks sign sign_of start plain_start begins_number first
could_name = (97 ∷ [], λ h. cc)

could_colons : Could (36 ∷ 58 ∷ [])
unfolding blanks sign sign_of start plain_start begins_number first
could_colons = (58 ∷ 97 ∷ [], λ h. cc)

could_dollar : (us : Text) → Could (take (half_len (36 ∷ us)) (36 ∷ us))
unfolding half_len first
could_dollar [] = could_name
could_dollar (d ∷ ds) = (elim (d == 58) as (λ c. (d == 58) ≡ c → Could (take (if c then 2 else 1) (36 ∷ d ∷ ds))) [
  | true ↦ λ e. subst (λ k. Could (36 ∷ k ∷ [])) (sym (eqb-true d 58 e)) could_colons
  | false ↦ λ e. could_name
]) refl

some_begin : (v : Text) → Could (take (half_len v) v)
unfolding half_len first
some_begin [] = could_digit
some_begin (c ∷ us) = (elim (c == 92) as (λ x. (c == 92) ≡ x → Could (take (if x then 1 else (if c == 36 then (if second (c ∷ us) == 58 then 2 else 1) else 0)) (c ∷ us))) [
  | true ↦ λ e. subst (λ k. Could (k ∷ [])) (sym (eqb-true c 92 e)) could_fold
  | false ↦ λ e. (elim (c == 36) as (λ x. (c == 36) ≡ x → Could (take (if x then (if second (c ∷ us) == 58 then 2 else 1) else 0) (c ∷ us))) [
    | true ↦ λ f. subst (λ k. Could (take (if second (k ∷ us) == 58 then 2 else 1) (k ∷ us))) (sym (eqb-true c 36 f)) (could_dollar us)
    | false ↦ λ f. could_digit
  ]) refl
]) refl

-- ---- the law

pub faults_of_operands : FaultsOfOperands
faults_of_operands t h = record {
  fault = λ total room. all_fail total room t (no_operand total (blanks t)) (missed total room t h);
  none = λ more total room rest.
      let v = take (suc (half_len (blanks t))) (blanks t) ++ rest in
      let r = refused total room v (none_begins (blanks t) (blanks_bare t) h more rest) in
      nothing_read (readers total room) v r.0 (all_fail total room v r.0 r.1);
  some = some_begin (blanks t);
}
