-- The canonical text of a list reads as that list.
use Rattle.std.proofs.Common.{◌≡◌, ℕ, suc, ◌+◌, ◌-◌, ◌<◌, Bool, true, false, cond, not, List, [], ◌∷◌, ◌++◌, Option, Some, None, Ok, length, take, drop, sym, ap, ◌∙◌, subst, refl, arith, eqb, ◌&&◌, ◌||◌}
use Rattle.std.proofs.lemmas.List.{take_at, drop_at, append_assoc, length-append}
use Rattle.std.proofs.lemmas.Bool.{cases_eq, cond-true, cond-false, eq-eqb, ne_eqb, eqb-false, or_parts, and_parts, false≢true, not-false, not-true}
use Rattle.std.proofs.lemmas.Bool.Decides.{nat_tests}
use mathlib.Core.Logic.{⊎_elim}
use Rattle.tclv_text.specs.Characters.{is_space}
use Rattle.tclv_text.specs.Scans.{scan_len, count_on}
use Rattle.tclv_text.proofs.Scans.{scan_len_go, scan_len_stop}
use Rattle.tclv_text.specs.Lists.{is_end}
use Rattle.tclv_text.specs.Elements.{brace_step, bare_step, plain_step, pieces, pieces_from, values, elements}
use Rattle.tclv_text.specs.declared.lists.Bare.TheVariants.{Plain, Escape}
use Rattle.tclv_text.specs.Escapes.{escape, unescape_from, unescape}
use Rattle.tclv_text.specs.Quotes.{fits_step, fits_on, fits_braces, wants_braces, begins_marked, wants_backslashes, begins_comment, backslash_mark, with_mark, backslashed, backslashed_first, in_braces, quoted_some, quoted, further, list_text}
use Rattle.tclv_text.proofs.ListLemmas.{closed_rest, then_rest, pieces_element, element_brace, element_bare, pieces_past_space, with_element, values_piece}

-- a test against a number, with what each answer says
case : {A : Type 0} (P : A → Type 0) (c k : ℕ) (x y : A) → (c ≡ k → P x) → ((c ≡ k → ⊥) → P y) → P (cond (eqb c k) x y)
case P c k x y f g = ⊎_elim (λ (e : c ≡ k). subst P (sym (cond-true _ _ _ (eq-eqb c k e))) (f e)) (λ (e : c ≡ k → ⊥). subst P (sym (cond-false _ _ _ (ne_eqb c k e))) (g e)) (cases_eq c k)

steps_agree : (s : ℕ × Bool) (c : ℕ) (t : ℕ × Bool) → fits_step s c ≡ Some t → brace_step s c ≡ Some t
steps_agree (d, true) c t h = (elim (eqb c 10) as (λ b. cond b None (Some (d, false)) ≡ Some t → Some (d, false) ≡ Some t) [ true ↦ λ q. cc | false ↦ λ q. q ]) h
steps_agree (d, false) c t h = h

fits_end : (d : ℕ) (b : Bool) → (eqb d 0 && not b) ≡ true → (eqb d 0 ≡ true) × (b ≡ false)
fits_end d b h = let p = and_parts (eqb d 0) (not b) h in (p.0, not-true b p.1)

-- in braces
fits_scan : (s : ℕ × Bool) (t r : List ℕ) → fits_braces s t ≡ true → scan_len brace_step s (t ++ 125 ∷ r) ≡ length t
fits_scan (d, b) [] r h =
    let e = fits_end d b h in
    subst (λ x. scan_len brace_step (d, x) (125 ∷ r) ≡ 0) (sym e.1) (ap (λ o. count_on o (λ s. scan_len brace_step s r)) (cond-true (eqb d 0) None (Some (d - 1, false)) e.0))
fits_scan s (c ∷ t) r h =
    (elim (fits_step s c) as (λ o. fits_step s c ≡ o → fits_on o (λ u. fits_braces u t) ≡ true → scan_len brace_step s (c ∷ (t ++ 125 ∷ r)) ≡ suc (length t)) [
      | None ↦ λ e q. absurd (false≢true q)
      | Some u ↦ λ e q. scan_len_go brace_step s u c (t ++ 125 ∷ r) (steps_agree s c u e) ∙ ap suc (fits_scan u t r q)
    ]) refl h

pub elements_braced : (t r : List ℕ) → fits_braces (0, false) t ≡ true → is_end r ≡ true → elements (in_braces t ++ r) ≡ with_element t (elements r)
elements_braced t r h e =
    let cs = t ++ 125 ∷ r in
    let n : scan_len brace_step (0, false) cs ≡ length t = fits_scan (0, false) t r h in
    ap (λ x. elements (123 ∷ x)) (append_assoc t (125 ∷ []) r)
    ∙ ap values
    (
    pieces_element 123 cs refl
    ∙ ap then_rest
    (
    element_brace 123 cs refl
    ∙ ap (λ k. closed_rest (record { raw = true; units = take k cs }) (drop k cs)) n
    ∙ ap (λ x. closed_rest (record { raw = true; units = x }) (drop (length t) cs)) (take_at t (125 ∷ r) (length t) refl)
    ∙ ap (closed_rest (record { raw = true; units = t })) (drop_at t (125 ∷ r) (length t) refl)
    ∙ cond-true _ _ _ e
    )
    )
    ∙ values_piece (record { raw = true; units = t }) (pieces r)

-- x spells u without marks
abbrev pub HeadOk : List ℕ → Type 0
HeadOk [] = ⊥
HeadOk (c ∷ cs) = (is_space c ≡ false) × (eqb c 123 ≡ false) × (eqb c 34 ≡ false)

pub record IsBare (x u : List ℕ) : Type 0 where
  pub head : HeadOk x
  pub scan : (r : List ℕ) → is_end r ≡ true → scan_len bare_step Plain (x ++ r) ≡ length x
  pub reads : unescape x ≡ u

pub elements_bare : (x u r : List ℕ) → IsBare x u → is_end r ≡ true → elements (x ++ r) ≡ with_element u (elements r)
elements_bare [] u r b e = absurd b.head
elements_bare (c ∷ cs) u r b e =
    let t = c ∷ (cs ++ r) in
    ap values
    (
    pieces_element c (cs ++ r) b.head.0
    ∙ ap then_rest
    (
    element_bare c (cs ++ r) b.head.1 b.head.2
    ∙ ap (λ k. Ok (record { raw = false; units = take k t }, drop k t)) (b.scan r e)
    ∙ ap (λ y. Ok (record { raw = false; units = y }, drop (length (c ∷ cs)) t)) (take_at (c ∷ cs) r (length (c ∷ cs)) refl)
    ∙ ap (λ y. Ok (record { raw = false; units = c ∷ cs }, y)) (drop_at (c ∷ cs) r (length (c ∷ cs)) refl)
    )
    )
    ∙ values_piece (record { raw = false; units = c ∷ cs }) (pieces r)
    ∙ ap (λ y. with_element y (elements r)) b.reads

-- what a unit and its mark are to a reader
pub UnitOk : Bool → ℕ → Option ℕ → Type 0
UnitOk b c None = (is_space c ≡ false) × (c ≡ 92 → ⊥) × (c ≡ 34 → ⊥) × (b ≡ true → c ≡ 123 → ⊥)
UnitOk b c (Some k) = (k ≡ 10 → ⊥) × ((rest : List ℕ) → escape (k ∷ rest) ≡ (c, 1))

marked_unit : (b : Bool) (c m k : ℕ) → c ≡ m → (k ≡ 10 → ⊥) → ((rest : List ℕ) → escape (k ∷ rest) ≡ (m, 1)) → UnitOk b c (Some k)
unfolding UnitOk
marked_unit b c m k e n f = (n, λ rest. f rest ∙ ap (λ x. (x, 1)) (sym e))

plain_unit : (b : Bool) (c : ℕ) → is_space c ≡ false → (c ≡ 92 → ⊥) → (c ≡ 34 → ⊥) → (b ≡ true → c ≡ 123 → ⊥) → UnitOk b c None
unfolding UnitOk
plain_unit b c s n q m = (s, n, q, m)

pub unit_ok : (b : Bool) (c : ℕ) → UnitOk b c (backslash_mark b c)
unfolding escape
unit_ok b c =
    case (UnitOk b c) c 9 _ _ (λ e. marked_unit b c 9 116 e (λ q. omega arith) (λ r. refl)) (λ n9.
    case (UnitOk b c) c 10 _ _ (λ e. marked_unit b c 10 110 e (λ q. omega arith) (λ r. refl)) (λ n10.
    case (UnitOk b c) c 11 _ _ (λ e. marked_unit b c 11 118 e (λ q. omega arith) (λ r. refl)) (λ n11.
    case (UnitOk b c) c 12 _ _ (λ e. marked_unit b c 12 102 e (λ q. omega arith) (λ r. refl)) (λ n12.
    case (UnitOk b c) c 13 _ _ (λ e. marked_unit b c 13 114 e (λ q. omega arith) (λ r. refl)) (λ n13.
    case (UnitOk b c) c 32 _ _ (λ e. marked_unit b c 32 32 e (λ q. omega arith) (λ r. refl)) (λ n32.
    case (UnitOk b c) c 93 _ _ (λ e. marked_unit b c 93 93 e (λ q. omega arith) (λ r. refl)) (λ n93.
    case (UnitOk b c) c 91 _ _ (λ e. marked_unit b c 91 91 e (λ q. omega arith) (λ r. refl)) (λ n91.
    case (UnitOk b c) c 36 _ _ (λ e. marked_unit b c 36 36 e (λ q. omega arith) (λ r. refl)) (λ n36.
    case (UnitOk b c) c 59 _ _ (λ e. marked_unit b c 59 59 e (λ q. omega arith) (λ r. refl)) (λ n59.
    case (UnitOk b c) c 92 _ _ (λ e. marked_unit b c 92 92 e (λ q. omega arith) (λ r. refl)) (λ n92.
    case (UnitOk b c) c 34 _ _ (λ e. marked_unit b c 34 34 e (λ q. omega arith) (λ r. refl)) (λ n34.
    let space : is_space c ≡ false = grind (arith, nat_tests) in
    case (UnitOk b c) c 123 _ _ (λ e. elim b as (λ b. UnitOk b c (cond b (Some 123) None)) [
      | true ↦ marked_unit true c 123 123 e (λ q. omega arith) (λ r. refl)
      | false ↦ plain_unit false c space n92 n34 (λ q. absurd (false≢true q))
    ]) (λ n123.
    case (UnitOk b c) c 125 _ _ (λ e. elim b as (λ b. UnitOk b c (cond b (Some 125) None)) [
      | true ↦ marked_unit true c 125 125 e (λ q. omega arith) (λ r. refl)
      | false ↦ plain_unit false c space n92 n34 (λ q. absurd (false≢true q))
    ]) (λ n125. plain_unit b c space n92 n34 (λ q. n123)))))))))))))))

plain_go : (c : ℕ) → is_space c ≡ false → (c ≡ 92 → ⊥) → plain_step c ≡ Some Plain
plain_go c s n = cond-false _ _ _ (ne_eqb c 92 n) ∙ cond-false _ _ _ s

unit_scan : (b : Bool) (c : ℕ) (m : Option ℕ) (v : List ℕ) → UnitOk b c m → scan_len bare_step Plain (with_mark c m ++ v) ≡ length (with_mark c m) + scan_len bare_step Plain v
unfolding UnitOk
unit_scan b c None v h = scan_len_go bare_step Plain Plain c v (plain_go c h.0 h.1) ∙ omega arith
unit_scan b c (Some k) v h = ap suc (scan_len_go bare_step Escape Plain k v (cond-false _ _ _ (ne_eqb k 10 h.0))) ∙ omega arith

unit_reads : (b : Bool) (c : ℕ) (m : Option ℕ) (v : List ℕ) → UnitOk b c m → unescape (with_mark c m ++ v) ≡ c ∷ unescape v
unfolding UnitOk unescape_from
unit_reads b c None v h = cond-false _ _ _ (ne_eqb c 92 h.1)
unit_reads b c (Some k) v h = ap (λ e. e.0 ∷ unescape_from e.1 (k ∷ v)) (h.1 v)

-- nothing more of a bare element comes
end_scan : (r : List ℕ) → is_end r ≡ true → scan_len bare_step Plain r ≡ 0
end_scan [] e = refl
end_scan (c ∷ cs) e =
    let other : eqb c 92 ≡ false = grind (arith, nat_tests) in
    scan_len_stop bare_step Plain c cs (cond-false _ _ _ other ∙ cond-true _ _ _ e)

backslashed_scan : (b : Bool) (u r : List ℕ) → is_end r ≡ true → scan_len bare_step Plain (backslashed b u ++ r) ≡ length (backslashed b u)
backslashed_scan b [] r e = end_scan r e
backslashed_scan b (c ∷ cs) r e =
    let m = backslash_mark b c in
    ap (scan_len bare_step Plain) (append_assoc (with_mark c m) (backslashed b cs) r)
    ∙ unit_scan b c m (backslashed b cs ++ r) (unit_ok b c)
    ∙ ap (λ k. length (with_mark c m) + k) (backslashed_scan b cs r e)
    ∙ sym (length-append (with_mark c m) (backslashed b cs))

backslashed_reads : (b : Bool) (u : List ℕ) → unescape (backslashed b u) ≡ u
unfolding unescape_from
backslashed_reads b [] = refl
backslashed_reads b (c ∷ cs) = unit_reads b c (backslash_mark b c) (backslashed b cs) (unit_ok b c) ∙ ap (λ x. c ∷ x) (backslashed_reads b cs)

unit_head : (b : Bool) (c : ℕ) (m : Option ℕ) (v : List ℕ) → UnitOk b c m → (b ≡ false → c ≡ 123 → ⊥) → HeadOk (with_mark c m ++ v)
unfolding UnitOk
unit_head true c None v h k = (h.0, ne_eqb c 123 (h.3 refl), ne_eqb c 34 h.2)
unit_head false c None v h k = (h.0, ne_eqb c 123 (k refl), ne_eqb c 34 h.2)
unit_head b c (Some m) v h k = (refl, refl, refl)

bare_backslashed : (b : Bool) (u : List ℕ) → 0 < length u → (b ≡ false → begins_marked u ≡ false) → IsBare (backslashed b u) u
bare_backslashed b [] l h = absurd (omega arith)
bare_backslashed b (c ∷ cs) l h = record {
  head = unit_head b c (backslash_mark b c) (backslashed b cs) (unit_ok b c) (λ e. eqb-false c 123 (or_parts (eqb c 123) (eqb c 34) (h e)).0);
  scan = backslashed_scan b (c ∷ cs);
  reads = backslashed_reads b (c ∷ cs);
}

-- a leading # behind a backslash
comment_ok : (b : Bool) → UnitOk b 35 (Some 35)
unfolding escape
comment_ok b = marked_unit b 35 35 35 refl (λ q. omega arith) (λ r. refl)

bare_comment : (b : Bool) (cs : List ℕ) → IsBare (92 ∷ backslashed b (35 ∷ cs)) (35 ∷ cs)
bare_comment b cs = record {
  head = (refl, refl, refl);
  scan = λ r e. unit_scan b 35 (Some 35) (backslashed b cs ++ r) (comment_ok b) ∙ ap (λ k. 2 + k) (backslashed_scan b cs r e) ∙ omega arith;
  reads = unit_reads b 35 (Some 35) (backslashed b cs) (comment_ok b) ∙ ap (λ x. 35 ∷ x) (backslashed_reads b cs);
}

bare_first : (first b : Bool) (u : List ℕ) → 0 < length u → (b ≡ false → begins_marked u ≡ false) → IsBare (backslashed_first first b u) u
bare_first first b [] l h = absurd (omega arith)
bare_first true b (c ∷ cs) l h =
    case (λ (x : List ℕ). IsBare x (c ∷ cs)) c 35 _ _
    (λ e. subst (λ k. IsBare (92 ∷ backslashed b (k ∷ cs)) (k ∷ cs)) (sym e) (bare_comment b cs))
    (λ n. bare_backslashed b (c ∷ cs) l h)
bare_first false b (c ∷ cs) l h = bare_backslashed b (c ∷ cs) l h

-- a text that needs no spelling of its own
no_backslash : (c : ℕ) → (eqb c 36 || (eqb c 91 || (eqb c 59 || eqb c 92))) ≡ false → eqb c 92 ≡ false
no_backslash c h = (or_parts (eqb c 59) (eqb c 92) (or_parts (eqb c 91) (eqb c 59 || eqb c 92) (or_parts (eqb c 36) (eqb c 91 || (eqb c 59 || eqb c 92)) h).1).1).1

plain_scan : (t r : List ℕ) → wants_braces t ≡ false → is_end r ≡ true → scan_len bare_step Plain (t ++ r) ≡ length t
plain_scan [] r h e = end_scan r e
plain_scan (c ∷ cs) r h e =
    let p = or_parts _ (wants_braces cs) h in
    let s = or_parts (is_space c) _ p.0 in
    let n : c ≡ 92 → ⊥ = λ q. eqb-false c 92 (no_backslash c s.1) q in
    scan_len_go bare_step Plain Plain c (cs ++ r) (plain_go c s.0 n) ∙ ap suc (plain_scan cs r p.1 e)

plain_reads : (t : List ℕ) → wants_braces t ≡ false → unescape t ≡ t
unfolding unescape_from
plain_reads [] h = refl
plain_reads (c ∷ cs) h =
    let p = or_parts _ (wants_braces cs) h in
    let s = or_parts (is_space c) _ p.0 in
    cond-false (eqb c 92) ((escape cs).0 ∷ unescape_from (escape cs).1 cs) (c ∷ unescape cs) (no_backslash c s.1) ∙ ap (λ x. c ∷ x) (plain_reads cs p.1)

bare_plain : (t : List ℕ) → 0 < length t → wants_braces t ≡ false → begins_marked t ≡ false → IsBare t t
bare_plain [] l h m = absurd (omega arith)
bare_plain (c ∷ cs) l h m = record {
  head = ((or_parts (is_space c) _ (or_parts _ (wants_braces cs) h).0).0, (or_parts (eqb c 123) (eqb c 34) m).0, (or_parts (eqb c 123) (eqb c 34) m).1);
  scan = λ r e. plain_scan (c ∷ cs) r h e;
  reads = plain_reads (c ∷ cs) h;
}

-- x reads as the element t, before any end
abbrev pub ReadsAs : List ℕ → List ℕ → Type 0
ReadsAs t x = (r : List ℕ) → is_end r ≡ true → elements (x ++ r) ≡ with_element t (elements r)

choose : {A : Type 0} (P : A → Type 0) (b : Bool) (x y : A) → (b ≡ true → P x) → (b ≡ false → P y) → P (cond b x y)
choose P true x y f g = f refl
choose P false x y f g = g refl

quote_some_reads : (t : List ℕ) (first : Bool) → 0 < length t → ReadsAs t (quoted_some t first)
unfolding quoted_some
quote_some_reads t first l =
    choose (ReadsAs t) (not (fits_braces (0, false) t)) _ _
    (λ e. λ r q. elements_bare _ t r (bare_first first true t l (λ x. absurd (false≢true (sym x)))) q)
    (λ e.
    let fits : fits_braces (0, false) t ≡ true = not-false (fits_braces (0, false) t) e in
    choose (ReadsAs t) (wants_braces t || begins_marked t) _ _
    (λ k. λ r q. elements_braced t r fits q)
    (λ k.
    let p = or_parts (wants_braces t) (begins_marked t) k in
    choose (ReadsAs t) (wants_backslashes t) _ _
    (λ w. λ r q. elements_bare _ t r (bare_first first false t l (λ x. p.1)) q)
    (λ w. choose (ReadsAs t) (first && begins_comment t) _ _
    (λ z. λ r q. elements_braced t r fits q)
    (λ z. λ r q. elements_bare t t r (bare_plain t l p.0 p.1) q))))

pub quoted_reads : (t : List ℕ) (first : Bool) → ReadsAs t (quoted t first)
unfolding quoted
quoted_reads [] first = λ r q. elements_braced [] r refl q
quoted_reads (c ∷ cs) first = quote_some_reads (c ∷ cs) first (omega arith)

further_end : (ts : List (List ℕ)) → is_end (further ts) ≡ true
further_end [] = refl
further_end (t ∷ ts) = refl

further_reads : (ts : List (List ℕ)) → elements (further ts) ≡ Ok ts
unfolding pieces_from
further_reads [] = refl
further_reads (t ∷ ts) =
    ap values (pieces_past_space 32 (quoted t false ++ further ts) refl) ∙ quoted_reads t false (further ts) (further_end ts) ∙ ap (with_element t) (further_reads ts)

-- The canonical text of a list reads as that list.
pub list_text_reads : (ts : List (List ℕ)) → elements (list_text ts) ≡ Ok ts
unfolding pieces_from
list_text_reads [] = refl
list_text_reads (t ∷ ts) = quoted_reads t true (further ts) (further_end ts) ∙ ap (with_element t) (further_reads ts)

pub quoted_empty : (t : List ℕ) (first : Bool) → length t ≡ 0 → quoted t first ≡ in_braces t
unfolding quoted
quoted_empty [] first h = refl
quoted_empty (c ∷ cs) first h = absurd (omega arith)

pub quoted_nonempty : (t : List ℕ) (first : Bool) → 0 < length t → quoted t first ≡ quoted_some t first
unfolding quoted
quoted_nonempty [] first h = absurd (omega arith)
quoted_nonempty (c ∷ cs) first h = refl

pub ruleset quoted_cases = (quoted_empty, quoted_nonempty)
