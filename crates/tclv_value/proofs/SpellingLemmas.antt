-- The spelling of an element is one word of a command.
use Rattle.std.proofs.Common.{◌≡◌, ℕ, ◌<◌, Bool, true, false, cond, not, [], ◌∷◌, ◌++◌, ◌==◌, ◌||◌, ◌&&◌, Option, Some, None, Ok, length, slice_index, refl, sym, ap, ◌∙◌, subst, arith, eqb}
use Rattle.std.proofs.lemmas.Bool.{cond_both, false≢true, eqb-true, eqb-false, or_parts, not-false}
use Rattle.std.proofs.lemmas.Bool.Decides.{nat_tests}
use Rattle.tclv_text.specs.Cursors.{sign, sign_of}
use Rattle.tclv_text.specs.Escapes.{escape}
use Rattle.tclv_text.specs.Quotes.{fits_braces, is_brace_worthy, wants_braces, begins_marked, wants_backslashes, begins_comment, backslash_mark, with_mark, backslashed, backslashed_first, in_braces, quoted_some, quoted}
use Rattle.tclv_parse.specs.Runs.{Text}
use Rattle.tclv_parse.specs.Grammar.{Deeper, word}
use Rattle.tclv_value.specs.ListCommands.{literal_word}
use Rattle.tclv_value.proofs.SignLemmas.{IsBare, begins_word, begins_bare, is_hash, bare_begins, no_hash, bare_word, backslash_sign, IsRest}
use Rattle.tclv_value.proofs.BraceLemmas.{braced_word}
use Rattle.tclv_value.proofs.BareLemmas as bare
use Rattle.tclv_value.proofs.BareLemmas.{Writes}

-- The spelling s is read as the literal word of t, before any end of a word. Where it is the first of its list it begins no comment.
pub record Reads (first : Bool) (s t : Text) : Type 0 where
  pub some : 0 < length s
  pub begins : (r : Text) → begins_word (sign (s ++ r)) ≡ true
  pub no_comment : first ≡ true → (r : Text) → is_hash (sign (s ++ r)) ≡ false
  pub reads : (deeper : Deeper) (r : Text) → IsRest r → (word deeper false (s ++ r)).1 ≡ Ok (literal_word t, r)

-- ---- in braces

in_braces_reads : (first : Bool) (t : Text) → fits_braces (0, false) t ≡ true → Reads first (in_braces t) t
unfolding sign sign_of
in_braces_reads first t h = record { some = omega arith; begins = λ r. refl; no_comment = λ e r. refl; reads = λ deeper r e. braced_word deeper t r h e }

-- ---- bare

-- the head of a bare word
record IsHead (first : Bool) (s : Text) : Type 0 where
  pub some : 0 < length s
  pub begins : (r : Text) → begins_bare (sign (s ++ r)) ≡ true
  pub no_comment : first ≡ true → (r : Text) → is_hash (sign (s ++ r)) ≡ false

bare_reads : (first : Bool) (s t : Text) → Writes s t → IsHead first s → Reads first s t
bare_reads first s t w h = record {
  some = h.some;
  begins = λ r. bare_word (sign (s ++ r)) (h.begins r);
  no_comment = h.no_comment;
  reads = λ deeper r e. bare.bare_word deeper s t r w (h.begins r) e;
}

itself_head : (first : Bool) (c : ℕ) (s : Text) → IsBare c → (c == 123) ≡ false → (c == 34) ≡ false → (first ≡ true → (c == 35) ≡ false) → IsHead first (c ∷ s)
unfolding sign
itself_head first c s b o q h = record {
  some = omega arith;
  begins = λ r. bare_begins c (slice_index (s ++ r) 0) (slice_index (s ++ r) 1) b o q;
  no_comment = λ e r. no_hash c (slice_index (s ++ r) 0) (slice_index (s ++ r) 1) (h e);
}

escaped_head : (first : Bool) (m : ℕ) (s : Text) → (m == 10) ≡ false → IsHead first (92 ∷ m ∷ s)
unfolding sign
escaped_head first m s e = record {
  some = omega arith;
  begins = λ r. ap begins_bare (backslash_sign m (slice_index (s ++ r) 0) e);
  no_comment = λ _ r. ap is_hash (backslash_sign m (slice_index (s ++ r) 0) e);
}

-- ---- backslashes

-- a test against a number, with what each answer says
case : {A : Type 0} (P : A → Type 0) (c n : ℕ) (x y : A) → (c ≡ n → P x) → ((c ≡ n → ⊥) → P y) → P (cond (eqb c n) x y)
case P c n x y f g = cond_both (eqb c n) x y P (λ e. f (eqb-true c n e)) (λ e. g (eqb-false c n e))

-- what a character and its mark are to the grammar
MarkOk : Bool → ℕ → Option ℕ → Type 0
MarkOk full c None = IsBare c × ((c == 34) ≡ false) × (full ≡ true → (c == 123) ≡ false)
MarkOk full c (Some m) = ((m == 10) ≡ false) × ((rest : Text) → escape (m ∷ rest) ≡ (c, 1))

marked : (full : Bool) (c n m : ℕ) → c ≡ n → (m == 10) ≡ false → ((rest : Text) → escape (m ∷ rest) ≡ (n, 1)) → MarkOk full c (Some m)
unfolding MarkOk
marked full c n m e q f = (q, λ rest. f rest ∙ ap (λ x. (x, 1)) (sym e))

unmarked : (full : Bool) (c : ℕ) → IsBare c → (c == 34) ≡ false → (full ≡ true → (c == 123) ≡ false) → MarkOk full c None
unfolding MarkOk
unmarked full c b q o = (b, q, o)

mark_ok : (full : Bool) (c : ℕ) → MarkOk full c (backslash_mark full c)
unfolding escape
mark_ok full c =
    case (MarkOk full c) c 9 _ _ (λ e. marked full c 9 116 e refl (λ r. refl)) (λ n9.
    case (MarkOk full c) c 10 _ _ (λ e. marked full c 10 110 e refl (λ r. refl)) (λ n10.
    case (MarkOk full c) c 11 _ _ (λ e. marked full c 11 118 e refl (λ r. refl)) (λ n11.
    case (MarkOk full c) c 12 _ _ (λ e. marked full c 12 102 e refl (λ r. refl)) (λ n12.
    case (MarkOk full c) c 13 _ _ (λ e. marked full c 13 114 e refl (λ r. refl)) (λ n13.
    case (MarkOk full c) c 32 _ _ (λ e. marked full c 32 32 e refl (λ r. refl)) (λ n32.
    case (MarkOk full c) c 93 _ _ (λ e. marked full c 93 93 e refl (λ r. refl)) (λ n93.
    case (MarkOk full c) c 91 _ _ (λ e. marked full c 91 91 e refl (λ r. refl)) (λ n91.
    case (MarkOk full c) c 36 _ _ (λ e. marked full c 36 36 e refl (λ r. refl)) (λ n36.
    case (MarkOk full c) c 59 _ _ (λ e. marked full c 59 59 e refl (λ r. refl)) (λ n59.
    case (MarkOk full c) c 92 _ _ (λ e. marked full c 92 92 e refl (λ r. refl)) (λ n92.
    case (MarkOk full c) c 34 _ _ (λ e. marked full c 34 34 e refl (λ r. refl)) (λ n34.
    let b : IsBare c = record { separator = grind (arith, nat_tests); newline = grind (arith, nat_tests); semicolon = grind (arith, nat_tests); bracket = grind (arith, nat_tests); backslash = grind (arith, nat_tests); dollar = grind (arith, nat_tests) } in
    let q : (c == 34) ≡ false = grind (arith, nat_tests) in
    case (MarkOk full c) c 123 _ _ (λ e. elim full as (λ f. MarkOk f c (cond f (Some 123) None)) [
      | true ↦ marked true c 123 123 e refl (λ r. refl)
      | false ↦ unmarked false c b q (λ f. absurd (false≢true f))
    ]) (λ n123.
    let o : (c == 123) ≡ false = grind (arith, nat_tests) in
    case (MarkOk full c) c 125 _ _ (λ e. elim full as (λ f. MarkOk f c (cond f (Some 125) None)) [
      | true ↦ marked true c 125 125 e refl (λ r. refl)
      | false ↦ unmarked false c b q (λ f. absurd (false≢true f))
    ]) (λ n125. unmarked full c b q (λ f. o)))))))))))))))

mark_writes : (full : Bool) (c : ℕ) (m : Option ℕ) (s t : Text) → MarkOk full c m → Writes s t → Writes (with_mark c m ++ s) (c ∷ t)
unfolding MarkOk
mark_writes full c None s t h w = Writes.itself c s t h.0 w
mark_writes full c (Some m) s t h w = Writes.escaped m c s t h.0 h.1 w

backslashed_writes : (full : Bool) (t : Text) → Writes (backslashed full t) t
backslashed_writes full [] = Writes.nothing
backslashed_writes full (c ∷ t) = mark_writes full c (backslash_mark full c) (backslashed full t) t (mark_ok full c) (backslashed_writes full t)

mark_head : (first full : Bool) (c : ℕ) (m : Option ℕ) (s : Text) → MarkOk full c m → (full ≡ false → (c == 123) ≡ false) → (first ≡ true → (c == 35) ≡ false) → IsHead first (with_mark c m ++ s)
unfolding MarkOk
mark_head first true c None s h o n = itself_head first c s h.0 (h.2 refl) h.1 n
mark_head first false c None s h o n = itself_head first c s h.0 (o refl) h.1 n
mark_head first full c (Some m) s h o n = escaped_head first m s h.0

no_brace : (c : ℕ) (cs : Text) (full : Bool) → (full ≡ false → begins_marked (c ∷ cs) ≡ false) → full ≡ false → (c == 123) ≡ false
no_brace c cs full h e = (or_parts (c == 123) (c == 34) (h e)).0

backslashed_reads : (first full : Bool) (c : ℕ) (cs : Text) → (full ≡ false → begins_marked (c ∷ cs) ≡ false) → (first ≡ true → (c == 35) ≡ false) → Reads first (backslashed full (c ∷ cs)) (c ∷ cs)
backslashed_reads first full c cs h n =
    bare_reads first (backslashed full (c ∷ cs)) (c ∷ cs) (backslashed_writes full (c ∷ cs))
    (mark_head first full c (backslash_mark full c) (backslashed full cs) (mark_ok full c) (no_brace c cs full h) n)

-- a leading # behind a backslash
comment_reads : (first full : Bool) (cs : Text) → Reads first (92 ∷ backslashed full (35 ∷ cs)) (35 ∷ cs)
unfolding escape
comment_reads first full cs =
    bare_reads first (92 ∷ 35 ∷ backslashed full cs) (35 ∷ cs) (Writes.escaped 35 35 (backslashed full cs) cs refl (λ r. refl) (backslashed_writes full cs)) (escaped_head first 35 (backslashed full cs) refl)

first_reads : (first full : Bool) (c : ℕ) (cs : Text) → (full ≡ false → begins_marked (c ∷ cs) ≡ false) → Reads first (backslashed_first first full (c ∷ cs)) (c ∷ cs)
first_reads true full c cs h =
    cond_both (c == 35) _ _ (λ s. Reads true s (c ∷ cs))
    (λ e. subst (λ x. Reads true (92 ∷ backslashed full (x ∷ cs)) (x ∷ cs)) (sym (eqb-true c 35 e)) (comment_reads true full cs))
    (λ e. backslashed_reads true full c cs h (λ _. e))
first_reads false full c cs h = backslashed_reads false full c cs h (λ e. absurd (false≢true e))

-- ---- as it is

plain_char : (c : ℕ) → is_brace_worthy c ≡ false → IsBare c
plain_char c h = record { separator = grind (arith, nat_tests); newline = grind (arith, nat_tests); semicolon = grind (arith, nat_tests); bracket = grind (arith, nat_tests); backslash = grind (arith, nat_tests); dollar = grind (arith, nat_tests) }

plain_writes : (t : Text) → wants_braces t ≡ false → Writes t t
plain_writes [] h = Writes.nothing
plain_writes (c ∷ cs) h = let p = or_parts (is_brace_worthy c) (wants_braces cs) h in Writes.itself c cs cs (plain_char c p.0) (plain_writes cs p.1)

no_comment_head : (first : Bool) (c : ℕ) (cs : Text) → (first && begins_comment (c ∷ cs)) ≡ false → first ≡ true → (c == 35) ≡ false
no_comment_head true c cs h e = h
no_comment_head false c cs h e = absurd (false≢true e)

plain_reads : (first : Bool) (c : ℕ) (cs : Text) → wants_braces (c ∷ cs) ≡ false → begins_marked (c ∷ cs) ≡ false → (first && begins_comment (c ∷ cs)) ≡ false → Reads first (c ∷ cs) (c ∷ cs)
plain_reads first c cs h m n =
    let p = or_parts (is_brace_worthy c) (wants_braces cs) h in
    let q = or_parts (c == 123) (c == 34) m in
    bare_reads first (c ∷ cs) (c ∷ cs) (plain_writes (c ∷ cs) h) (itself_head first c cs (plain_char c p.0) q.0 q.1 (no_comment_head first c cs n))

-- ---- all modes

quoted_some_reads : (first : Bool) (c : ℕ) (cs : Text) → Reads first (quoted_some (c ∷ cs) first) (c ∷ cs)
unfolding quoted_some
quoted_some_reads first c cs =
    let t = c ∷ cs in
    let P = λ (s : Text). Reads first s t in
    cond_both (not (fits_braces (0, false) t)) _ _ P (λ e. first_reads first true c cs (λ x. absurd (false≢true (sym x)))) (λ e.
    let fits : fits_braces (0, false) t ≡ true = not-false (fits_braces (0, false) t) e in
    cond_both (wants_braces t || begins_marked t) _ _ P (λ _. in_braces_reads first t fits) (λ b.
    let p = or_parts (wants_braces t) (begins_marked t) b in
    cond_both (wants_backslashes t) _ _ P (λ _. first_reads first false c cs (λ _. p.1)) (λ w.
    cond_both (first && begins_comment t) _ _ P (λ _. in_braces_reads first t fits) (λ z. plain_reads first c cs p.0 p.1 z))))

pub quoted_reads : (first : Bool) (t : Text) → Reads first (quoted t first) t
unfolding quoted
quoted_reads first [] = in_braces_reads first [] refl
quoted_reads first (c ∷ cs) = quoted_some_reads first c cs
