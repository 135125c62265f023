-- A balanced text in braces is read as it is.
use Rattle.std.proofs.Common.{◌≡◌, ℕ, zero, suc, ◌+◌, ◌-◌, Bool, true, false, not, ◌&&◌, if◌then◌else◌, [], ◌∷◌, ◌++◌, ◌==◌, Some, None, Ok, length, take, drop, slice_index, refl, sym, ap, ap₂, ◌∙◌, subst, append-nil, append_assoc}
use Rattle.std.proofs.lemmas.Bool.{cond_both, cond-false, false≢true, eqb-true, and_parts, and_left, and_right, not-true, not_from_true, cases_Bool}
use Rattle.std.proofs.lemmas.List.{take_at, drop_at}
use mathlib.Core.Logic.{⊎_elim}
use Rattle.tclv_text.specs.Cursors.{sign, sign_of, is_separator, is_name, begins_variable}
use Rattle.tclv_text.specs.Quotes.{fits_step, fits_on, fits_braces, in_braces}
use Rattle.tclv_text.specs.declared.cursors.Sign.{Sign}
use Rattle.tclv_text.specs.declared.cursors.Sign.TheVariants as s
use Rattle.tclv_parse.specs.declared.runs.Run.{Run}
use Rattle.tclv_parse.specs.declared.runs.Run.TheVariants as run
use Rattle.tclv_parse.specs.declared.faults.ParseFault.TheVariants as f
use Rattle.tclv_parse.specs.declared.pieces.PieceKind.TheVariants as k
use Rattle.tclv_parse.specs.Fix.{go, fix}
use Rattle.tclv_parse.specs.Runs.{Text, step, option_case, run_len, run_end, level_of, ends_word, is_expansion_mark, expands}
use Rattle.tclv_parse.specs.Readings.{Reading, done, fails, emit, valued, valued_end, join_end}
use Rattle.tclv_parse.specs.Grammar.{Deeper, braced, braced_step, braced_by, raw, closed, text_part, word_of, plain_word, word}

-- ---- what the grammar sees of a character

-- what holds of each sign that a character may have holds of its sign
sign_by : (P : Sign → Type 0) (c x y : ℕ) →
    ((is_separator c ≡ true) → P s.Blank) →
    ((c == 10) ≡ true → P s.Newline) →
    ((c == 59) ≡ true → P s.Semicolon) →
    ((c == 35) ≡ true → P s.Hash) →
    ((c == 123) ≡ true → P s.OpenBrace) →
    ((c == 125) ≡ true → P s.CloseBrace) →
    ((c == 34) ≡ true → P s.Quote) →
    ((c == 91) ≡ true → P s.OpenBracket) →
    ((c == 42) ≡ true → P s.Star) →
    ((c == 92) ≡ true → P s.Fold × P s.Backslash) →
    ((c == 36) ≡ true → P s.Dollar) →
    (P s.CloseBracket × P s.OpenParen × P s.CloseParen × P s.Colons × P s.Colon × P s.Name × P s.Other) →
    P (sign_of c x y)
unfolding sign_of
sign_by P c x y blank newline semicolon hash brace close quote bracket star backslash dollar others =
    cond_both (is_separator c) _ _ P blank (λ _.
    cond_both (c == 10) _ _ P newline (λ _.
    cond_both (c == 59) _ _ P semicolon (λ _.
    cond_both (c == 35) _ _ P hash (λ _.
    cond_both (c == 123) _ _ P brace (λ _.
    cond_both (c == 125) _ _ P close (λ _.
    cond_both (c == 34) _ _ P quote (λ _.
    cond_both (c == 91) _ _ P bracket (λ _.
    cond_both (c == 93) _ _ P (λ _. others.0) (λ _.
    cond_both (c == 40) _ _ P (λ _. others.1) (λ _.
    cond_both (c == 41) _ _ P (λ _. others.2) (λ _.
    cond_both (c == 42) _ _ P star (λ _.
    cond_both (c == 92) _ _ P (λ e. cond_both (x == 10) _ _ P (λ _. (backslash e).0) (λ _. (backslash e).1)) (λ _.
    cond_both (c == 36) _ _ P (λ e. cond_both (begins_variable x y) _ _ P (λ _. dollar e) (λ _. others.6)) (λ _.
    cond_both (c == 58) _ _ P (λ _. cond_both (x == 58) _ _ P (λ _. others.3) (λ _. others.4)) (λ _.
    cond_both (is_name c) _ _ P (λ _. others.5) (λ _. others.6))))))))))))))))

no : {P : Type 0} (b : Bool) → b ≡ false → b ≡ true → P
no b e h = absurd (false≢true (sym e ∙ h))

-- a character that is neither a backslash nor a brace leaves the run as it is
braced_goes : (d c x y : ℕ) → (c == 92) ≡ false → (c == 123) ≡ false → (c == 125) ≡ false → step (run.Braced d) (sign_of c x y) ≡ Some (run.Braced d)
braced_goes d c x y b o e =
    sign_by (λ z. step (run.Braced d) z ≡ Some (run.Braced d)) c x y (λ _. refl) (λ _. refl) (λ _. refl) (λ _. refl) (no (c == 123) o) (no (c == 125) e) (λ _. refl) (λ _. refl) (λ _. refl) (no (c == 92) b) (λ _. refl)
    (refl, refl, refl, refl, refl, refl, refl)

-- behind a backslash each character does
escape_goes : (d c x y : ℕ) → step (run.BracedEscape d) (sign_of c x y) ≡ Some (run.Braced d)
escape_goes d c x y =
    sign_by (λ z. step (run.BracedEscape d) z ≡ Some (run.Braced d)) c x y (λ _. refl) (λ _. refl) (λ _. refl) (λ _. refl) (λ _. refl) (λ _. refl) (λ _. refl) (λ _. refl) (λ _. refl) (λ _. (refl, refl)) (λ _. refl)
    (refl, refl, refl, refl, refl, refl, refl)

-- a backslash before anything but a newline
backslash_sign : (k y : ℕ) → (k == 10) ≡ false → sign_of 92 k y ≡ s.Backslash
unfolding sign_of
backslash_sign k y e = cond-false (k == 10) s.Fold s.Backslash e

abbrev is_star : Sign → Bool
is_star s.Star = true
is_star _ = false

abbrev is_close : Sign → Bool
is_close s.CloseBrace = true
is_close _ = false

no_star : (c x y : ℕ) → (c == 42) ≡ false → is_star (sign_of c x y) ≡ false
no_star c x y h =
    sign_by (λ z. is_star z ≡ false) c x y (λ _. refl) (λ _. refl) (λ _. refl) (λ _. refl) (λ _. refl) (λ _. refl) (λ _. refl) (λ _. refl) (no (c == 42) h) (λ _. (refl, refl)) (λ _. refl)
    (refl, refl, refl, refl, refl, refl, refl)

no_close : (c x y : ℕ) → (c == 125) ≡ false → is_close (sign_of c x y) ≡ false
no_close c x y h =
    sign_by (λ z. is_close z ≡ false) c x y (λ _. refl) (λ _. refl) (λ _. refl) (λ _. refl) (λ _. refl) (no (c == 125) h) (λ _. refl) (λ _. refl) (λ _. refl) (λ _. (refl, refl)) (λ _. refl)
    (refl, refl, refl, refl, refl, refl, refl)

-- the run in a state of the test whether a text may stand in braces
abbrev run_of : ℕ × Bool → Run
run_of (d, true) = run.BracedEscape d
run_of (d, false) = run.Braced d

-- a backslash stands before no newline
next_no_newline : (d : ℕ) (t r : Text) → fits_braces (d, true) t ≡ true → (slice_index (t ++ 125 ∷ r) 0 == 10) ≡ false
next_no_newline d [] r h = absurd (false≢true (and_parts (d == 0) false h).1)
next_no_newline d (c ∷ t) r h =
    (elim (c == 10) as (λ b. fits_on (if b then None else Some (d, false)) (λ u. fits_braces u t) ≡ true → b ≡ false) [
      | true ↦ λ q. absurd (false≢true q)
      | false ↦ λ q. refl
    ]) h

at_open : (d x y c : ℕ) (u : ℕ × Bool) → c ≡ 123 → (d + 1, false) ≡ u → step (run.Braced d) (sign_of c x y) ≡ Some (run_of u)
unfolding sign_of
at_open d x y c u e same = ap (λ k. step (run.Braced d) (sign_of k x y)) e ∙ ap (λ v. Some (run_of v)) same

at_close : (d x y c : ℕ) (u : ℕ × Bool) → c ≡ 125 → (if d == 0 then None else Some (d - 1, false)) ≡ Some u → step (run.Braced d) (sign_of c x y) ≡ Some (run_of u)
unfolding sign_of
at_close d x y c u e q =
    ap (λ k. step (run.Braced d) (sign_of k x y)) e
    ∙ (elim (d == 0) as (λ b. (if b then None else Some (d - 1, false)) ≡ Some u → (if b then None else Some (run.Braced (d - 1))) ≡ Some (run_of u)) [
      | true ↦ λ h. cc
      | false ↦ λ h. let same : (d - 1, false) ≡ u = cc in ap (λ v. Some (run_of v)) same
    ]) q

-- the run goes on as the test does
steps_alike : (s u : ℕ × Bool) (c : ℕ) (t r : Text) → fits_step s c ≡ Some u → fits_braces u t ≡ true → step (run_of s) (sign (c ∷ (t ++ 125 ∷ r))) ≡ Some (run_of u)
unfolding sign
steps_alike (d, true) u c t r e h =
    let x = slice_index (t ++ 125 ∷ r) 0 in
    let y = slice_index (t ++ 125 ∷ r) 1 in
    cond_both (c == 10) None (Some (d, false)) (λ o. o ≡ Some u → step (run.BracedEscape d) (sign_of c x y) ≡ Some (run_of u))
    (λ _. λ q. cc)
    (λ _. λ q. let same : (d, false) ≡ u = cc in escape_goes d c x y ∙ ap (λ v. Some (run_of v)) same)
    e
steps_alike (d, false) u c t r e h =
    let x = slice_index (t ++ 125 ∷ r) 0 in
    let y = slice_index (t ++ 125 ∷ r) 1 in
    cond_both (c == 92) _ _ (λ o. o ≡ Some u → step (run.Braced d) (sign_of c x y) ≡ Some (run_of u))
    (λ b. λ q.
    let same : (d, true) ≡ u = cc in
    let next = next_no_newline d t r (subst (λ v. fits_braces v t ≡ true) (sym same) h) in
    ap (λ k. step (run.Braced d) (sign_of k x y)) (eqb-true c 92 b) ∙ ap (step (run.Braced d)) (backslash_sign x y next) ∙ ap (λ v. Some (run_of v)) same)
    (λ b.
    cond_both (c == 123) _ _ (λ o. o ≡ Some u → step (run.Braced d) (sign_of c x y) ≡ Some (run_of u))
    (λ o. λ q. let same : (d + 1, false) ≡ u = cc in at_open d x y c u (eqb-true c 123 o) same)
    (λ o.
    cond_both (c == 125) _ _ (λ o. o ≡ Some u → step (run.Braced d) (sign_of c x y) ≡ Some (run_of u))
    (λ k. λ q. at_close d x y c u (eqb-true c 125 k) q)
    (λ k. λ q. let same : (d, false) ≡ u = cc in braced_goes d c x y b o k ∙ ap (λ v. Some (run_of v)) same)))
    e

-- the run takes the text, and stands in no brace of its own behind it
record Passed (s : ℕ × Bool) (t r : Text) : Type 0 where
  pub len : run_len (run_of s) (t ++ 125 ∷ r) ≡ length t
  pub end : run_end (run_of s) (t ++ 125 ∷ r) ≡ run.Braced 0

stepped : (s u : ℕ × Bool) (c : ℕ) (t r : Text) → step (run_of s) (sign (c ∷ (t ++ 125 ∷ r))) ≡ Some (run_of u) → Passed u t r → Passed s (c ∷ t) r
stepped s u c t r e p = record {
  len = ap (λ o. option_case o 0 (λ next. suc (run_len next (t ++ 125 ∷ r)))) e ∙ ap suc p.len;
  end = ap (λ o. option_case o (run_of s) (λ next. run_end next (t ++ 125 ∷ r))) e ∙ p.end;
}

at_end : (d : ℕ) (b : Bool) (r : Text) → ((d == 0) && not b) ≡ true → Passed (d, b) [] r
unfolding sign sign_of
at_end d b r h =
    let p = and_parts (d == 0) (not b) h in
    let e : (0, false) ≡ (d, b) = ap₂ (λ n x. (n, x)) (sym (eqb-true d 0 p.0)) (sym (not-true b p.1)) in
    subst (λ s. Passed s [] r) e (record { len = refl; end = refl })

passed : (s : ℕ × Bool) (t r : Text) → fits_braces s t ≡ true → Passed s t r
passed (d, b) [] r h = at_end d b r h
passed s (c ∷ t) r h =
    (elim (fits_step s c) as (λ o. fits_step s c ≡ o → fits_on o (λ u. fits_braces u t) ≡ true → Passed s (c ∷ t) r) [
      | None ↦ λ e q. absurd (false≢true q)
      | Some u ↦ λ e q. stepped s u c t r (steps_alike s u c t r e q) (passed u t r q)
    ]) refl h

-- ---- the word

abbrev deep : ℕ → Reading Text
deep = λ _. fails f.TooDeep

stop_read : (n : ℕ) (r : Text) → (go braced_step deep n (125 ∷ r) 0).1 ≡ Ok ([], r)
unfolding go sign sign_of
stop_read zero r = refl
stop_read (suc n) r = refl

raw_goes : (more : Text → ℕ → Reading Text) (u : Text) (x : Sign) (q : Run) → step (run.Braced 0) x ≡ Some q → (braced_by more u 0 x).1 ≡ (raw more u 0 (run_len (run.Braced 0) u)).1
raw_goes more u s.End q e = cc
raw_goes more u s.Fold q e = cc
raw_goes more u s.CloseBrace q e = cc
raw_goes more u x q e = refl

raw_read : (more : Text → ℕ → Reading Text) (t r : Text) → Passed (0, false) t r → (more (125 ∷ r) 0).1 ≡ Ok ([], r) → (raw more (t ++ 125 ∷ r) 0 (run_len (run.Braced 0) (t ++ 125 ∷ r))).1 ≡ Ok (t, r)
raw_read more t r p stop =
    let u = t ++ 125 ∷ r in
    let n = run_len (run.Braced 0) u in
    ap (λ q. valued_end (λ x. take n u ++ x) (more (drop n u) (level_of q)).1) p.end
    ∙ ap (λ m. valued_end (λ x. take m u ++ x) (more (drop m u) 0).1) p.len
    ∙ ap₂ (λ a b. valued_end (λ x. a ++ x) (more b 0).1) (take_at t (125 ∷ r) (length t) refl) (drop_at t (125 ∷ r) (length t) refl)
    ∙ ap (valued_end (λ x. t ++ x)) stop
    ∙ ap (λ x. Ok (x, r)) (append-nil t)

first_goes : (s : ℕ × Bool) (c : ℕ) (t r : Text) → fits_braces s (c ∷ t) ≡ true → (q : Run) × (step (run_of s) (sign (c ∷ (t ++ 125 ∷ r))) ≡ Some q)
first_goes s c t r h =
    (elim (fits_step s c) as (λ o. fits_step s c ≡ o → fits_on o (λ u. fits_braces u t) ≡ true → (q : Run) × (step (run_of s) (sign (c ∷ (t ++ 125 ∷ r))) ≡ Some q)) [
      | None ↦ λ e q. absurd (false≢true q)
      | Some u ↦ λ e q. (run_of u, steps_alike s u c t r e q)
    ]) refl h

pub braced_read : (t r : Text) → fits_braces (0, false) t ≡ true → (braced (t ++ 125 ∷ r) 0).1 ≡ Ok (t, r)
unfolding braced fix go
braced_read [] r h = stop_read (length (125 ∷ r)) r
braced_read (c ∷ t) r h =
    let u = c ∷ (t ++ 125 ∷ r) in
    let n = length (t ++ 125 ∷ r) in
    let q = first_goes (0, false) c t r h in
    raw_goes (go braced_step deep n) u (sign u) q.0 q.1 ∙ raw_read (go braced_step deep n) (c ∷ t) r (passed (0, false) (c ∷ t) r h) (stop_read n r)

no_mark-star : (x y : Sign) → is_star x ≡ false → is_expansion_mark s.OpenBrace x y ≡ false
no_mark-star s.Star y e = cc
no_mark-star _ y e = refl

no_mark-last : (y : Sign) → is_close y ≡ false → is_expansion_mark s.OpenBrace s.Star y ≡ false
no_mark-last s.CloseBrace e = cc
no_mark-last _ e = refl

no_mark-close : (x y : Sign) → is_close y ≡ false → is_expansion_mark s.OpenBrace x y ≡ false
no_mark-close s.Star y e = no_mark-last y e
no_mark-close _ y e = refl

-- no expansion mark: what would be one is the whole word
no_mark : (inner : Bool) (t r : Text) → fits_braces (0, false) t ≡ true → ends_word inner (sign r) ≡ true → expands inner (123 ∷ (t ++ 125 ∷ r)) ≡ false
unfolding sign sign_of
no_mark inner [] r h e = refl
no_mark inner (c ∷ []) r h e = and_right _ (not (ends_word inner (sign r))) (not_from_true (ends_word inner (sign r)) e)
no_mark inner (c ∷ a ∷ t) r h e =
    let u = t ++ 125 ∷ r in
    ⊎_elim
    (λ (star : (c == 42) ≡ true).
    ⊎_elim
    (λ (close : (a == 125) ≡ true).
    let q : fits_braces (0, false) (42 ∷ 125 ∷ t) ≡ true = ap₂ (λ x y. fits_braces (0, false) (x ∷ y ∷ t)) (sym (eqb-true c 42 star)) (sym (eqb-true a 125 close)) ∙ h in
    absurd (false≢true q))
    (λ (other : (a == 125) ≡ false). and_left _ _ (no_mark-close (sign (c ∷ a ∷ u)) (sign (a ∷ u)) (no_close a (slice_index u 0) (slice_index u 1) other)))
    (cases_Bool (a == 125)))
    (λ (other : (c == 42) ≡ false). and_left _ _ (no_mark-star (sign (c ∷ a ∷ u)) (sign (a ∷ u)) (no_star c a (slice_index (a ∷ u) 1) other)))
    (cases_Bool (c == 42))

-- a balanced text, in braces, is one word
pub braced_word : (deeper : Deeper) (inner : Bool) (t r : Text) → fits_braces (0, false) t ≡ true → ends_word inner (sign r) ≡ true → (word deeper inner (in_braces t ++ r)).1 ≡ Ok (word_of false (text_part t), r)
unfolding word plain_word closed sign sign_of
braced_word deeper inner t r h e =
    let u = t ++ 125 ∷ r in
    let w = 123 ∷ u in
    let closing = closed inner f.AfterBrace in
    ap (λ x. (word deeper inner (123 ∷ x)).1) (append_assoc t (125 ∷ []) r)
    ∙ ap (λ b. (if b then emit k.Expand 3 w (λ v. valued (word_of true) (plain_word deeper inner v)) else valued (word_of false) (plain_word deeper inner w)).1) (no_mark inner t r h e)
    ∙ ap (λ x. valued_end (word_of false) (join_end (braced u 0).0 x closing (λ y _. text_part y)).1) (braced_read t r h)
    ∙ ap (λ b. valued_end (word_of false) (valued_end (λ _. text_part t) (if b then done tt r else fails f.AfterBrace).1)) e
