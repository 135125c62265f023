-- What the grammar sees of a character.
use Rattle.std.proofs.Common.{◌≡◌, ℕ, Bool, true, false, [], ◌∷◌, ◌==◌, Some, refl, sym, ◌∙◌}
use Rattle.std.proofs.lemmas.Bool.{cond_both, cond-false, false≢true}
use Rattle.tclv_text.specs.Cursors.{sign, sign_of, is_separator, is_name, begins_variable}
use Rattle.tclv_text.specs.declared.cursors.Sign.{Sign}
use Rattle.tclv_text.specs.declared.cursors.Sign.TheVariants as s
use Rattle.tclv_parse.specs.declared.runs.Form.TheVariants as form
use Rattle.tclv_parse.specs.declared.runs.Run.{Run}
use Rattle.tclv_parse.specs.declared.runs.Run.TheVariants as run
use Rattle.tclv_parse.specs.Runs.{Text, step, ends_word}

-- what holds of each sign that a character may have holds of its sign
sign_by : (P : Sign → Type 0) (c x y : ℕ) →
    ((is_separator c ≡ true) → P s.Blank) →
    ((c == 10) ≡ true → P s.Newline) →
    ((c == 59) ≡ true → P s.Semicolon) →
    ((c == 35) ≡ true → P s.Hash) →
    ((c == 123) ≡ true → P s.OpenBrace) →
    ((c == 125) ≡ true → P s.CloseBrace) →
    ((c == 34) ≡ true → P s.Quote) →
    ((c == 91) ≡ true → P s.OpenBracket) →
    ((c == 42) ≡ true → P s.Star) →
    ((c == 92) ≡ true → P s.Fold × P s.Backslash) →
    ((c == 36) ≡ true → P s.Dollar) →
    (P s.CloseBracket × P s.OpenParen × P s.CloseParen × P s.Colons × P s.Colon × P s.Name × P s.Other) →
    P (sign_of c x y)
unfolding sign_of
sign_by P c x y blank newline semicolon hash brace close quote bracket star backslash dollar others =
    cond_both (is_separator c) _ _ P blank (λ _.
    cond_both (c == 10) _ _ P newline (λ _.
    cond_both (c == 59) _ _ P semicolon (λ _.
    cond_both (c == 35) _ _ P hash (λ _.
    cond_both (c == 123) _ _ P brace (λ _.
    cond_both (c == 125) _ _ P close (λ _.
    cond_both (c == 34) _ _ P quote (λ _.
    cond_both (c == 91) _ _ P bracket (λ _.
    cond_both (c == 93) _ _ P (λ _. others.0) (λ _.
    cond_both (c == 40) _ _ P (λ _. others.1) (λ _.
    cond_both (c == 41) _ _ P (λ _. others.2) (λ _.
    cond_both (c == 42) _ _ P star (λ _.
    cond_both (c == 92) _ _ P (λ e. cond_both (x == 10) _ _ P (λ _. (backslash e).0) (λ _. (backslash e).1)) (λ _.
    cond_both (c == 36) _ _ P (λ e. cond_both (begins_variable x y) _ _ P (λ _. dollar e) (λ _. others.6)) (λ _.
    cond_both (c == 58) _ _ P (λ _. cond_both (x == 58) _ _ P (λ _. others.3) (λ _. others.4)) (λ _.
    cond_both (is_name c) _ _ P (λ _. others.5) (λ _. others.6))))))))))))))))

no : {P : Type 0} (b : Bool) → b ≡ false → b ≡ true → P
no b e h = absurd (false≢true (sym e ∙ h))

-- ---- in braces

-- a character that is neither a backslash nor a brace leaves the run as it is
pub braced_goes : (d c x y : ℕ) → (c == 92) ≡ false → (c == 123) ≡ false → (c == 125) ≡ false → step (run.Braced d) (sign_of c x y) ≡ Some (run.Braced d)
braced_goes d c x y b o e =
    sign_by (λ z. step (run.Braced d) z ≡ Some (run.Braced d)) c x y (λ _. refl) (λ _. refl) (λ _. refl) (λ _. refl) (no (c == 123) o) (no (c == 125) e) (λ _. refl) (λ _. refl) (λ _. refl) (no (c == 92) b) (λ _. refl)
    (refl, refl, refl, refl, refl, refl, refl)

-- behind a backslash each character does
pub escape_goes : (d c x y : ℕ) → step (run.BracedEscape d) (sign_of c x y) ≡ Some (run.Braced d)
escape_goes d c x y =
    sign_by (λ z. step (run.BracedEscape d) z ≡ Some (run.Braced d)) c x y (λ _. refl) (λ _. refl) (λ _. refl) (λ _. refl) (λ _. refl) (λ _. refl) (λ _. refl) (λ _. refl) (λ _. refl) (λ _. (refl, refl)) (λ _. refl)
    (refl, refl, refl, refl, refl, refl, refl)

-- a backslash before anything but a newline
pub backslash_sign : (k y : ℕ) → (k == 10) ≡ false → sign_of 92 k y ≡ s.Backslash
unfolding sign_of
backslash_sign k y e = cond-false (k == 10) s.Fold s.Backslash e

abbrev pub is_star : Sign → Bool
is_star s.Star = true
is_star _ = false

abbrev pub is_close : Sign → Bool
is_close s.CloseBrace = true
is_close _ = false

pub no_star : (c x y : ℕ) → (c == 42) ≡ false → is_star (sign_of c x y) ≡ false
no_star c x y h =
    sign_by (λ z. is_star z ≡ false) c x y (λ _. refl) (λ _. refl) (λ _. refl) (λ _. refl) (λ _. refl) (λ _. refl) (λ _. refl) (λ _. refl) (no (c == 42) h) (λ _. (refl, refl)) (λ _. refl)
    (refl, refl, refl, refl, refl, refl, refl)

pub no_close : (c x y : ℕ) → (c == 125) ≡ false → is_close (sign_of c x y) ≡ false
no_close c x y h =
    sign_by (λ z. is_close z ≡ false) c x y (λ _. refl) (λ _. refl) (λ _. refl) (λ _. refl) (λ _. refl) (no (c == 125) h) (λ _. refl) (λ _. refl) (λ _. refl) (λ _. (refl, refl)) (λ _. refl)
    (refl, refl, refl, refl, refl, refl, refl)

-- ---- bare

-- the character stands for itself wherever it stands in a bare word
pub record IsBare (c : ℕ) : Type 0 where
  pub separator : is_separator c ≡ false
  pub newline : (c == 10) ≡ false
  pub semicolon : (c == 59) ≡ false
  pub bracket : (c == 91) ≡ false
  pub backslash : (c == 92) ≡ false
  pub dollar : (c == 36) ≡ false

abbrev pub literal : Run
literal = run.Literal false form.Bare

pub literal_goes : (c x y : ℕ) → IsBare c → step literal (sign_of c x y) ≡ Some literal
literal_goes c x y b =
    sign_by (λ z. step literal z ≡ Some literal) c x y (no (is_separator c) b.separator) (no (c == 10) b.newline) (no (c == 59) b.semicolon) (λ _. refl) (λ _. refl) (λ _. refl) (λ _. refl) (no (c == 91) b.bracket) (λ _. refl) (no (c == 92) b.backslash) (no (c == 36) b.dollar)
    (refl, refl, refl, refl, refl, refl, refl)

-- ---- heads of words

-- a word in braces or a bare one begins here
abbrev pub begins_word : Sign → Bool
begins_word s.End = false
begins_word s.Blank = false
begins_word s.Fold = false
begins_word s.Newline = false
begins_word s.Semicolon = false
begins_word _ = true

-- a word without marks begins here
abbrev pub begins_bare : Sign → Bool
begins_bare s.End = false
begins_bare s.Blank = false
begins_bare s.Fold = false
begins_bare s.Newline = false
begins_bare s.Semicolon = false
begins_bare s.OpenBrace = false
begins_bare s.Quote = false
begins_bare _ = true

abbrev pub is_hash : Sign → Bool
is_hash s.Hash = true
is_hash _ = false

pub bare_begins : (c x y : ℕ) → IsBare c → (c == 123) ≡ false → (c == 34) ≡ false → begins_bare (sign_of c x y) ≡ true
bare_begins c x y b o q =
    sign_by (λ z. begins_bare z ≡ true) c x y (no (is_separator c) b.separator) (no (c == 10) b.newline) (no (c == 59) b.semicolon) (λ _. refl) (no (c == 123) o) (λ _. refl) (no (c == 34) q) (λ _. refl) (λ _. refl) (no (c == 92) b.backslash) (λ _. refl)
    (refl, refl, refl, refl, refl, refl, refl)

pub no_hash : (c x y : ℕ) → (c == 35) ≡ false → is_hash (sign_of c x y) ≡ false
no_hash c x y h =
    sign_by (λ z. is_hash z ≡ false) c x y (λ _. refl) (λ _. refl) (λ _. refl) (no (c == 35) h) (λ _. refl) (λ _. refl) (λ _. refl) (λ _. refl) (λ _. refl) (λ _. (refl, refl)) (λ _. refl)
    (refl, refl, refl, refl, refl, refl, refl)

pub bare_word : (x : Sign) → begins_bare x ≡ true → begins_word x ≡ true
bare_word s.End e = e
bare_word s.Blank e = e
bare_word s.Fold e = e
bare_word s.Newline e = e
bare_word s.Semicolon e = e
bare_word s.OpenBrace e = refl
bare_word s.Quote e = refl
bare_word _ e = e

-- ---- behind words

-- nothing or a space comes next
pub data IsRest : Text → Type 0 where
  nothing : IsRest []
  space : (u : Text) → IsRest (32 ∷ u)

pub rest_ends : (r : Text) → IsRest r → ends_word false (sign r) ≡ true
unfolding sign sign_of
rest_ends r IsRest.nothing = refl
rest_ends r (IsRest.space u) = refl
