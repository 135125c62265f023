-- A bare word is read with its escapes.
use Rattle.std.proofs.Common.{◌≡◌, ℕ, zero, suc, ◌+◌, ◌≤◌, true, false, not, ◌&&◌, if◌then◌else◌, List, [], ◌∷◌, ◌++◌, ◌==◌, Some, None, Ok, Err, length, take, drop, slice_index, refl, sym, ap, ◌∙◌, arith}
use mathlib.Core.Logic.{◌⊎◌, inl, inr, ⊎_elim}
use Rattle.tclv_text.specs.Escapes.{escape}
use Rattle.tclv_text.specs.Cursors.{sign}
use Rattle.tclv_text.specs.declared.cursors.Sign.{Sign}
use Rattle.tclv_text.specs.declared.cursors.Sign.TheVariants as s
use Rattle.tclv_parse.specs.declared.runs.Form.TheVariants as form
use Rattle.tclv_parse.specs.declared.pieces.PieceKind.TheVariants as k
use Rattle.tclv_parse.specs.declared.faults.ParseFault.TheVariants as f
use Rattle.tclv_parse.specs.declared.tree.Part.{Part}
use Rattle.tclv_parse.specs.declared.tree.Part.TheVariants as part
use Rattle.tclv_parse.specs.Fix.{go, fix}
use Rattle.tclv_parse.specs.Runs.{Text, step, option_case, run_len, ends_word, stops, is_expansion_mark}
use Rattle.tclv_parse.specs.Readings.{Reading, End, fails, emit, valued, valued_end}
use Rattle.tclv_parse.specs.Grammar as g
use Rattle.tclv_parse.specs.Grammar.{Deeper, text_before, text_part, parts, parts_step, parts_by, part_by, word_of, word_by, plain_word, word}
use Rattle.tclv_value.specs.ListCommands.{literal_word}
use Rattle.tclv_value.proofs.SignLemmas.{IsBare, literal, literal_goes, backslash_sign, begins_bare, IsRest, rest_ends}

-- The bare characters s stand for the text t: each is a character that stands for itself, or a backslash with one character behind it that is no newline.
pub data Writes : Text → Text → Type 0 where
  nothing : Writes [] []
  itself : (c : ℕ) (s t : Text) → IsBare c → Writes s t → Writes (c ∷ s) (c ∷ t)
  escaped : (m c : ℕ) (s t : Text) → (m == 10) ≡ false → ((rest : Text) → escape (m ∷ rest) ≡ (c, 1)) → Writes s t → Writes (92 ∷ m ∷ s) (c ∷ t)

-- ---- runs

runs_or_not : (x : Sign) → (step literal x ≡ Some literal) ⊎ (step literal x ≡ None)
runs_or_not s.End = inr refl
runs_or_not s.Blank = inr refl
runs_or_not s.Fold = inr refl
runs_or_not s.Newline = inr refl
runs_or_not s.Semicolon = inr refl
runs_or_not s.Backslash = inr refl
runs_or_not s.Dollar = inr refl
runs_or_not s.OpenBracket = inr refl
runs_or_not _ = inl refl

no_run : (u : Text) → step literal (sign u) ≡ None → run_len literal u ≡ 0
no_run [] e = refl
no_run (c ∷ u) e = ap (λ o. option_case o 0 (λ next. suc (run_len next u))) e

longer_run : (c : ℕ) (u : Text) → step literal (sign (c ∷ u)) ≡ Some literal → run_len literal (c ∷ u) ≡ suc (run_len literal u)
longer_run c u e = ap (λ o. option_case o 0 (λ next. suc (run_len next u))) e

-- ---- values

joined : (c : ℕ) (x : Text) (ps : List Part) → text_before (c ∷ x) ps ≡ text_before (c ∷ []) (text_before x ps)
joined c x [] = refl
joined c x (part.Literal y ∷ ps) = refl
joined c x (p ∷ ps) = refl

joined_end : (c : ℕ) (x : Text) (e : End (List Part)) → valued_end (text_before (c ∷ x)) e ≡ valued_end (text_before (c ∷ [])) (valued_end (text_before x) e)
joined_end c x (Ok p) = ap (λ ps. Ok (ps, p.1)) (joined c x p.0)
joined_end c x (Err e) = refl

one_part : (c : ℕ) (t : Text) → text_before (c ∷ []) (text_part t) ≡ text_part (c ∷ t)
one_part c [] = refl
one_part c (x ∷ t) = refl

char_goes : (c : ℕ) (u : Text) → IsBare c → step literal (sign (c ∷ u)) ≡ Some literal
unfolding sign
char_goes c u b = literal_goes c (slice_index u 0) (slice_index u 1) b

module _ (deeper : Deeper) where
  abbrev bare_step : (Text → Reading (List Part)) → Text → Reading (List Part)
  bare_step = parts_step deeper false form.Bare

  abbrev by : ℕ → Text → Reading (List Part)
  by n = go bare_step (fails f.TooDeep) n

  -- behind the word nothing more is read
  ended : (more : Text → Reading (List Part)) (r : Text) → IsRest r → (bare_step more r).1 ≡ Ok ([], r)
  ended more r e = ap (λ b. (parts_by deeper false form.Bare more r b).1) (rest_ends r e)

  no_stop : (x : Sign) → step literal x ≡ Some literal → stops false form.Bare x ≡ false
  no_stop s.End e = cc
  no_stop s.Blank e = cc
  no_stop s.Fold e = cc
  no_stop s.Newline e = cc
  no_stop s.Semicolon e = cc
  no_stop _ e = refl

  is_literal : (more : Text → Reading (List Part)) (t : Text) (x : Sign) → step literal x ≡ Some literal → (part_by deeper false form.Bare more t x).1 ≡ (g.literal more t (run_len literal t)).1
  is_literal more t s.Backslash e = cc
  is_literal more t s.Fold e = cc
  is_literal more t s.Dollar e = cc
  is_literal more t s.OpenBracket e = cc
  is_literal more t _ e = refl

  -- a run of characters is taken
  run_taken : (more : Text → Reading (List Part)) (t : Text) → step literal (sign t) ≡ Some literal → (bare_step more t).1 ≡ (g.literal more t (run_len literal t)).1
  run_taken more t e = ap (λ b. (parts_by deeper false form.Bare more t b).1) (no_stop (sign t) e) ∙ is_literal more t (sign t) e

  escape_taken : (more : Text → Reading (List Part)) (m c : ℕ) (u : Text) → (m == 10) ≡ false → escape (m ∷ u) ≡ (c, 1) → (bare_step more (92 ∷ m ∷ u)).1 ≡ valued_end (text_before (c ∷ [])) (more u).1
  unfolding sign
  escape_taken more m c u n e =
      ap (λ x. (parts_by deeper false form.Bare more (92 ∷ m ∷ u) (stops false form.Bare x)).1) (backslash_sign m (slice_index u 0) n)
      ∙ ap (λ x. (part_by deeper false form.Bare more (92 ∷ m ∷ u) x).1) (backslash_sign m (slice_index u 0) n)
      ∙ ap (λ q. valued_end (text_before (q.0 ∷ [])) (more (drop (q.1 + 1) (92 ∷ m ∷ u))).1) e

  -- one character more before what is read alike with any bound that is long enough
  one_more : (c : ℕ) (u t r : Text) (n : ℕ) → step literal (sign (c ∷ u)) ≡ Some literal → (by n u).1 ≡ Ok (text_part t, r) → (by (suc n) u).1 ≡ Ok (text_part t, r) → (by (suc n) (c ∷ u)).1 ≡ Ok (text_part (c ∷ t), r)
  unfolding go
  one_more c u t r n e here there =
      let j = run_len literal u in
      let rest = λ (q : End (List Part)). valued_end (text_before (c ∷ [])) q in
      run_taken (by n) (c ∷ u) e
      ∙ ap (λ k. (g.literal (by n) (c ∷ u) k).1) (longer_run c u e)
      ∙ ⊎_elim
      (λ (q : step literal (sign u) ≡ Some literal). joined_end c (take j u) (by n (drop j u)).1 ∙ ap rest (sym (run_taken (by n) u q) ∙ there))
      (λ (q : step literal (sign u) ≡ None). ap (λ i. valued_end (text_before (c ∷ take i u)) (by n (drop i u)).1) (no_run u q) ∙ ap rest here)
      (runs_or_not (sign u))
      ∙ ap (λ ps. Ok (ps, r)) (one_part c t)

  bare_read : (s t r : Text) (n : ℕ) → Writes s t → IsRest r → length (s ++ r) ≤ n → (by n (s ++ r)).1 ≡ Ok (text_part t, r)
  unfolding go
  bare_read s t r zero Writes.nothing e l = ended (λ _. fails f.TooDeep) r e
  bare_read s t r (suc n) Writes.nothing e l = ended (by n) r e
  bare_read s t r zero (Writes.itself c s' t' b w) e l = absurd (omega arith)
  bare_read s t r (suc n) (Writes.itself c s' t' b w) e l = one_more c (s' ++ r) t' r n (char_goes c (s' ++ r) b) (bare_read s' t' r n w e (omega arith)) (bare_read s' t' r (suc n) w e (omega arith))
  bare_read s t r zero (Writes.escaped m c s' t' q h w) e l = absurd (omega arith)
  bare_read s t r (suc n) (Writes.escaped m c s' t' q h w) e l =
      escape_taken (by n) m c (s' ++ r) q (h (s' ++ r)) ∙ ap (valued_end (text_before (c ∷ []))) (bare_read s' t' r n w e (omega arith)) ∙ ap (λ ps. Ok (ps, r)) (one_part c t')

  -- ---- the word

  is_bare : (t : Text) (x : Sign) → begins_bare x ≡ true → word_by deeper false t x ≡ parts deeper false form.Bare t
  is_bare t s.OpenBrace e = cc
  is_bare t s.Quote e = cc
  is_bare t _ e = refl

  no_mark : (x y z : Sign) → begins_bare x ≡ true → is_expansion_mark x y z ≡ false
  no_mark s.OpenBrace y z e = cc
  no_mark _ y z e = refl

  pub bare_word : (s t r : Text) → Writes s t → begins_bare (sign (s ++ r)) ≡ true → IsRest r → (word deeper false (s ++ r)).1 ≡ Ok (literal_word t, r)
  unfolding word plain_word parts fix
  bare_word s t r w b e =
      let u = s ++ r in
      ap (λ q. (if q && not (ends_word false (sign (drop 3 u))) then emit k.Expand 3 u (λ v. valued (word_of true) (plain_word deeper false v)) else valued (word_of false) (plain_word deeper false u)).1) (no_mark (sign u) (sign (drop 1 u)) (sign (drop 2 u)) b)
      ∙ ap (λ q. valued_end (word_of false) q.1) (is_bare u (sign u) b)
      ∙ ap (valued_end (word_of false)) (bare_read s t r (length u) w e (omega arith))
