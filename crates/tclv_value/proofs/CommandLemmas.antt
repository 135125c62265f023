-- The text of a list is a command of its elements.
use Rattle.std.proofs.Common.{◌≡◌, ℕ, zero, suc, ◌<◌, ◌≤◌, Bool, true, false, List, [], ◌∷◌, ◌++◌, map, None, Ok, length, drop, refl, ap, ◌∙◌, arith, length-append}
use Rattle.tclv_text.specs.Cursors.{sign, sign_of, size}
use Rattle.tclv_text.specs.Quotes.{quoted, further, list_text}
use Rattle.tclv_text.specs.declared.cursors.Sign.{Sign}
use Rattle.tclv_text.specs.declared.cursors.Sign.TheVariants as s
use Rattle.tclv_parse.specs.declared.runs.Run.TheVariants as run
use Rattle.tclv_parse.specs.declared.faults.ParseFault.TheVariants as f
use Rattle.tclv_parse.specs.declared.tree.Word.{Word}
use Rattle.tclv_parse.specs.Fix.{go, fix}
use Rattle.tclv_parse.specs.Runs.{Text, step, option_case, run_len, ends_command}
use Rattle.tclv_parse.specs.Readings.{Reading, fails, join, join_end, valued_end}
use Rattle.tclv_parse.specs.Grammar.{Deeper, Course, word, words, words_step, words_at, words_by, script, script_step, script_by, command, command_of, command_before, script_of, fault_of, place, halts, course, deeper_by, max_depth}
use Rattle.tclv_value.specs.ListCommands.{literal_word, IsOneCommand}
use Rattle.tclv_value.proofs.SignLemmas.{begins_word, is_hash, IsRest}
use Rattle.tclv_value.proofs.SpellingLemmas.{Reads, quoted_reads}

-- ---- words

goes_on : (x : Sign) → begins_word x ≡ true → ends_command false x ≡ false
goes_on s.End e = cc
goes_on s.Newline e = cc
goes_on s.Semicolon e = cc
goes_on _ e = refl

no_blank : (x : Sign) → begins_word x ≡ true → step run.Blanks x ≡ None
no_blank s.Blank e = cc
no_blank s.Fold e = cc
no_blank _ e = refl

no_blanks : (u : Text) → begins_word (sign u) ≡ true → run_len run.Blanks u ≡ 0
unfolding sign
no_blanks [] e = refl
no_blanks (c ∷ u) e = ap (λ o. option_case o 0 (λ next. suc (run_len next u))) (no_blank (sign (c ∷ u)) e)

further_rest : (ts : List Text) → IsRest (further ts)
further_rest [] = IsRest.nothing
further_rest (t ∷ ts) = IsRest.space (quoted t false ++ further ts)

module _ (deeper : Deeper) where
  abbrev list_step : (Text → Reading (List Word)) → Text → Reading (List Word)
  list_step = words_step deeper false

  abbrev by : ℕ → Text → Reading (List Word)
  by n = go list_step (fails f.TooDeep) n

  is_word : (more : Text → Reading (List Word)) (t : Text) (x : Sign) → begins_word x ≡ true → words_by deeper false more t x ≡ join (word deeper false t) more (λ w ws. w ∷ ws)
  is_word more t s.Blank e = cc
  is_word more t s.Fold e = cc
  is_word more t _ e = refl

  -- a spelling is read, and then what stands behind it
  word_taken : (more : Text → Reading (List Word)) (first : Bool) (q t r : Text) → Reads first q t → IsRest r → (list_step more (q ++ r)).1 ≡ valued_end (λ ws. literal_word t ∷ ws) (more r).1
  word_taken more first q t r h e =
      let u = q ++ r in
      ap (λ b. (words_at deeper false more u b).1) (goes_on (sign u) (h.begins r))
      ∙ ap (λ x. x.1) (is_word more u (sign u) (h.begins r))
      ∙ ap (λ x. (join_end (word deeper false u).0 x more (λ w ws. w ∷ ws)).1) (h.reads deeper r e)

  blank_taken : (more : Text → Reading (List Word)) (u : Text) → begins_word (sign u) ≡ true → (list_step more (32 ∷ u)).1 ≡ (more u).1
  unfolding sign sign_of
  blank_taken more u e = ap (λ n. (more (drop (suc n) (32 ∷ u))).1) (no_blanks u e)

  -- the words from a spelling on, where those behind it are read with any bound that is long enough
  list_words : (first : Bool) (q t r : Text) (ws : List Word) (n : ℕ) → Reads first q t → IsRest r → length (q ++ r) ≤ n → ((m : ℕ) → length r ≤ m → (by m r).1 ≡ Ok (ws, [])) → (by n (q ++ r)).1 ≡ Ok (literal_word t ∷ ws, [])
  unfolding go
  list_words first q t r ws zero h e l f = absurd (let some = h.some in omega (arith, length-append q r))
  list_words first q t r ws (suc n) h e l f =
      let some = h.some in
      word_taken (by n) first q t r h e ∙ ap (valued_end (λ ws. literal_word t ∷ ws)) (f n (omega (arith, length-append q r)))

  further_words : (ts : List Text) (n : ℕ) → length (further ts) ≤ n → (by n (further ts)).1 ≡ Ok (map literal_word ts, [])
  unfolding go sign
  further_words [] zero l = refl
  further_words [] (suc n) l = refl
  further_words (t ∷ ts) zero l = absurd (omega arith)
  further_words (t ∷ ts) (suc n) l =
      let q = quoted t false in
      let h = quoted_reads false t in
      blank_taken (by n) (q ++ further ts) (h.begins (further ts)) ∙ list_words false q t (further ts) (map literal_word ts) n h (further_rest ts) (omega arith) (further_words ts)

  -- the words of a list's text are the elements
  pub words_read : (t : Text) (ts : List Text) → (words deeper false (list_text (t ∷ ts))).1 ≡ Ok (map literal_word (t ∷ ts), [])
  unfolding words fix
  words_read t ts = list_words true (quoted t true) t (further ts) (map literal_word ts) (length (list_text (t ∷ ts))) (quoted_reads true t) (further_rest ts) (omega arith) (further_words ts)

-- ---- the script

module _ (whole : ℕ) (deeper : Deeper) where
  abbrev run_step : (Text → Course) → Text → Course
  run_step = script_step whole deeper false

  is_command : (more : Text → Course) (t : Text) (x : Sign) → begins_word x ≡ true → is_hash x ≡ false → script_by whole deeper false more t x ≡ command whole deeper false more t
  is_command more t s.End e h = cc
  is_command more t s.Blank e h = cc
  is_command more t s.Fold e h = cc
  is_command more t s.Newline e h = cc
  is_command more t s.Semicolon e h = cc
  is_command more t s.Hash e h = cc
  is_command more t _ e h = refl

  nothing_left : (n : ℕ) → (go run_step (halts f.TooDeep) n []).1 ≡ ([], Ok [])
  unfolding go sign
  nothing_left zero = refl
  nothing_left (suc n) = refl

  -- where the words reach the text's end, the text is one command
  alone : (n : ℕ) (t : Text) (ws : List Word) → 0 < n → begins_word (sign t) ≡ true → is_hash (sign t) ≡ false → (words deeper false t).1 ≡ Ok (ws, []) → (go run_step (halts f.TooDeep) n t).1 ≡ (command_of (place whole t) ws ∷ [], Ok [])
  unfolding go
  alone zero t ws p b h e = absurd (omega arith)
  alone (suc n) t ws p b h e =
      let more = go run_step (halts f.TooDeep) n in
      ap (λ c. c.1) (is_command more t (sign t) b h)
      ∙ ap (λ x. (command_before (place whole t) (words deeper false t).0 x more).1) e
      ∙ ap (λ c. (command_of (place whole t) ws ∷ c.0, c.1)) (nothing_left n)

  pub script_read : (t : Text) (ts : List Text) → (script whole deeper false (list_text (t ∷ ts))).1 ≡ (command_of (place whole (list_text (t ∷ ts))) (map literal_word (t ∷ ts)) ∷ [], Ok [])
  unfolding script fix
  script_read t ts =
      let h = quoted_reads true t in
      let some = h.some in
      alone (length (list_text (t ∷ ts))) (list_text (t ∷ ts)) (map literal_word (t ∷ ts)) (omega (arith, length-append (quoted t true) (further ts))) (h.begins (further ts)) (h.no_comment refl (further ts)) (words_read deeper t ts)

first_place : (t : Text) → place (size t) t ≡ 0
first_place t = omega arith

pub one_command : (t : Text) (ts : List Text) → IsOneCommand (t ∷ ts)
unfolding course
one_command t ts =
    let u = list_text (t ∷ ts) in
    ap (λ c. script_of c.0 (fault_of c.1)) (script_read (size u) (deeper_by (size u) max_depth) t ts)
    ∙ ap (λ n. script_of (command_of n (map literal_word (t ∷ ts)) ∷ []) None) (first_place u)
