-- What the rules of a word in braces, of words and of scripts read at a place.
use Rattle.std.proofs.Common.{rules, subst, ◌≡◌, ℕ, suc, ◌-◌, ◌==◌, ◌<◌, Bool, true, false, if◌then◌else◌, List, [], ◌∷◌, ◌++◌, length, take, drop, Ok, Err, Some, None, Option, Result, refl, sym, ap, ap₂, ◌∙◌, arith}
use Rattle.std.proofs.lemmas.List.{append-nil}
use Rattle.tclv_text.specs.Cursors.{sign, escape_len, escape_char}
use Rattle.tclv_text.specs.declared.cursors.Sign.{Sign}
use Rattle.tclv_text.specs.declared.cursors.Sign.TheVariants as s
use Rattle.tclv_parse.specs.declared.runs.Form.{Form}
use Rattle.tclv_parse.specs.declared.runs.Form.TheVariants as form
use Rattle.tclv_parse.specs.declared.runs.Run.TheVariants as run
use Rattle.tclv_parse.specs.declared.pieces.PieceKind.TheVariants as k
use Rattle.tclv_parse.specs.declared.faults.ParseFault.{ParseFault}
use Rattle.tclv_parse.specs.declared.faults.ParseFault.TheVariants as f
use Rattle.tclv_parse.specs.declared.tree.Part.{Part}
use Rattle.tclv_parse.specs.declared.tree.Part.TheVariants as part
use Rattle.tclv_parse.specs.declared.tree.Word.{Word}
use Rattle.tclv_parse.specs.declared.tree.Command.{Command}
use Rattle.tclv_parse.specs.declared.tree.Script.{Script, out-Script, the_lemmas}
use Rattle.tclv_parse.specs.Runs.{Text, step, ends_word, ends_command, stops, run_len, run_end, level_of, expands}
use Rattle.tclv_parse.specs.Readings.{Reading, End, valued, valued_end, emit, done, join}
use Rattle.tclv_parse.specs.Grammar.{Deeper, Course, text_before, text_part, word_of, variable_by, part_by, parts_by, parts, raw, braced_by, braced, closed, end_quote, end_index, word_by, plain_word, word, words_by, words_at, words, ends, halts, place, command_of, command_before, command, script_by, script_of, script, enclosed, enclosed_end, deeper_by, fault_of}
use Rattle.tclv_parse.specs.Places.{end_of, seen}
use Rattle.tclv_parse.specs.Readers.{Runs, behind}
use Rattle.tclv_parse.proofs.PieceLemmas.{less, some}
use Rattle.tclv_parse.proofs.RunLaws.{passes, run-taken, literal-step, brace-step}
use Rattle.tclv_parse.proofs.Rules.{IsDeeper, words-strict, braced-is, parts-is, words-is, script-is}

-- the commands of a script before its fault, and the text behind it or the fault
abbrev Reached : Type 0
Reached = List Command × Result Text ParseFault

-- ---- words in braces

module _ (t : Text) (level : ℕ) where
  braced-at : (x : Sign) → sign t ≡ x → (braced t level).1 ≡ (braced_by braced t level x).1
  braced-at x h = ap (λ r. (r level).1) (braced-is t) ∙ ap (λ y. (braced_by braced t level y).1) h

  pub braced-end : sign t ≡ s.End → (braced t level).1 ≡ Err f.CloseBrace
  braced-end h = braced-at s.End h

  pub braced-fold : sign t ≡ s.Fold → (braced t level).1 ≡ valued_end (λ x. escape_char t ∷ x) (braced (drop (escape_len t) t) level).1
  braced-fold h = braced-at s.Fold h

  pub fold-less : sign t ≡ s.Fold → length (drop (escape_len t) t) < length t
  fold-less h = less (escape_len t) t (omega arith) (some t s.Fold h (λ z. cc))

  abbrev at_brace : Bool → End Text
  at_brace b = (if b then emit k.Mark 1 t (done {A = Text} []) else raw braced t level (run_len (run.Braced level) t)).1

  pub braced-close : (level == 0) ≡ true → sign t ≡ s.CloseBrace → (braced t level).1 ≡ Ok ([], drop 1 t)
  braced-close e h = braced-at s.CloseBrace h ∙ ap at_brace e

  abbrev raw_rest : End Text
  raw_rest = valued_end (λ x. take (run_len (run.Braced level) t) t ++ x) (braced (drop (run_len (run.Braced level) t) t) (level_of (run_end (run.Braced level) t))).1

  raw_by : (x : Sign) → (x ≡ s.End → ⊥) → (x ≡ s.Fold → ⊥) → (x ≡ s.CloseBrace → ⊥) → (braced_by braced t level x).1 ≡ raw_rest
  raw_by s.End a b c = absurd (a refl)
  raw_by s.Fold a b c = absurd (b refl)
  raw_by s.CloseBrace a b c = absurd (c refl)
  raw_by _ a b c = refl

  raw_close : (x : Sign) → sign t ≡ x → (x ≡ s.End → ⊥) → (x ≡ s.Fold → ⊥) → (x ≡ s.CloseBrace → (level == 0) ≡ false) → (braced t level).1 ≡ raw_rest
  raw_close s.CloseBrace h a b c = braced-at s.CloseBrace h ∙ ap at_brace (c refl)
  raw_close x h a b c = braced-at x h ∙ raw_by x a b (λ z. cc)

  pub braced-raw : (sign t ≡ s.End → ⊥) → (sign t ≡ s.Fold → ⊥) → (sign t ≡ s.CloseBrace → (level == 0) ≡ false) → (braced t level).1 ≡ raw_rest
  braced-raw a b c = raw_close (sign t) refl a b c

  raw_passes : (x : Sign) → (x ≡ s.End → ⊥) → (x ≡ s.Fold → ⊥) → (x ≡ s.CloseBrace → (level == 0) ≡ false) → passes (step (run.Braced level) x) ≡ true
  raw_passes s.End a b c = absurd (a refl)
  raw_passes s.Fold a b c = absurd (b refl)
  raw_passes s.CloseBrace a b c = brace-step level (c refl)
  raw_passes s.OpenBrace a b c = refl
  raw_passes s.Backslash a b c = refl
  raw_passes _ a b c = refl

  pub raw-less : (sign t ≡ s.End → ⊥) → (sign t ≡ s.Fold → ⊥) → (sign t ≡ s.CloseBrace → (level == 0) ≡ false) → length (drop (run_len (run.Braced level) t) t) < length t
  raw-less a b c = let r = run-taken (run.Braced level) t (raw_passes (sign t) a b c) in less (run_len (run.Braced level) t) t r.run r.some

-- ---- parts

module _ (deeper : Deeper) (is : IsDeeper deeper) (inner : Bool) (t : Text) where
  abbrev value : Form → Text → End (List Part)
  value form u = (parts deeper inner form u).1

  module _ (form : Form) where
    parts-at : (b : Bool) → stops inner form (sign t) ≡ b → value form t ≡ (parts_by deeper inner form (parts deeper inner form) t b).1
    parts-at b e = ap (λ r. r.1) (parts-is deeper is inner form t ∙ ap (parts_by deeper inner form (parts deeper inner form) t) e)

    pub parts-stop : stops inner form (sign t) ≡ true → value form t ≡ Ok ([], t)
    parts-stop e = parts-at true e

    part-at : (x : Sign) → stops inner form (sign t) ≡ false → sign t ≡ x → value form t ≡ (part_by deeper inner form (parts deeper inner form) t x).1
    part-at x e h = parts-at false e ∙ ap (λ y. (part_by deeper inner form (parts deeper inner form) t y).1) h

    pub part-backslash : stops inner form (sign t) ≡ false → sign t ≡ s.Backslash → value form t ≡ valued_end (text_before (escape_char t ∷ [])) (value form (drop (escape_len t) t))
    part-backslash e h = part-at s.Backslash e h

    pub part-fold : stops inner form (sign t) ≡ false → sign t ≡ s.Fold → value form t ≡ valued_end (text_before (escape_char t ∷ [])) (value form (drop (escape_len t) t))
    part-fold e h = part-at s.Fold e h

    pub part-bracket : stops inner form (sign t) ≡ false → sign t ≡ s.OpenBracket → value form t ≡ (join (deeper.script t) (parts deeper inner form) (λ script ps. part.Script script ∷ ps)).1
    part-bracket e h = part-at s.OpenBracket e h

    pub part-dollar : stops inner form (sign t) ≡ false → sign t ≡ s.Dollar → value form t ≡ (variable_by deeper inner (parts deeper inner form) t (run_len run.Variable t) (run_end run.Variable t)).1
    part-dollar e h = part-at s.Dollar e h

    literal_by : (x : Sign) → (x ≡ s.Backslash → ⊥) → (x ≡ s.Fold → ⊥) → (x ≡ s.Dollar → ⊥) → (x ≡ s.OpenBracket → ⊥)
        → (part_by deeper inner form (parts deeper inner form) t x).1 ≡ valued_end (text_before (take (run_len (run.Literal inner form) t) t)) (value form (drop (run_len (run.Literal inner form) t) t))
    literal_by s.Backslash a b c d = absurd (a refl)
    literal_by s.Fold a b c d = absurd (b refl)
    literal_by s.Dollar a b c d = absurd (c refl)
    literal_by s.OpenBracket a b c d = absurd (d refl)
    literal_by _ a b c d = refl

    pub part-literal : stops inner form (sign t) ≡ false → (sign t ≡ s.Backslash → ⊥) → (sign t ≡ s.Fold → ⊥) → (sign t ≡ s.Dollar → ⊥) → (sign t ≡ s.OpenBracket → ⊥)
        → value form t ≡ valued_end (text_before (take (run_len (run.Literal inner form) t) t)) (value form (drop (run_len (run.Literal inner form) t) t))
    part-literal e a b c d = part-at (sign t) e refl ∙ literal_by (sign t) a b c d

    literal_passes : (x : Sign) → stops inner form x ≡ false → (x ≡ s.Backslash → ⊥) → (x ≡ s.Fold → ⊥) → (x ≡ s.Dollar → ⊥) → (x ≡ s.OpenBracket → ⊥) → passes (step (run.Literal inner form) x) ≡ true
    literal_passes s.Backslash e a b c d = absurd (a refl)
    literal_passes s.Fold e a b c d = absurd (b refl)
    literal_passes s.Dollar e a b c d = absurd (c refl)
    literal_passes s.OpenBracket e a b c d = absurd (d refl)
    literal_passes x e a b c d = ap passes (literal-step inner form x e refl)

    pub literal-less : stops inner form (sign t) ≡ false → (sign t ≡ s.Backslash → ⊥) → (sign t ≡ s.Fold → ⊥) → (sign t ≡ s.Dollar → ⊥) → (sign t ≡ s.OpenBracket → ⊥) → length (drop (run_len (run.Literal inner form) t) t) < length t
    literal-less e a b c d = let r = run-taken (run.Literal inner form) t (literal_passes (sign t) e a b c d) in less (run_len (run.Literal inner form) t) t r.run r.some

  -- ---- words

  pub plain-brace : sign t ≡ s.OpenBrace → (plain_word deeper inner t).1 ≡ (join (braced (drop 1 t) 0) (closed inner f.AfterBrace) (λ x _. text_part x)).1
  unfolding plain_word
  plain-brace h = ap (λ x. (word_by deeper inner t x).1) h

  pub plain-quote : sign t ≡ s.Quote → (plain_word deeper inner t).1 ≡ (join (parts deeper inner form.Quoted (drop 1 t)) (end_quote inner) (λ ps _. ps)).1
  unfolding plain_word
  plain-quote h = ap (λ x. (word_by deeper inner t x).1) h

  plain_else : (x : Sign) → (x ≡ s.OpenBrace → ⊥) → (x ≡ s.Quote → ⊥) → (word_by deeper inner t x).1 ≡ value form.Bare t
  plain_else s.OpenBrace a b = absurd (a refl)
  plain_else s.Quote a b = absurd (b refl)
  plain_else _ a b = refl

  pub plain-else : (sign t ≡ s.OpenBrace → ⊥) → (sign t ≡ s.Quote → ⊥) → (plain_word deeper inner t).1 ≡ value form.Bare t
  unfolding plain_word
  plain-else a b = plain_else (sign t) a b

  pub word-expand : expands inner t ≡ true → (word deeper inner t).1 ≡ valued_end (word_of true) (plain_word deeper inner (drop 3 t)).1
  unfolding word
  word-expand e = ap (λ b. (if b then emit k.Expand 3 t (λ u. valued (word_of true) (plain_word deeper inner u)) else valued (word_of false) (plain_word deeper inner t)).1) e

  pub word-plain : expands inner t ≡ false → (word deeper inner t).1 ≡ valued_end (word_of false) (plain_word deeper inner t).1
  unfolding word
  word-plain e = ap (λ b. (if b then emit k.Expand 3 t (λ u. valued (word_of true) (plain_word deeper inner u)) else valued (word_of false) (plain_word deeper inner t)).1) e

  abbrev words_value : Text → End (List Word)
  words_value u = (words deeper inner u).1

  words-at : (b : Bool) → ends_command inner (sign t) ≡ b → words_value t ≡ (words_at deeper inner (words deeper inner) t b).1
  words-at b e = ap (λ r. r.1) (words-is deeper is inner t ∙ ap (words_at deeper inner (words deeper inner) t) e)

  pub words-end : ends_command inner (sign t) ≡ true → words_value t ≡ Ok ([], t)
  words-end e = words-at true e

  words-sign : (x : Sign) → ends_command inner (sign t) ≡ false → sign t ≡ x → words_value t ≡ (words_by deeper inner (words deeper inner) t x).1
  words-sign x e h = words-at false e ∙ ap (λ y. (words_by deeper inner (words deeper inner) t y).1) h

  pub words-blank : ends_command inner (sign t) ≡ false → sign t ≡ s.Blank → words_value t ≡ words_value (drop (run_len run.Blanks t) t)
  words-blank e h = words-sign s.Blank e h

  pub words-fold : ends_command inner (sign t) ≡ false → sign t ≡ s.Fold → words_value t ≡ words_value (drop (run_len run.Blanks t) t)
  words-fold e h = words-sign s.Fold e h

  word_next : (x : Sign) → (x ≡ s.Blank → ⊥) → (x ≡ s.Fold → ⊥) → (words_by deeper inner (words deeper inner) t x).1 ≡ (join (word deeper inner t) (words deeper inner) (λ w ws. w ∷ ws)).1
  word_next s.Blank a b = absurd (a refl)
  word_next s.Fold a b = absurd (b refl)
  word_next _ a b = refl

  pub words-word : ends_command inner (sign t) ≡ false → (sign t ≡ s.Blank → ⊥) → (sign t ≡ s.Fold → ⊥) → words_value t ≡ (join (word deeper inner t) (words deeper inner) (λ w ws. w ∷ ws)).1
  words-word e a b = words-sign (sign t) e refl ∙ word_next (sign t) a b

  word_goes : (x : Sign) → ends_command inner x ≡ false → (x ≡ s.Blank → ⊥) → (x ≡ s.Fold → ⊥) → ends_word inner x ≡ false
  word_goes s.Blank e a b = absurd (a refl)
  word_goes s.Fold e a b = absurd (b refl)
  word_goes _ e a b = e

  pub word-goes : ends_command inner (sign t) ≡ false → (sign t ≡ s.Blank → ⊥) → (sign t ≡ s.Fold → ⊥) → ends_word inner (sign t) ≡ false
  word-goes e a b = word_goes (sign t) e a b

  -- the words of a command take a character at least
  pub words-taken : ends_command inner (sign t) ≡ false → (ws : List Word) (u : Text) → words_value t ≡ Ok (ws, u) → length u < length t
  words-taken g ws u e = words-strict deeper is inner t g u (ap end_of e)

  -- ---- scripts

  module _ (whole : ℕ) where
    abbrev run_of : Text → Reached
    run_of u = (script whole deeper inner u).1

    script-at : (x : Sign) → sign t ≡ x → run_of t ≡ (script_by whole deeper inner (script whole deeper inner) t x).1
    script-at x h = ap (λ r. r.1) (script-is deeper is inner whole t) ∙ ap (λ y. (script_by whole deeper inner (script whole deeper inner) t y).1) h

    pub script-blank : sign t ≡ s.Blank → run_of t ≡ run_of (drop (run_len run.Blanks t) t)
    script-blank h = script-at s.Blank h

    pub script-fold : sign t ≡ s.Fold → run_of t ≡ run_of (drop (run_len run.Blanks t) t)
    script-fold h = script-at s.Fold h

    pub script-newline : sign t ≡ s.Newline → run_of t ≡ run_of (drop 1 t)
    script-newline h = script-at s.Newline h

    pub script-semicolon : sign t ≡ s.Semicolon → run_of t ≡ run_of (drop 1 t)
    script-semicolon h = script-at s.Semicolon h

    pub script-hash : sign t ≡ s.Hash → run_of t ≡ run_of (drop (run_len run.Comment t) t)
    script-hash h = script-at s.Hash h

    pub script-end-inner : sign t ≡ s.End → inner ≡ true → run_of t ≡ ([], Err f.CloseBracket)
    script-end-inner h i = script-at s.End h ∙ ap (λ b. (if b then halts f.CloseBracket else ends t).1) i

    pub script-end-outer : sign t ≡ s.End → inner ≡ false → run_of t ≡ ([], Ok t)
    script-end-outer h i = script-at s.End h ∙ ap (λ b. (if b then halts f.CloseBracket else ends t).1) i

    abbrev at_bracket : Bool → Reached
    at_bracket b = (if b then emit k.Close 1 t ends else command whole deeper inner (script whole deeper inner) t).1

    pub script-close : sign t ≡ s.CloseBracket → inner ≡ true → run_of t ≡ ([], Ok (drop 1 t))
    script-close h i = script-at s.CloseBracket h ∙ ap at_bracket i

    abbrev command_run : End (List Word) → Reached
    command_run e = (command_before (place whole t) (words deeper inner t).0 e (script whole deeper inner)).1

    -- a command begins here
    pub record Begins : Type 0 where
      pub no_end : sign t ≡ s.End → ⊥
      pub no_close : sign t ≡ s.CloseBracket → inner ≡ false
      pub no_blank : sign t ≡ s.Blank → ⊥
      pub no_fold : sign t ≡ s.Fold → ⊥
      pub no_newline : sign t ≡ s.Newline → ⊥
      pub no_semicolon : sign t ≡ s.Semicolon → ⊥
      pub no_hash : sign t ≡ s.Hash → ⊥

    command_by : (x : Sign) → sign t ≡ x → Begins → run_of t ≡ command_run (words deeper inner t).1
    command_by s.End h b = absurd (b.no_end h)
    command_by s.Blank h b = absurd (b.no_blank h)
    command_by s.Fold h b = absurd (b.no_fold h)
    command_by s.Newline h b = absurd (b.no_newline h)
    command_by s.Semicolon h b = absurd (b.no_semicolon h)
    command_by s.Hash h b = absurd (b.no_hash h)
    command_by s.CloseBracket h b = script-at s.CloseBracket h ∙ ap at_bracket (b.no_close h)
    command_by x h b = script-at x h

    pub command-ok : Begins → (ws : List Word) (u : Text) → (words deeper inner t).1 ≡ Ok (ws, u) → run_of t ≡ (command_of (place whole t) ws ∷ (run_of u).0, (run_of u).1)
    command-ok b ws u e = command_by (sign t) refl b ∙ ap command_run e

    pub command-err : Begins → (x : ParseFault) → (words deeper inner t).1 ≡ Err x → run_of t ≡ ([], Err x)
    command-err b x e = command_by (sign t) refl b ∙ ap command_run e

    command_goes : (x : Sign) → sign t ≡ x → Begins → ends_command inner x ≡ false
    command_goes s.End h b = absurd (b.no_end h)
    command_goes s.Newline h b = absurd (b.no_newline h)
    command_goes s.Semicolon h b = absurd (b.no_semicolon h)
    command_goes s.CloseBracket h b = b.no_close h
    command_goes _ h b = refl

    pub command-goes : Begins → ends_command inner (sign t) ≡ false
    command-goes b = command_goes (sign t) refl b

  pub blank-less : sign t ≡ s.Blank → length (drop (run_len run.Blanks t) t) < length t
  blank-less h = let r = run-taken run.Blanks t (ap (λ x. passes (step run.Blanks x)) h) in less (run_len run.Blanks t) t r.run r.some

  pub folded-less : sign t ≡ s.Fold → length (drop (run_len run.Blanks t) t) < length t
  folded-less h = let r = run-taken run.Blanks t (ap (λ x. passes (step run.Blanks x)) h) in less (run_len run.Blanks t) t r.run r.some

  pub comment-less : sign t ≡ s.Hash → length (drop (run_len run.Comment t) t) < length t
  comment-less h = let r = run-taken run.Comment t (ap (λ x. passes (step run.Comment x)) h) in less (run_len run.Comment t) t r.run r.some

-- what a reading took
pub ended : {A : Type 0} (r : Reading A) (a : A) (u : Text) → r.1 ≡ Ok (a, u) → (seen r).1 ≡ Ok u
ended r a u e = ap end_of e

-- ---- a run of commands

pub fault-is : (cs : List Command) (x : Option ParseFault) → (out-Script (script_of cs x)).fault ≡ x
fault-is cs x = search (rules, the_lemmas)

pub behind-none : (found : List Command) (r : Reached) → found ≡ [] → r ≡ behind found r
behind-none found r e = ap (λ l. behind l r) (sym e)

pub runs-end : (r : Reached) (found : List Command) (out : Result Text ParseFault) (script : Script) (new : Text) → r ≡ (found ++ [], out) → Runs (found, out) script new → Runs r script new
runs-end r found out script new e h = subst (λ x. Runs x script new) (sym (e ∙ ap (λ l. (l, out)) (append-nil found))) h

runs_none : (cs : List Command) (r : Result Text ParseFault) (script : Script) (new : Text) → Runs (cs, r) script new → (out-Script script).fault ≡ None → enclosed_end cs r ≡ Ok (script, new)
runs_none cs (Ok t) script new h e = ap₂ (λ x u. Ok (x, u)) (sym h.0) (sym h.1)
runs_none cs (Err x) script new h e = let g : Some x ≡ None = sym (fault-is cs (Some x)) ∙ sym (ap (λ y. (out-Script y).fault) h) ∙ e in cc

pub enclosed-none : (r : Course) (script : Script) (new : Text) → Runs r.1 script new → (out-Script script).fault ≡ None → (enclosed r).1 ≡ Ok (script, new)
enclosed-none r script new h e = runs_none r.1.0 r.1.1 script new h e

runs_some : (cs : List Command) (r : Result Text ParseFault) (script : Script) (new : Text) (x : ParseFault) → Runs (cs, r) script new → (out-Script script).fault ≡ Some x → enclosed_end cs r ≡ Err x
runs_some cs (Ok t) script new x h e = let g : None ≡ Some x = sym (fault-is cs None) ∙ sym (ap (λ y. (out-Script y).fault) h.0) ∙ e in cc
runs_some cs (Err y) script new x h e = let g : Some y ≡ Some x = sym (fault-is cs (Some y)) ∙ sym (ap (λ z. (out-Script z).fault) h) ∙ e in let same : y ≡ x = cc in ap (λ z. Err z) same

pub enclosed-some : (r : Course) (script : Script) (new : Text) (x : ParseFault) → Runs r.1 script new → (out-Script script).fault ≡ Some x → (enclosed r).1 ≡ Err x
enclosed-some r script new x h e = runs_some r.1.0 r.1.1 script new x h e

runs_whole : (cs : List Command) (r : Result Text ParseFault) (script : Script) (new : Text) → Runs (cs, r) script new → script ≡ script_of cs (fault_of r)
runs_whole cs (Ok t) script new h = h.0
runs_whole cs (Err x) script new h = h

pub runs-whole : (r : Reached) (script : Script) (new : Text) → Runs r script new → script ≡ script_of r.0 (fault_of r.1)
runs-whole r script new h = runs_whole r.0 r.1 script new h

pub deeper-suc : (whole n : ℕ) → 0 < n → deeper_by whole n ≡ deeper_by whole (suc (n - 1))
deeper-suc whole n h = let e : n ≡ suc (n - 1) = omega arith in ap (deeper_by whole) e

-- ---- levels

pub script-zero : (whole n : ℕ) (t : Text) → n ≡ 0 → ((deeper_by whole n).script t).1 ≡ Err f.TooDeep
unfolding deeper_by
script-zero whole n t e = ap (λ d. ((deeper_by whole d).script t).1) e

pub index-zero : (whole n : ℕ) (t : Text) → n ≡ 0 → ((deeper_by whole n).index t).1 ≡ Err f.TooDeep
unfolding deeper_by
index-zero whole n t e = ap (λ d. ((deeper_by whole d).index t).1) e

pub script-inside : (whole n : ℕ) (t u : Text) → 0 < n → u ≡ drop 1 t → ((deeper_by whole n).script t).1 ≡ (enclosed (script whole (deeper_by whole (n - 1)) true u)).1
unfolding deeper_by
script-inside whole n t u h q = ap (λ d. (d.script t).1) (deeper-suc whole n h) ∙ ap (λ x. (enclosed (script whole (deeper_by whole (n - 1)) true x)).1) (sym q)

pub index-inside : (whole n : ℕ) (t u : Text) → 0 < n → u ≡ drop 1 t → ((deeper_by whole n).index t).1 ≡ (join (parts (deeper_by whole (n - 1)) true form.Index u) end_index (λ ps _. ps)).1
unfolding deeper_by
index-inside whole n t u h q = ap (λ d. (d.index t).1) (deeper-suc whole n h) ∙ ap (λ x. (join (parts (deeper_by whole (n - 1)) true form.Index x) end_index (λ ps _. ps)).1) (sym q)
