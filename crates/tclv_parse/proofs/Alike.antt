-- The pieces of a script, and its fault, don't depend on the count of bytes by which the places of commands are told.
use Rattle.std.proofs.Common.{◌≡◌, ℕ, zero, suc, ◌-◌, ◌<◌, Bool, true, false, List, [], ◌∷◌, length, drop, take, Ok, refl, sym, ap, ◌∙◌, arith, if◌then◌else◌}
use Rattle.tclv_text.specs.Cursors.{sign, size, escape_len, escape_char}
use Rattle.tclv_text.specs.declared.cursors.Sign.{Sign}
use Rattle.tclv_text.specs.declared.cursors.Sign.TheVariants as s
use Rattle.tclv_parse.specs.declared.runs.Form.{Form}
use Rattle.tclv_parse.specs.declared.runs.Form.TheVariants as form
use Rattle.tclv_parse.specs.declared.runs.Run.{Run}
use Rattle.tclv_parse.specs.declared.runs.Run.TheVariants as run
use Rattle.tclv_parse.specs.declared.pieces.PieceKind.{PieceKind}
use Rattle.tclv_parse.specs.declared.pieces.PieceKind.TheVariants as k
use Rattle.tclv_parse.specs.declared.faults.ParseFault.TheVariants as f
use Rattle.tclv_parse.specs.declared.tree.Part.{Part}
use Rattle.tclv_parse.specs.declared.tree.Part.TheVariants as part
use Rattle.tclv_parse.specs.declared.tree.Word.{Word}
use Rattle.tclv_parse.specs.declared.tree.Script.{out-Script}
use Rattle.tclv_parse.specs.Runs.{Text, ends_command, ends_word, stops, step, run_len, run_end, expands}
use Rattle.tclv_parse.specs.Readings.{Reading, before, emit, valued, join, fails}
use Rattle.tclv_parse.specs.Grammar.{Deeper, Course, text_before, word_of, named_by, variable_by, part_by, parts_by, parts_step, parts, end_quote, end_index, word_by, plain_word, word, words_by, words_at, words_step, words, ends, halts, command, script_by, script_step, script, enclosed, deeper_by, course, commands, fault_of, fault}
use Rattle.tclv_parse.specs.Places.{Out, seen, seen_course, chain}
use Rattle.tclv_parse.proofs.FixLaws.{fix-both}
use Rattle.tclv_parse.proofs.PieceLemmas.{less, some, seen-valued, seen-join, chain-local, rest_le}
use Rattle.tclv_parse.proofs.RunLaws.{passes, run-taken, stops-end, literal-step}
use Rattle.tclv_parse.proofs.Rules.{IsDeeper, word-strict, words-strict, seen-command, seen-enclosed, deeper-is}
use Rattle.tclv_parse.proofs.ReadLaws.{fault-is}

-- readers of the next level that differ in values alone
record Alike (d e : Deeper) : Type 0 where
  pub script : (t : Text) → seen (d.script t) ≡ seen (e.script t)
  pub index : (t : Text) → seen (d.index t) ≡ seen (e.index t)

abbrev Same : {A : Type 0} → (Text → Reading A) → (Text → Reading A) → Text → Type 0
Same g h t = (u : Text) → length u < length t → seen (g u) ≡ seen (h u)

valued_alike : {A B : Type 0} (v w : A → B) (r q : Reading A) → seen r ≡ seen q → seen (valued v r) ≡ seen (valued w q)
valued_alike v w r q e = seen-valued v r ∙ e ∙ sym (seen-valued w q)

join_alike : {A B C : Type 0} (r q : Reading A) (g h : Text → Reading B) (v : A → B → C) → seen r ≡ seen q → ((u : Text) → (seen q).1 ≡ Ok u → seen (g u) ≡ seen (h u)) → seen (join r g v) ≡ seen (join q h v)
join_alike r q g h v e same =
    seen-join r g v ∙ ap (λ x. chain x (λ u. seen (g u))) e ∙ chain-local (seen q) (λ u. seen (g u)) (λ u. seen (h u)) same ∙ sym (seen-join q h v)

piece_alike : (kind : PieceKind) (n : ℕ) (t : Text) (r q : Out) → r ≡ q → before (kind, take n t) r ≡ before (kind, take n t) q
piece_alike kind n t r q e = ap (before (kind, take n t)) e

abbrev Parts : Type 0
Parts = Text → Reading (List Part)

module _ (d e : Deeper) (is : IsDeeper e) (alike : Alike d e) (inner : Bool) where
  named_alike : (name : Text) (g h : Parts) (t u : Text) (x : Sign) → length u < length t → Same g h t → seen (named_by d inner name g u x) ≡ seen (named_by e inner name h u x)
  named_alike name g h t u s.OpenParen l q =
      join_alike (d.index u) (e.index u) g h (λ index parts. part.Element name index ∷ parts) (alike.index u) (λ v z. q v (omega (arith, rest_le u (seen (e.index u)) v (is.index-tiles u) z)))
  named_alike name g h t u _ l q = valued_alike (λ parts. part.Variable name ∷ parts) (λ parts. part.Variable name ∷ parts) (g u) (h u) (q u l)

  variable_alike : (g h : Parts) (t : Text) (n : ℕ) (r : Run) → 0 < n → 0 < length t → Same g h t → seen (variable_by d inner g t n r) ≡ seen (variable_by e inner h t n r)
  variable_alike g h t n run.Enclosed p l q = refl
  variable_alike g h t n run.Closed p l q =
      let v = λ (parts : List Part). part.Variable (take (n - 3) (drop 2 t)) ∷ parts in
      piece_alike k.Dollar n t (seen (valued v (g (drop n t)))) (seen (valued v (h (drop n t)))) (valued_alike v v (g (drop n t)) (h (drop n t)) (q (drop n t) (less n t p l)))
  variable_alike g h t n _ p l q =
      let name = take (n - 1) (drop 1 t) in
      let u = drop n t in
      piece_alike k.Dollar n t (seen (named_by d inner name g u (sign u))) (seen (named_by e inner name h u (sign u))) (named_alike name g h t u (sign u) (less n t p l) q)

  module _ (form : Form) where
    text_alike : (kind : PieceKind) (n : ℕ) (t x : Text) (g h : Parts) → 0 < n → 0 < length t → Same g h t → seen (emit kind n t (λ u. valued (text_before x) (g u))) ≡ seen (emit kind n t (λ u. valued (text_before x) (h u)))
    text_alike kind n t x g h p l q =
        let u = drop n t in
        piece_alike kind n t (seen (valued (text_before x) (g u))) (seen (valued (text_before x) (h u))) (valued_alike (text_before x) (text_before x) (g u) (h u) (q u (less n t p l)))

    part_alike : (g h : Parts) (t : Text) (x : Sign) → sign t ≡ x → stops inner form x ≡ false → Same g h t → seen (part_by d inner form g t x) ≡ seen (part_by e inner form h t x)
    part_alike g h t s.End at ne q = let z = stops-end inner form in cc
    part_alike g h t s.Backslash at ne q = text_alike k.Escape (escape_len t) t (escape_char t ∷ []) g h (omega arith) (some t s.Backslash at (λ z. cc)) q
    part_alike g h t s.Fold at ne q = text_alike k.Escape (escape_len t) t (escape_char t ∷ []) g h (omega arith) (some t s.Fold at (λ z. cc)) q
    part_alike g h t s.Dollar at ne q = let r = run-taken run.Variable t (ap (λ y. passes (step run.Variable y)) at) in variable_alike g h t (run_len run.Variable t) (run_end run.Variable t) r.run r.some q
    part_alike g h t s.OpenBracket at ne q =
        join_alike (d.script t) (e.script t) g h (λ script parts. part.Script script ∷ parts) (alike.script t) (λ u z. q u (is.script-strict t (some t s.OpenBracket at (λ y. cc)) u z))
    part_alike g h t x at ne q =
        let n = run_len (run.Literal inner form) t in
        let r = run-taken (run.Literal inner form) t (ap (λ y. passes (step (run.Literal inner form) y)) at ∙ ap passes (literal-step inner form x ne refl)) in
        text_alike k.Literal n t (take n t) g h r.run r.some q

    parts_at : (g h : Parts) (t : Text) (b : Bool) → stops inner form (sign t) ≡ b → Same g h t → seen (parts_by d inner form g t b) ≡ seen (parts_by e inner form h t b)
    parts_at g h t true at q = refl
    parts_at g h t false at q = part_alike g h t (sign t) refl at q

    parts_alike : (t : Text) → seen (parts d inner form t) ≡ seen (parts e inner form t)
    unfolding parts
    parts_alike =
        fix-both (parts_step d inner form) (fails f.TooDeep) (parts_step e inner form) (fails f.TooDeep) (λ t a b. seen a ≡ seen b) (λ g h t q. parts_at g h t (stops inner form (sign t)) refl q)

  word_by_alike : (t : Text) (x : Sign) → seen (word_by d inner t x) ≡ seen (word_by e inner t x)
  word_by_alike t s.OpenBrace = refl
  word_by_alike t s.Quote =
      let u = drop 1 t in
      let v = λ (ps : List Part) (m : Unit {0}). ps in
      piece_alike k.Mark 1 t (seen (join (parts d inner form.Quoted u) (end_quote inner) v)) (seen (join (parts e inner form.Quoted u) (end_quote inner) v))
      (join_alike (parts d inner form.Quoted u) (parts e inner form.Quoted u) (end_quote inner) (end_quote inner) v (parts_alike form.Quoted u) (λ w z. refl))
  word_by_alike t _ = parts_alike form.Bare t

  plain_alike : (t : Text) → seen (plain_word d inner t) ≡ seen (plain_word e inner t)
  unfolding plain_word
  plain_alike t = word_by_alike t (sign t)

  either_alike : (t : Text) (b : Bool) → seen (if b then emit k.Expand 3 t (λ u. valued (word_of true) (plain_word d inner u)) else valued (word_of false) (plain_word d inner t))
      ≡ seen (if b then emit k.Expand 3 t (λ u. valued (word_of true) (plain_word e inner u)) else valued (word_of false) (plain_word e inner t))
  either_alike t true =
      let u = drop 3 t in
      piece_alike k.Expand 3 t (seen (valued (word_of true) (plain_word d inner u))) (seen (valued (word_of true) (plain_word e inner u))) (valued_alike (word_of true) (word_of true) (plain_word d inner u) (plain_word e inner u) (plain_alike u))
  either_alike t false = valued_alike (word_of false) (word_of false) (plain_word d inner t) (plain_word e inner t) (plain_alike t)

  word_alike : (t : Text) → seen (word d inner t) ≡ seen (word e inner t)
  unfolding word
  word_alike t = either_alike t (expands inner t)

  abbrev Words : Type 0
  Words = Text → Reading (List Word)

  words_by_alike : (g h : Words) (t : Text) (x : Sign) → sign t ≡ x → ends_command inner x ≡ false → Same g h t → seen (words_by d inner g t x) ≡ seen (words_by e inner h t x)
  words_by_alike g h t s.Blank at ne q =
      let n = run_len run.Blanks t in let r = run-taken run.Blanks t (ap (λ y. passes (step run.Blanks y)) at) in piece_alike k.Blank n t (seen (g (drop n t))) (seen (h (drop n t))) (q (drop n t) (less n t r.run r.some))
  words_by_alike g h t s.Fold at ne q =
      let n = run_len run.Blanks t in let r = run-taken run.Blanks t (ap (λ y. passes (step run.Blanks y)) at) in piece_alike k.Blank n t (seen (g (drop n t))) (seen (h (drop n t))) (q (drop n t) (less n t r.run r.some))
  words_by_alike g h t x at ne q = join_alike (word d inner t) (word e inner t) g h (λ w ws. w ∷ ws) (word_alike t) (λ u z. q u (word-strict e is inner t (ap (ends_word inner) at ∙ ne) u z))

  words_at_alike : (g h : Words) (t : Text) (b : Bool) → ends_command inner (sign t) ≡ b → Same g h t → seen (words_at d inner g t b) ≡ seen (words_at e inner h t b)
  words_at_alike g h t true at q = refl
  words_at_alike g h t false at q = words_by_alike g h t (sign t) refl at q

  words_alike : (t : Text) → seen (words d inner t) ≡ seen (words e inner t)
  unfolding words
  words_alike =
      fix-both (words_step d inner) (fails f.TooDeep) (words_step e inner) (fails f.TooDeep) (λ t a b. seen a ≡ seen b) (λ g h t q. words_at_alike g h t (ends_command inner (sign t)) refl q)

  -- ---- scripts

  module _ (is' : IsDeeper d) (n m : ℕ) where
    abbrev Courses : Type 0
    Courses = Text → Course

    abbrev SameCourse : Courses → Courses → Text → Type 0
    SameCourse g h t = (u : Text) → length u < length t → seen_course (g u) ≡ seen_course (h u)

    command_alike : (g h : Courses) (t : Text) → ends_command inner (sign t) ≡ false → SameCourse g h t → seen_course (command n d inner g t) ≡ seen_course (command m e inner h t)
    command_alike g h t ne q =
        seen-command d is' inner n g t
        ∙ ap (λ r. chain r (λ u. seen_course (g u))) (words_alike t)
        ∙ chain-local (seen (words e inner t)) (λ u. seen_course (g u)) (λ u. seen_course (h u)) (λ u z. q u (words-strict e is inner t ne u z))
        ∙ sym (seen-command e is inner m h t)

    bracket_alike : (g h : Courses) (t : Text) (b : Bool) → inner ≡ b → sign t ≡ s.CloseBracket → SameCourse g h t
        → seen_course (if b then emit k.Close 1 t ends else command n d inner g t) ≡ seen_course (if b then emit k.Close 1 t ends else command m e inner h t)
    bracket_alike g h t true i at q = refl
    bracket_alike g h t false i at q = command_alike g h t (ap (ends_command inner) at ∙ i) q

    abbrev next_alike : PieceKind → ℕ → Text → Courses → Courses → Type 0
    next_alike kind i t g h = seen_course (emit kind i t g) ≡ seen_course (emit kind i t h)

    gap_alike : (kind : PieceKind) (i : ℕ) (t : Text) (g h : Courses) → 0 < i → 0 < length t → SameCourse g h t → next_alike kind i t g h
    gap_alike kind i t g h p l q = piece_alike kind i t (seen_course (g (drop i t))) (seen_course (h (drop i t))) (q (drop i t) (less i t p l))

    script_by_alike : (g h : Courses) (t : Text) (x : Sign) → sign t ≡ x → SameCourse g h t → seen_course (script_by n d inner g t x) ≡ seen_course (script_by m e inner h t x)
    script_by_alike g h t s.End at q = refl
    script_by_alike g h t s.CloseBracket at q = bracket_alike g h t inner refl at q
    script_by_alike g h t s.Blank at q = let r = run-taken run.Blanks t (ap (λ y. passes (step run.Blanks y)) at) in gap_alike k.Blank (run_len run.Blanks t) t g h r.run r.some q
    script_by_alike g h t s.Fold at q = let r = run-taken run.Blanks t (ap (λ y. passes (step run.Blanks y)) at) in gap_alike k.Blank (run_len run.Blanks t) t g h r.run r.some q
    script_by_alike g h t s.Newline at q = gap_alike k.CommandEnd 1 t g h (omega arith) (some t s.Newline at (λ z. cc)) q
    script_by_alike g h t s.Semicolon at q = gap_alike k.CommandEnd 1 t g h (omega arith) (some t s.Semicolon at (λ z. cc)) q
    script_by_alike g h t s.Hash at q = let r = run-taken run.Comment t (ap (λ y. passes (step run.Comment y)) at) in gap_alike k.Comment (run_len run.Comment t) t g h r.run r.some q
    script_by_alike g h t x at q = command_alike g h t (ap (ends_command inner) at) q

    script_alike : (t : Text) → seen_course (script n d inner t) ≡ seen_course (script m e inner t)
    unfolding script
    script_alike =
        fix-both (script_step n d inner) (halts f.TooDeep) (script_step m e inner) (halts f.TooDeep) (λ t a b. seen_course a ≡ seen_course b) (λ g h t q. script_by_alike g h t (sign t) refl q)

-- ---- levels

module _ (n m depth : ℕ) (alike : Alike (deeper_by n depth) (deeper_by m depth)) where
  script_inside : (u : Text) → seen (enclosed (script n (deeper_by n depth) true u)) ≡ seen (enclosed (script m (deeper_by m depth) true u))
  script_inside u =
      seen-enclosed (script n (deeper_by n depth) true u)
      ∙ script_alike (deeper_by n depth) (deeper_by m depth) (deeper-is m depth) alike true (deeper-is n depth) n m u
      ∙ sym (seen-enclosed (script m (deeper_by m depth) true u))

  index_inside : (u : Text) → seen (join (parts (deeper_by n depth) true form.Index u) end_index (λ ps _. ps)) ≡ seen (join (parts (deeper_by m depth) true form.Index u) end_index (λ ps _. ps))
  index_inside u =
      join_alike (parts (deeper_by n depth) true form.Index u) (parts (deeper_by m depth) true form.Index u) end_index end_index (λ ps _. ps) (parts_alike (deeper_by n depth) (deeper_by m depth) (deeper-is m depth) alike true form.Index u) (λ v z. refl)

  deeper_next : Alike (deeper_by n (suc depth)) (deeper_by m (suc depth))
  unfolding deeper_by
  deeper_next = record {
    script = λ t. piece_alike k.Open 1 t (seen (enclosed (script n (deeper_by n depth) true (drop 1 t)))) (seen (enclosed (script m (deeper_by m depth) true (drop 1 t)))) (script_inside (drop 1 t));
    index = λ t.
        piece_alike k.Open 1 t (seen (join (parts (deeper_by n depth) true form.Index (drop 1 t)) end_index (λ ps _. ps))) (seen (join (parts (deeper_by m depth) true form.Index (drop 1 t)) end_index (λ ps _. ps))) (index_inside (drop 1 t));
  }

deeper_zero : (n m : ℕ) → Alike (deeper_by n zero) (deeper_by m zero)
unfolding deeper_by
deeper_zero n m = record { script = λ t. refl; index = λ t. refl }

deeper_alike : (n m depth : ℕ) → Alike (deeper_by n depth) (deeper_by m depth)
deeper_alike n m zero = deeper_zero n m
deeper_alike n m (suc depth) = deeper_next n m depth (deeper_alike n m depth)

course-alike : (n m : ℕ) (t : Text) → seen_course (course n t) ≡ seen_course (course m t)
unfolding course
course-alike n m t = script_alike (deeper_by n 100) (deeper_by m 100) (deeper-is m 100) (deeper_alike n m 100) false (deeper-is n 100) n m t

pub one-fault : (t : Text) → (out-Script (commands t)).fault ≡ fault t
one-fault t = let r = course (size t) t in fault-is r.1.0 (fault_of r.1.1) ∙ ap (λ (o : Out). fault_of o.1) (course-alike (size t) 0 t)
