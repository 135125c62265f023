-- How many levels the parts have that the readers give.
use Rattle.std.proofs.Common.{rules, ◌≡◌, ℕ, zero, suc, ◌-◌, ◌≤◌, ◌∷◌, [], List, ◌++◌, Bool, true, false, drop, take, Option, None, Result, Ok, Err, sym, ap, ◌∙◌, subst, arith, length, if◌then◌else◌}
use Rattle.std.specs.List.{AllByRecursion}
use Rattle.tclv_text.specs.Cursors.{sign, escape_len, escape_char}
use Rattle.tclv_text.specs.declared.cursors.Sign.{Sign}
use Rattle.tclv_text.specs.declared.cursors.Sign.TheVariants as s
use Rattle.tclv_parse.specs.declared.runs.Form.{Form}
use Rattle.tclv_parse.specs.declared.runs.Form.TheVariants as form
use Rattle.tclv_parse.specs.declared.runs.Run.{Run}
use Rattle.tclv_parse.specs.declared.runs.Run.TheVariants as run
use Rattle.tclv_parse.specs.declared.pieces.PieceKind.TheVariants as k
use Rattle.tclv_parse.specs.declared.faults.ParseFault.{ParseFault}
use Rattle.tclv_parse.specs.declared.faults.ParseFault.TheVariants as f
use Rattle.tclv_parse.specs.declared.tree.Part.{Part, out-Part, the_lemmas}
use Rattle.tclv_parse.specs.declared.tree.Part.TheVariants as part
use Rattle.tclv_parse.specs.declared.tree.Part.TheOpen as layer
use Rattle.tclv_parse.specs.declared.tree.Word.{Word, out-Word}
use Rattle.tclv_parse.specs.declared.tree.Word as word_type
use Rattle.tclv_parse.specs.declared.tree.Command.{Command, out-Command}
use Rattle.tclv_parse.specs.declared.tree.Command as command_type
use Rattle.tclv_parse.specs.declared.tree.Script.{Script, out-Script}
use Rattle.tclv_parse.specs.declared.tree.Script as script_type
use Rattle.tclv_parse.specs.Fix.{go, fix}
use Rattle.tclv_parse.specs.Runs.{Text, ends_command, stops, run_len, run_end, expands}
use Rattle.tclv_parse.specs.Readings.{Piece, Reading, End, done, fails, emit, valued, valued_end, join_end}
use Rattle.tclv_parse.specs.Grammar as g
use Rattle.tclv_parse.specs.Grammar.{Deeper, Course, text_before, text_part, word_of, command_of, script_of, deeper_by, max_depth, course, commands}
use Rattle.tclv_parse.specs.Levels.{EachInWord, EachInCommand, EachInScript, IsFlat, EachInside, HasLevels, ReadersHaveLevels}

-- ---- a greater bound

all_more : {A : Type 0} (P Q : A → Type 0) → ((a : A) → P a → Q a) → (xs : List A) → AllByRecursion P xs → AllByRecursion Q xs
all_more P Q f [] h = tt
all_more P Q f (x ∷ xs) h = (f x h.0, all_more P Q f xs h.1)

module _ (P Q : Part → Type 0) (f : (p : Part) → P p → Q p) where
  script_more : (s : Script) → EachInScript P s → EachInScript Q s
  script_more s h =
      all_more (EachInCommand P) (EachInCommand Q) (λ c. all_more (EachInWord P) (EachInWord Q) (λ w. all_more P Q f (out-Word w).parts) (out-Command c).words) (out-Script s).commands h

  inside_more : (x : layer.Part-F Part Command Script Word) → EachInside P x → EachInside Q x
  inside_more (layer.Literal text) h = tt
  inside_more (layer.Variable name) h = tt
  inside_more (layer.Element name index) h = all_more P Q f index h
  inside_more (layer.Script s) h = script_more s h

flat_more : (P : Part → Type 0) (x : layer.Part-F Part Command Script Word) → IsFlat x → EachInside P x
flat_more P (layer.Literal text) h = tt
flat_more P (layer.Variable name) h = tt
flat_more P (layer.Element name index) h = absurd h
flat_more P (layer.Script s) h = absurd h

pub more : (n m : ℕ) (p : Part) → n ≤ m → HasLevels n p → HasLevels m p
unfolding HasLevels
more zero zero p l h = h
more zero (suc m) p l h = flat_more (HasLevels m) (out-Part p) h
more (suc n) zero p l h = absurd (omega arith)
more (suc n) (suc m) p l h = inside_more (HasLevels n) (HasLevels m) (λ q. more n m q (omega arith)) (out-Part p) h

-- ---- parts

literal_has : (n : ℕ) (text : Text) → HasLevels n (part.Literal text)
unfolding HasLevels
literal_has n text =
    let opens : out-Part (part.Literal text) ≡ layer.Literal text = ap (λ p. out-Part p) (sym (part.rolls-Literal text)) ∙ search (rules, the_lemmas) in
    elim n as (λ k. HasLevels k (part.Literal text)) [ zero ↦ subst IsFlat (sym opens) tt | suc k ↦ subst (EachInside (HasLevels k)) (sym opens) tt ]

variable_has : (n : ℕ) (name : Text) → HasLevels n (part.Variable name)
unfolding HasLevels
variable_has n name =
    let opens : out-Part (part.Variable name) ≡ layer.Variable name = ap (λ p. out-Part p) (sym (part.rolls-Variable name)) ∙ search (rules, the_lemmas) in
    elim n as (λ k. HasLevels k (part.Variable name)) [ zero ↦ subst IsFlat (sym opens) tt | suc k ↦ subst (EachInside (HasLevels k)) (sym opens) tt ]

element_has : (n : ℕ) (name : Text) (index : List Part) → AllByRecursion (HasLevels n) index → HasLevels (suc n) (part.Element name index)
unfolding HasLevels
element_has n name index h =
    let opens : out-Part (part.Element name index) ≡ layer.Element name index = ap (λ p. out-Part p) (sym (part.rolls-Element name index)) ∙ search (rules, the_lemmas) in
    subst (EachInside (HasLevels n)) (sym opens) h

script_has : (n : ℕ) (x : Script) → EachInScript (HasLevels n) x → HasLevels (suc n) (part.Script x)
unfolding HasLevels
script_has n x h =
    let opens : out-Part (part.Script x) ≡ layer.Script x = ap (λ p. out-Part p) (sym (part.rolls-Script x)) ∙ search (rules, the_lemmas) in
    subst (EachInside (HasLevels n)) (sym opens) h

abbrev Parts : ℕ → List Part → Type 0
Parts n ps = AllByRecursion (HasLevels n) ps

text_before_has : (n : ℕ) (x : Text) (ps : List Part) → Parts n ps → Parts n (text_before x ps)
text_before_has n x [] h = (literal_has n x, tt)
text_before_has n x (part.Literal y ∷ ps) h = (literal_has n (x ++ y), h.1)
text_before_has n x (p ∷ ps) h = (literal_has n x, h)

text_part_has : (n : ℕ) (x : Text) → Parts n (text_part x)
text_part_has n [] = tt
text_part_has n (c ∷ x) = (literal_has n (c ∷ x), tt)

word_has : (n : ℕ) (expand : Bool) (ps : List Part) → Parts n ps → EachInWord (HasLevels n) (word_of expand ps)
word_has n expand ps h = let opens : (out-Word (word_of expand ps)).parts ≡ ps = search (rules, word_type.the_lemmas) in subst (Parts n) (sym opens) h

command_has : (n at : ℕ) (ws : List Word) → AllByRecursion (EachInWord (HasLevels n)) ws → EachInCommand (HasLevels n) (command_of at ws)
command_has n at ws h = let opens : (out-Command (command_of at ws)).words ≡ ws = search (rules, command_type.the_lemmas) in subst (AllByRecursion (EachInWord (HasLevels n))) (sym opens) h

script_of_has : (n : ℕ) (cs : List Command) (fault : Option ParseFault) → AllByRecursion (EachInCommand (HasLevels n)) cs → EachInScript (HasLevels n) (script_of cs fault)
script_of_has n cs fault h = let opens : (out-Script (script_of cs fault)).commands ≡ cs = search (rules, script_type.the_lemmas) in subst (AllByRecursion (EachInCommand (HasLevels n))) (sym opens) h

-- ---- readings

-- what is read has this
abbrev Ends : {A : Type 0} → (A → Type 0) → End A → Type 0
Ends P (Ok p) = P p.0
Ends P (Err e) = Unit {0}

abbrev Always : {A : Type 0} → (A → Type 0) → (Text → Reading A) → Type 0
Always P r = (t : Text) → Ends P (r t).1

anything : {A : Type 0} (o : End A) → Ends (λ _. Unit {0}) o
anything (Ok p) = tt
anything (Err e) = tt

mapped : {A B : Type 0} (P : A → Type 0) (Q : B → Type 0) (v : A → B) (o : End A) → Ends P o → ((a : A) → P a → Q (v a)) → Ends Q (valued_end v o)
mapped P Q v (Ok p) h k = k p.0 h
mapped P Q v (Err e) h k = tt

joined : {A B C : Type 0} (P : A → Type 0) (Q : B → Type 0) (R : C → Type 0) (ps : List Piece) (o : End A) (more : Text → Reading B) (v : A → B → C) →
    Ends P o → Always Q more → ((a : A) (b : B) → P a → Q b → R (v a b)) → Ends R (join_end ps o more v).1
joined P Q R ps (Ok p) more v h q r = mapped Q R (v p.0) (more p.1).1 (q p.1) (λ b. r p.0 b h)
joined P Q R ps (Err e) more v h q r = tt

-- readers of the next level, whose scripts and indices have their place at this one
record Deep (n : ℕ) (d : Deeper) : Type 0 where
  pub script : Always (λ x. HasLevels n (part.Script x)) d.script
  pub index : Always (λ ps. (name : Text) → HasLevels n (part.Element name ps)) d.index

module _ (n : ℕ) (d : Deeper) (deep : Deep n d) (inner : Bool) where
  named_has : (name : Text) (more : Text → Reading (List Part)) → Always (Parts n) more → (t : Text) (x : Sign) → Ends (Parts n) (g.named_by d inner name more t x).1
  named_has name more h t s.OpenParen =
      joined (λ ps. (nm : Text) → HasLevels n (part.Element nm ps)) (Parts n) (Parts n) (d.index t).0 (d.index t).1 more (λ index ps. part.Element name index ∷ ps) (deep.index t) h (λ index ps a q. (a name, q))
  named_has name more h t _ = mapped (Parts n) (Parts n) (λ ps. part.Variable name ∷ ps) (more t).1 (h t) (λ ps q. (variable_has n name, q))

  variable_by_has : (more : Text → Reading (List Part)) → Always (Parts n) more → (t : Text) (len : ℕ) (r : Run) → Ends (Parts n) (g.variable_by d inner more t len r).1
  variable_by_has more h t len run.Enclosed = tt
  variable_by_has more h t len run.Closed =
      mapped (Parts n) (Parts n) (λ ps. part.Variable (take (len - 3) (drop 2 t)) ∷ ps) (more (drop len t)).1 (h (drop len t)) (λ ps q. (variable_has n (take (len - 3) (drop 2 t)), q))
  variable_by_has more h t len _ = named_has (take (len - 1) (drop 1 t)) more h (drop len t) (sign (drop len t))

  module _ (form : Form) where
    before_has : (more : Text → Reading (List Part)) → Always (Parts n) more → (x u : Text) → Ends (Parts n) (valued_end (text_before x) (more u).1)
    before_has more h x u = mapped (Parts n) (Parts n) (text_before x) (more u).1 (h u) (text_before_has n x)

    part_by_has : (more : Text → Reading (List Part)) → Always (Parts n) more → (t : Text) (x : Sign) → Ends (Parts n) (g.part_by d inner form more t x).1
    part_by_has more h t s.Backslash = before_has more h (escape_char t ∷ []) (drop (escape_len t) t)
    part_by_has more h t s.Fold = before_has more h (escape_char t ∷ []) (drop (escape_len t) t)
    part_by_has more h t s.Dollar = variable_by_has more h t (run_len run.Variable t) (run_end run.Variable t)
    part_by_has more h t s.OpenBracket =
        joined (λ x. HasLevels n (part.Script x)) (Parts n) (Parts n) (d.script t).0 (d.script t).1 more (λ script ps. part.Script script ∷ ps) (deep.script t) h (λ script ps a q. (a, q))
    part_by_has more h t _ = let len = run_len (run.Literal inner form) t in before_has more h (take len t) (drop len t)

    parts_by_has : (more : Text → Reading (List Part)) → Always (Parts n) more → (t : Text) (b : Bool) → Ends (Parts n) (g.parts_by d inner form more t b).1
    parts_by_has more h t true = tt
    parts_by_has more h t false = part_by_has more h t (sign t)

    parts_go : (j : ℕ) → Always (Parts n) (go (g.parts_step d inner form) (fails f.TooDeep) j)
    unfolding go
    parts_go zero t = parts_by_has (λ _. fails f.TooDeep) (λ _. tt) t (stops inner form (sign t))
    parts_go (suc j) t = parts_by_has (go (g.parts_step d inner form) (fails f.TooDeep) j) (parts_go j) t (stops inner form (sign t))

    parts_have : Always (Parts n) (g.parts d inner form)
    unfolding g.parts fix
    parts_have t = parts_go (length t) t

  -- ---- words

  word_by_has : (t : Text) (x : Sign) → Ends (Parts n) (g.word_by d inner t x).1
  word_by_has t s.OpenBrace =
      let r = g.braced (drop 1 t) 0 in
      joined (λ _. Unit {0}) (λ _. Unit {0}) (Parts n) r.0 r.1 (g.closed inner f.AfterBrace) (λ x _. text_part x) (anything r.1) (λ u. anything (g.closed inner f.AfterBrace u).1) (λ x _ a b. text_part_has n x)
  word_by_has t s.Quote =
      let r = g.parts d inner form.Quoted (drop 1 t) in
      joined (Parts n) (λ _. Unit {0}) (Parts n) r.0 r.1 (g.end_quote inner) (λ ps _. ps) (parts_have form.Quoted (drop 1 t)) (λ u. anything (g.end_quote inner u).1) (λ ps _ a b. a)
  word_by_has t _ = parts_have form.Bare t

  plain_word_has : Always (Parts n) (g.plain_word d inner)
  unfolding g.plain_word
  plain_word_has t = word_by_has t (sign t)

  either_word : (b : Bool) (x y : Reading Word) → Ends (EachInWord (HasLevels n)) x.1 → Ends (EachInWord (HasLevels n)) y.1 → Ends (EachInWord (HasLevels n)) (if b then x else y).1
  either_word true x y h q = h
  either_word false x y h q = q

  a_word_has : Always (EachInWord (HasLevels n)) (g.word d inner)
  unfolding g.word
  a_word_has t =
      let one = λ (e : Bool) (u : Text). mapped (Parts n) (EachInWord (HasLevels n)) (word_of e) (g.plain_word d inner u).1 (plain_word_has u) (word_has n e) in
      either_word (expands inner t) (emit k.Expand 3 t (λ u. valued (word_of true) (g.plain_word d inner u))) (valued (word_of false) (g.plain_word d inner t)) (one true (drop 3 t)) (one false t)

  abbrev Words : List Word → Type 0
  Words = AllByRecursion (EachInWord (HasLevels n))

  words_by_has : (more : Text → Reading (List Word)) → Always Words more → (t : Text) (x : Sign) → Ends Words (g.words_by d inner more t x).1
  words_by_has more h t s.Blank = h (drop (run_len run.Blanks t) t)
  words_by_has more h t s.Fold = h (drop (run_len run.Blanks t) t)
  words_by_has more h t _ =
      let r = g.word d inner t in
      joined (EachInWord (HasLevels n)) Words Words r.0 r.1 more (λ w ws. w ∷ ws) (a_word_has t) h (λ w ws a q. (a, q))

  words_at_has : (more : Text → Reading (List Word)) → Always Words more → (t : Text) (b : Bool) → Ends Words (g.words_at d inner more t b).1
  words_at_has more h t true = tt
  words_at_has more h t false = words_by_has more h t (sign t)

  words_go : (j : ℕ) → Always Words (go (g.words_step d inner) (fails f.TooDeep) j)
  unfolding go
  words_go zero t = words_at_has (λ _. fails f.TooDeep) (λ _. tt) t (ends_command inner (sign t))
  words_go (suc j) t = words_at_has (go (g.words_step d inner) (fails f.TooDeep) j) (words_go j) t (ends_command inner (sign t))

  words_have : Always Words (g.words d inner)
  unfolding g.words fix
  words_have t = words_go (length t) t

  -- ---- scripts

  abbrev Commands : Course → Type 0
  Commands c = AllByRecursion (EachInCommand (HasLevels n)) c.1.0

  module _ (whole : ℕ) where
    command_before_has : (at : ℕ) (ps : List Piece) (o : End (List Word)) (more : Text → Course) → Ends Words o → ((u : Text) → Commands (more u)) → Commands (g.command_before at ps o more)
    command_before_has at ps (Ok p) more h q = (command_has n at p.0 h, q p.1)
    command_before_has at ps (Err e) more h q = tt

    a_command_has : (more : Text → Course) (t : Text) → ((u : Text) → Commands (more u)) → Commands (g.command whole d inner more t)
    a_command_has more t h = command_before_has (g.place whole t) (g.words d inner t).0 (g.words d inner t).1 more (words_have t) h

    either_course : (b : Bool) (x y : Course) → Commands x → Commands y → Commands (if b then x else y)
    either_course true x y h q = h
    either_course false x y h q = q

    script_by_has : (more : Text → Course) (t : Text) (x : Sign) → ((u : Text) → Commands (more u)) → Commands (g.script_by whole d inner more t x)
    script_by_has more t s.End h = either_course inner (g.halts f.CloseBracket) (g.ends t) tt tt
    script_by_has more t s.CloseBracket h = either_course inner (emit k.Close 1 t g.ends) (g.command whole d inner more t) tt (a_command_has more t h)
    script_by_has more t s.Blank h = h (drop (run_len run.Blanks t) t)
    script_by_has more t s.Fold h = h (drop (run_len run.Blanks t) t)
    script_by_has more t s.Newline h = h (drop 1 t)
    script_by_has more t s.Semicolon h = h (drop 1 t)
    script_by_has more t s.Hash h = h (drop (run_len run.Comment t) t)
    script_by_has more t _ h = a_command_has more t h

    script_go : (j : ℕ) (t : Text) → Commands (go (g.script_step whole d inner) (g.halts f.TooDeep) j t)
    unfolding go
    script_go zero t = script_by_has (λ _. g.halts f.TooDeep) t (sign t) (λ _. tt)
    script_go (suc j) t = script_by_has (go (g.script_step whole d inner) (g.halts f.TooDeep) j) t (sign t) (script_go j)

    script_have : (t : Text) → Commands (g.script whole d inner t)
    unfolding g.script fix
    script_have t = script_go (length t) t

-- ---- nesting

enclosed_has : (n : ℕ) (cs : List Command) (o : Result Text ParseFault) → AllByRecursion (EachInCommand (HasLevels n)) cs → Ends (λ x. HasLevels (suc n) (part.Script x)) (g.enclosed_end cs o)
enclosed_has n cs (Ok t) h = script_has n (script_of cs None) (script_of_has n cs None h)
enclosed_has n cs (Err e) h = tt

deeper_has : (whole n : ℕ) → Deep n (deeper_by whole n)
unfolding deeper_by
deeper_has whole zero = record { script = λ t. tt; index = λ t. tt }
deeper_has whole (suc n) =
    let d = deeper_by whole n in
    let h = deeper_has whole n in
    record {
      script = λ t. let c = g.script whole d true (drop 1 t) in enclosed_has n c.1.0 c.1.1 (script_have n d h true whole (drop 1 t));
      index = λ t.
          let r = g.parts d true form.Index (drop 1 t) in
          joined (Parts n) (λ _. Unit {0}) (λ ps. (name : Text) → HasLevels (suc n) (part.Element name ps)) r.0 r.1 g.end_index (λ ps _. ps) (parts_have n d h true form.Index (drop 1 t)) (λ u. anything (g.end_index u).1)
          (λ ps _ a b name. element_has n name ps a);
    }

pub scripts_have_levels : (t : Text) → EachInScript (HasLevels max_depth) (commands t)
unfolding course
scripts_have_levels t = script_of_has max_depth _ _ (script_have max_depth (deeper_by _ max_depth) (deeper_has _ max_depth) false _ t)

-- what was read has it
given : {A : Type 0} (P : A → Type 0) (o : End A) (a : A) (u : Text) → Ends P o → o ≡ Ok (a, u) → P a
given P o a u h e = subst (Ends P) e h

pub readers_have_levels : ReadersHaveLevels
readers_have_levels = record {
  parts = λ whole inner form t u ps e. given (Parts max_depth) (g.parts (deeper_by whole max_depth) inner form t).1 ps u (parts_have max_depth (deeper_by whole max_depth) (deeper_has whole max_depth) inner form t) e;
  variable = λ whole n inner r t u ps e.
      given (Parts max_depth) (g.variable_by (deeper_by whole max_depth) inner (done []) t n r).1 ps u (variable_by_has max_depth (deeper_by whole max_depth) (deeper_has whole max_depth) inner (done []) (λ _. tt) t n r) e;
  script = λ whole t u x e. given (λ y. HasLevels max_depth (part.Script y)) ((deeper_by whole max_depth).script t).1 x u ((deeper_has whole max_depth).script t) e;
}
