-- What the rules of scripts leave behind is never longer than what they were given.
use Rattle.std.proofs.Common.{ℕ, zero, suc, ◌-◌, ◌≤◌, ◌==◌, Bool, true, false, cond, List, [], length, drop, take, length-drop, Result, Ok, Err, arith}
use Rattle.tclv_text.specs.Cursors.{sign, escape_len}
use Rattle.tclv_text.specs.declared.cursors.Sign.{Sign}
use Rattle.tclv_text.specs.declared.cursors.Sign.TheVariants as s
use Rattle.tclv_parse.specs.declared.runs.Form.{Form}
use Rattle.tclv_parse.specs.declared.runs.Form.TheVariants as form
use Rattle.tclv_parse.specs.declared.runs.Run.{Run}
use Rattle.tclv_parse.specs.declared.runs.Run.TheVariants as run
use Rattle.tclv_parse.specs.declared.faults.ParseFault.{ParseFault}
use Rattle.tclv_parse.specs.declared.faults.ParseFault.TheVariants as f
use Rattle.tclv_parse.specs.declared.tree.Part.{Part}
use Rattle.tclv_parse.specs.declared.tree.Word.{Word}
use Rattle.tclv_parse.specs.declared.tree.Command.{Command}
use Rattle.tclv_parse.specs.Fix.{go, fix}
use Rattle.tclv_parse.specs.Runs.{Text, run_len, run_end, stops, ends_word, ends_command, expands}
use Rattle.tclv_parse.specs.Readings.{Piece, Reading, End, valued_end, join_end, emit}
use Rattle.tclv_parse.specs.Grammar as g
use Rattle.tclv_parse.specs.Grammar.{Deeper, Course}

abbrev pub Within : {A E : Type 0} → ℕ → Result (A × Text) E → Type 0
Within n (Ok p) = length p.1 ≤ n
Within n (Err e) = Unit {0}

pub wider : {A E : Type 0} (m n : ℕ) (o : Result (A × Text) E) → m ≤ n → Within m o → Within n o
wider m n (Ok p) h w = omega arith
wider m n (Err e) h w = tt

-- behind some characters
pub further : {A E : Type 0} (k : ℕ) (t : Text) (o : Result (A × Text) E) → Within (length (drop k t)) o → Within (length t) o
further k t o w = wider (length (drop k t)) (length t) o (omega (arith, length-drop k t)) w

shorter : (k : ℕ) (t : Text) → length (drop k t) ≤ length t
shorter k t = omega (arith, length-drop k t)

-- ---- readings

abbrev Shrinks : {A : Type 0} → (Text → Reading A) → Type 0
Shrinks r = (t : Text) → Within (length t) (r t).1

valued_less : {A B : Type 0} (n : ℕ) (h : A → B) (e : End A) → Within n e → Within n (valued_end h e)
valued_less n h (Ok p) w = w
valued_less n h (Err e) w = tt

join_less : {A B C : Type 0} (n : ℕ) (ps : List Piece) (e : End A) (r : Text → Reading B) (h : A → B → C) → Within n e → Shrinks r → Within n (join_end ps e r h).1
join_less n ps (Ok p) r h w k = wider (length p.1) n _ w (valued_less (length p.1) (h p.0) (r p.1).1 (k p.1))
join_less n ps (Err e) r h w k = tt

either : {A : Type 0} (n : ℕ) (b : Bool) (x y : Reading A) → Within n x.1 → Within n y.1 → Within n (cond b x y).1
either n true x y p q = p
either n false x y p q = q

-- ---- words in braces

module _ (more : Text → ℕ → Reading Text) (h : (t : Text) (level : ℕ) → Within (length t) (more t level).1) where
  raw_less : (t : Text) (level n : ℕ) → Within (length t) (g.raw more t level n).1
  raw_less t level n = further n t _ (valued_less _ _ _ (h (drop n t) _))

  braced_by_less : (t : Text) (level : ℕ) (x : Sign) → Within (length t) (g.braced_by more t level x).1
  braced_by_less t level s.End = tt
  braced_by_less t level s.Fold = further (escape_len t) t _ (valued_less _ _ _ (h (drop (escape_len t) t) level))
  braced_by_less t level s.CloseBrace = either (length t) (level == 0) (emit _ 1 t (g_done [])) (g.raw more t level (run_len (run.Braced level) t)) (shorter 1 t) (raw_less t level (run_len (run.Braced level) t))
    where
      g_done : Text → Text → Reading Text
      g_done x u = ([], Ok (x, u))
  braced_by_less t level _ = raw_less t level (run_len (run.Braced level) t)

braced_go : (n : ℕ) (t : Text) (level : ℕ) → Within (length t) (go g.braced_step (λ _. ([], Err f.TooDeep)) n t level).1
unfolding go
braced_go zero t level = braced_by_less (λ _ _. ([], Err f.TooDeep)) (λ _ _. tt) t level (sign t)
braced_go (suc n) t level = braced_by_less (go g.braced_step (λ _. ([], Err f.TooDeep)) n) (braced_go n) t level (sign t)

pub braced_less : (t : Text) (level : ℕ) → Within (length t) (g.braced t level).1
unfolding g.braced fix
braced_less t level = braced_go (length t) t level

-- ---- ends of words

closed_less : (inner : Bool) (e : ParseFault) → Shrinks (g.closed inner e)
unfolding g.closed
closed_less inner e t = either (length t) (ends_word inner (sign t)) ([], Ok (tt, t)) ([], Err e) (omega arith) tt

end_quote_by_less : (inner : Bool) (t : Text) (x : Sign) → Within (length t) (g.end_quote_by inner t x).1
end_quote_by_less inner t s.Quote = further 1 t _ (closed_less inner f.AfterQuote (drop 1 t))
end_quote_by_less inner t _ = tt

end_quote_less : (inner : Bool) → Shrinks (g.end_quote inner)
unfolding g.end_quote
end_quote_less inner t = end_quote_by_less inner t (sign t)

end_index_by_less : (t : Text) (x : Sign) → Within (length t) (g.end_index_by t x).1
end_index_by_less t s.CloseParen = shorter 1 t
end_index_by_less t _ = tt

end_index_less : Shrinks g.end_index
unfolding g.end_index
end_index_less t = end_index_by_less t (sign t)

-- ---- words

pub record DeeperShrinks (d : Deeper) : Type 0 where
  pub script : (t : Text) → Within (length t) (d.script t).1
  pub index : (t : Text) → Within (length t) (d.index t).1

module _ (d : Deeper) (shrinks : DeeperShrinks d) (inner : Bool) where
  module _ (more : Text → Reading (List Part)) (h : Shrinks more) where
    named_by_less : (name t : Text) (x : Sign) → Within (length t) (g.named_by d inner name more t x).1
    named_by_less name t s.OpenParen = join_less (length t) _ (d.index t).1 more _ (shrinks.index t) h
    named_by_less name t _ = valued_less _ _ _ (h t)

    pub variable_less : (t : Text) (n : ℕ) (x : Run) → Within (length t) (g.variable_by d inner more t n x).1
    variable_less t n run.Enclosed = tt
    variable_less t n run.Closed = further n t _ (valued_less _ _ _ (h (drop n t)))
    variable_less t n _ = further n t _ (named_by_less (take (n - 1) (drop 1 t)) (drop n t) (sign (drop n t)))

    part_by_less : (w : Form) (t : Text) (x : Sign) → Within (length t) (g.part_by d inner w more t x).1
    part_by_less w t s.Backslash = further (escape_len t) t _ (valued_less _ _ _ (h (drop (escape_len t) t)))
    part_by_less w t s.Fold = further (escape_len t) t _ (valued_less _ _ _ (h (drop (escape_len t) t)))
    part_by_less w t s.Dollar = variable_less t (run_len run.Variable t) (run_end run.Variable t)
    part_by_less w t s.OpenBracket = join_less (length t) _ (d.script t).1 more _ (shrinks.script t) h
    part_by_less w t _ = let n = run_len (run.Literal inner w) t in further n t _ (valued_less _ _ _ (h (drop n t)))

    parts_by_less : (w : Form) (t : Text) (b : Bool) → Within (length t) (g.parts_by d inner w more t b).1
    parts_by_less w t true = omega arith
    parts_by_less w t false = part_by_less w t (sign t)

  parts_go : (w : Form) (n : ℕ) → Shrinks (go (g.parts_step d inner w) ([], Err f.TooDeep) n)
  unfolding go
  parts_go w zero t = parts_by_less (λ _. ([], Err f.TooDeep)) (λ _. tt) w t (stops inner w (sign t))
  parts_go w (suc n) t = parts_by_less (go (g.parts_step d inner w) ([], Err f.TooDeep) n) (parts_go w n) w t (stops inner w (sign t))

  pub parts_less : (w : Form) (t : Text) → Within (length t) (g.parts d inner w t).1
  unfolding g.parts fix
  parts_less w t = parts_go w (length t) t

  word_by_less : (t : Text) (x : Sign) → Within (length t) (g.word_by d inner t x).1
  word_by_less t s.OpenBrace = further 1 t _ (join_less (length (drop 1 t)) _ (g.braced (drop 1 t) 0).1 (g.closed inner f.AfterBrace) _ (braced_less (drop 1 t) 0) (closed_less inner f.AfterBrace))
  word_by_less t s.Quote = further 1 t _ (join_less (length (drop 1 t)) _ (g.parts d inner form.Quoted (drop 1 t)).1 (g.end_quote inner) _ (parts_less form.Quoted (drop 1 t)) (end_quote_less inner))
  word_by_less t _ = parts_less form.Bare t

  plain_word_less : Shrinks (g.plain_word d inner)
  unfolding g.plain_word
  plain_word_less t = word_by_less t (sign t)

  word_less : Shrinks (g.word d inner)
  unfolding g.word
  word_less t =
      either (length t) (expands inner t) _ _
      (further 3 t (valued_end (g.word_of true) (g.plain_word d inner (drop 3 t)).1) (valued_less _ _ _ (plain_word_less (drop 3 t))))
      (valued_less (length t) (g.word_of false) (g.plain_word d inner t).1 (plain_word_less t))

  module _ (more : Text → Reading (List Word)) (h : Shrinks more) where
    words_by_less : (t : Text) (x : Sign) → Within (length t) (g.words_by d inner more t x).1
    words_by_less t s.Blank = further (run_len run.Blanks t) t _ (h (drop (run_len run.Blanks t) t))
    words_by_less t s.Fold = further (run_len run.Blanks t) t _ (h (drop (run_len run.Blanks t) t))
    words_by_less t _ = join_less (length t) _ (g.word d inner t).1 more _ (word_less t) h

    words_at_less : (t : Text) (b : Bool) → Within (length t) (g.words_at d inner more t b).1
    words_at_less t true = omega arith
    words_at_less t false = words_by_less t (sign t)

  words_go : (n : ℕ) → Shrinks (go (g.words_step d inner) ([], Err f.TooDeep) n)
  unfolding go
  words_go zero t = words_at_less (λ _. ([], Err f.TooDeep)) (λ _. tt) t (ends_command inner (sign t))
  words_go (suc n) t = words_at_less (go (g.words_step d inner) ([], Err f.TooDeep) n) (words_go n) t (ends_command inner (sign t))

  words_less : Shrinks (g.words d inner)
  unfolding g.words fix
  words_less t = words_go (length t) t

-- ---- scripts

abbrev Leaves : ℕ → Result Text ParseFault → Type 0
Leaves n (Ok t) = length t ≤ n
Leaves n (Err e) = Unit {0}

abbrev Runs : (Text → Course) → Type 0
Runs r = (t : Text) → Leaves (length t) (r t).1.1

leaves_more : (m n : ℕ) (o : Result Text ParseFault) → m ≤ n → Leaves m o → Leaves n o
leaves_more m n (Ok t) h w = omega arith
leaves_more m n (Err e) h w = tt

behind_some : (k : ℕ) (t : Text) (o : Result Text ParseFault) → Leaves (length (drop k t)) o → Leaves (length t) o
behind_some k t o w = leaves_more (length (drop k t)) (length t) o (shorter k t) w

command_less : (n at : ℕ) (ps : List Piece) (e : End (List Word)) (more : Text → Course) → Within n e → Runs more → Leaves n (g.command_before at ps e more).1.1
command_less n at ps (Ok p) more w h = leaves_more (length p.1) n (more p.1).1.1 w (h p.1)
command_less n at ps (Err e) more w h = tt

choose : (n : ℕ) (b : Bool) (x y : Course) → Leaves n x.1.1 → Leaves n y.1.1 → Leaves n (cond b x y).1.1
choose n true x y p q = p
choose n false x y p q = q

module _ (total : ℕ) (d : Deeper) (shrinks : DeeperShrinks d) (inner : Bool) where
  module _ (more : Text → Course) (h : Runs more) where
    a_command : Runs (g.command total d inner more)
    a_command t = command_less (length t) (g.place total t) (g.words d inner t).0 (g.words d inner t).1 more (words_less d shrinks inner t) h

    script_by_less : (t : Text) (x : Sign) → Leaves (length t) (g.script_by total d inner more t x).1.1
    script_by_less t s.End = choose (length t) inner (g.halts f.CloseBracket) (g.ends t) tt (omega arith)
    script_by_less t s.CloseBracket = choose (length t) inner (emit _ 1 t g.ends) (g.command total d inner more t) (shorter 1 t) (a_command t)
    script_by_less t s.Blank = behind_some (run_len run.Blanks t) t _ (h (drop (run_len run.Blanks t) t))
    script_by_less t s.Fold = behind_some (run_len run.Blanks t) t _ (h (drop (run_len run.Blanks t) t))
    script_by_less t s.Newline = behind_some 1 t _ (h (drop 1 t))
    script_by_less t s.Semicolon = behind_some 1 t _ (h (drop 1 t))
    script_by_less t s.Hash = behind_some (run_len run.Comment t) t _ (h (drop (run_len run.Comment t) t))
    script_by_less t _ = a_command t

  script_go : (n : ℕ) → Runs (go (g.script_step total d inner) (g.halts f.TooDeep) n)
  unfolding go
  script_go zero t = script_by_less (λ _. g.halts f.TooDeep) (λ _. tt) t (sign t)
  script_go (suc n) t = script_by_less (go (g.script_step total d inner) (g.halts f.TooDeep) n) (script_go n) t (sign t)

  script_less : Runs (g.script total d inner)
  unfolding g.script fix
  script_less t = script_go (length t) t

enclosed_less : (n : ℕ) (cs : List Command) (o : Result Text ParseFault) → Leaves n o → Within n (g.enclosed_end cs o)
enclosed_less n cs (Ok t) w = w
enclosed_less n cs (Err e) w = tt

pub deeper_less : (total depth : ℕ) → DeeperShrinks (g.deeper_by total depth)
unfolding g.deeper_by
deeper_less total zero = record { script = λ t. tt; index = λ t. tt }
deeper_less total (suc depth) =
    let d = deeper_less total depth in
    record {
      script = λ t. further 1 t _ (enclosed_less (length (drop 1 t)) _ _ (script_less total (g.deeper_by total depth) d true (drop 1 t)));
      index = λ t. further 1 t _ (join_less (length (drop 1 t)) _ (g.parts (g.deeper_by total depth) true form.Index (drop 1 t)).1 g.end_index _ (parts_less (g.deeper_by total depth) d true form.Index (drop 1 t)) end_index_less);
    }
