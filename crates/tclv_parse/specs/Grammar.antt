-- The grammar of scripts. One rule says of each construct which pieces it is cut into and what its value is.
use Rattle.std.specs.Prelude.{ℕ, zero, suc, ◌-◌, ◌==◌, Bool, true, false, if◌then◌else◌, List, [], ◌∷◌, ◌++◌, take, drop, Option, Some, None, Result, Ok, Err}
use Rattle.tclv_text.specs.Cursors.{sign, size, escape_len, escape_char}
use Rattle.tclv_text.specs.declared.cursors.Sign.{Sign}
use Rattle.tclv_text.specs.declared.cursors.Sign.TheVariants as s
use Rattle.tclv_parse.specs.declared.runs.Form.{Form}
use Rattle.tclv_parse.specs.declared.runs.Form.TheVariants as form
use Rattle.tclv_parse.specs.declared.runs.Run.{Run}
use Rattle.tclv_parse.specs.declared.runs.Run.TheVariants as run
use Rattle.tclv_parse.specs.declared.pieces.PieceKind.TheVariants as k
use Rattle.tclv_parse.specs.declared.faults.ParseFault.{ParseFault}
use Rattle.tclv_parse.specs.declared.faults.ParseFault.TheVariants as f
use Rattle.tclv_parse.specs.declared.tree.Part.{Part}
use Rattle.tclv_parse.specs.declared.tree.Part.TheVariants as part
use Rattle.tclv_parse.specs.declared.tree.Word.{Word, roll-Word}
use Rattle.tclv_parse.specs.declared.tree.Command.{Command, roll-Command}
use Rattle.tclv_parse.specs.declared.tree.Script.{Script, roll-Script}
use Rattle.tclv_parse.specs.Fix.{fix}
use Rattle.tclv_parse.specs.Runs.{Text, ends_word, ends_command, stops, run_len, run_end, level_of, expands}
use Rattle.tclv_parse.specs.Readings.{Piece, Reading, End, done, fails, emit, valued, join}

-- ---- values

-- characters before the parts of a word: literals side by side are one
abbrev pub text_before : Text → List Part → List Part
text_before x [] = part.Literal x ∷ []
text_before x (part.Literal y ∷ parts) = part.Literal (x ++ y) ∷ parts
text_before x (p ∷ parts) = part.Literal x ∷ p ∷ parts

-- the parts of a word in braces
abbrev pub text_part : Text → List Part
text_part [] = []
text_part (c ∷ x) = part.Literal (c ∷ x) ∷ []

abbrev pub word_of : Bool → List Part → Word
word_of expand parts = roll-Word (record { expand = expand; parts = parts })

abbrev pub command_of : ℕ → List Word → Command
command_of at words = roll-Command (record { at = at; words = words })

abbrev pub script_of : List Command → Option ParseFault → Script
script_of commands fault = roll-Script (record { commands = commands; fault = fault })

-- the byte place of what is left of a text that takes so many bytes
abbrev pub place : ℕ → Text → ℕ
place whole t = whole - size t

-- ---- words

-- In all that follows, `inner` tells whether the script that is read stands in brackets.

-- a character that an escape stands for
abbrev pub escape : (Text → Reading (List Part)) → Text → Reading (List Part)
escape more t = emit k.Escape (escape_len t) t (λ u. valued (text_before (escape_char t ∷ [])) (more u))

-- characters that stand for themselves
abbrev pub literal : (Text → Reading (List Part)) → Text → ℕ → Reading (List Part)
literal more t n = emit k.Literal n t (λ u. valued (text_before (take n t)) (more u))

-- raw characters of a word in braces
abbrev pub raw : (Text → ℕ → Reading Text) → Text → ℕ → ℕ → Reading Text
raw more t level n = emit k.Literal n t (λ u. valued (λ x. take n t ++ x) (more u (level_of (run_end (run.Braced level) t))))

abbrev pub braced_by : (Text → ℕ → Reading Text) → Text → ℕ → Sign → Reading Text
braced_by more t level s.End = fails f.CloseBrace
braced_by more t level s.Fold = emit k.Escape (escape_len t) t (λ u. valued (λ x. escape_char t ∷ x) (more u level))
braced_by more t level s.CloseBrace = if level == 0 then emit k.Mark 1 t (done []) else raw more t level (run_len (run.Braced level) t)
braced_by more t level _ = raw more t level (run_len (run.Braced level) t)

abbrev pub braced_step : (Text → ℕ → Reading Text) → Text → ℕ → Reading Text
braced_step more t level = braced_by more t level (sign t)

-- a word in braces, inside so many braces of its own, up to its closing brace
unfoldable pub braced : Text → ℕ → Reading Text
braced = fix braced_step (λ _. fails f.TooDeep)

-- a word that was closed ends here, or has this fault
unfoldable pub closed : Bool → ParseFault → Text → Reading (Unit {0})
closed inner fault t = if ends_word inner (sign t) then done tt t else fails fault

abbrev pub end_quote_by : Bool → Text → Sign → Reading (Unit {0})
end_quote_by inner t s.Quote = emit k.Mark 1 t (closed inner f.AfterQuote)
end_quote_by inner t _ = fails f.CloseQuote

-- the closing mark of a quoted word
unfoldable pub end_quote : Bool → Text → Reading (Unit {0})
end_quote inner t = end_quote_by inner t (sign t)

-- the closing mark of an index
abbrev pub end_index_by : Text → Sign → Reading (Unit {0})
end_index_by t s.CloseParen = emit k.Close 1 t (done tt)
end_index_by t _ = fails f.CloseParen

unfoldable pub end_index : Text → Reading (Unit {0})
end_index t = end_index_by t (sign t)

-- The readers of what stands one level deeper: of a script, from its `[` on, and of an index, from its `(` on.
pub record Deeper : Type 0 where
  pub script : Text → Reading Script
  pub index : Text → Reading (List Part)

module _ (deeper : Deeper) (inner : Bool) where
  -- behind the name of a variable: the index that makes it an element, if there is one
  abbrev pub named_by : Text → (Text → Reading (List Part)) → Text → Sign → Reading (List Part)
  named_by name more t s.OpenParen = join (deeper.index t) more (λ index parts. part.Element name index ∷ parts)
  named_by name more t _ = valued (λ parts. part.Variable name ∷ parts) (more t)

  abbrev pub named : Text → (Text → Reading (List Part)) → Text → Reading (List Part)
  named name more t = named_by name more t (sign t)

  -- a variable of n characters: the run of a name in braces ends behind the closing brace, or it has none
  abbrev pub variable_by : (Text → Reading (List Part)) → Text → ℕ → Run → Reading (List Part)
  variable_by more t n run.Enclosed = fails f.VarBrace
  variable_by more t n run.Closed = emit k.Dollar n t (λ u. valued (λ parts. part.Variable (take (n - 3) (drop 2 t)) ∷ parts) (more u))
  variable_by more t n _ = emit k.Dollar n t (named (take (n - 1) (drop 1 t)) more)

  module _ (form : Form) where
    abbrev pub part_by : (Text → Reading (List Part)) → Text → Sign → Reading (List Part)
    part_by more t s.Backslash = escape more t
    part_by more t s.Fold = escape more t
    part_by more t s.Dollar = variable_by more t (run_len run.Variable t) (run_end run.Variable t)
    part_by more t s.OpenBracket = join (deeper.script t) more (λ script parts. part.Script script ∷ parts)
    part_by more t _ = literal more t (run_len (run.Literal inner form) t)

    abbrev pub parts_by : (Text → Reading (List Part)) → Text → Bool → Reading (List Part)
    parts_by more t true = done [] t
    parts_by more t false = part_by more t (sign t)

    abbrev pub parts_step : (Text → Reading (List Part)) → Text → Reading (List Part)
    parts_step more t = parts_by more t (stops inner form (sign t))

    -- the parts of a word of this form, or of an index, up to where it stops
    unfoldable pub parts : Text → Reading (List Part)
    parts = fix parts_step (fails f.TooDeep)

  abbrev pub word_by : Text → Sign → Reading (List Part)
  word_by t s.OpenBrace = emit k.Mark 1 t (λ u. join (braced u 0) (closed inner f.AfterBrace) (λ x _. text_part x))
  word_by t s.Quote = emit k.Mark 1 t (λ u. join (parts form.Quoted u) (end_quote inner) (λ parts _. parts))
  word_by t _ = parts form.Bare t

  -- a word without an expansion mark
  unfoldable pub plain_word : Text → Reading (List Part)
  plain_word t = word_by t (sign t)

  -- a word
  unfoldable pub word : Text → Reading Word
  word t = if expands inner t then emit k.Expand 3 t (λ u. valued (word_of true) (plain_word u)) else valued (word_of false) (plain_word t)

  abbrev pub words_by : (Text → Reading (List Word)) → Text → Sign → Reading (List Word)
  words_by more t s.Blank = emit k.Blank (run_len run.Blanks t) t more
  words_by more t s.Fold = emit k.Blank (run_len run.Blanks t) t more
  words_by more t _ = join (word t) more (λ w ws. w ∷ ws)

  abbrev pub words_at : (Text → Reading (List Word)) → Text → Bool → Reading (List Word)
  words_at more t true = done [] t
  words_at more t false = words_by more t (sign t)

  abbrev pub words_step : (Text → Reading (List Word)) → Text → Reading (List Word)
  words_step more t = words_at more t (ends_command inner (sign t))

  -- the words of a command that are still to come, up to the command's end
  unfoldable pub words : Text → Reading (List Word)
  words = fix words_step (fails f.TooDeep)

-- ---- scripts

-- The pieces of a script; the commands before its first fault; and the text behind it, or the fault.
abbrev pub Course : Type 0
Course = List Piece × (List Command × Result Text ParseFault)

abbrev pub ends : Text → Course
ends t = ([], ([], Ok t))

abbrev pub halts : ParseFault → Course
halts e = ([], ([], Err e))

-- a command at this byte place before the others; of one with a fault nothing is left
abbrev pub command_before : ℕ → List Piece → End (List Word) → (Text → Course) → Course
command_before at ps (Ok p) more = (ps ++ (more p.1).0, (command_of at p.0 ∷ (more p.1).1.0, (more p.1).1.1))
command_before at ps (Err e) more = (ps, ([], Err e))

module _ (whole : ℕ) (deeper : Deeper) (inner : Bool) where
  abbrev pub command : (Text → Course) → Text → Course
  command more t = command_before (place whole t) (words deeper inner t).0 (words deeper inner t).1 more

  abbrev pub script_by : (Text → Course) → Text → Sign → Course
  script_by more t s.End = if inner then halts f.CloseBracket else ends t
  script_by more t s.CloseBracket = if inner then emit k.Close 1 t ends else command more t
  script_by more t s.Blank = emit k.Blank (run_len run.Blanks t) t more
  script_by more t s.Fold = emit k.Blank (run_len run.Blanks t) t more
  script_by more t s.Newline = emit k.CommandEnd 1 t more
  script_by more t s.Semicolon = emit k.CommandEnd 1 t more
  script_by more t s.Hash = emit k.Comment (run_len run.Comment t) t more
  script_by more t _ = command more t

  abbrev pub script_step : (Text → Course) → Text → Course
  script_step more t = script_by more t (sign t)

  -- a script: separators and comments, a command, a command end and a script, or nothing
  unfoldable pub script : Text → Course
  script = fix script_step (halts f.TooDeep)

-- a script in brackets has a fault of its own nowhere: it is that of the command around
abbrev pub enclosed_end : List Command → Result Text ParseFault → End Script
enclosed_end commands (Ok t) = Ok (script_of commands None, t)
enclosed_end commands (Err e) = Err e

abbrev pub enclosed : Course → Reading Script
enclosed r = (r.0, enclosed_end r.1.0 r.1.1)

abbrev pub too_deep : Deeper
too_deep = record { script = λ t. fails f.TooDeep; index = λ t. fails f.TooDeep }

-- the readers of what stands one level deeper, where so many levels may still stand in one another
unfoldable pub deeper_by : ℕ → ℕ → Deeper
deeper_by whole zero = too_deep
deeper_by whole (suc depth) = record {
  script = λ t. emit k.Open 1 t (λ u. enclosed (script whole (deeper_by whole depth) true u));
  index = λ t. emit k.Open 1 t (λ u. join (parts (deeper_by whole depth) true form.Index u) end_index (λ parts _. parts));
}

abbrev pub max_depth : ℕ
max_depth = 100

-- all that there is to say of a text as a script, where places count in a text of so many bytes
unfoldable pub course : ℕ → Text → Course
course whole t = script whole (deeper_by whole max_depth) false t

abbrev pub fault_of : Result Text ParseFault → Option ParseFault
fault_of (Ok t) = None
fault_of (Err e) = Some e

-- the commands of a text before its first fault, and the fault
abbrev pub commands : Text → Script
commands t = let r = course (size t) t in script_of r.1.0 (fault_of r.1.1)

-- The pieces of a text before its first fault, and the fault. The places of commands play no part in them.
abbrev pub Pieces : Type 0
Pieces = List Piece × Option ParseFault

abbrev pub pieces : Text → Pieces
pieces t = let r = course 0 t in (r.0, fault_of r.1.1)

-- the first fault of a text
abbrev pub fault : Text → Option ParseFault
fault t = (pieces t).1
