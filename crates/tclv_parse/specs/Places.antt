-- What is still to come at a place inside of a script, as its pieces.
use Rattle.std.specs.Prelude.{get_or, ℕ, zero, suc, Bool, true, false, if◌then◌else◌, List, [], ◌∷◌, ◌++◌, Result, Ok, Err}
use Rattle.tclv_text.specs.Cursors.{sign}
use Rattle.tclv_text.specs.declared.cursors.Sign.{Sign}
use Rattle.tclv_text.specs.declared.cursors.Sign.TheVariants as s
use Rattle.tclv_parse.specs.declared.runs.Form.{Form}
use Rattle.tclv_parse.specs.declared.runs.Form.TheVariants as form
use Rattle.tclv_parse.specs.declared.faults.ParseFault.{ParseFault}
use Rattle.tclv_parse.specs.declared.faults.ParseFault.TheVariants as f
use Rattle.tclv_parse.specs.declared.modes.Mode.{Mode}
use Rattle.tclv_parse.specs.declared.modes.Mode.TheVariants as m
use Rattle.tclv_parse.specs.Runs.{Text}
use Rattle.tclv_parse.specs.Readings.{Piece, Reading, End}
use Rattle.tclv_parse.specs.Grammar.{Course, Deeper, deeper_by, script, words, parts, plain_word, braced, closed, end_quote, end_index}

-- pieces, and the text behind them or a fault
abbrev pub Out : Type 0
Out = List Piece × Result Text ParseFault

abbrev pub end_of : {A : Type 0} → End A → Result Text ParseFault
end_of (Ok p) = Ok p.1
end_of (Err e) = Err e

-- a reading without its value
abbrev pub seen : {A : Type 0} → Reading A → Out
seen r = (r.0, end_of r.1)

abbrev pub seen_course : Course → Out
seen_course r = (r.0, r.1.1)

abbrev pub halt : ParseFault → Out
halt e = ([], Err e)

abbrev pub stop : Text → Out
stop t = ([], Ok t)

abbrev pub chain_by : List Piece → Result Text ParseFault → (Text → Out) → Out
chain_by ps (Ok t) g = (ps ++ (g t).0, (g t).1)
chain_by ps (Err e) g = (ps, Err e)

-- first r, and then what g gives behind it
abbrev pub chain : Out → (Text → Out) → Out
chain r g = chain_by r.0 r.1 g

-- In a script that stands in brackets or doesn't, where so many levels may still stand in one another:
module _ (deeper : Deeper) (inner : Bool) where
  -- the rest of a script
  abbrev pub script_out : Text → Out
  script_out t = seen_course (script 0 deeper inner t)

  -- the rest of a command, and of its script
  abbrev pub after_word : Text → Out
  after_word t = chain (seen (words deeper inner t)) script_out

  -- what follows the parts of this form; an index stands in a level of its own
  abbrev pub after_parts : Form → Text → Out
  after_parts form.Bare t = after_word t
  after_parts form.Quoted t = chain (seen (end_quote inner t)) after_word
  after_parts form.Index t = if inner then seen (end_index t) else halt f.CloseParen

  -- the rest of a word of this form, or of an index, and what follows it at this level
  abbrev pub in_parts : Form → Text → Out
  in_parts form t = chain (seen (parts deeper inner form t)) (after_parts form)

  abbrev pub named_out : Form → Text → Sign → Out
  named_out form t s.OpenParen = chain (seen (deeper.index t)) (in_parts form)
  named_out form t _ = in_parts form t

  -- the rest of this level
  abbrev pub rest_of : Mode → Text → Out
  rest_of m.Begin t = script_out t
  rest_of m.Words t = after_word t
  rest_of m.Expanded t = chain (seen (plain_word deeper inner t)) after_word
  rest_of (m.Parts form) t = in_parts form t
  rest_of (m.Named form) t = named_out form t (sign t)
  rest_of (m.Braced level) t = chain (seen (braced t level)) (λ u. chain (seen (closed inner f.AfterBrace u)) after_word)
  rest_of (m.Closed fault) t = chain (seen (closed inner fault t)) after_word

  -- what follows where a level opens, in which this is read, and that stands in a word of this form or in an index
  abbrev pub opening : Mode → Form → Text → Out
  opening m.Begin form t = chain (seen (deeper.script t)) (in_parts form)
  opening _ form t = chain (seen (deeper.index t)) (in_parts form)

-- The levels around are given by what holds the bracket or the index that opened each of them, the innermost first.
abbrev pub is_inside : List Form → Bool
is_inside [] = false
is_inside (form ∷ forms) = true

-- behind the rest of the innermost level, what follows in those around, where so many may still be opened
unfoldable pub behind : ℕ → List Form → Out → Out
behind depth [] r = r
behind depth (form ∷ forms) r = chain r (λ t. behind (suc depth) forms (in_parts (deeper_by 0 (suc depth)) (is_inside forms) form t))

-- all that is still to come
abbrev pub coming : ℕ → Mode → List Form → Text → Out
coming depth mode forms t = behind depth forms (rest_of (deeper_by 0 depth) (is_inside forms) mode t)

-- the levels around, where so many of the list are in use
abbrev pub frames : List Form → ℕ → List Form
frames forms zero = []
frames forms (suc n) = get_or forms n form.Bare ∷ frames forms n
