-- A place of the reader of pieces, seen as what is still to come.
use Rattle.std.specs.Prelude.{◌≡◌, ◌≤◌, ◌<◌, ◌+◌, ◌-◌, ◌^◌, ℕ, Bool, true, false, length, take, drop, List, [], Result, Ok, Err, Option, Some, None}
use Rattle.std.specs.Str.{chars}
use Rattle.tclv_text.specs.Texts.{IsText}
use Rattle.tclv_parse.specs.declared.runs.Form.{Form}
use Rattle.tclv_parse.specs.declared.runs.Form.TheVariants as form
use Rattle.tclv_parse.specs.declared.runs.Run.TheVariants as run
use Rattle.tclv_parse.specs.declared.modes.Mode.{Mode}
use Rattle.tclv_parse.specs.declared.modes.Mode.TheVariants as m
use Rattle.tclv_parse.specs.declared.pieces.Piece.{Piece}
use Rattle.tclv_parse.specs.declared.pieces.PieceKind.{PieceKind}
use Rattle.tclv_parse.specs.declared.pieces.PieceKind.TheVariants as k
use Rattle.tclv_parse.specs.declared.faults.ParseFault.{ParseFault}
use Rattle.tclv_parse.specs.declared.tokens.Place.{Place}
use Rattle.tclv_parse.specs.declared.tokens.Tokens.TheInside.{Inside}
use Rattle.tclv_parse.specs.Runs.{Text, level_of, run_end}
use Rattle.tclv_parse.specs.Readings.{before}
use Rattle.tclv_parse.specs.Grammar.{Deeper, deeper_by, Pieces, fault_of}
use Rattle.tclv_parse.specs.Places.{Out, halt, stop, rest_of, opening, after_parts, is_inside, behind, frames}

-- ---- places

-- the levels around, the innermost first
abbrev pub levels : Place → List Form
levels p = frames p.around p.open

-- how many levels may still be opened
abbrev pub depth : Place → ℕ
depth p = 100 - p.open

abbrev pub deeper : Place → Deeper
deeper p = deeper_by 0 (depth p)

-- the script here stands in brackets
abbrev pub inner : Place → Bool
inner p = is_inside (levels p)

-- the braces around in which a word in braces is read
abbrev pub level_in : Mode → ℕ
level_in (m.Braced level) = level
level_in _ = 0

pub record IsWithin (p : Place) : Type 0 where
  pub few : p.open ≤ 100
  pub room : level_in p.mode + length p.cursor < 2 ^ 63

-- ---- what is still to come

unfoldable pub all_behind : Place → Out → Out
all_behind p r = behind (depth p) (levels p) r

-- where this is being read
abbrev pub here_in : Mode → Place → Out
here_in mode p = all_behind p (rest_of (deeper p) (inner p) mode p.cursor)

abbrev pub here : Place → Out
here p = here_in p.mode p

-- where a level opens, in which this is read
abbrev pub opening_in : Mode → Form → Place → Out
opening_in inside form p = all_behind p (opening (deeper p) (inner p) inside form p.cursor)

-- what is read in a level: a script or an index
abbrev pub IsLevel : Mode → Type 0
IsLevel m.Begin = Unit {0}
IsLevel (m.Parts form.Index) = Unit {0}
IsLevel _ = ⊥

-- where a level closes
abbrev pub closing : Place → Out
closing p = all_behind p (before (k.Close, take 1 p.cursor) (stop (drop 1 p.cursor)))

-- behind the parts of a word of this form, or of an index
abbrev pub behind_parts : Form → Place → Out
behind_parts form p = all_behind p (after_parts (deeper p) (inner p) form p.cursor)

-- how a word in braces goes on behind its raw characters
abbrev pub mode_behind : ℕ → Text → Mode
mode_behind level t = m.Braced (level_of (run_end (run.Braced level) t))

-- ---- steps

-- the next n characters are taken as a piece of this kind, and then this is being read
pub record Takes (old : Place) (piece : Piece) (new : Place) (kind : PieceKind) (n : ℕ) (mode : Mode) : Type 0 where
  pub kind_is : piece.kind ≡ kind
  pub text : chars piece.text.now ≡ take n old.cursor
  pub utf8 : IsText piece.text.now
  pub place : new ≡ record old { cursor = drop n old.cursor; mode = mode }

-- a piece is taken, or the fault is reached
abbrev pub Moves : Out → Result Piece ParseFault → Out → Type 0
Moves old (Ok p) new = (old ≡ before (p.kind, chars p.text.now) new) × IsText p.text.now
Moves old (Err e) new = old ≡ halt e

-- the same, or the end is reached
abbrev pub Steps : Out → Option (Result Piece ParseFault) → Out → Type 0
Steps old (Some r) new = Moves old r new
Steps old None new = (t : Text) × (old ≡ stop t)

-- ---- what contracts see of `Tokens`

abbrev pub left_of : Out → Pieces
left_of r = (r.0, fault_of r.1)

abbrev pub view_at : Bool → Place → Pieces
view_at true p = ([], None)
view_at false p = left_of (here p)

abbrev pub view_of : Inside → Pieces
view_of t = view_at t.over t.place

abbrev pub IsSound : Inside → Type 0
IsSound t = IsWithin t.place
