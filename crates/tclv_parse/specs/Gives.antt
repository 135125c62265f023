-- What callers see of the pieces of a script.
use Rattle.std.specs.Prelude.{◌≡◌, List, [], ◌∷◌, ◌++◌, Option, Some, None, Result, Ok, Err}
use Rattle.std.specs.Str.{chars}
use Rattle.tclv_text.specs.Texts.{IsText}
use Rattle.tclv_parse.specs.declared.pieces.Piece.{Piece}
use Rattle.tclv_parse.specs.declared.faults.ParseFault.{ParseFault}
use Rattle.tclv_parse.specs.Runs.{Text}
use Rattle.tclv_parse.specs.Readings as readings
use Rattle.tclv_parse.specs.Grammar.{Pieces}

-- the text of the pieces, one behind the other
abbrev pub joined : List readings.Piece → Text
joined [] = []
joined (p ∷ ps) = p.1 ++ joined ps

-- the first piece to come, or the fault behind the last one, or the end
abbrev pub Gives : Pieces → Option (Result Piece ParseFault) → Pieces → Type 0
Gives old (Some (Ok p)) new = old ≡ ((p.kind, chars p.text.now) ∷ new.0, new.1)
Gives old (Some (Err e)) new = (old ≡ ([], Some e)) × (new ≡ ([], None))
Gives old None new = (old ≡ ([], None)) × (new ≡ ([], None))

-- a piece that was given is valid UTF-8
abbrev pub GivesText : Option (Result Piece ParseFault) → Type 0
GivesText (Some (Ok p)) = IsText p.text.now
GivesText (Some (Err e)) = Unit {0}
GivesText None = Unit {0}

-- the pieces, joined, are the text, or where a fault comes the text up to some place
abbrev pub TilesText : Text → Pieces → Type 0
TilesText t pieces = (rest : Text) × (joined pieces.0 ++ rest ≡ t) × (pieces.1 ≡ None → rest ≡ [])
