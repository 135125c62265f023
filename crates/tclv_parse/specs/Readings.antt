-- What a rule of the grammar reads from the front of a text: pieces, and a value with the text behind it or the first fault.
use Rattle.std.specs.Prelude.{ℕ, List, [], ◌∷◌, ◌++◌, take, drop, Result, Ok, Err}
use Rattle.tclv_parse.specs.Runs.{Text}
use Rattle.tclv_parse.specs.declared.pieces.PieceKind.{PieceKind}
use Rattle.tclv_parse.specs.declared.faults.ParseFault.{ParseFault}

abbrev pub Piece : Type 0
Piece = PieceKind × Text

abbrev pub End : Type 0 → Type 0
End A = Result (A × Text) ParseFault

abbrev pub Reading : Type 0 → Type 0
Reading A = List Piece × End A

-- nothing is taken
abbrev pub done : {A : Type 0} → A → Text → Reading A
done a t = ([], Ok (a, t))

abbrev pub fails : {A : Type 0} → ParseFault → Reading A
fails e = ([], Err e)

abbrev pub before : {B : Type 0} → Piece → List Piece × B → List Piece × B
before p r = (p ∷ r.0, r.1)

-- a piece of the first n characters, and then what f reads
abbrev pub emit : {B : Type 0} → PieceKind → ℕ → Text → (Text → List Piece × B) → List Piece × B
emit kind n t f = before (kind, take n t) (f (drop n t))

abbrev pub valued_end : {A B : Type 0} → (A → B) → End A → End B
valued_end g (Ok p) = Ok (g p.0, p.1)
valued_end g (Err e) = Err e

-- the same, with the value g of the one read
abbrev pub valued : {A B : Type 0} → (A → B) → Reading A → Reading B
valued g r = (r.0, valued_end g r.1)

abbrev pub join_end : {A B C : Type 0} → List Piece → End A → (Text → Reading B) → (A → B → C) → Reading C
join_end ps (Ok p) f g = (ps ++ (f p.1).0, valued_end (g p.0) (f p.1).1)
join_end ps (Err e) f g = (ps, Err e)

-- first r, and then what f reads behind it, with a value made of both
abbrev pub join : {A B C : Type 0} → Reading A → (Text → Reading B) → (A → B → C) → Reading C
join r f g = join_end r.0 r.1 f g
