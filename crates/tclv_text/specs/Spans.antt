-- The elements of a text by their places, and the places of its flaws.
use Rattle.std.specs.Prelude.{◌≡◌, ◌<◌, ◌≤◌, ℕ, ◌+◌, ◌-◌, List, [], ◌∷◌, ◌++◌, length, take, drop, map, Result, Ok, Err}
use Rattle.std.specs.Str.{chars}
use Rattle.tclv_text.specs.Texts.{IsText}
use Rattle.tclv_text.specs.Lists.{ListFlaw, MissingBrace, MissingQuote, TextAfterBrace, TextAfterQuote, HasFlaw}
use Rattle.tclv_text.specs.Elements.{Piece, value, elements}
use Rattle.tclv_text.specs.declared.lists.Span.{Span}
use Rattle.tclv_text.specs.declared.lists.ListFault.{ListFault}
use Rattle.tclv_text.specs.declared.lists.ListFault.TheVariants.{OpenBrace, OpenQuote, AfterBrace, AfterQuote, NoMemory}

-- the part of the text at a span
abbrev pub slice_of : List ℕ → Span → List ℕ
slice_of t s = take (s.to - s.from) (drop s.from t)

abbrev pub IsWithin : List ℕ → Span → Type 0
IsWithin t s = (s.from ≤ s.to) × (s.to ≤ length t)

-- a part of the text that is a text
abbrev pub IsTextSpan : List ℕ → Span → Type 0
IsTextSpan t s = IsWithin t s × IsText (slice_of t s)

-- The spans stand one behind another between two places.
abbrev pub AreInOrder : ℕ → List Span → ℕ → Type 0
AreInOrder a [] b = a ≤ b
AreInOrder a (s ∷ ss) b = (a ≤ s.from) × (s.from ≤ s.to) × AreInOrder s.to ss b

-- the piece at a span of a text, by its code points
abbrev pub text_piece : List ℕ → Span → Piece
text_piece t s = record { raw = s.raw; units = chars (slice_of t s) }

-- the element at a span of a text: the code points there, with their escapes read where the span is not raw
abbrev pub span_text : List ℕ → Span → List ℕ
span_text t s = value (text_piece t s)

-- The text is no list, and the flaw is its first from the left: by cases on the whole text, and as its elements are read.
pub record IsNoList (f : ListFlaw) (t : List ℕ) : Type 0 where
  pub cases : HasFlaw f t
  pub read : elements t ≡ Err f

-- The refusal is that of the text. A number is the place of the byte behind the closing mark; from there on the text is what the flaw carries. Want of memory says nothing of the text.
abbrev pub IsFaultOf : List ℕ → ListFault → Type 0
IsFaultOf t OpenBrace = IsNoList MissingBrace (chars t)
IsFaultOf t OpenQuote = IsNoList MissingQuote (chars t)
IsFaultOf t (AfterBrace n) = (n < length t) × IsText (drop n t) × IsNoList (TextAfterBrace (chars (drop n t))) (chars t)
IsFaultOf t (AfterQuote n) = (n < length t) × IsText (drop n t) × IsNoList (TextAfterQuote (chars (drop n t))) (chars t)
IsFaultOf t NoMemory = Unit {0}

-- The same of lists of bytes, which the code reads.
abbrev pub piece_of : List ℕ → Span → Piece
piece_of t s = record { raw = s.raw; units = slice_of t s }

abbrev pub IsByteFlaw : List ℕ → ListFault → ListFlaw → Type 0
IsByteFlaw t OpenBrace f = f ≡ MissingBrace
IsByteFlaw t OpenQuote f = f ≡ MissingQuote
IsByteFlaw t (AfterBrace n) f = (n < length t) × (f ≡ TextAfterBrace (drop n t))
IsByteFlaw t (AfterQuote n) f = (n < length t) × (f ≡ TextAfterQuote (drop n t))
IsByteFlaw t NoMemory f = ⊥

-- A span that stands between the place of its element and the place behind it, which lies further on in the text.
pub record IsElementAt (t : List ℕ) (at : ℕ) (s : Span) (next : ℕ) : Type 0 where
  pub begins : at ≤ s.from
  pub order : s.from ≤ s.to
  pub ends : s.to ≤ next
  pub onward : at < next
  pub within : next ≤ length t

-- what the code answers for the element at a place where the definition answers r
abbrev pub IsSpellingAt : List ℕ → ℕ → Result (Span × ℕ) ListFault → Result (Piece × ℕ) ListFlaw → Type 0
IsSpellingAt t at (Ok s) r = IsElementAt t at s.0 s.1 × (r ≡ Ok (piece_of t s.0, s.1 - (at + 1)))
IsSpellingAt t at (Err e) r = (f : ListFlaw) × IsByteFlaw t e f × (r ≡ Err f)

-- the pieces so far, and then those of the rest
abbrev pub before : List Piece → Result (List Piece) ListFlaw → Result (List Piece) ListFlaw
before ps (Ok qs) = Ok (ps ++ qs)
before ps (Err e) = Err e

-- what the code answers where the pieces of the bytes are r
abbrev pub IsSplit : List ℕ → Result (List Span) ListFault → Result (List Piece) ListFlaw → Type 0
IsSplit t (Ok ss) r = AreInOrder 0 ss (length t) × (r ≡ Ok (map (piece_of t) ss))
IsSplit t (Err NoMemory) r = Unit {0}
IsSplit t (Err OpenBrace) r = r ≡ Err MissingBrace
IsSplit t (Err OpenQuote) r = r ≡ Err MissingQuote
IsSplit t (Err (AfterBrace n)) r = (n < length t) × (r ≡ Err (TextAfterBrace (drop n t)))
IsSplit t (Err (AfterQuote n)) r = (n < length t) × (r ≡ Err (TextAfterQuote (drop n t)))

-- each span is a text within the text
abbrev pub AreTexts : List ℕ → List Span → Type 0
AreTexts t [] = Unit {0}
AreTexts t (s ∷ ss) = IsWithin t s × IsText (slice_of t s) × AreTexts t ss
