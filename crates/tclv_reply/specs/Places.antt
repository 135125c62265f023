-- Places in lists and texts, which words name.
use Rattle.std.specs.Prelude.{ℕ, Bool, nat_le, nat_lt, if◌then◌else◌, List, [], Option, Some, None, ℤ, pos, negsuc}
use Rattle.std.specs.Result.{is_ok}
use Rattle.tclv_text.specs.Indices.{index}
use Rattle.tclv_model.specs.declared.messages.MessageId.TheVariants.{IndexOutOfRange}
use Rattle.tclv_model.specs.Rows.{Answer, Gives, and_then, says}
use Rattle.tclv_model.specs.Values.{place_of}

-- whether the text has the form of an index, which no length changes
abbrev pub is_index : List ℕ → Bool
is_index word = is_ok (index word 0)

-- a place of a list with so many elements, or the one behind the last
abbrev pub within : List ℕ → ℕ → ℤ → Answer ℕ
within i len (pos k) = if nat_le k len then Gives k else says IndexOutOfRange i []
within i len (negsuc k) = says IndexOutOfRange i []

-- a place of an element of a list with so many
abbrev pub inside : List ℕ → ℕ → ℤ → Answer ℕ
inside i len (pos k) = if nat_lt k len then Gives k else says IndexOutOfRange i []
inside i len (negsuc k) = says IndexOutOfRange i []

-- the place of an element of a list with so many, or the one behind the last, which an index names
abbrev pub place_within : List ℕ → ℕ → Answer ℕ
place_within i len = and_then (place_of i len) (λ place. within i len place)

-- the place of an element of a list with so many, which an index names
abbrev pub place_inside : List ℕ → ℕ → Answer ℕ
place_inside i len = and_then (place_of i len) (λ place. inside i len place)

-- The place of an element among so many, if the number is one.
abbrev pub place_among : ℕ → ℤ → Option ℕ
place_among len (pos k) = if nat_lt k len then Some k else None
place_among len (negsuc k) = None
