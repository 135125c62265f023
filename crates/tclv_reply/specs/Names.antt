-- Names of variables and commands. A name is looked at by its UTF-8 bytes, in which an ASCII character stands for nothing else.
use Rattle.std.specs.Prelude.{◌≡◌, ℕ, ◌+◌, ◌-◌, ◌==◌, ◌&&◌, ◌||◌, not, Bool, false, nat_lt, nat_eq, if◌then◌else◌, List, [], ◌∷◌, length, take, drop, slice_index, Option, Some, None, is_some, codes}
use Rattle.std.specs.List.{prefix_len, starts_with}
use Rattle.tclv_reply.specs.declared.names.NameShape.{NameShape}

-- A name that holds `::` is qualified.
abbrev pub is_qualified : List ℕ → Bool
is_qualified [] = false
is_qualified (b ∷ bs) = starts_with nat_eq (b ∷ bs) (codes "::") || is_qualified bs

-- how many bytes stand before the first `(`
abbrev pub before_open : List ℕ → ℕ
before_open name = prefix_len (λ b. not (b == 40)) name

-- A name that ends in `)` and has a `(` is that of an element of an array. The place of its first `(`.
abbrev pub ends_in_close : List ℕ → Bool
ends_in_close name = slice_index name (length name - 1) == 41

abbrev pub open_of : List ℕ → Option ℕ
open_of name = if ends_in_close name && nat_lt (before_open name) (length name) then Some (before_open name) else None

abbrev pub is_element : List ℕ → Bool
is_element name = is_some (open_of name)

-- A plain name is neither.
abbrev pub is_plain : List ℕ → Bool
is_plain name = not (is_element name || is_qualified name)

-- What a name of a variable names: where it is looked up, which is the current frame unless it is qualified; the variable's name there; and
-- the index, where it names an element.
pub record Naming : Type 0 where
  pub qualified : Bool
  pub name : List ℕ
  pub index : Option (List ℕ)

-- an element of an array
abbrev pub element_of : List ℕ → List ℕ → Naming
element_of array index = record { qualified = is_qualified array; name = array; index = Some index }

-- a variable as a whole
abbrev pub whole_of : List ℕ → Naming
whole_of name = record { qualified = is_qualified name; name = name; index = None }

-- The array's name ends at the first `(`, and the index is what stands behind it, without the `)` at the end.
abbrev pub index_behind : ℕ → List ℕ → List ℕ
index_behind place name = drop (place + 1) (take (length name - 1) name)

abbrev pub named_by : Option ℕ → List ℕ → Naming
named_by None name = whole_of name
named_by (Some place) name = element_of (take place name) (index_behind place name)

abbrev pub naming : List ℕ → Naming
naming name = named_by (open_of name) name

-- There it stands, where the name is that of an element.
abbrev pub IsOpen : List ℕ → ℕ → Type 0
IsOpen name place = open_of name ≡ Some place

-- what code keeps of a name that it read
abbrev pub shape_of : List ℕ → NameShape
shape_of name = record { place = open_of name; qualified = (naming name).qualified }
