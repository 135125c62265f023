-- The elements of a text two by two, as a dict has them: an ordered list of distinct keys and their values.
use Rattle.std.specs.Prelude.{ℕ, if◌then◌else◌, List, [], ◌∷◌, ◌++◌, Option, Some, None, is_some, Result, Ok, Err}
use Rattle.std.specs.Option.{ok_or}
use Rattle.std.specs.Map.{lookup, set_value}
use Rattle.std.specs.Str.{bytes_eq}
use Rattle.tclv_text.specs.Lists.{ListFlaw}
use Rattle.tclv_text.specs.Elements.{elements}

-- keys and their values, in order
abbrev pub Pairs : Type 0
Pairs = List (List ℕ × List ℕ)

-- why a text has no pairs: it is no list, or its last key has no value
pub data PairsFlaw : Type 0 where
  NoList : ListFlaw → PairsFlaw
  MissingValue : PairsFlaw

-- the value of a key
abbrev pub value_of : List ℕ → Pairs → Option (List ℕ)
value_of key pairs = lookup (bytes_eq key) pairs

-- with this value of the key: a key that is there keeps its place, and a new one goes last
unfoldable pub put : List ℕ → List ℕ → Pairs → Pairs
put key value pairs = if is_some (value_of key pairs) then set_value (bytes_eq key) pairs value else pairs ++ (key, value) ∷ []

-- with these keys and values put in turn, or none where the last key has no value
abbrev pub put_all : Pairs → List (List ℕ) → Option Pairs
put_all pairs [] = Some pairs
put_all pairs (key ∷ []) = None
put_all pairs (key ∷ value ∷ texts) = put_all (put key value pairs) texts

-- the texts two by two
abbrev pub pairs_of : List (List ℕ) → Option Pairs
pairs_of texts = put_all [] texts

abbrev pub pairs_of_list : Result (List (List ℕ)) ListFlaw → Result Pairs PairsFlaw
pairs_of_list (Ok texts) = ok_or (pairs_of texts) MissingValue
pairs_of_list (Err flaw) = Err (NoList flaw)

-- the pairs of a text, or the first flaw
abbrev pub pairs : List ℕ → Result Pairs PairsFlaw
pairs text = pairs_of_list (elements text)
