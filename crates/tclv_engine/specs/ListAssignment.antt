-- Variables that get the elements of a list.
use Rattle.std.specs.Prelude.{◌≡◌, ℕ, List, [], ◌∷◌, length, drop, slice_index_or, Ok}
use Rattle.std.specs.Result.{result_unwrap_or}
use Rattle.tclv_text.specs.Elements.{elements}
use Rattle.tclv_engine.specs.State.{Text, State}
use Rattle.tclv_engine.specs.Results.{Res, bind, done}
use Rattle.tclv_engine.specs.Variables.{assign}

-- the elements of the list that a text is, and none where it is no list
abbrev pub listed : Text → List Text
listed t = result_unwrap_or (elements t) []

-- the text is a list
abbrev pub IsList : Text → Type 0
IsList t = elements t ≡ Ok (listed t)

-- the first of the values, and the empty text where there is none
abbrev pub next_of : List Text → Text
next_of values = slice_index_or values 0 []

-- The variables of these names, from the left, get the values, and the empty text where values are missing.
unfoldable pub assign_each : {W : Type 0} → List Text → List Text → (State W) → Res W (Unit {0})
assign_each [] values st = done tt st
assign_each (name ∷ names) values st = bind (assign name (next_of values) st) (λ kept s1. assign_each names (drop 1 values) s1)

-- ---- in the code

-- nothing shows
abbrev pub unseen : {A T : Type 0} → A → T → List Text → Type 0
unseen a t stack = Unit {0}

-- the elements are those of the text, and so many
abbrev pub counted : Text → List Text → ℕ → List Text → Type 0
counted t ts len stack = (ts ≡ listed t) × (len ≡ length ts)
