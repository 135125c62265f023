-- A way of places through lists in lists, and a value that is put at its end in place.
use Rattle.std.specs.Prelude.{◌≡◌, ◌≢◌, ℕ, ◌+◌, ◌-◌, ◌<◌, ◌≤◌, List, [], ◌∷◌, map, length, max, Option, Some, IsSome, Ok, slice_get, slice_index_or}
use Rattle.std.specs.Option.{unwrap_or}
use Rattle.tclv_text.specs.Indices.{index}
use Rattle.tclv_text.specs.Quotes.{list_text}
use Rattle.tclv_forms.specs.Lists.{Items}
use Rattle.tclv_heap.specs.Graph.{Graph, at, occurs, count_in, depth_in, form_in}
use Rattle.tclv_heap.specs.Holders.{Holders}
use Rattle.tclv_heap.specs.Stands.{IsSound, IsClosed, depth_of}
use Rattle.tclv_value.specs.Forms.{form_table}
use Rattle.tclv_value.specs.Kept.{list_at}
use Rattle.tclv_value.specs.Paths.{place_or, put_at}
use Rattle.tclv_value.specs.Places.{text_of, made_of}
use Rattle.tclv_value.specs.Setting.{HasRoomAt}
use Rattle.tclv_value.specs.declared.forms.Form.{Form}
use Rattle.tclv_value.specs.declared.forms.Form.TheVariants as form

-- the elements of an object's list
abbrev pub ids_at : Graph Form → ℕ → List ℕ
ids_at g id = unwrap_or (list_at g id) []

-- The object is kept as a list, and one holder alone has it. Its kept depth is in bounds, and the place is that of an element or the one behind the last.
pub record IsUnshared (g : Graph Form) (high id k : ℕ) : Type 0 where
  pub list : IsSome (list_at g id)
  pub alone : count_in (at g id) ≡ 1
  pub deep : depth_in (at g id) ≤ high
  pub within : k ≤ length (ids_at g id)

-- Each object on the way of places is kept as a list and has one holder alone, and each depth stays in bounds where the value stands at the end of the way: at most `high` for the
-- first. Each place but the last is that of an element, which is the next object. Where the last one is the place behind its list's last element, there is room for one more.
pub data Opens (g : Graph Form) (next : Option Items) (value : ℕ) : ℕ → ℕ → List ℕ → Type 0 where
  ends : {high id k : ℕ} → IsUnshared g high id k → depth_of (at g value) < high
      → ((list : Items) → form_in (at g id) ≡ Some (form.List list) → HasRoomAt k next list)
      → Opens g next value high id (k ∷ [])
  goes : {high id k part : ℕ} {ks : List ℕ} → IsUnshared g high id k → 1 < high
      → slice_get (ids_at g id) k ≡ Some part → Opens g next value (high - 1) part ks
      → Opens g next value high id (k ∷ ks)

-- the index names this place in the object's list: that of an element, or the one behind the last
abbrev pub NamesPlace : Graph Form → ℕ → ℕ → ℕ → Type 0
NamesPlace g id i k = place_or 0 (length (ids_at g id)) (index (text_of g i) (length (ids_at g id))) ≡ Ok k

-- The indices lead from an object on along a way of which each object is kept as a list and has one holder alone, and where each depth stays in bounds with the value at its end.
pub data LeadsOpen (g : Graph Form) (value : ℕ) : ℕ → ℕ → List ℕ → Type 0 where
  last : {high id i k : ℕ} → IsUnshared g high id k → NamesPlace g id i k → depth_of (at g value) < high
      → LeadsOpen g value high id (i ∷ [])
  more : {high id i k part : ℕ} {indices : List ℕ} → IsUnshared g high id k → NamesPlace g id i k → 1 < high
      → slice_get (ids_at g id) k ≡ Some part → LeadsOpen g value (high - 1) part indices
      → LeadsOpen g value high id (i ∷ indices)

-- the text of an object where another text stands at the end of a way
abbrev pub text_along : Graph Form → ℕ → List ℕ → List ℕ → List ℕ
text_along g id [] x = x
text_along g id (k ∷ ks) x = list_text (put_at (map (text_of g) (ids_at g id)) k (text_along g (slice_index_or (ids_at g id) k 0) ks x))

-- The way is open from an object that a holder outside has. Another one has the value.
pub record CanGo (g : Graph Form) (next : Option Items) (id value high : ℕ) (places : List ℕ) : Type 0 where
  pub opens : Opens g next value high id places
  pub apart : value ≢ id
  pub out : List ℕ
  pub holders : Holders form_table.parts g out
  pub listed : 0 < occurs id out
  pub valued : 0 < occurs value out
  pub sound : IsSound form_table g
  pub closed : IsClosed g

-- what an object stands for stays, and how it is kept; and one holder alone has it still, unless it is the value
pub record IsUntouched (old : Graph Form) (value : ℕ) (new : Graph Form) (x : ℕ) : Type 0 where
  pub text : text_of new x ≡ text_of old x
  pub made : made_of new x ≡ made_of old x
  pub form : form_in (at new x) ≡ form_in (at old x)
  pub depth : depth_of (at new x) ≡ depth_of (at old x)
  pub alone : x ≢ value → count_in (at old x) ≡ 1 → count_in (at new x) ≡ 1

-- The object is a list with this text, and no deeper than this. All else that holders outside have is untouched.
pub record Goes (old : Graph Form) (id value high : ℕ) (t : List ℕ) (new : Graph Form) : Type 0 where
  pub list : IsSome (list_at new id)
  pub says : text_of new id ≡ t
  pub deep : depth_of (at new id) ≤ high
  pub passes : (out : List ℕ) → Holders form_table.parts old out → 0 < occurs id out → Holders form_table.parts new out
  pub others : (out : List ℕ) → Holders form_table.parts old out → 0 < occurs id out → 0 < occurs value out
      → (x : ℕ) → 0 < occurs x out → x ≢ id → IsUntouched old value new x
  pub sound : IsSound form_table new
  pub closed : IsClosed new

-- Beside a list object where a value was put at a place: the object's depth, and what stays of each other object that is left.
pub record LeavesOthers (old : Graph Form) (id value : ℕ) (new : Graph Form) : Type 0 where
  pub deep : depth_of (at new id) ≡ max (depth_in (at old id)) (depth_of (at old value) + 1)
  pub forms : (x : ℕ) → x ≢ id → IsSome (at new x) → form_in (at new x) ≡ form_in (at old x)
  pub depths : (x : ℕ) → x ≢ id → IsSome (at new x) → depth_of (at new x) ≡ depth_of (at old x)
  pub alone : (x : ℕ) → x ≢ id → x ≢ value → IsSome (at new x) → count_in (at old x) ≡ 1 → count_in (at new x) ≡ 1
