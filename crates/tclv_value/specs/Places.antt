-- The objects behind the places of a store.
use Rattle.std.specs.Prelude.{◌≡◌, ◌≢◌, ℕ, ◌+◌, ◌<◌, Bool, List, ◌++◌, map, length, IsSome, is_some, IsTrue, slice_index_or, nat_eq}
use Rattle.std.specs.Option.{unwrap_or}
use Rattle.std.specs.Map.{lookup, values_of}
use Rattle.std.specs.Ordering.{nat_cmp}
use Rattle.std.specs.FinMap.{FinMap, from_entries}
use Rattle.tclv_text.specs.declared.counters.Stats.{Stats}
use Rattle.tclv_heap.specs.Graph.{Graph, at, occurs, same, text_in}
use Rattle.tclv_heap.specs.Holders.{Holders}
use Rattle.tclv_heap.specs.Stands.{stands, IsClosed, IsSound}
use Rattle.tclv_value.specs.Forms.{form_table}
use Rattle.tclv_value.specs.View.{View}
use Rattle.tclv_value.specs.declared.forms.Form.{Form}
use Rattle.tclv_value.specs.declared.places.At.{At}
use Rattle.tclv_value.specs.declared.places.At.TheVariants.{Stack, Cell}

-- the text that an object stands for, and whether it is made
abbrev pub text_of : Graph Form → ℕ → List ℕ
text_of g o = stands form_table g o

abbrev pub made_of : Graph Form → ℕ → Bool
made_of g o = is_some (text_in (at g o))

-- what the objects of the cells have, by the cells' numbers
abbrev pub by_cell : {X : Type 0} → (ℕ → X) → List (ℕ × ℕ) → FinMap nat_cmp X
by_cell f entries = from_entries (map (λ e. (e.0, f e.1)) entries)

-- the store of a graph, the work that was done, the objects of the stack and those of the cells
abbrev pub view_of : Graph Form → Stats → List ℕ → List (ℕ × ℕ) → View
view_of g stats ids entries = record {
  stack = map (text_of g) ids;
  cells = by_cell (text_of g) entries;
  stack_made = map (made_of g) ids;
  cells_made = by_cell (made_of g) entries;
  graph = g;
  stack_ids = ids;
  cell_ids = by_cell (λ o. o) entries;
  stats = stats;
}

-- all places together: each is one outside holder of its object
abbrev pub places : List ℕ → List (ℕ × ℕ) → List ℕ
places ids entries = ids ++ values_of entries

-- The graph is sound, each object has a text or a form, and the outside holders are the places: each place's object is there, and each count is
-- that of the parts and places that hold the object, unless it is stuck.
pub record IsPlaced (g : Graph Form) (ids : List ℕ) (entries : List (ℕ × ℕ)) : Type 0 where
  pub sound : IsSound form_table g
  pub closed : IsClosed g
  pub holders : Holders form_table.parts g (places ids entries)

-- the place has an object, and which
abbrev pub HasId : List ℕ → List (ℕ × ℕ) → At → Type 0
HasId ids entries (Stack i) = i < length ids
HasId ids entries (Cell cell) = IsSome (lookup (nat_eq cell) entries)

abbrev pub id_at : List ℕ → List (ℕ × ℕ) → At → ℕ
id_at ids entries (Stack i) = slice_index_or ids i 0
id_at ids entries (Cell cell) = unwrap_or (lookup (nat_eq cell) entries) 0

-- The place has this object in place of the old one, and each other place has what it had.
pub record PutsId (ids : List ℕ) (es : List (ℕ × ℕ)) (place : At) (id : ℕ) (ids2 : List ℕ) (es2 : List (ℕ × ℕ)) (old : ℕ) : Type 0 where
  pub len : length ids2 ≡ length ids
  pub cells : (cell : ℕ) → is_some (lookup (nat_eq cell) es2) ≡ is_some (lookup (nat_eq cell) es)
  pub there : HasId ids2 es2 place
  pub here : id_at ids2 es2 place ≡ id
  pub was : old ≡ id_at ids es place
  pub others : (p : At) → p ≢ place → id_at ids2 es2 p ≡ id_at ids es p
  pub holders : (x : ℕ) → occurs x (places ids2 es2) + same x old ≡ occurs x (places ids es) + same x id

-- of each object that is there still, a made text stays made
abbrev pub TextsStay : Graph Form → Graph Form → Type 0
TextsStay old new = (o : ℕ) → IsSome (at new o) → IsTrue (made_of old o) → IsTrue (made_of new o)
