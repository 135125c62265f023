-- What contracts see of a store: texts at places, and the objects behind them.
use Rattle.std.specs.Prelude.{◌≡◌, ◌≢◌, ℕ, ◌<◌, Bool, false, List, [], length, IsTrue, IsSome, slice_index_or, refl}
use Rattle.std.specs.Option.{unwrap_or}
use Rattle.std.specs.Ordering.{nat_cmp}
use Rattle.std.specs.FinMap.{FinMap, get, code}
use Rattle.std.specs.Coded.{Coded, code_by, coded×, coded_ℕ, coded_bool, coded_list, coded_option}
use Rattle.tclv_text.specs.declared.counters.Stats.{Stats}
use Rattle.tclv_heap.specs.Graph.{Graph}
use Rattle.tclv_value.specs.declared.forms.Form.{Form}
use Rattle.tclv_value.specs.Codes.{object_code, stats_code}
use Rattle.tclv_value.specs.declared.places.At.{At}
use Rattle.tclv_value.specs.declared.places.At.TheVariants.{Stack, Cell}

pub record View : Type 0 where
  -- the texts of the stack, from the bottom, and those of the cells, by their numbers
  pub stack : List (List ℕ)
  pub cells : FinMap nat_cmp (List ℕ)
  -- whether the text is made, of each of these places
  pub stack_made : List Bool
  pub cells_made : FinMap nat_cmp Bool
  -- The objects that stand behind the texts, and which one stands behind each place. Only clauses on the representation speak of them.
  pub graph : Graph Form
  pub stack_ids : List ℕ
  pub cell_ids : FinMap nat_cmp ℕ
  -- how much work was done
  pub stats : Stats

-- the object behind a place
abbrev pub id_of : View → At → ℕ
id_of v (Stack i) = slice_index_or v.stack_ids i 0
id_of v (Cell cell) = unwrap_or (get v.cell_ids cell) 0

-- the place is there
abbrev pub HasPlace : View → At → Type 0
HasPlace v (Stack i) = i < length v.stack
HasPlace v (Cell cell) = IsSome (get v.cells cell)

-- its text
abbrev pub text_at : View → At → List ℕ
text_at v (Stack i) = slice_index_or v.stack i []
text_at v (Cell cell) = unwrap_or (get v.cells cell) []

-- whether its text is made
abbrev pub made_at : View → At → Bool
made_at v (Stack i) = slice_index_or v.stack_made i false
made_at v (Cell cell) = unwrap_or (get v.cells_made cell) false

abbrev pub IsMade : View → At → Type 0
IsMade v place = IsTrue (made_at v place)

-- of each place that was there and is there, the text is made exactly where it was
abbrev pub KeepsMade : View → View → Type 0
KeepsMade old new = (place : At) → HasPlace old place → HasPlace new place → made_at new place ≡ made_at old place

-- the same, but for this place
abbrev pub KeepsMadeBut : View → At → View → Type 0
KeepsMadeBut old changed new = (place : At) → place ≢ changed → HasPlace old place → HasPlace new place → made_at new place ≡ made_at old place

-- each made text stays made
abbrev pub StaysMade : View → View → Type 0
StaysMade old new = (place : At) → HasPlace old place → IsMade old place → IsMade new place

-- a view is stored as the tuple of its fields
abbrev pub view_code : Coded View
view_code =
    code_by
    (List (List ℕ) × (FinMap nat_cmp (List ℕ) × (List Bool × (FinMap nat_cmp Bool × (Graph Form × (List ℕ × (FinMap nat_cmp ℕ × Stats)))))))
    (coded× (coded_list (coded_list coded_ℕ)) (coded× (code coded_ℕ (coded_list coded_ℕ)) (coded× (coded_list coded_bool) (coded× (code coded_ℕ coded_bool) (coded× (coded_list (coded_option object_code)) (coded× (coded_list coded_ℕ) (coded× (code coded_ℕ coded_ℕ) stats_code)))))))
    (λ v. (v.stack, (v.cells, (v.stack_made, (v.cells_made, (v.graph, (v.stack_ids, (v.cell_ids, v.stats))))))))
    (λ p. record { stack = p.0; cells = p.1.0; stack_made = p.1.1.0; cells_made = p.1.1.1.0; graph = p.1.1.1.1.0; stack_ids = p.1.1.1.1.1.0; cell_ids = p.1.1.1.1.1.1.0; stats = p.1.1.1.1.1.1.1 })
    (λ _. refl)
