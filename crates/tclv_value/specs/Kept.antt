-- The form that an object keeps, and how it comes to keep a list.
use Rattle.std.specs.Prelude.{◌≡◌, ℕ, ◌<◌, ◌≤◌, List, [], map, Option, Some, None, IsSome, Ok}
use Rattle.tclv_text.specs.Elements.{elements}
use Rattle.tclv_heap.specs.declared.ids.Object.{Object}
use Rattle.tclv_heap.specs.Graph.{Graph, at, occurs, form_in}
use Rattle.tclv_heap.specs.Holders.{Holders, Passes}
use Rattle.tclv_heap.specs.Stands.{Keeps, FitsDepth, deepest, depth_of}
use Rattle.tclv_heap.specs.Graph.{depth_in}
use Rattle.tclv_value.specs.Forms.{form_table}
use Rattle.tclv_value.specs.Places.{text_of}
use Rattle.tclv_value.specs.declared.forms.Form.{Form}
use Rattle.tclv_value.specs.declared.forms.Form.TheVariants as form

-- the elements of a form that is a list
abbrev pub list_in : Option Form → Option (List ℕ)
list_in None = None
list_in (Some (form.Whole n)) = None
list_in (Some (form.List items)) = Some items.ids

-- the objects that are the elements of an object's list form, where it has one
abbrev pub list_at : Graph Form → ℕ → Option (List ℕ)
list_at g o = list_in (form_in (at g o))

-- the object is kept as a list of these objects, which are there and stand for the elements of its text
pub record HasList (g : Graph Form) (o : ℕ) (f : Form) (ids : List ℕ) : Type 0 where
  pub form : form_in (at g o) ≡ Some f
  pub list : list_in (Some f) ≡ Some ids
  pub elements : elements (text_of g o) ≡ Ok (map (text_of g) ids)
  pub there : (p : ℕ) → 0 < occurs p ids → IsSome (at g p)
  pub depth : FitsDepth form_table g f (depth_in (at g o))

-- The depth is in range, and above that of each of these objects.
pub record IsAbove (g : Graph Form) (ids : List ℕ) (depth : ℕ) : Type 0 where
  pub low : 1 ≤ depth
  pub high : depth ≤ deepest
  pub above : (p : ℕ) → 0 < occurs p ids → depth_of (at g p) < depth

-- these are all holders outside the graph, and the object is one of theirs
pub record IsOutside (g : Graph Form) (o : ℕ) : Type 0 where
  pub ids : List ℕ
  pub holders : Holders form_table.parts g ids
  pub listed : 0 < occurs o ids

-- objects were made of these texts, one after another, and nothing else changed
pub record MakesTexts (old : Graph Form) (texts : List (List ℕ)) (new : Graph Form) (ids : List ℕ) : Type 0 where
  pub passes : Passes form_table.parts old [] new ids
  pub keeps : Keeps form_table old new
  pub says : map (text_of new) ids ≡ texts
  pub made : (p : ℕ) → 0 < occurs p ids
      → (at old p ≡ None) × (n : Object Form) × (at new p ≡ Some n) × IsSome n.text × (n.form ≡ None)
  pub others : (o : ℕ) → IsSome (at old o) → at new o ≡ at old o
