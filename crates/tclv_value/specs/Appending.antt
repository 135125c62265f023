-- A list object that gets one more element in place.
use Rattle.std.specs.Prelude.{◌≡◌, ◌≢◌, ℕ, ◌<◌, List, [], ◌∷◌, ◌++◌, map, Option, Some, None, IsSome}
use Rattle.tclv_text.specs.Quotes.{list_text}
use Rattle.tclv_forms.specs.Lists.{Items}
use Rattle.tclv_heap.specs.Graph.{Graph, at, occurs, count_in}
use Rattle.tclv_heap.specs.Holders.{Holders, Passes}
use Rattle.tclv_heap.specs.Stands.{IsSound, IsClosed, Keeps, deepest, depth_of}
use Rattle.tclv_value.specs.Forms.{form_table}
use Rattle.tclv_value.specs.Kept.{list_in, list_at}
use Rattle.tclv_value.specs.Places.{text_of, made_of}
use Rattle.tclv_value.specs.declared.forms.Form.{Form}
use Rattle.tclv_value.specs.declared.forms.Form.TheVariants as form

-- There is room for one more element: in the next list, which has the elements of the form, or in the form itself where there is no next list.
abbrev pub HasRoom : Option Items → Form → Type 0
HasRoom None (form.Whole n) = ⊥
HasRoom None (form.List items) = 0 < items.room
HasRoom (Some next) f = (list_in (Some f) ≡ Some next.ids) × (0 < next.room)

-- The object is kept as a list, and one place alone has it. Another holder outside has the value, which has its text or is less than 50 deep.
pub record CanAppend (g : Graph Form) (id value : ℕ) : Type 0 where
  pub list : IsSome (list_at g id)
  pub alone : count_in (at g id) ≡ 1
  pub out : List ℕ
  pub holders : Holders form_table.parts g (value ∷ out)
  pub listed : 0 < occurs id out
  pub shallow : depth_of (at g value) < deepest
  pub sound : IsSound form_table g
  pub closed : IsClosed g

-- The copy is a new object, which one holder outside has, with the same elements as the object. Nothing else changed but counts.
pub record CopiesList (old : Graph Form) (id : ℕ) (new : Graph Form) (copy : ℕ) : Type 0 where
  pub fresh : at old copy ≡ None
  pub list : list_at new copy ≡ list_at old id
  pub alone : count_in (at new copy) ≡ 1
  pub there : (o : ℕ) → IsSome (at old o) → IsSome (at new o)
  pub depths : (o : ℕ) → IsSome (at old o) → depth_of (at new o) ≡ depth_of (at old o)
  pub made : (o : ℕ) → IsSome (at old o) → made_of new o ≡ made_of old o
  pub passes : Passes form_table.parts old [] new (copy ∷ [])
  pub keeps : Keeps form_table old new

-- The value is the last element of the object's list, and the object holds it in place of the holder outside. Nothing else changed.
pub record Appended (old : Graph Form) (id value : ℕ) (new : Graph Form) : Type 0 where
  pub elements : List ℕ
  pub was : list_at old id ≡ Some elements
  pub list : list_at new id ≡ Some (elements ++ value ∷ [])
  pub says : text_of new id ≡ list_text (map (text_of old) (elements ++ value ∷ []))
  pub others : (x : ℕ) → x ≢ id → at new x ≡ at old x
  pub texts : (x : ℕ) → x ≢ id → IsSome (at old x) → text_of new x ≡ text_of old x
  pub passes : Passes form_table.parts old (value ∷ []) new []
  pub sound : IsSound form_table new
  pub closed : IsClosed new
