-- A list object in which elements give way to other values, in place.
use Rattle.std.specs.Prelude.{◌≡◌, ◌≢◌, ℕ, ◌<◌, ◌≤◌, List, [], ◌++◌, map, length, Option, Some, None, IsSome}
use Rattle.tclv_text.specs.Quotes.{list_text}
use Rattle.tclv_forms.specs.Lists.{Items, spliced, between}
use Rattle.tclv_heap.specs.Graph.{Graph, at, occurs, count_in, text_in, form_in}
use Rattle.tclv_heap.specs.Holders.{Holders, Passes}
use Rattle.tclv_heap.specs.Stands.{IsSound, IsClosed, Keeps, deepest, depth_of}
use Rattle.tclv_value.specs.Forms.{form_table}
use Rattle.tclv_value.specs.Kept.{list_at}
use Rattle.tclv_value.specs.Places.{text_of, made_of}
use Rattle.tclv_value.specs.declared.forms.Form.{Form}
use Rattle.tclv_value.specs.declared.forms.Form.TheVariants as form

-- The list that a form becomes where values stand in place of elements: the next list, or the form's own one, which has room for them behind its last element.
abbrev pub IsNext : Form → ℕ → ℕ → List ℕ → Option Items → Type 0
IsNext (form.Whole n) from to values next = ⊥
IsNext (form.List items) from to values None = (length items.ids ≤ from) × (length values ≤ items.room)
IsNext (form.List items) from to values (Some next) = next.ids ≡ spliced items.ids from to values

-- the elements from one place up to another of a list that was taken away, if one was
abbrev pub gone_from : Option Items → ℕ → ℕ → List ℕ
gone_from None from to = []
gone_from (Some items) from to = between items.ids from to

-- The object is kept as a list, and one place alone has it. Other holders outside have the values, each of which has its text or is less than 50 deep.
pub record CanReplace (g : Graph Form) (id : ℕ) (values : List ℕ) : Type 0 where
  pub list : IsSome (list_at g id)
  pub alone : count_in (at g id) ≡ 1
  pub out : List ℕ
  pub holders : Holders form_table.parts g (values ++ out)
  pub listed : 0 < occurs id out
  pub shallow : (p : ℕ) → 0 < occurs p values → depth_of (at g p) < deepest
  pub sound : IsSound form_table g
  pub closed : IsClosed g

-- Outside holders of these objects went, and what they alone held. What is left has the text and the form that it had.
pub record Loses (old : Graph Form) (ids : List ℕ) (new : Graph Form) : Type 0 where
  pub passes : Passes form_table.parts old ids new []
  pub keeps : Keeps form_table old new
  pub there : (o : ℕ) → IsSome (at new o) → IsSome (at old o)
  pub text : (o : ℕ) → IsSome (at new o) → text_in (at new o) ≡ text_in (at old o)
  pub form : (o : ℕ) → IsSome (at new o) → form_in (at new o) ≡ form_in (at old o)

-- The values stand in the object's list in place of the elements from one place up to another, and the object holds them in place of the holders outside. What it held alone
-- went. Each other object that is left has the text that it had, made where it was.
pub record Replaced (old : Graph Form) (id from to : ℕ) (values : List ℕ) (new : Graph Form) : Type 0 where
  pub elements : List ℕ
  pub was : list_at old id ≡ Some elements
  pub list : list_at new id ≡ Some (spliced elements from to values)
  pub says : text_of new id ≡ list_text (map (text_of old) (spliced elements from to values))
  pub there : (x : ℕ) → IsSome (at new x) → IsSome (at old x)
  pub texts : (x : ℕ) → x ≢ id → IsSome (at new x) → text_of new x ≡ text_of old x
  pub made : (x : ℕ) → x ≢ id → IsSome (at new x) → made_of new x ≡ made_of old x
  pub passes : Passes form_table.parts old values new []
  pub sound : IsSound form_table new
  pub closed : IsClosed new
