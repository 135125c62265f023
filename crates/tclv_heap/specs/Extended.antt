-- A text that gets longer in place.
use Rattle.std.specs.Prelude.{◌≡◌, ℕ, List, ◌++◌, Option, Some, slice_set}
use Rattle.tclv_heap.specs.declared.ids.Object.{Object}
use Rattle.tclv_heap.specs.Graph.{Graph, at, text_in, retexted}

-- The text of another object was added to that of this one, whose form is out. Nothing else changed.
abbrev pub Extends : {F : Type 0} → Graph F → ℕ → ℕ → Graph F → Option F → Type 0
Extends {F} old id more new form = (n : Object F) (s t : List ℕ) → at old id ≡ Some n → n.text ≡ Some s → text_in (at old more) ≡ Some t
    → (new ≡ slice_set old id (Some (retexted n (s ++ t)))) × (form ≡ n.form)
