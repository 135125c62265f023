-- What is left of the objects of a store.
use Rattle.std.specs.Prelude.{◌≡◌, ℕ}
use Rattle.tclv_heap.specs.Graph.{Graph, at, count_in, stuck, Leads}
use Rattle.tclv_value.specs.Forms.{parts_of}
use Rattle.tclv_value.specs.declared.forms.Form.{Form}

-- An object whose count stays for good leads down to this one, or is it.
pub record IsHeldForGood (g : Graph Form) (o : ℕ) : Type 0 where
  pub holder : ℕ
  pub stays : count_in (at g holder) ≡ stuck
  pub leads : Leads parts_of g holder o
