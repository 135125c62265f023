-- An object that is open: its form was taken out, and is not back.
use Rattle.std.specs.Prelude.{◌≡◌, ◌≢◌, ℕ, ◌<◌, List, map, Option, Some, None, IsSome}
use Rattle.tclv_heap.specs.declared.ids.Object.{Object}
use Rattle.tclv_heap.specs.Table.{Table}
use Rattle.tclv_heap.specs.Graph.{Graph, at, text_in, form_in, holds, Leads}
use Rattle.tclv_heap.specs.Stands.{stands, Tells}

module _ {F : Type 0} where
  -- the object of a slot has neither text nor form
  abbrev pub IsOpen : Option (Object F) → Type 0
  IsOpen None = ⊥
  IsOpen (Some n) = (n.text ≡ None) × (n.form ≡ None)

  -- each other object has a text or a form
  abbrev pub IsClosedBut : Graph F → ℕ → Type 0
  IsClosedBut g o = (x : ℕ) → x ≢ o → Tells g x

module _ {F : Type 0} (parts : F → List ℕ) where
  -- no other object that leads down to this one has a text
  abbrev pub IsUntold : Graph F → ℕ → Type 0
  IsUntold g o = (x : ℕ) → x ≢ o → Leads parts g x o → text_in (at g x) ≡ None

  -- each object that holds this one has a greater depth
  abbrev pub IsBelow : Graph F → ℕ → ℕ → Type 0
  IsBelow g o depth = (x : ℕ) (n : Object F) → at g x ≡ Some n → 0 < holds parts o (Some n) → depth < n.depth

module _ {F : Type 0} (t : Table F) where
  -- each object that was there and doesn't lead down to this one stands for the same
  abbrev pub SaysSameBelow : ℕ → Graph F → Graph F → Type 0
  SaysSameBelow o old new = (x : ℕ) → (Leads t.parts old x o → ⊥) → IsSome (at old x)
      → stands t new x ≡ stands t old x

  -- each object without a text stands for what its form spells from what its parts stand for
  abbrev pub SaysByForm : Graph F → Type 0
  SaysByForm g = (x : ℕ) (f : F) → form_in (at g x) ≡ Some f → text_in (at g x) ≡ None
      → stands t g x ≡ t.spelled f (map (stands t g) (t.parts f))
