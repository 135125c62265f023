-- Texts that are made one after another, and taken away again where memory runs out.
use Rattle.std.specs.Prelude.{◌≡◌, ◌⊎◌, ℕ, ◌<◌, List, length, Some, None}
use Rattle.tclv_heap.specs.declared.ids.Object.{Object}
use Rattle.tclv_heap.specs.Table.{Table}
use Rattle.tclv_heap.specs.Graph.{Graph, at, occurs}
use Rattle.tclv_heap.specs.Stands.{Retexted}

-- texts were made, and each object that got one is noted: `before` and `after` are the notes
pub record Noted {F : Type 0} (t : Table F) (Among : ℕ → Type 0)
    (old : Graph F) (before : List ℕ) (new : Graph F) (after : List ℕ) : Type 0 where
  pub retexts : Retexted t (λ o. Among o × (0 < occurs o after)) old new
  pub grows : (o : ℕ) → 0 < occurs o before → 0 < occurs o after
  pub untold : (o : ℕ) → 0 < occurs o after
      → (0 < occurs o before) ⊎ ((n : Object F) × (at old o ≡ Some n) × (n.text ≡ None))
  pub len : length new ≡ length old

-- the texts of these objects are away, and nothing else changed
pub record Untexted {F : Type 0} (old : Graph F) (ids : List ℕ) (new : Graph F) : Type 0 where
  pub away : (o : ℕ) (n : Object F) → 0 < occurs o ids → at old o ≡ Some n
      → at new o ≡ Some (record n { text = None })
  pub others : (o : ℕ) → (0 < occurs o ids → ⊥) → at new o ≡ at old o
  pub len : length new ≡ length old
