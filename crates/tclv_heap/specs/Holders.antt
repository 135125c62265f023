-- What the holders outside a heap know of its counts.
use Rattle.std.specs.Prelude.{◌≡◌, ◌≢◌, ℕ, ◌+◌, ◌<◌, List, ◌++◌, Some, IsSome}
use Rattle.tclv_heap.specs.declared.ids.Object.{Object}
use Rattle.tclv_heap.specs.Graph.{Graph, at, occurs, stuck, held}

-- the list names all outside holders: each of these objects is there, and each count that is not
-- stuck is that of the holding parts and of this list
pub record Holders {F : Type 0} (parts : F → List ℕ) (g : Graph F) (ids : List ℕ) : Type 0 where
  pub there : (o : ℕ) → 0 < occurs o ids → IsSome (at g o)
  pub counted : (o : ℕ) (n : Object F) → at g o ≡ Some n → n.count ≢ stuck
      → n.count ≡ held parts g o + occurs o ids

-- the holders of `taken` are no longer outside, those of `given` are new there, and the others stay
abbrev pub Passes : {F : Type 0} → (F → List ℕ) → Graph F → List ℕ → Graph F → List ℕ → Type 0
Passes parts old taken new given = (ids : List ℕ)
    → Holders parts old (taken ++ ids) → Holders parts new (given ++ ids)
