-- The release of holders, and of the objects that they alone held.
use Rattle.std.specs.Prelude.{◌≡◌, ◌≢◌, ℕ, ◌+◌, ◌-◌, ◌<◌, ◌≤◌, List, [], ◌∷◌, Option, Some, None}
use Rattle.tclv_heap.specs.declared.ids.Object.{Object}
use Rattle.tclv_heap.specs.Graph.{Graph, at, occurs, stuck, held, IsGrounded, Updates}

module _ {F : Type 0} (parts : F → List ℕ) where
  -- an object that is still there: nothing but its count changed, and its outside holders by those of
  -- `ids`, but for those that are still to go
  pub record Remains (old new : Graph F) (ids pending : List ℕ) (o : ℕ) (was is : Object F) : Type 0 where
    pub text : is.text ≡ was.text
    pub form : is.form ≡ was.form
    pub depth : is.depth ≡ was.depth
    pub lower : is.count ≤ was.count
    pub stays : was.count ≡ stuck → is.count ≡ stuck
    pub loose : was.count ≢ stuck → is.count ≢ stuck
    pub counted : was.count ≢ stuck
        → is.count + (held parts old o + occurs o ids)
        ≡ was.count + (held parts new o + occurs o pending)

  -- outside holders of `ids` went, and all that they alone held, but for holders that are still to go
  pub record Dying (old : Graph F) (ids pending : List ℕ) (new : Graph F) : Type 0 where
    pub kept : (o : ℕ) (n : Object F) → at new o ≡ Some n
        → (w : Object F) × (at old o ≡ Some w) × Remains old new ids pending o w n
    -- an object that went had no other holder, and was not stuck
    pub gone : (o : ℕ) (w : Object F) → at old o ≡ Some w → at new o ≡ None
        → (w.count ≢ stuck) × (w.count ≡ held parts old o + occurs o ids)
    pub there : (o : ℕ) → at new o ≡ None → (held parts new o ≡ 0) × (occurs o pending ≡ 0)
    pub grounded : (o : ℕ) → IsGrounded parts new o

  -- outside holders of `ids` went, and exactly the objects that have no holder then
  abbrev pub Releases : Graph F → List ℕ → Graph F → Type 0
  Releases old ids new = Dying old ids [] new

-- The list of dying objects, which `release` keeps in the objects themselves.
module _ {F : Type 0} where
  -- from the head on, each object has count 0 and names the next
  pub data Chain (g : Graph F) : Option ℕ → List ℕ → Type 0 where
    end : Chain g None []
    more : {o : ℕ} {n : Object F} {ids : List ℕ} → at g o ≡ Some n → n.count ≡ 0
        → Chain g n.next ids → Chain g (Some o) (o ∷ ids)

  -- the objects with count 0 are those of the list, each once; the others name no next one
  pub record Listed (g : Graph F) (head : Option ℕ) : Type 0 where
    pub ids : List ℕ
    pub chain : Chain g head ids
    pub complete : (o : ℕ) (n : Object F) → at g o ≡ Some n → n.count ≡ 0 → 0 < occurs o ids
    pub once : (o : ℕ) → occurs o ids ≤ 1
    pub unlinked : (o : ℕ) (n : Object F) → at g o ≡ Some n → 1 ≤ n.count → n.next ≡ None

  -- `drop_holder` took `old` to `new`, where `head` was the first of the list and `first` is now
  pub record DropsHolder (old new : Graph F) (p : ℕ) (head first : Option ℕ) : Type 0 where
    pub stays : (n : Object F) → at old p ≡ Some n → n.count ≡ stuck
        → (new ≡ old) × (first ≡ head)
    pub lowers : (n : Object F) → at old p ≡ Some n → n.count ≢ stuck → 2 ≤ n.count
        → Updates old new p (Some (record n { count = n.count - 1 })) × (first ≡ head)
    pub dies : (n : Object F) → at old p ≡ Some n → n.count ≡ 1
        → Updates old new p (Some (record n { count = 0; next = head })) × (first ≡ Some p)

module _ {F : Type 0} (parts : F → List ℕ) where
  -- each count is at most the greatest, and one that is not stuck counts the holding parts and these
  abbrev pub Enough : Graph F → List ℕ → Type 0
  Enough old ids = (o : ℕ) (w : Object F) → at old o ≡ Some w
      → (w.count ≤ stuck) × (w.count ≢ stuck → held parts old o + occurs o ids ≤ w.count)

  -- holders that are to go, beside a list of dying objects
  pub record Ready (g : Graph F) (pending : List ℕ) (head : Option ℕ) : Type 0 where
    pub enough : Enough g pending
    pub there : (o : ℕ) → at g o ≡ None → (held parts g o ≡ 0) × (occurs o pending ≡ 0)
    pub grounded : (o : ℕ) → IsGrounded parts g o
    pub listed : Listed g head
