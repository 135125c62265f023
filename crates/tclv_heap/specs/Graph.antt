-- The graph of the objects of a heap: at each number the object there, or nothing.
use Rattle.std.specs.Prelude.{◌≡◌, ◌≢◌, ℕ, ◌+◌, ◌<◌, ◌≤◌, List, [], Option, Some, None, IsSome, eqb, count_by, slice_index_or, cond, min}
use Rattle.std.specs.List.{sum_by}
use Rattle.tclv_text.specs.declared.counters.Stats.{Stats}
use Rattle.tclv_heap.specs.declared.ids.Object.{Object}

abbrev pub Graph : Type 0 → Type 0
Graph F = List (Option (Object F))

-- what contracts see of a heap: its table of types, its graph, and how much work it did
pub record View (T F : Type 0) : Type 0 where
  pub types : T
  pub graph : Graph F
  pub stats : Stats

-- a count that stays for good: 2 ^ 64 - 1
abbrev pub stuck : ℕ
stuck = 18446744073709551615

-- how often a number stands in a list
abbrev pub occurs : ℕ → List ℕ → ℕ
occurs o ps = count_by (eqb o) ps

-- 1 where the two numbers are the same
abbrev pub same : ℕ → ℕ → ℕ
same o p = cond (eqb o p) 1 0

module _ {F : Type 0} where
  -- the object of a number
  abbrev pub at : Graph F → ℕ → Option (Object F)
  at g o = slice_index_or g o None

  -- what the object of a number has, and 0 or nothing where there is none
  abbrev pub count_in : Option (Object F) → ℕ
  count_in None = 0
  count_in (Some n) = n.count

  abbrev pub text_in : Option (Object F) → Option (List ℕ)
  text_in None = None
  text_in (Some n) = n.text

  abbrev pub form_in : Option (Object F) → Option F
  form_in None = None
  form_in (Some n) = n.form

  -- the depth that was kept with its form
  abbrev pub depth_in : Option (Object F) → ℕ
  depth_in None = 0
  depth_in (Some n) = n.depth

  -- an object that was just made: one holder has it
  abbrev pub new_object : Option (List ℕ) → Option F → ℕ → Object F
  new_object text form depth = record { count = 1; text = text; form = form; depth = depth; next = None }

  -- the object with another text, and without a form
  abbrev pub retexted : Object F → List ℕ → Object F
  retexted n text = record n { text = Some text; form = None; depth = 0 }

  -- the object with so many more holders, up to the count that stays
  abbrev pub counted_up : Object F → ℕ → Object F
  counted_up n more = record n { count = min (n.count + more) stuck }

  -- the new graph has this at the number, and every other number keeps what it had
  pub record Updates (old new : Graph F) (o : ℕ) (slot : Option (Object F)) : Type 0 where
    pub changed : at new o ≡ slot
    pub others : (x : ℕ) → x ≢ o → at new x ≡ at old x

  -- each object has a holder more for each time that it stands in the list, and nothing else changed
  pub record Shared (old : Graph F) (ids : List ℕ) (new : Graph F) : Type 0 where
    pub kept : (o : ℕ) (n : Object F) → at old o ≡ Some n → at new o ≡ Some (counted_up n (occurs o ids))
    pub none : (o : ℕ) → at old o ≡ None → at new o ≡ None

  -- this object is new, the others have a holder more for each time that they stand in the list
  pub record SharedBy (old : Graph F) (ids : List ℕ) (c : ℕ) (m : Object F) (new : Graph F) : Type 0 where
    pub fresh : at old c ≡ None
    pub changed : at new c ≡ Some m
    pub kept : (o : ℕ) (n : Object F) → at old o ≡ Some n → at new o ≡ Some (counted_up n (occurs o ids))
    pub none : (o : ℕ) → o ≢ c → at old o ≡ None → at new o ≡ None

module _ {F : Type 0} (parts : F → List ℕ) where
  abbrev pub form_parts : Option F → List ℕ
  form_parts None = []
  form_parts (Some f) = parts f

  -- the parts of the object of a number
  abbrev pub parts_at : Graph F → ℕ → List ℕ
  parts_at g o = form_parts (form_in (at g o))

  -- how often the object in a slot holds o
  abbrev pub holds : ℕ → Option (Object F) → ℕ
  holds o None = 0
  holds o (Some n) = occurs o (form_parts n.form)

  -- how often parts hold o: the rest of its count are its holders outside the graph
  unfoldable pub held : Graph F → ℕ → ℕ
  held g o = sum_by (holds o) g

  -- each way down from o ends, so no object on it reaches itself
  pub data IsGrounded (g : Graph F) : ℕ → Type 0 where
    ground : {o : ℕ} → ((p : ℕ) → 0 < holds p (at g o) → IsGrounded g p) → IsGrounded g o

  -- o leads down to p, or is p
  pub data Leads (g : Graph F) : ℕ → ℕ → Type 0 where
    here : {o : ℕ} → Leads g o o
    down : {o p q : ℕ} → 0 < holds p (at g o) → Leads g p q → Leads g o q

  -- the part of soundness that speaks of holders
  pub record IsCounted (g : Graph F) : Type 0 where
    -- each part is there
    pub there : (p : ℕ) → at g p ≡ None → held g p ≡ 0
    -- a count is at least 1, and counts each part that holds the object, unless it is stuck
    pub counts : (o : ℕ) (n : Object F) → at g o ≡ Some n → (1 ≤ n.count) × (n.count ≤ stuck)
    pub counted : (o : ℕ) (n : Object F) → at g o ≡ Some n → n.count ≢ stuck
        → held g o ≤ n.count
    -- no object reaches itself
    pub grounded : (o : ℕ) → IsGrounded g o
    -- no object is in the list of the dying
    pub unlinked : (o : ℕ) (n : Object F) → at g o ≡ Some n → n.next ≡ None

  -- the object is there, and has so many holders outside the graph, unless its count is stuck
  pub record HasOutside (g : Graph F) (o more : ℕ) : Type 0 where
    pub there : IsSome (at g o)
    pub outside : (n : Object F) → at g o ≡ Some n → n.count ≢ stuck → held g o + more ≤ n.count

  -- the caller holds each of these, so often as it stands here
  abbrev pub Takes : Graph F → List ℕ → Type 0
  Takes g ids = (p : ℕ) → 0 < occurs p ids → HasOutside g p (occurs p ids)

  -- a new object, which no part holds; every other number keeps what it had
  pub record Adds (old : Graph F) (id : ℕ) (object : Object F) (new : Graph F) : Type 0 where
    pub fresh : at old id ≡ None
    pub made : Updates old new id (Some object)
    pub free : held new id ≡ 0
