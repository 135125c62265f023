-- What a value that is put at the end of a path into a list does to the objects.
use Rattle.std.specs.Prelude.{◌≡◌, ◌≢◌, ◌↔◌, ℕ, ◌+◌, ◌-◌, ◌<◌, length, take, IsOkAnd}
use Rattle.tclv_text.specs.Elements.{elements}
use Rattle.tclv_heap.specs.Stands.{deepest}
use Rattle.tclv_value.specs.ListObjects.{IsListAt, IsAloneAt, IsNewAt, depth_at}
use Rattle.tclv_value.specs.Paths.{NamesElement}
use Rattle.tclv_value.specs.Setting.{copied_more}
use Rattle.tclv_value.specs.Stacks.{top}
use Rattle.tclv_value.specs.View.{View, IsMade, id_of, text_at}
use Rattle.tclv_value.specs.Ways.{LeadsOpen}
use Rattle.tclv_value.specs.declared.faults.ValueFault.{ValueFault}
use Rattle.tclv_value.specs.declared.faults.ValueFault.TheVariants as fault
use Rattle.tclv_value.specs.declared.places.At.{At}
use Rattle.tclv_value.specs.declared.places.At.TheVariants.{Stack}

-- The object of the place is kept as a list, and no other holder has it.
abbrev pub IsAloneList : View → At → Type 0
IsAloneList v place = IsListAt v place × IsAloneAt v place

-- The path is one index, which lies below the value. Its text is made, and the value on top is less than 50 deep.
abbrev pub IsReady : View → ℕ → Type 0
IsReady v path = (path ≡ 1) × IsMade v (Stack (length v.stack - 2)) × (depth_at v (Stack (length v.stack - 1)) < deepest)

-- Along a path of one index the same object stands at the place afterwards exactly where no other holder has it, also where its text is read as a list only now.
unfoldable pub SetsInPlace : View → At → ℕ → View → Type 0
SetsInPlace old place path new = path ≡ 1 → IsAloneAt old place ↔ (id_of new place ≡ id_of old place)

-- Along a path of one index into a list object that has other holders, a new object stands there.
unfoldable pub SetsInCopy : View → At → ℕ → View → Type 0
SetsInCopy old place path new = path ≡ 1 → IsListAt old place → (IsAloneAt old place → ⊥) → IsNewAt old new place

-- After a path of one index the object of the place is kept as a list.
unfoldable pub MakesListAt : ℕ → At → View → Type 0
MakesListAt path place new = path ≡ 1 → IsListAt new place

-- Into an object that no other holder has, by a path that is ready: no counter rises.
unfoldable pub SetsWithoutWork : View → At → ℕ → View → Type 0
SetsWithoutWork old place path new = IsReady old path → IsAloneList old place → new.stats ≡ old.stats

-- Into a list object that has other holders, by a path that is ready: the elements of that one list are counted as copied, and no other counter rises.
unfoldable pub CopiesElements : View → At → ℕ → View → Type 0
CopiesElements old place path new = IsReady old path → IsListAt old place → (IsAloneAt old place → ⊥) → IsOkAnd (elements (text_at old place)) (λ ts. new.stats ≡ copied_more old.stats (length ts))

-- Want of memory is no answer where a path that is ready names an element of a list object that no other holder has.
unfoldable pub NeedsNoMemory : View → At → ℕ → ValueFault → Type 0
NeedsNoMemory old place path why = IsReady old path → IsAloneList old place → NamesElement (text_at old place) (text_at old (Stack (length old.stack - 2))) → why ≢ fault.NoMemory

-- The texts of the indices of a path, which lie below the value, are made. From the object of the place on, along the path, each object is kept as a list and has one holder alone,
-- and each depth stays in bounds with the value at the end.
pub record IsOpenAt (v : View) (place : At) (path : ℕ) : Type 0 where
  pub made : (k : ℕ) → k < path → IsMade v (Stack (length v.stack - (path + 1) + k))
  pub leads : LeadsOpen v.graph (id_of v (Stack (length v.stack - 1))) deepest (id_of v place) (take path (top (path + 1) v.stack_ids))

-- Along a path of any length that is open the same object stands at the place afterwards, which is kept as a list, and no counter rises.
unfoldable pub SetsAlong : View → At → ℕ → View → Type 0
SetsAlong old place path new = IsOpenAt old place path → (id_of new place ≡ id_of old place) × IsListAt new place × (new.stats ≡ old.stats)
