-- Lists by the objects that stand behind places.
use Rattle.std.specs.Prelude.{◌≡◌, ℕ, ◌+◌, ◌-◌, ◌<◌, ◌≤◌, length, List, Option, Some, None, IsSome, IsOkAnd, slice_index}
use Rattle.tclv_text.specs.declared.counters.Stats.{Stats}
use Rattle.tclv_text.specs.Elements.{elements}
use Rattle.tclv_forms.specs.Lists.{spliced}
use Rattle.tclv_heap.specs.Counters.{raised}
use Rattle.tclv_heap.specs.Graph.{Graph, at, count_in, text_in}
use Rattle.tclv_heap.specs.Stands.{deepest, depth_of}
use Rattle.tclv_value.specs.Changes.{IsUnder}
use Rattle.tclv_value.specs.Kept.{list_at}
use Rattle.tclv_value.specs.Places.{text_of}
use Rattle.tclv_value.specs.Setting.{copied_more}
use Rattle.tclv_value.specs.Stacks.{top}
use Rattle.tclv_value.specs.View.{View, HasPlace, id_of, text_at}
use Rattle.tclv_value.specs.declared.forms.Form.{Form}
use Rattle.tclv_value.specs.declared.places.At.{At}
use Rattle.tclv_value.specs.declared.places.At.TheVariants.{Stack}

-- the object of a place is kept as a list
abbrev pub IsListAt : View → At → Type 0
IsListAt v place = IsSome (list_at v.graph (id_of v place))

-- how many holders the object of a place has
abbrev pub count_at : View → At → ℕ
count_at v place = count_in (at v.graph (id_of v place))

-- one holder alone has the object of a place
abbrev pub IsAloneAt : View → At → Type 0
IsAloneAt v place = count_at v place ≡ 1

-- each object that was there is there
abbrev pub ObjectsStay : View → View → Type 0
ObjectsStay old new = (o : ℕ) → IsSome (at old.graph o) → IsSome (at new.graph o)

-- how deep values without a text nest from the object of a place on
abbrev pub depth_at : View → At → ℕ
depth_at v place = depth_of (at v.graph (id_of v place))

-- each of the top n texts is less than 50 deep
abbrev pub IsShallow : ℕ → View → Type 0
IsShallow n v = (k : ℕ) → k < n → depth_at v (Stack (length v.stack - n + k)) < deepest

-- the object of a place was not there before
abbrev pub IsNewAt : View → View → At → Type 0
IsNewAt old new place = at old.graph (id_of new place) ≡ None

-- Where each of the top n texts is less than 50 deep, their list is kept as one, and no counter rose.
unfoldable pub SharesTop : View → ℕ → View → Type 0
SharesTop old n new = IsShallow n old → IsListAt new (Stack (length old.stack - n)) × (new.stats ≡ old.stats)

-- The change happened in the object of the place where one holder alone had it, and else in a new one. The object that the place has now is kept as a list.
unfoldable pub ChangesAt : View → At → View → Type 0
ChangesAt old place new = IsListAt new place × (IsAloneAt old place → id_of new place ≡ id_of old place) × ((IsAloneAt old place → ⊥) → IsNewAt old new place)

-- Where the object of the place was kept as a list, the objects of the top n stand in its list now in place of those from one place up to another. Where each of the top n was
-- less than 50 deep, no counter rose but that of copied elements: by all elements of the list, where the change happened in a new object.
unfoldable pub SharesBetween : View → At → ℕ → ℕ → ℕ → View → Type 0
SharesBetween old place from to n new = (ids : List ℕ) → list_at old.graph (id_of old place) ≡ Some ids
    → (list_at new.graph (id_of new place) ≡ Some (spliced ids from to (top n old.stack_ids)))
    × (IsShallow n old → IsAloneAt old place → new.stats ≡ old.stats)
    × (IsShallow n old → (IsAloneAt old place → ⊥) → new.stats ≡ record old.stats { copied = raised old.stats.copied (length ids) })

-- The same object stands behind the place and is kept as a list; where that has an element with this number, the element's object was pushed. Where the object was kept
-- as a list before, it has the same elements, and no counter rose.
unfoldable pub SharesElement : View → At → ℕ → View → Type 0
SharesElement old place k new =
    (ids : List ℕ) × (list_at new.graph (id_of new place) ≡ Some ids)
    × (id_of new place ≡ id_of old place)
    × (k < length ids → id_of new (Stack (length old.stack)) ≡ slice_index ids k)
    × (IsListAt old place → (list_at old.graph (id_of old place) ≡ Some ids) × (new.stats ≡ old.stats))

-- The list has an element with this number, and the element's text is made.
abbrev pub HasMade : Graph Form → Option (List ℕ) → ℕ → Type 0
HasMade g None k = ⊥
HasMade g (Some ids) k = (k < length ids) × IsSome (text_in (at g (slice_index ids k)))

-- The object of a place is kept as a list, which has an element with this number whose text is made.
abbrev pub IsElementMade : View → At → ℕ → Type 0
IsElementMade v place k = HasMade v.graph (list_at v.graph (id_of v place)) k

-- the same object stands behind each place
pub record KeepsPlaces (old new : View) : Type 0 where
  pub stack : new.stack_ids ≡ old.stack_ids
  pub cells : new.cell_ids ≡ old.cell_ids

-- The same objects are there as before, and stand behind the same places. Each has the list and the holders that it had, and is no deeper.
pub record Retells (old new : View) : Type 0 where
  pub places : KeepsPlaces old new
  pub there : (o : ℕ) → IsSome (at old.graph o) → IsSome (at new.graph o)
  pub lists : (o : ℕ) → list_at new.graph o ≡ list_at old.graph o
  pub counts : (o : ℕ) → count_in (at new.graph o) ≡ count_in (at old.graph o)
  pub depths : (o : ℕ) → depth_of (at new.graph o) ≤ depth_of (at old.graph o)

-- Below the top n texts the same object stands behind each place, and is kept as a list where it was. No counter rose.
pub record KeepsLists (old : View) (n : ℕ) (new : View) : Type 0 where
  pub ids : (place : At) → IsUnder old n place → id_of new place ≡ id_of old place
  pub lists : (place : At) → IsUnder old n place → IsListAt old place → IsListAt new place
  pub stats : new.stats ≡ old.stats

-- the same object stands behind each cell, and no counter rose
unfoldable pub KeepsCells : View → View → Type 0
KeepsCells old new = (new.cell_ids ≡ old.cell_ids) × (new.stats ≡ old.stats)

-- The same objects stand behind the places, none went, and that of this place has the holders that it had.
pub record KeepsObjects (old : View) (place : At) (new : View) : Type 0 where
  pub places : KeepsPlaces old new
  pub there : ObjectsStay old new
  pub count : count_at new place ≡ count_at old place

-- What each view of a store is: the text of a place is what its object stands for, and each text of the stack has an object.
pub record IsTold (v : View) : Type 0 where
  pub text : (place : At) → HasPlace v place → text_at v place ≡ text_of v.graph (id_of v place)
  pub heights : length v.stack_ids ≡ length v.stack

-- What the top n texts became the last elements of: the object of the place stays exactly where one holder alone had it, and else the place has a new one. Where it was kept as a
-- list and each of the n was less than 50 deep, no counter rose but that of copied elements, by those of the list, where others had the object too.
unfoldable pub AppendsTop : View → At → ℕ → View → Type 0
AppendsTop old place n new =
    (IsAloneAt old place → id_of new place ≡ id_of old place)
    × ((IsAloneAt old place → ⊥) → IsNewAt old new place)
    × ((ids : List ℕ) → list_at old.graph (id_of old place) ≡ Some ids → IsShallow n old
    → (IsAloneAt old place → new.stats ≡ old.stats) × ((IsAloneAt old place → ⊥) → new.stats ≡ copied_more old.stats (length ids)))

-- An object came to be kept as a list: where it wasn't one, the code points of its text are counted as read, and else none. None is counted as copied.
unfoldable pub CountsRead : Stats → Graph Form → ℕ → Stats → Type 0
CountsRead before g id after =
    (IsSome (list_at g id) → after.read ≡ before.read)
    × ((IsSome (list_at g id) → ⊥) → after.read ≡ raised before.read (length (text_of g id)))
    × (after.copied ≡ before.copied)

-- Where the object of the place was not kept as a list, the code points of its text are counted as read, and else none.
unfoldable pub ReadsAt : View → At → View → Type 0
ReadsAt old place new =
    (IsListAt old place → new.stats.read ≡ old.stats.read)
    × ((IsListAt old place → ⊥) → new.stats.read ≡ raised old.stats.read (length (text_at old place)))

-- Where others had the object of the place too, the elements of its list are counted as copied, and else none.
unfoldable pub CopiesAt : View → At → View → Type 0
CopiesAt old place new =
    (IsAloneAt old place → new.stats.copied ≡ old.stats.copied)
    × ((IsAloneAt old place → ⊥) → IsOkAnd (elements (text_at old place)) (λ ts. new.stats.copied ≡ raised old.stats.copied (length ts)))

-- no elements are counted as copied
unfoldable pub CopiesNone : View → View → Type 0
CopiesNone old new = new.stats.copied ≡ old.stats.copied

-- nothing is counted but code points that were written
unfoldable pub OnlyWrites : View → View → Type 0
OnlyWrites old new = (new.stats.read ≡ old.stats.read) × (new.stats.copied ≡ old.stats.copied)

-- Where the object of the place was kept as a list and others had it too, and the top text was less than 50 deep, no counter rose but that of copied elements, by those of the list.
unfoldable pub CopiesShared : View → At → View → Type 0
CopiesShared old place new =
    (ids : List ℕ) → list_at old.graph (id_of old place) ≡ Some ids → (IsAloneAt old place → ⊥)
    → depth_at old (Stack (length old.stack - 1)) < deepest → new.stats ≡ copied_more old.stats (length ids)
