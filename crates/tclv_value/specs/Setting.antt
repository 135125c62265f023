-- A list object where one element is set.
use Rattle.std.specs.Prelude.{◌≡◌, ◌≢◌, ℕ, ◌<◌, length, List, [], ◌∷◌, ◌++◌, map, Option, Some, None, IsSome, slice_get}
use Rattle.std.specs.Option.{option_to_list, unwrap_or}
use Rattle.tclv_text.specs.Quotes.{list_text}
use Rattle.tclv_forms.specs.Lists.{Items}
use Rattle.tclv_heap.specs.Graph.{Graph, at, occurs, count_in, depth_in, form_in}
use Rattle.tclv_text.specs.declared.counters.Stats.{Stats}
use Rattle.tclv_heap.specs.Counters.{raised}
use Rattle.tclv_heap.specs.Holders.{Holders, Passes}
use Rattle.tclv_heap.specs.Stands.{IsSound, IsClosed, Keeps, deepest, depth_of}
use Rattle.tclv_value.specs.Appending.{HasRoom}
use Rattle.tclv_value.specs.Forms.{form_table}
use Rattle.tclv_value.specs.Kept.{list_at}
use Rattle.tclv_value.specs.Paths.{put_at}
use Rattle.tclv_value.specs.Places.{text_of, made_of, TextsStay}
use Rattle.tclv_value.specs.declared.forms.Form.{Form}
use Rattle.tclv_value.specs.declared.forms.Form.TheVariants as form

-- The object is kept as a list, and one holder outside alone has it. These objects have holders outside beside it.
pub record CanSwap (g : Graph Form) (id : ℕ) (ids : List ℕ) : Type 0 where
  pub list : IsSome (list_at g id)
  pub alone : count_in (at g id) ≡ 1
  pub out : List ℕ
  pub holders : Holders form_table.parts g (ids ++ out)
  pub listed : 0 < occurs id out
  pub sound : IsSound form_table g
  pub closed : IsClosed g

-- The object is a list of these objects, and its old elements have holders outside in their place. Nothing else changed.
pub record Swaps (old : Graph Form) (id : ℕ) (ids : List ℕ) (depth : ℕ) (new : Graph Form) (gone : List ℕ) : Type 0 where
  pub was : list_at old id ≡ Some gone
  pub list : list_at new id ≡ Some ids
  pub says : text_of new id ≡ list_text (map (text_of old) ids)
  pub deep : depth_of (at new id) ≡ depth
  pub own : depth_in (at new id) ≡ depth
  pub alone : count_in (at new id) ≡ 1
  pub others : (x : ℕ) → x ≢ id → at new x ≡ at old x
  pub texts : (x : ℕ) → x ≢ id → IsSome (at old x) → text_of new x ≡ text_of old x
  pub passes : Passes form_table.parts old ids new gone
  pub sound : IsSound form_table new
  pub closed : IsClosed new

-- where the place is the one behind the last, there is room for one more element
abbrev pub HasRoomAt : ℕ → Option Items → Items → Type 0
HasRoomAt place next list = place ≡ length list.ids → HasRoom next (form.List list)

-- The value is the element at the place of the object's list, and the object holds it in place of the holder outside. The element that was there has that
-- holder. Nothing else changed.
pub record SetsElement (old : Graph Form) (id place value : ℕ) (new : Graph Form) (gone : Option ℕ) : Type 0 where
  pub elements : List ℕ
  pub was : list_at old id ≡ Some elements
  pub leaves : gone ≡ slice_get elements place
  pub list : list_at new id ≡ Some (put_at elements place value)
  pub says : text_of new id ≡ list_text (put_at (map (text_of old) elements) place (text_of old value))
  pub alone : count_in (at new id) ≡ 1
  pub others : (x : ℕ) → x ≢ id → at new x ≡ at old x
  pub texts : (x : ℕ) → x ≢ id → IsSome (at old x) → text_of new x ≡ text_of old x
  pub passes : Passes form_table.parts old (value ∷ []) new (option_to_list gone)
  pub sound : IsSound form_table new
  pub closed : IsClosed new

-- One holder outside alone has the object, which is kept as a list. Another one has the value, which has its text or is less than 50 deep.
pub record CanChange (g : Graph Form) (id value : ℕ) : Type 0 where
  pub list : IsSome (list_at g id)
  pub alone : count_in (at g id) ≡ 1
  pub apart : value ≢ id
  pub out : List ℕ
  pub holders : Holders form_table.parts g out
  pub listed : 0 < occurs id out
  pub valued : 0 < occurs value out
  pub shallow : depth_of (at g value) < deepest
  pub sound : IsSound form_table g
  pub closed : IsClosed g

-- the text of the object's list where the value is at the place
abbrev pub text_with : Graph Form → ℕ → ℕ → ℕ → List ℕ
text_with g id place value = list_text (put_at (map (text_of g) (unwrap_or (list_at g id) [])) place (text_of g value))

-- The object is a list with this text. What each other object that is there still stands for stays, and whether its text is made.
pub record ListChanged (old : Graph Form) (id : ℕ) (t : List ℕ) (new : Graph Form) : Type 0 where
  pub list : IsSome (list_at new id)
  pub says : text_of new id ≡ t
  pub passes : (out : List ℕ) → Holders form_table.parts old out → 0 < occurs id out → Holders form_table.parts new out
  pub texts : (x : ℕ) → x ≢ id → IsSome (at old x) → IsSome (at new x) → text_of new x ≡ text_of old x
  pub made : (x : ℕ) → x ≢ id → IsSome (at old x) → IsSome (at new x) → made_of new x ≡ made_of old x
  pub sound : IsSound form_table new
  pub closed : IsClosed new

-- A new object, which one holder outside has, is a list with this text. Nothing else changed but what counts and forms say of holders.
pub record MakesList (old : Graph Form) (new : Graph Form) (id : ℕ) (t : List ℕ) : Type 0 where
  pub fresh : at old id ≡ None
  pub list : IsSome (list_at new id)
  pub says : text_of new id ≡ t
  pub passes : Passes form_table.parts old [] new (id ∷ [])
  pub keeps : Keeps form_table old new
  pub texts : TextsStay old new

-- an object, if there is one, lost a holder outside
pub record LetsGo (old : Graph Form) (gone : Option ℕ) (new : Graph Form) : Type 0 where
  pub passes : Passes form_table.parts old (option_to_list gone) new []
  pub keeps : Keeps form_table old new
  pub there : (o : ℕ) → IsSome (at new o) → IsSome (at old o)
  pub forms : (o : ℕ) → IsSome (at new o) → form_in (at new o) ≡ form_in (at old o)
  pub made : (o : ℕ) → IsSome (at new o) → made_of new o ≡ made_of old o
  pub depths : (o : ℕ) → IsSome (at new o) → depth_of (at new o) ≡ depth_of (at old o)
  pub alone : (o : ℕ) → IsSome (at new o) → count_in (at old o) ≡ 1 → count_in (at new o) ≡ 1

-- the counters where so many elements more were copied
abbrev pub copied_more : Stats → ℕ → Stats
copied_more stats more = record stats { copied = raised stats.copied more }
