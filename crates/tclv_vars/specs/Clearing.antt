-- Cells that hold nothing any more: after an unset, and where names go with their cells.
use Rattle.std.specs.Prelude.{◌≡◌, ℕ, zero, suc, ◌-◌, ◌&&◌, ◌≢◌, Bool, true, false, not, nat_eq, nat_lt, if◌then◌else◌, is_some, List, [], ◌∷◌, length, Option, None, Some}
use Rattle.std.specs.List.{list_any}
use Rattle.std.specs.FinMap.{get, retain_keys}
use Rattle.tclv_names.specs.Keyed.{Text, Named, Numbers, values_of}
use Rattle.tclv_vars.specs.declared.parts.Slot.{Slot}
use Rattle.tclv_vars.specs.declared.parts.Content.{Content}
use Rattle.tclv_vars.specs.declared.parts.Content.TheVariants.{Plain, Array}
use Rattle.tclv_vars.specs.Scoping.{popped, last_names, at_frame}
use Rattle.tclv_vars.specs.Table.{Table, at_scopes, has_value}

-- The cells of an array's elements.
abbrev pub elements : Option Content → List ℕ
elements None = []
elements (Some Plain) = []
elements (Some (Array es)) = values_of es

-- Where a cell is cleared, it holds nothing, and neither do the cells of its elements.
abbrev pub freed : Numbers Content → ℕ → List ℕ
freed cs c = c ∷ elements (get cs c)

abbrev pub is_among : List ℕ → ℕ → Bool
is_among cs k = list_any (nat_eq k) cs

-- Nothing stands at these numbers.
abbrev pub without : {X : Type 0} → Numbers X → List ℕ → Numbers X
without m cs = retain_keys m (λ k. not (is_among cs k))

-- Where a name goes, its own cell is cleared. A link clears nothing.
abbrev pub frees : Numbers Content → ℕ → Slot → Bool
frees cs q s = s.own && is_among (freed cs s.cell) q

-- One of these names clears cell q.
abbrev pub gone : Numbers Content → Named Slot → ℕ → Bool
gone cs ns q = list_any (frees cs q) (values_of ns)

-- Nothing stands at the numbers of the cells that these names clear, where the cells hold cs.
abbrev pub without_names : {X : Type 0} → Numbers X → Numbers Content → Named Slot → Numbers X
without_names m cs ns = retain_keys m (λ q. not (gone cs ns q))

-- No name's own cell is that of another, nor that of another's element.
abbrev pub Apart : Numbers Content → Named Slot → Type 0
Apart cs ns = (n k : Text) (s o : Slot) → get ns n ≡ Some s → get ns k ≡ Some o → s.own ≡ true → o.own ≡ true → n ≢ k → is_among (freed cs s.cell) o.cell ≡ false

-- The last frame ends, with the cells of its own names.
abbrev pub ended : Table → Table
ended t = record t { scopes = popped t.scopes; contents = without_names t.contents t.contents (last_names t.scopes) }

-- The last frame is made current, and ends.
abbrev pub last_ended : Table → Table
last_ended t = ended (at_scopes t (at_frame t.scopes (length t.scopes.frames - 1)))

-- So many frames end, the last first.
unfoldable pub ended_by : ℕ → Table → Table
ended_by zero t = t
ended_by (suc n) t = ended_by n (last_ended t)

-- What is kept of the cells' texts then: the cells of the names of each frame go with it.
unfoldable pub left_by : {X : Type 0} → ℕ → Table → Numbers X → Numbers X
left_by zero t texts = texts
left_by (suc n) t texts = left_by n (last_ended t) (without_names texts t.contents (last_names t.scopes))

-- The frames behind the first `count` end, the last first.
abbrev pub ended_behind : ℕ → Table → Table
ended_behind count t = ended_by (length t.scopes.frames - count) t

-- What is kept of the cells' texts then.
abbrev pub left_behind : {X : Type 0} → ℕ → Table → Numbers X → Numbers X
left_behind count t texts = left_by (length t.scopes.frames - count) t texts

-- A frame is current, where it is there.
abbrev pub current_if_there : ℕ → Table → Table
current_if_there i t = if nat_lt i (length t.scopes.frames) then at_scopes t (at_frame t.scopes i) else t

-- The frames behind the first `count` end, and then this one is current, where it is there.
abbrev pub back_in : ℕ → ℕ → Table → Table
back_in count frame t = current_if_there frame (ended_behind count t)

-- All frames but the global one end, the last first, and the global one is current.
abbrev pub outermost : Table → Table
outermost t = let o = ended_by (length t.scopes.frames - 1) t in at_scopes o (at_frame o.scopes 0)

abbrev pub outermost_texts : {X : Type 0} → Table → Numbers X → Numbers X
outermost_texts t texts = left_by (length t.scopes.frames - 1) t texts

-- The global frame is there alone, and is current.
pub record IsOutermost (t : Table) : Type 0 where
  pub alone : length t.scopes.frames ≡ 1
  pub current : t.scopes.current ≡ 0

-- Each cell that holds a value has a text here, and no other one has.
abbrev pub Tied : {X : Type 0} → Table → Numbers X → Type 0
Tied t texts = (c : ℕ) → is_some (get texts c) ≡ has_value t c
