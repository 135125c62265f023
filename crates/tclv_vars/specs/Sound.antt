-- What is true of the tables at every call.
use Rattle.std.specs.Prelude.{◌≡◌, ◌≢◌, ℕ, ◌+◌, ◌<◌, true, Some, length}
use Rattle.std.specs.FinMap.{get}
use Rattle.tclv_text.specs.Texts.{IsText}
use Rattle.tclv_names.specs.Keyed.{Text, Named}
use Rattle.tclv_vars.specs.declared.parts.Slot.{Slot}
use Rattle.tclv_vars.specs.declared.parts.Content.{Content}
use Rattle.tclv_vars.specs.declared.parts.Content.TheVariants.{Array}
use Rattle.tclv_vars.specs.declared.places.Home.{Home}
use Rattle.tclv_vars.specs.declared.places.Home.TheVariants.{Of}
use Rattle.tclv_vars.specs.Scoping.{Scoping, home_of, slot_of, level_of, caller_of}
use Rattle.tclv_vars.specs.Table.{Table}

-- Each frame but the first was called by an earlier one, and is one level above it.
pub record IsNested (s : Scoping) : Type 0 where
  -- the current frame is there
  pub current : s.current < length s.frames
  -- the first frame is the global one: level 0, and its names are those of namespace 0
  pub first : level_of s 0 ≡ 0
  pub global : home_of s 0 ≡ Of 0
  pub earlier : (i : ℕ) → 0 < i → i < length s.frames → caller_of s i < i
  pub higher : (i : ℕ) → 0 < i → i < length s.frames → level_of s i ≡ level_of s (caller_of s i) + 1

pub record Sound (t : Table) : Type 0 where
  pub nested : IsNested t.scopes
  -- the cell of a name was given out, and so was each cell that is set, and that of each element
  pub named : (h : Home) (n : Text) (s : Slot) → slot_of t.scopes h n ≡ Some s → s.cell < t.next
  pub given : (c : ℕ) (x : Content) → get t.contents c ≡ Some x → c < t.next
  pub inside : (a : ℕ) (es : Named ℕ) (i : Text) (e : ℕ) → get t.contents a ≡ Some (Array es) → get es i ≡ Some e → e < t.next
  -- indices are texts
  pub texts : (a : ℕ) (es : Named ℕ) (i : Text) (e : ℕ) → get t.contents a ≡ Some (Array es) → get es i ≡ Some e → IsText i
  -- no two names of a place own one cell
  pub distinct : (h : Home) (n m : Text) (s o : Slot) → slot_of t.scopes h n ≡ Some s → slot_of t.scopes h m ≡ Some o → s.own ≡ true → o.own ≡ true → n ≢ m → s.cell ≢ o.cell
  -- no name owns an element's cell
  pub apart : (h : Home) (n : Text) (s : Slot) (a : ℕ) (es : Named ℕ) (i : Text) (e : ℕ) → slot_of t.scopes h n ≡ Some s → s.own ≡ true → get t.contents a ≡ Some (Array es) → get es i ≡ Some e → s.cell ≢ e
