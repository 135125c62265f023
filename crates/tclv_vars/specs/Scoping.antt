-- Frames and namespaces: where a name is looked up, and which cell it stands for there.
use Rattle.std.specs.Prelude.{ℕ, zero, suc, ◌+◌, ◌-◌, nat_lt, Bool, true, false, if◌then◌else◌, List, [], ◌∷◌, ◌++◌, length, take, slice_get, slice_set, Option, None, Some, is_some}
use Rattle.std.specs.Prelude.{refl}
use Rattle.std.specs.Coded.{Coded, code_by, coded×, coded_ℕ, coded_bool, coded_list}
use Rattle.std.specs.Option.{option_map_or, unwrap_or}
use Rattle.std.specs.FinMap.{get, insert, remove, empty}
use Rattle.tclv_names.specs.Keyed.{Text, Named, Numbers, named_code, numbers_code}
use Rattle.tclv_vars.specs.declared.parts.Slot.{Slot}
use Rattle.tclv_vars.specs.declared.parts.Frame.{Frame}
use Rattle.tclv_vars.specs.declared.places.Place.{Place}
use Rattle.tclv_vars.specs.declared.places.Place.TheVariants as place
use Rattle.tclv_vars.specs.declared.places.Home.{Home}
use Rattle.tclv_vars.specs.declared.places.Home.TheVariants.{Local, Of}

-- The frames in the order in which they were pushed, the number of the current one, and the names of each namespace by its number.
pub record Scoping : Type 0 where
  pub frames : List Frame
  pub current : ℕ
  pub spaces : Numbers (Named Slot)

-- At the start there is the global frame alone: level 0, namespace 0, not local. No name is there.
abbrev pub at_start : Scoping
at_start = record { frames = record { level = 0; caller = 0; space = 0; local = false; names = empty } ∷ []; current = 0; spaces = empty }

-- The names of a local frame are its own. Those of another frame are the names of its namespace.
abbrev pub home_of : Scoping → ℕ → Home
home_of s i = option_map_or (λ (f : Frame). if f.local then Local i else Of f.space) (slice_get s.frames i) (Local i)

-- A name is looked up in the current frame, or in the namespace that is given.
abbrev pub home : Scoping → Place → Home
home s place.Frame = home_of s s.current
home s (place.Space n) = Of n

-- The names that are there. A namespace that never had one has none.
abbrev pub names_in : Scoping → Home → Named Slot
names_in s (Local i) = option_map_or (λ (f : Frame). f.names) (slice_get s.frames i) empty
names_in s (Of n) = unwrap_or (get s.spaces n) empty

-- What a name stands for there, if it is there.
abbrev pub slot_of : Scoping → Home → Text → Option Slot
slot_of s h name = get (names_in s h) name

-- The frames, where the i-th has these names.
abbrev pub name_frame : List Frame → ℕ → Named Slot → List Frame
name_frame fs i ns = option_map_or (λ (f : Frame). slice_set fs i (record f { names = ns })) (slice_get fs i) fs

-- All is as before, but these are the names there.
abbrev pub with_names : Scoping → Home → Named Slot → Scoping
with_names s (Local i) ns = record s { frames = name_frame s.frames i ns }
with_names s (Of n) ns = record s { spaces = insert s.spaces n ns }

-- All is as before, but the name stands for this there.
abbrev pub with_name : Scoping → Home → Text → Slot → Scoping
with_name s h name slot = with_names s h (insert (names_in s h) name slot)

-- Whether any names are kept there. A namespace keeps none until it has its first name.
abbrev pub has_names : Scoping → Home → Bool
has_names s (Local i) = true
has_names s (Of n) = is_some (get s.spaces n)

-- The names of namespaces, where this one of namespace n is no more.
abbrev pub without_shared : Numbers (Named Slot) → ℕ → Text → Option (Named Slot) → Numbers (Named Slot)
without_shared spaces n name None = spaces
without_shared spaces n name (Some ns) = insert spaces n (remove ns name)

-- All is as before, but the name is no more there.
abbrev pub without_name : Scoping → Home → Text → Scoping
without_name s (Local i) name = record s { frames = name_frame s.frames i (remove (names_in s (Local i)) name) }
without_name s (Of n) name = record s { spaces = without_shared s.spaces n name (get s.spaces n) }

-- All is as before, but a namespace keeps no names.
abbrev pub without_space : Scoping → Home → Scoping
without_space s (Local i) = s
without_space s (Of n) = record s { spaces = remove s.spaces n }

-- Frames

-- The level of the i-th frame.
abbrev pub level_of : Scoping → ℕ → ℕ
level_of s i = option_map_or (λ (f : Frame). f.level) (slice_get s.frames i) 0

-- Its caller: the frame that was current when it was pushed.
abbrev pub caller_of : Scoping → ℕ → ℕ
caller_of s i = option_map_or (λ (f : Frame). f.caller) (slice_get s.frames i) 0

-- Its namespace.
abbrev pub space_of : Scoping → ℕ → ℕ
space_of s i = option_map_or (λ (f : Frame). f.space) (slice_get s.frames i) 0

-- Whether it is local.
abbrev pub is_local_at : Scoping → ℕ → Bool
is_local_at s i = option_map_or (λ (f : Frame). f.local) (slice_get s.frames i) false

-- The frame that is k calls above the i-th: its caller's caller, and so on.
abbrev pub above : Scoping → ℕ → ℕ → ℕ
above s zero i = i
above s (suc k) i = above s k (caller_of s i)

-- A new frame is one level above the current one, which is its caller, and is current then.
abbrev pub pushed : Scoping → ℕ → Bool → Scoping
pushed s space local = record s {
  frames = s.frames ++ record { level = level_of s s.current + 1; caller = s.current; space = space; local = local; names = empty } ∷ [];
  current = length s.frames;
}

-- This frame is current.
abbrev pub at_frame : Scoping → ℕ → Scoping
at_frame s i = record s { current = i }

-- Of the current frame and those that called it, the one of that level is current. Above the current level there is none.
abbrev pub at_level : Scoping → ℕ → Scoping
at_level s l = if nat_lt (level_of s s.current) l then s else at_frame s (above s (level_of s s.current - l) s.current)

-- The last frame is no more, and its caller is current.
abbrev pub popped : Scoping → Scoping
popped s = record s { frames = take (length s.frames - 1) s.frames; current = option_map_or (λ (f : Frame). f.caller) (slice_get s.frames (length s.frames - 1)) s.current }

-- The names of the last frame.
abbrev pub last_names : Scoping → Named Slot
last_names s = option_map_or (λ (f : Frame). f.names) (slice_get s.frames (length s.frames - 1)) empty

-- how values of these types are stored, for the models
abbrev pub slot_code : Coded Slot
slot_code = code_by (ℕ × Bool) (coded× coded_ℕ coded_bool) (λ s. (s.cell, s.own)) (λ p. record { cell = p.0; own = p.1 }) (λ _. refl)

abbrev pub frame_code : Coded Frame
frame_code = code_by (ℕ × (ℕ × (ℕ × (Bool × Named Slot)))) (coded× coded_ℕ (coded× coded_ℕ (coded× coded_ℕ (coded× coded_bool (named_code slot_code)))))
    (λ f. (f.level, (f.caller, (f.space, (f.local, f.names))))) (λ p. record { level = p.0; caller = p.1.0; space = p.1.1.0; local = p.1.1.1.0; names = p.1.1.1.1 }) (λ _. refl)

abbrev pub scoping_code : Coded Scoping
scoping_code = code_by (List Frame × (ℕ × Numbers (Named Slot))) (coded× (coded_list frame_code) (coded× coded_ℕ (numbers_code (named_code slot_code))))
    (λ s. (s.frames, (s.current, s.spaces))) (λ p. record { frames = p.0; current = p.1.0; spaces = p.1.1 }) (λ _. refl)
