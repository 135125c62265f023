-- The options of a command, which stand before its other words.
use Rattle.std.specs.Prelude.{◌≡◌, ◌<◌, ℕ, if◌then◌else◌, List, [], ◌∷◌, length, slice_index_or, Option, Some, None}
use Rattle.std.specs.Option.{option_map, ForSome}
use Rattle.std.specs.Str.{bytes_eq}
use Rattle.tclv_model.specs.declared.messages.MessageId.TheVariants.{BadOption}
use Rattle.tclv_model.specs.Rows.{Answer, Gives, and_then, says}
use Rattle.tclv_model.specs.Values.{place_of}

-- What options say: those without a value change the settings, and the last value of the one that has a value is kept.
pub record Options (S : Type 0) : Type 0 where
  pub settings : S
  pub index : Option (List ℕ)

-- the settings after an option without a value, if it is one
abbrev pub known_or_bad : {S : Type 0} → List ℕ → Option S → Answer S
known_or_bad o None = says BadOption o []
known_or_bad o (Some s) = Gives s

abbrev pub with_settings : {S : Type 0} → Options S → Answer S → Answer (Options S)
with_settings x new = and_then new (λ s. Gives (record { settings = s; index = x.index }))

-- The options from the left. The one of this name has a value, which must have the form of an index; missing is the answer where the value isn't there.
abbrev pub options_read : {S : Type 0} → List ℕ → (List ℕ → S → Answer S) → Answer (Options S) → List (List ℕ) → Options S → Answer (Options S)
options_read name set missing [] x = Gives x
options_read name set missing (o ∷ []) x = if bytes_eq o name then missing else with_settings x (set o x.settings)
options_read name set missing (o ∷ v ∷ os) x =
    if bytes_eq o name
    then and_then (place_of v 0) (λ _. options_read name set missing os (record { settings = x.settings; index = Some v }))
    else and_then (with_settings x (set o x.settings)) (λ y. options_read name set missing (v ∷ os) y)

-- The settings, and where the value stands in a stack, if there is one.
pub record AreOptions {S : Type 0} (stack : List (List ℕ)) (options : Options S) (x : S × Option ℕ) : Type 0 where
  pub settings : x.0 ≡ options.settings
  pub index : option_map (λ k. slice_index_or stack k []) x.1 ≡ options.index
  pub within : ForSome x.1 (λ k. k < length stack)
