-- The row of `string map`.
use Rattle.std.specs.Prelude.{◌≡◌, ◌<◌, ℕ, zero, suc, ◌-◌, ◌%◌, ◌==◌, Bool, false, not, ◌&&◌, if◌then◌else◌, List, [], ◌∷◌, ◌++◌, length, take, drop, Option, Some, None}
use Rattle.std.specs.Str.{bytes_eq}
use Rattle.tclv_text.specs.Globs.{folded, is_empty}
use Rattle.tclv_model.specs.declared.messages.MessageId.TheVariants.{UnbalancedCharacterMap}
use Rattle.tclv_model.specs.declared.usages.Usage.TheVariants as command
use Rattle.tclv_model.specs.Usages.{usage_of}
use Rattle.tclv_model.specs.Rows.{Answer, RowAnswer, Gives, and_then, says, wrong_count}
use Rattle.tclv_model.specs.Values.{list_of}
use Rattle.tclv_strings.specs.Comparing.{nocase_read}

-- the key stands in front of the text; an empty key stands nowhere
abbrev pub stands_first : Bool → List ℕ → List ℕ → Bool
stands_first nocase key t = not (is_empty key) && bytes_eq (folded nocase (take (length key) t)) (folded nocase key)

-- A key that stands in front of a text: how many code points it takes, and what stands for it.
pub record KeyThere : Type 0 where
  pub taken : ℕ
  pub value : List ℕ

-- the first key of a mapping that stands in front of the text; keys and values take turns
abbrev pub first_key : Bool → List (List ℕ) → List ℕ → Option KeyThere
first_key nocase [] t = None
first_key nocase (key ∷ []) t = None
first_key nocase (key ∷ value ∷ more) t = if stands_first nocase key t then Some (record { taken = length key; value = value }) else first_key nocase more t

-- What the code knows of the key that was found in front of a text: its value, and what stands behind it.
pub record HasKey (found : Option KeyThere) (value t rest : List ℕ) : Type 0 where
  pub count : ℕ
  pub is : found ≡ Some (record { taken = count; value = value })
  pub some : 0 < count
  pub behind : rest ≡ drop count t
  pub shorter : length rest < length t

-- what stands for the character in front of a text: the value of the key that stands there, and what follows behind the key; or itself, and what follows behind it
abbrev pub put_for : Option KeyThere → ℕ → (ℕ → List ℕ) → List ℕ
put_for None c behind = c ∷ behind 0
put_for (Some r) c behind = r.value ++ behind (r.taken - 1)

-- The text behind its first n code points, with the value of the first key that fits at each place in the place of that key, from the left.
abbrev pub mapped_behind : Bool → List (List ℕ) → ℕ → List ℕ → List ℕ
mapped_behind nocase mapping n [] = []
mapped_behind nocase mapping (suc n) (c ∷ t) = mapped_behind nocase mapping n t
mapped_behind nocase mapping zero (c ∷ t) = put_for (first_key nocase mapping (c ∷ t)) c (λ n. mapped_behind nocase mapping n t)

abbrev pub mapped_text : Bool → List (List ℕ) → List ℕ → List ℕ
mapped_text nocase mapping t = mapped_behind nocase mapping 0 t

-- the elements are keys and values in turns
abbrev pub mapping_given : List (List ℕ) → Answer (List (List ℕ))
mapping_given ts = if length ts % 2 == 0 then Gives ts else says UnbalancedCharacterMap [] []

-- the keys and values that a word is
abbrev pub mapping_of : List ℕ → Answer (List (List ℕ))
mapping_of word = and_then (list_of word) mapping_given

abbrev pub map_answer : Bool → List ℕ → List ℕ → RowAnswer
map_answer nocase mapping t = and_then (mapping_of mapping) (λ ts. Gives (mapped_text nocase ts t))

-- `string map ?-nocase? mapping string`. The first word names the subcommand.
abbrev pub row_map : List ℕ → List (List ℕ) → RowAnswer
row_map call (sub ∷ mapping ∷ t ∷ []) = map_answer false mapping t
row_map call (sub ∷ o ∷ mapping ∷ t ∷ []) = and_then (nocase_read o) (λ b. map_answer b mapping t)
row_map call _ = wrong_count call (usage_of command.StringMap)
