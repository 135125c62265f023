-- What a table of types says of its forms.
use Rattle.std.specs.Prelude.{◌≡◌, ◌↔◌, ℕ, Bool, List}

pub record Table (F : Type 0) : Type 1 where
  -- the parts of a form, in order
  pub parts : F → List ℕ
  -- the form alone gives the text
  pub Spells : F → Type 0
  -- the text that the form gives, from the texts of its parts
  pub spelled : F → List (List ℕ) → List ℕ
  -- to set the form on an object counts as reading the object's text
  pub counts : F → Bool
  -- this text, when it is read, gives the form, whose parts have these texts
  pub Fits : List ℕ → F → List (List ℕ) → Type 0
  -- what a form spells fits it
  pub fits_spelled : (f : F) (ts : List (List ℕ)) → Spells f → Fits (spelled f ts) f ts

-- a duplicate of a form is the same form: it has the same parts, spells the same and fits the same
pub record Alike {F : Type 0} (t : Table F) (f d : F) : Type 0 where
  pub parts : t.parts d ≡ t.parts f
  pub spells : t.Spells d ↔ t.Spells f
  pub spelled : (ts : List (List ℕ)) → t.spelled d ts ≡ t.spelled f ts
  pub fits : (s : List ℕ) (ts : List (List ℕ)) → t.Fits s d ts ↔ t.Fits s f ts
