-- What a call leaves of a store: which places have which texts, and which texts are made.
use Rattle.std.specs.Prelude.{◌≡◌, ◌≢◌, ℕ, ◌+◌, ◌<◌, ◌≤◌, List, [], ◌∷◌, ◌++◌, length, IsSome, slice_set}
use Rattle.std.specs.Ordering.{nat_cmp}
use Rattle.std.specs.FinMap.{FinMap, get, insert}
use Rattle.tclv_value.specs.declared.places.At.{At}
use Rattle.tclv_value.specs.declared.places.At.TheVariants.{Stack, Cell}
use Rattle.tclv_value.specs.Stacks.{under}
use Rattle.tclv_value.specs.View.{View, IsMade, StaysMade}

-- The place is there, the stack has n texts, and the place is none of the top n.
abbrev pub IsUnder : View → ℕ → At → Type 0
IsUnder v n (Stack i) = i + n < length v.stack
IsUnder v n (Cell cell) = (n ≤ length v.stack) × IsSome (get v.cells cell)

-- the texts of a stack and of cells after this place got the text t
abbrev pub stack_put : List (List ℕ) → At → List ℕ → List (List ℕ)
stack_put stack (Stack i) t = slice_set stack i t
stack_put stack (Cell cell) t = stack

abbrev pub cells_put : FinMap nat_cmp (List ℕ) → At → List ℕ → FinMap nat_cmp (List ℕ)
cells_put cells (Stack i) t = cells
cells_put cells (Cell cell) t = insert cells cell t

-- All places are there as before and have the texts that they had, and each made text stays made.
pub record KeepsTexts (old new : View) : Type 0 where
  pub stack : new.stack ≡ old.stack
  pub cells : new.cells ≡ old.cells
  pub stays : StaysMade old new

-- Some texts more stand on the stack. All that was there stays as it was.
pub record Grows (old new : View) : Type 0 where
  pub more : List (List ℕ)
  pub stack : new.stack ≡ old.stack ++ more
  pub cells : new.cells ≡ old.cells
  pub stays : StaysMade old new

-- The text t is pushed. All that was there stays as it was.
pub record Pushes (old : View) (t : List ℕ) (new : View) : Type 0 where
  pub stack : new.stack ≡ old.stack ++ t ∷ []
  pub cells : new.cells ≡ old.cells
  pub stays : StaysMade old new

-- The text t stands in place of the top n. All else stays as it was.
pub record Gathers (old : View) (n : ℕ) (t : List ℕ) (new : View) : Type 0 where
  pub stack : new.stack ≡ under n old.stack ++ t ∷ []
  pub cells : new.cells ≡ old.cells
  pub stays : (place : At) → IsUnder old n place → IsMade old place → IsMade new place

-- The top n are taken off, and the place, which is none of them, gets the text t. Each other place keeps its text, and where that was made it stays made.
pub record Puts (old : View) (n : ℕ) (at : At) (t : List ℕ) (new : View) : Type 0 where
  pub stack : new.stack ≡ stack_put (under n old.stack) at t
  pub cells : new.cells ≡ cells_put old.cells at t
  pub stays : (place : At) → place ≢ at → IsUnder old n place → IsMade old place → IsMade new place
