-- What contracts see of the values of a run.
use Rattle.std.specs.Prelude.{◌≡◌, ℕ, ◌-◌, Bool, List, length, take, Ok, is_some, refl}
use Rattle.std.specs.Ordering.{nat_cmp}
use Rattle.std.specs.FinMap.{FinMap, get, insert}
use Rattle.std.specs.Coded.{Coded, code_by, coded×}
use Rattle.tclv_value.specs.View.{View, text_at, view_code}
use Rattle.tclv_value.specs.declared.places.At.TheVariants.{Stack}
use Rattle.tclv_vars.specs.Table.{Table, Spot, has_value, table_code}
use Rattle.tclv_reply.specs.Names.{Naming}
use Rattle.tclv_engine.specs.Names.{write_named}

-- the stack and the cells, and which cells the variables stand for
pub record Holdings : Type 0 where
  pub store : View
  pub vars : Table

-- A cell has a text exactly where it holds a variable's value.
abbrev pub IsTied : Table → FinMap nat_cmp (List ℕ) → Type 0
IsTied vars cells = (cell : ℕ) → is_some (get cells cell) ≡ has_value vars cell

-- no variable changed
pub record SameVariables (old new : Holdings) : Type 0 where
  pub vars : new.vars ≡ old.vars
  pub cells : new.store.cells ≡ old.store.cells

-- they are stored as the pair of the two
abbrev pub holdings_code : Coded Holdings
holdings_code = code_by (View × Table) (coded× view_code table_code) (λ h. (h.store, h.vars)) (λ p. record { store = p.0; vars = p.1 }) (λ _. refl)

-- What is named so was set to the top text of the stack, which went into this cell.
pub record Assigned (old new : Holdings) (name : Naming) (cell : ℕ) : Type 0 where
  pub fresh : Bool
  pub wrote : write_named old.vars name ≡ Ok (record { cell = cell; fresh = fresh; after = new.vars })
  pub cells : new.store.cells ≡ insert old.store.cells cell (text_at old.store (Stack (length old.store.stack - 1)))
  pub stack : new.store.stack ≡ take (length old.store.stack - 1) old.store.stack

-- What is named so was set to a text.
pub record Sets (old new : Holdings) (name : Naming) (value : List ℕ) : Type 0 where
  pub spot : Spot
  pub wrote : write_named old.vars name ≡ Ok spot
  pub vars : new.vars ≡ spot.after
  pub cells : new.store.cells ≡ insert old.store.cells spot.cell value
