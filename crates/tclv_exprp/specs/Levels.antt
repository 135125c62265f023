-- How many levels the tree of an expression has.
use Rattle.std.specs.Prelude.{◌≡◌, ℕ, zero, suc, ◌≤◌, ◌*◌, Ok}
use Rattle.std.specs.List.{AllByRecursion}
use Rattle.tclv_parse.specs.Runs.{Text}
use Rattle.tclv_parse.specs.Grammar.{max_depth}
use Rattle.tclv_parse.specs.Levels as script
use Rattle.tclv_exprp.specs.declared.tree.Step.{Step, out-Step}
use Rattle.tclv_exprp.specs.declared.tree.ExprTree.{ExprTree, out-ExprTree}
use Rattle.tclv_exprp.specs.declared.tree.ExprTree.TheOpen as layer
use Rattle.tclv_exprp.specs.ExpressionGrammar.{expression, max_room}

-- each operand of a tree; and the parts of a leaf have no more levels of brackets and indices than those of a script
abbrev pub EachOperand : (ExprTree → Type 0) → layer.ExprTree-F ExprTree Step → Type 0
EachOperand P (layer.Literal text) = Unit {0}
EachOperand P (layer.Parts parts) = AllByRecursion (script.HasLevels max_depth) parts
EachOperand P (layer.Unary op x) = P x
EachOperand P (layer.Chain x steps) = P x × AllByRecursion (λ s. P (out-Step s).right) steps
EachOperand P (layer.Cond test a b) = P test × (P a × P b)
EachOperand P (layer.Call name arguments) = AllByRecursion P arguments

-- The tree has at most so many levels: its own, and those of its operands.
unfoldable pub HasLevels : ℕ → ExprTree → Type 0
HasLevels zero x = ⊥
HasLevels (suc n) x = EachOperand (HasLevels n) (out-ExprTree x)

-- At each level at which operands may stand in one another, a tree has at most a choice, a chain of each of the 13 rows, a power and one operand.
abbrev pub max_levels : ℕ
max_levels = 16 * max_room

-- no expression has a tree of more levels
abbrev pub TreesHaveLevels : Type 0
TreesHaveLevels = (t : Text) (x : ExprTree) → expression t ≡ Ok x → HasLevels max_levels x

-- and a greater bound holds too
abbrev pub BoundsGrow : Type 0
BoundsGrow = (n m : ℕ) (x : ExprTree) → n ≤ m → HasLevels n x → HasLevels m x
