-- The instructions of a tree, in the order in which they are run. A count of instructions that are passed over goes forward.
use Rattle.std.specs.Prelude.{◌≡◌, ℕ, zero, suc, Bool, true, false, List, [], ◌∷◌, ◌++◌, length, Result, Ok, Err}
use Rattle.tclv_parse.specs.Runs.{Text}
use Rattle.tclv_exprp.specs.declared.faults.ExprFault.{ExprFault}
use Rattle.tclv_exprp.specs.declared.faults.ExprFault.TheVariants as fault
use Rattle.tclv_exprp.specs.declared.operators.Infix.{Infix}
use Rattle.tclv_exprp.specs.declared.operators.Infix.TheVariants as i
use Rattle.tclv_exprp.specs.declared.tree.Step.{Step, out-Step}
use Rattle.tclv_exprp.specs.declared.tree.ExprTree.{ExprTree, out-ExprTree}
use Rattle.tclv_exprp.specs.declared.tree.ExprTree.TheOpen as layer
use Rattle.tclv_exprp.specs.ExpressionGrammar.{expression}
use Rattle.tclv_exprp.specs.declared.instructions.Operation.TheVariants as op
use Rattle.tclv_exprp.specs.declared.instructions.Instruction.{Instruction}
use Rattle.tclv_exprp.specs.declared.instructions.Instruction.TheVariants as act

-- what gives the instructions of an operand
abbrev pub Layer : Type 0
Layer = ExprTree → List Instruction

-- The right operand of `&&` or `||` counts only where the left one doesn't decide; then its truth value is the result, and else that of the left one.
abbrev pub deciding : Bool → List Instruction → List Instruction
deciding decides right = act.SkipIf decides (suc (length right)) ∷ act.Forget ∷ right ++ (act.Operate op.Truth ∷ [])

-- an operator behind its left operand, with its right operand
abbrev pub step : Layer → Infix → ExprTree → List Instruction
step flat (i.Number o) right = flat right ++ (act.Operate (op.Number o) ∷ [])
step flat (i.Words o) right = flat right ++ (act.Operate (op.Words o) ∷ [])
step flat i.And right = deciding false (flat right)
step flat i.Or right = deciding true (flat right)

unfoldable pub steps : Layer → List Step → List Instruction
steps flat [] = []
steps flat (s ∷ ss) = step flat (out-Step s).op (out-Step s).right ++ steps flat ss

unfoldable pub arguments : Layer → List ExprTree → List Instruction
arguments flat [] = []
arguments flat (e ∷ es) = flat e ++ arguments flat es

-- behind the test of `?:`: where it is true, the one, else the other
abbrev pub choice : List Instruction → List Instruction → List Instruction
choice one other = act.SkipIf false (suc (suc (length one))) ∷ act.Forget ∷ one ++ (act.Skip (suc (length other)) ∷ act.Forget ∷ other)

abbrev pub node : Layer → layer.ExprTree-F ExprTree Step → List Instruction
node flat (layer.Literal text) = act.Operate (op.Literal text) ∷ []
node flat (layer.Parts parts) = act.Operate (op.Parts parts) ∷ []
node flat (layer.Unary o x) = flat x ++ (act.Operate (op.Unary o) ∷ [])
node flat (layer.Chain x ss) = flat x ++ steps flat ss
node flat (layer.Cond test a b) = flat test ++ choice (flat a) (flat b)
node flat (layer.Call name es) = arguments flat es ++ (act.Operate (op.Call name (length es)) ∷ [])

-- the instructions of a tree of so many levels
unfoldable pub flat_at : ℕ → ExprTree → List Instruction
flat_at zero e = act.Operate op.TooDeep ∷ []
flat_at (suc levels) e = node (flat_at levels) (out-ExprTree e)

-- No expression has a tree of more levels.
abbrev pub max_tree : ℕ
max_tree = 2000

-- the instructions of a tree
abbrev pub flat : ExprTree → List Instruction
flat e = flat_at max_tree e

-- ---- texts

abbrev pub laid : Result ExprTree ExprFault → Result (List Instruction) ExprFault
laid (Ok e) = Ok (flat e)
laid (Err why) = Err why

-- the instructions of the expression that a text is, or its first fault from the left
abbrev pub instructions_of : Text → Result (List Instruction) ExprFault
instructions_of t = laid (expression t)

-- A function that gives them answers with them or with the fault, unless memory runs out.
abbrev pub Answers : Result (List Instruction) ExprFault → Result (List Instruction) ExprFault → Type 0
Answers meaning (Ok x) = meaning ≡ Ok x
Answers meaning (Err fault.NoMemory) = Unit {0}
Answers meaning (Err x) = meaning ≡ Err x
