-- How the code gets to the value of an expression: the instructions of its tree, run over a stack. The meaning is `value`; a lemma says that
-- these give it.
use Rattle.std.specs.Prelude.{◌≡◌, ℕ, zero, suc, ◌+◌, ◌-◌, ◌≤◌, Bool, true, false, if◌then◌else◌, List, [], ◌∷◌, ◌++◌, length, Option, Some, None}
use Rattle.std.specs.declared.rc.Rc.{Rc}
use Rattle.std.specs.Rc.{rc_value}
use Rattle.tclv_parse.specs.declared.tree.Script.{Script}
use Rattle.tclv_parse.specs.Grammar.{commands}
use Rattle.tclv_exprp.specs.declared.tree.ExprTree.{ExprTree}
use Rattle.tclv_exprp.specs.Flat.{flat}
use Rattle.tclv_exprp.specs.declared.instructions.Operation.{Operation}
use Rattle.tclv_exprp.specs.declared.instructions.Operation.TheVariants as o
use Rattle.tclv_exprp.specs.declared.instructions.Instruction.{Instruction}
use Rattle.tclv_exprp.specs.declared.instructions.Instruction.TheVariants as act
use Rattle.tclv_model.specs.declared.messages.MessageId.TheVariants as message
use Rattle.tclv_model.specs.declared.error_codes.ErrorCode.TheVariants.{NoCode}
use Rattle.tclv_value.specs.Stacks.{top, under}
use Rattle.tclv_engine.specs.State.{Text, State}
use Rattle.tclv_engine.specs.Results.{Res, bind, done, raise}
use Rattle.tclv_engine.specs.Words.{Evaluator, substitution}
use Rattle.tclv_engine.specs.Operations.{second_of, truth_of, truth_number, unary, between, words_between}
use Rattle.tclv_engine.specs.Functions.{call}
use Rattle.tclv_engine.specs.Expressions.{value, max_tree, settled}
use Rattle.tclv_engine.specs.Loops.{paid_body, between_turns}
use Rattle.tclv_engine.specs.Answers.{last_of, Over}

-- ---- operations

-- how many texts an operation takes
abbrev pub takes : Operation → ℕ
takes (o.Literal text) = 0
takes (o.Parts parts) = 0
takes (o.Unary op) = 1
takes (o.Number op) = 2
takes (o.Words op) = 2
takes o.Truth = 1
takes (o.Call name n) = n
takes o.TooDeep = 0

-- the truth value of a text, as 1 or 0
abbrev pub truth_text : {W : Type 0} → Text → (State W) → Res W Text
truth_text x st = bind (truth_of x st) truth_number

-- the text that an operation gives
abbrev pub operated : {W : Type 0} → (Evaluator W) → Operation → List Text → (State W) → Res W Text
operated ev (o.Literal text) stack st = done text st
operated ev (o.Parts parts) stack st = substitution ev parts st
operated ev (o.Unary op) stack st = unary op (last_of stack) st
operated ev (o.Number op) stack st = between op (second_of stack) (last_of stack) st
operated ev (o.Words op) stack st = words_between op (second_of stack) (last_of stack) st
operated ev o.Truth stack st = truth_text (last_of stack) st
operated ev (o.Call name n) stack st = call name (top n stack) st
operated ev o.TooDeep stack st = raise message.TooManyNestedBrackets [] [] NoCode st

-- ---- instructions

-- the stack behind an instruction, and how many instructions are passed over
pub record Next : Type 0 where
  pub stack : List Text
  pub passed : ℕ

abbrev pub next : List Text → ℕ → Next
next stack passed = record { stack = stack; passed = passed }

-- how many are passed over where a truth value is as wanted
abbrev pub passed_where : Bool → ℕ → Bool → ℕ
passed_where true n true = n
passed_where true n false = 0
passed_where false n true = 0
passed_where false n false = n

abbrev pub jump : {W : Type 0} → Bool → ℕ → List Text → (State W) → Res W Next
jump wanted n stack st = bind (truth_of (last_of stack) st) (λ b s1. done (next stack (passed_where wanted n b)) s1)

-- what an instruction does
abbrev pub does : {W : Type 0} → (Evaluator W) → Instruction → List Text → (State W) → Res W Next
does ev (act.Operate op) stack st = bind (operated ev op stack st) (λ x s1. done (next (under (takes op) stack ++ x ∷ []) 0) s1)
does ev (act.SkipIf wanted n) stack st = jump wanted n stack st
does ev (act.Skip n) stack st = done (next stack n) st
does ev act.Forget stack st = done (next (under 1 stack) 0) st

-- Instructions, of which so many are passed over first. Behind the last the top text is the value.
unfoldable pub run : {W : Type 0} → (Evaluator W) → List Instruction → ℕ → List Text → (State W) → Res W Text
run ev [] passed stack st = done (last_of stack) st
run ev (i ∷ is) (suc passed) stack st = run ev is passed stack st
run ev (i ∷ is) zero stack st = bind (does ev i stack st) (λ p s1. run ev is p.passed p.stack s1)

-- the call returns how many instructions are passed over
abbrev pub as_next : Next → ℕ → List Text → Type 0
as_next p passed stack = (stack ≡ p.stack) × (passed ≡ p.passed)

-- ---- the height of the stack

-- the texts that an instruction needs
abbrev pub needs : Instruction → ℕ
needs (act.Operate op) = takes op
needs (act.SkipIf wanted n) = 1
needs (act.Skip n) = 0
needs act.Forget = 1

-- the stack below those that an instruction takes
abbrev pub kept : Instruction → List Text → List Text
kept (act.Operate op) stack = under (takes op) stack
kept (act.SkipIf wanted n) stack = stack
kept (act.Skip n) stack = stack
kept act.Forget stack = under 1 stack

-- what stands on the stack behind an instruction, and how many are passed over
abbrev pub Stands : Instruction → List Text → ℕ → List Text → Type 0
Stands (act.Operate op) stack passed now = Over 1 (under (takes op) stack) now × (passed ≡ 0)
Stands (act.SkipIf wanted n) stack passed now = (now ≡ stack) × ((b : Bool) × (passed ≡ passed_where wanted n b))
Stands (act.Skip n) stack passed now = (now ≡ stack) × (passed ≡ n)
Stands act.Forget stack passed now = (now ≡ under 1 stack) × (passed ≡ 0)

-- Over so many texts there is one for each that is needed, and one is left behind the last instruction.
unfoldable pub Fits : List Instruction → ℕ → ℕ → Type 0
Fits [] passed height = height ≡ 1
Fits (i ∷ is) (suc passed) height = Fits is passed height
Fits (act.Operate op ∷ is) zero height = (takes op ≤ height) × Fits is 0 (suc (height - takes op))
Fits (act.SkipIf wanted n ∷ is) zero height = (1 ≤ height) × (Fits is 0 height × Fits is n height)
Fits (act.Skip n ∷ is) zero height = Fits is n height
Fits (act.Forget ∷ is) zero height = (1 ≤ height) × Fits is 0 (height - 1)

-- ---- results, tests and turns of loops over instructions

-- what an expression gives, by its instructions
abbrev pub run_result : {W : Type 0} → (Evaluator W) → List Instruction → (State W) → Res W Text
run_result ev is st = bind (run ev is 0 [] st) settled

abbrev pub run_test : {W : Type 0} → (Evaluator W) → List Instruction → (State W) → Res W Bool
run_test ev is st = bind (run_result ev is st) truth_of

-- What comes between two turns, if anything does. Whether the loop goes on.
abbrev pub run_between : {W Z : Type 0} → (Evaluator W) → Option (Rc Script Z) → (State W) → Res W Bool
run_between ev None st = done true st
run_between ev (Some script) st = between_turns ev (rc_value script) st

-- a turn of a loop whose test has these instructions
abbrev pub run_turn : {W Z : Type 0} → (Evaluator W) → List Instruction → Option (Rc Script Z) → Script → (State W) → Res W Bool
run_turn ev is next body st =
    bind (run_test ev is st) (λ more s1. if more then bind (paid_body ev body s1) (λ on s2. if on then run_between ev next s2 else done false s2) else done false s1)

-- the script of a place, shared, where there is a place
abbrev pub IsBetween : {Z : Type 0} → (ℕ → Text) → Option ℕ → Option (Rc Script Z) → Type 0
IsBetween placed None None = Unit {0}
IsBetween placed None (Some found) = ⊥
IsBetween placed (Some at) None = ⊥
IsBetween placed (Some at) (Some found) = rc_value found ≡ commands (placed at)

-- the call returns the instructions of the tree, shared
abbrev pub shared : {Z : Type 0} → ExprTree → Rc (List Instruction) Z → List Text → Type 0
shared e rc stack = rc_value rc ≡ flat e

-- ---- laws

-- The instructions of a tree, run over nothing, give its value.
abbrev pub GivesValue : {W : Type 0} → (Evaluator W) → ExprTree → (State W) → Type 0
GivesValue ev e st = run ev (flat e) 0 [] st ≡ value max_tree ev e st

-- They find what they take, and leave one text.
abbrev pub FitsTree : ExprTree → Type 0
FitsTree e = Fits (flat e) 0 0
