-- The value of an expression.
use Rattle.std.specs.Prelude.{ℕ, zero, suc, Bool, true, false, List, [], ◌∷◌, ◌++◌, Result, Ok, Err, ℤ}
use Rattle.tclv_text.specs.declared.numbers.WholeFault.{WholeFault}
use Rattle.tclv_text.specs.declared.numbers.WholeFault.TheVariants.{NotWhole, TooLarge, FloatForm}
use Rattle.tclv_text.specs.Numbers.{whole, whole_text}
use Rattle.tclv_exprp.specs.declared.faults.ExprFault.{ExprFault}
use Rattle.tclv_exprp.specs.declared.operators.Infix.{Infix}
use Rattle.tclv_exprp.specs.declared.operators.Infix.TheVariants as i
use Rattle.tclv_exprp.specs.declared.tree.Step.{Step, out-Step}
use Rattle.tclv_exprp.specs.declared.tree.ExprTree.{ExprTree, out-ExprTree}
use Rattle.tclv_exprp.specs.declared.tree.ExprTree.TheOpen as layer
use Rattle.tclv_exprp.specs.ExpressionGrammar.{expression}
use Rattle.tclv_model.specs.declared.messages.MessageId.TheVariants as message
use Rattle.tclv_model.specs.declared.error_codes.ErrorCode.TheVariants.{NoCode}
use Rattle.tclv_engine.specs.State.{Text, State}
use Rattle.tclv_engine.specs.Results.{Res, bind, done, raise}
use Rattle.tclv_engine.specs.Words.{Evaluator, substitution}
use Rattle.tclv_engine.specs.Operations.{truth_of, truth_number, unary, between, words_between}
use Rattle.tclv_engine.specs.Functions.{call}
use Rattle.tclv_engine.specs.ExpressionFaults.{refused}

-- what gives the value of a tree
abbrev pub Valuer : Type 0 → Type 0
Valuer W = ExprTree → (State W) → Res W Text

-- ---- operators between operands

-- the truth value of the right operand, as 1 or 0
abbrev pub right_truth : {W : Type 0} → (Valuer W) → ExprTree → (State W) → Res W Text
right_truth value right st = bind (value right st) (λ y s1. bind (truth_of y s1) truth_number)

-- `&&` looks at its right operand only where the left one is true.
abbrev pub both : {W : Type 0} → (Valuer W) → ExprTree → Bool → (State W) → Res W Text
both value right false st = truth_number false st
both value right true st = right_truth value right st

-- `||` looks at it only where the left one is false.
abbrev pub either : {W : Type 0} → (Valuer W) → ExprTree → Bool → (State W) → Res W Text
either value right true st = truth_number true st
either value right false st = right_truth value right st

-- an operator behind the left operand x, with its right operand
abbrev pub step : {W : Type 0} → (Valuer W) → Infix → Text → ExprTree → (State W) → Res W Text
step value (i.Number op) x right st = bind (value right st) (λ y s1. between op x y s1)
step value (i.Words op) x right st = bind (value right st) (λ y s1. words_between op x y s1)
step value i.And x right st = bind (truth_of x st) (both value right)
step value i.Or x right st = bind (truth_of x st) (either value right)

-- operators and operands behind x, from left to right
unfoldable pub steps : {W : Type 0} → (Valuer W) → Text → List Step → (State W) → Res W Text
steps value x [] st = done x st
steps value x (s ∷ ss) st = bind (step value (out-Step s).op x (out-Step s).right st) (λ y s1. steps value y ss s1)

-- ---- trees

-- `?:` looks at one of the two.
abbrev pub choice : {W : Type 0} → (Valuer W) → ExprTree → ExprTree → Bool → (State W) → Res W Text
choice value a b true st = value a st
choice value a b false st = value b st

-- the arguments of a call, from left to right; `before` are those so far
unfoldable pub values : {W : Type 0} → (Valuer W) → List Text → List ExprTree → (State W) → Res W (List Text)
values value before [] st = done before st
values value before (e ∷ es) st = bind (value e st) (λ x s1. values value (before ++ (x ∷ [])) es s1)

-- A literal is itself; variables, quoted texts and scripts are substituted; operands are evaluated from left to right.
abbrev pub node : {W : Type 0} → (Evaluator W) → (Valuer W) → layer.ExprTree-F ExprTree Step → (State W) → Res W Text
node ev value (layer.Literal text) st = done text st
node ev value (layer.Parts parts) st = substitution ev parts st
node ev value (layer.Unary op x) st = bind (value x st) (unary op)
node ev value (layer.Chain x ss) st = bind (value x st) (λ y s1. steps value y ss s1)
node ev value (layer.Cond test a b) st = bind (value test st) (λ x s1. bind (truth_of x s1) (choice value a b))
node ev value (layer.Call name es) st = bind (values value [] es st) (call name)

-- The value of a tree of so many levels. No expression has a tree of more levels than `max_tree`.
unfoldable pub value : {W : Type 0} → ℕ → (Evaluator W) → ExprTree → (State W) → Res W Text
value zero ev e st = raise message.TooManyNestedBrackets [] [] NoCode st
value (suc levels) ev e st = node ev (value levels ev) (out-ExprTree e) st

-- the value of a tree whose operands have so many levels
abbrev pub node_value : {W : Type 0} → ℕ → (Evaluator W) → ExprTree → (State W) → Res W Text
node_value levels ev e st = node ev (value levels ev) (out-ExprTree e) st

-- Inside each of the 100 levels that an expression may have stand at most a choice, a chain of each row, a power and one operand.
abbrev pub max_tree : ℕ
max_tree = 2000

-- ---- results

abbrev pub settled_by : {W : Type 0} → Text → Result ℤ WholeFault → (State W) → Res W Text
settled_by x (Ok n) st = done (whole_text n) st
settled_by x (Err NotWhole) st = done x st
settled_by x (Err TooLarge) st = done x st
settled_by x (Err FloatForm) st = raise message.FloatValue x [] NoCode st

-- A whole number becomes its decimal text, a floating form is refused, and another text stays.
abbrev pub settled : {W : Type 0} → Text → (State W) → Res W Text
settled x st = settled_by x (whole x) st

-- what an expression gives
abbrev pub result : {W : Type 0} → (Evaluator W) → ExprTree → (State W) → Res W Text
result ev e st = bind (value max_tree ev e st) settled

-- whether it is true
abbrev pub test : {W : Type 0} → (Evaluator W) → ExprTree → (State W) → Res W Bool
test ev e st = bind (result ev e st) truth_of

-- ---- texts

abbrev pub parsed_by : {W : Type 0} → Text → Result ExprTree ExprFault → (State W) → Res W ExprTree
parsed_by text (Ok e) st = done e st
parsed_by text (Err why) st = refused text why st

-- the expression that a text is, or the error that it is none
abbrev pub parsed : {W : Type 0} → Text → (State W) → Res W ExprTree
parsed text st = parsed_by text (expression text) st

abbrev pub evaluated : {W : Type 0} → (Evaluator W) → Text → (State W) → Res W Text
evaluated ev text st = bind (parsed text st) (result ev)

abbrev pub condition : {W : Type 0} → (Evaluator W) → Text → (State W) → Res W Bool
condition ev text st = bind (parsed text st) (test ev)
