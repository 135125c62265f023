-- Loops that go on as long as a test is true.
use Rattle.std.specs.Prelude.{ℕ, Option, Some, None, Bool, false, if◌then◌else◌, []}
use Rattle.tclv_parse.specs.declared.tree.Script.{Script}
use Rattle.tclv_parse.specs.Grammar.{commands}
use Rattle.tclv_exprp.specs.declared.tree.ExprTree.{ExprTree}
use Rattle.tclv_engine.specs.State.{Text, State}
use Rattle.tclv_engine.specs.Results.{Res, Outcome, bind, done, ok}
use Rattle.tclv_engine.specs.Words.{Evaluator}
use Rattle.tclv_engine.specs.Expressions.{parsed, test}
use Rattle.tclv_engine.specs.Loops.{paid_body, between_turns, loop}

-- ---- a test and a body

-- A turn: the test, and where it is true, a unit and the body. Whether another turn follows.
abbrev pub tested_turn : {W : Type 0} → (Evaluator W) → ExprTree → Script → (State W) → Res W Bool
tested_turn ev tree body st = bind (test ev tree st) (λ more s1. if more then paid_body ev body s1 else done false s1)

-- The result is the empty text. The test is read once, before all turns.
abbrev pub tested_loop : {W : Type 0} → (Evaluator W) → Text → Text → (State W) → Res W Outcome
tested_loop ev condition body st =
    bind (parsed condition st) (λ tree s1. bind (loop (tested_turn ev tree (commands body)) s1) (λ u s2. ok [] s2))

-- ---- with a start and a script between turns

-- A turn as above; where another is to follow, the next script comes between the two.
abbrev pub stepped_turn : {W : Type 0} → (Evaluator W) → ExprTree → Script → Script → (State W) → Res W Bool
stepped_turn ev tree next body st = bind (tested_turn ev tree body st) (λ more s1. if more then between_turns ev next s1 else done false s1)

abbrev pub stepped_loop : {W : Type 0} → (Evaluator W) → Text → Text → Text → (State W) → Res W Outcome
stepped_loop ev condition next body st =
    bind (parsed condition st) (λ tree s1. bind (loop (stepped_turn ev tree (commands next) (commands body)) s1) (λ u s2. ok [] s2))

-- The start is evaluated before all turns; its result goes.
abbrev pub begins : {W : Type 0} → (Evaluator W) → Text → (State W) → Res W (Unit {0})
begins ev start st = bind (ev.script (commands start) st) (λ o s1. done tt s1)

abbrev pub started_loop : {W : Type 0} → (Evaluator W) → Text → Text → Text → Text → (State W) → Res W Outcome
started_loop ev start condition next body st = bind (begins ev start st) (λ u s1. stepped_loop ev condition next body s1)

-- ---- either

-- The turns of a loop whose body, and script between turns if it has one, stand at places.
abbrev pub turned : {W : Type 0} → (Evaluator W) → (ℕ → Text) → Option ℕ → ℕ → ExprTree → (State W) → Res W Outcome
turned ev placed None body tree st = bind (loop (tested_turn ev tree (commands (placed body))) st) (λ u s1. ok [] s1)
turned ev placed (Some next) body tree st = bind (loop (stepped_turn ev tree (commands (placed next)) (commands (placed body))) st) (λ u s1. ok [] s1)

abbrev pub repeated : {W : Type 0} → (Evaluator W) → (ℕ → Text) → ℕ → Option ℕ → ℕ → (State W) → Res W Outcome
repeated ev placed test next body st = bind (parsed (placed test) st) (λ tree s1. turned ev placed next body tree s1)
