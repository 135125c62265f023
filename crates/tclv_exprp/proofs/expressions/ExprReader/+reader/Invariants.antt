use Rattle.std.proofs.Common.{◌≡◌, ◌≤◌, ◌+◌, ◌*◌, length, Ok}
use Rattle.tclv_exprp.specs.ExpressionGrammar.{readers, binary, steps, arguments, more_arguments}
use Rattle.tclv_exprp.specs.Outcomes.{after}
use Rattle.tclv_exprp.proofs.expressions.ExprReader.+reader.Given as goal

abbrev pub decreases-operand : goal.decreases-operand
decreases-operand l = 64 * l.self.now.room

abbrev pub decreases-power : goal.decreases-power
decreases-power l = 64 * l.self.now.room + 1

abbrev pub decreases-binary : goal.decreases-binary
decreases-binary l = 64 * l.self.now.room + 2 * l.top + 2

abbrev pub decreases-steps : goal.decreases-steps
decreases-steps l = 64 * l.self.now.room + 2 * l.level + 3

abbrev pub decreases-expr : goal.decreases-expr
decreases-expr l = 64 * l.self.now.room + 40

abbrev pub decreases-arguments : goal.decreases-arguments
decreases-arguments l = 64 * l.self.now.room + 41

abbrev pub decreases-named : goal.decreases-named
decreases-named l = 64 * l.self.now.room + 42

-- the rows below this one are read
abbrev pub invariant-binary-loop-level : goal.invariant-binary-loop-level
invariant-binary-loop-level l =
    record {
      reads : binary (readers l.self.leaves.total l.self.room).1 l.level l.fn.cursor ≡ Ok (l.tree, l.cursor);
      left : length l.cursor ≤ length l.fn.cursor;
    }

-- behind the steps that were found, further ones are to come
abbrev pub invariant-steps-steps : goal.invariant-steps-steps
invariant-steps-steps l =
    let tighter = binary (readers l.self.leaves.total l.self.room).1 l.fn.level in
    record {
      reads : steps tighter l.fn.level l.fn.cursor ≡ after l.steps (steps tighter l.fn.level l.cursor);
      left : length l.cursor ≤ length l.fn.cursor;
    }

abbrev pub decreases-steps-steps : goal.decreases-steps-steps
decreases-steps-steps l = length l.cursor

-- behind the arguments that were found, further ones are to come
abbrev pub invariant-arguments-more : goal.invariant-arguments-more
invariant-arguments-more l =
    let argument = (readers l.self.leaves.total l.self.room).2 in
    record {
      reads : arguments l.self.leaves.total argument l.fn.cursor ≡ after l.found (more_arguments l.self.leaves.total argument l.cursor);
      left : length l.cursor ≤ length l.fn.cursor;
    }

abbrev pub decreases-arguments-more : goal.decreases-arguments-more
decreases-arguments-more l = length l.cursor
