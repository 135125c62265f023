use Rattle.std.proofs.Common.{◌≡◌, ◌+◌, ◌*◌, ◌++◌, length, reverse}
use Rattle.tclv_exprp.specs.Flat.{flat_at, steps, arguments}
use Rattle.tclv_exprp.proofs.flattening.+lay.Given as goal

abbrev pub decreases-lay : goal.decreases-lay
decreases-lay l = 8 * l.levels

abbrev pub decreases-lay_right : goal.decreases-lay_right
decreases-lay_right l = 8 * l.levels + 1

abbrev pub decreases-lay_step : goal.decreases-lay_step
decreases-lay_step l = 8 * l.levels + 2

abbrev pub decreases-lay_steps : goal.decreases-lay_steps
decreases-lay_steps l = 8 * l.levels + 3

abbrev pub decreases-lay_arguments : goal.decreases-lay_arguments
decreases-lay_arguments l = 8 * l.levels + 3

abbrev pub decreases-lay_choice : goal.decreases-lay_choice
decreases-lay_choice l = 8 * l.levels + 3

abbrev pub decreases-lay_node : goal.decreases-lay_node
decreases-lay_node l = 8 * l.levels + 4

-- what is laid and what is to be laid is all of it
abbrev pub invariant-lay_steps-steps : goal.invariant-lay_steps-steps
invariant-lay_steps-steps l = l.out.items ++ reverse (steps (flat_at l.levels) l.rest) ≡ l.fn.out.items ++ reverse (steps (flat_at l.levels) l.fn.steps)

abbrev pub decreases-lay_steps-steps : goal.decreases-lay_steps-steps
decreases-lay_steps-steps l = length l.rest

abbrev pub invariant-lay_arguments-arguments : goal.invariant-lay_arguments-arguments
invariant-lay_arguments-arguments l = l.out.items ++ reverse (arguments (flat_at l.levels) l.rest) ≡ l.fn.out.items ++ reverse (arguments (flat_at l.levels) l.fn.arguments)

abbrev pub decreases-lay_arguments-arguments : goal.decreases-lay_arguments-arguments
decreases-lay_arguments-arguments l = length l.rest
