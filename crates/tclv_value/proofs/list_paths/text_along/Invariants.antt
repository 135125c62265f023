use Rattle.std.proofs.Common.{◌≡◌, vec_len}
use Rattle.tclv_value.specs.Paths.{rebuilt}
use Rattle.tclv_value.proofs.list_paths.text_along.Given as goal

-- The lists that are left make the same text of what stands at the end of the path through them.
abbrev pub invariant-loop-step : goal.invariant-loop-step
invariant-loop-step l = rebuilt l.steps.items l.text ≡ rebuilt l.fn.steps.items l.fn.value

abbrev pub decreases-loop-step : goal.decreases-loop-step
decreases-loop-step l = vec_len l.steps
