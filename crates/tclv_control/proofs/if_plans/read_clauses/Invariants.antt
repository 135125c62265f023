use Rattle.tclv_control.proofs.IfLemmas.{Reading}
use Rattle.tclv_control.proofs.if_plans.read_clauses.Given as goal

-- The clauses before a word were read.
abbrev pub invariant-loop-turn : goal.invariant-loop-turn
invariant-loop-turn g l = Reading l.fn.machine l.machine l.first l.turn l.word l.items.items
