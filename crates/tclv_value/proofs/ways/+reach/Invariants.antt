use Rattle.tclv_value.proofs.ways.+reach.Given as goal

-- The depth that is allowed.
abbrev pub decreases-reach : goal.decreases-reach
decreases-reach l = l.high
