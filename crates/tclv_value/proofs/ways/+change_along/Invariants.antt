use Rattle.tclv_value.proofs.ways.+change_along.Given as goal

-- The depth that is allowed.
abbrev pub decreases-change_along : goal.decreases-change_along
decreases-change_along l = l.high
