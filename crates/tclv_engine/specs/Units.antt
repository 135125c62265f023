-- Units: each command takes one, and so does each turn of a loop.
use Rattle.std.specs.Prelude.{◌-◌, ◌==◌, if◌then◌else◌}
use Rattle.tclv_engine.specs.State.{State}
use Rattle.tclv_engine.specs.Results.{Res, Budget, ends, done}

-- One unit is taken; where none is left, the computation stops.
abbrev pub take_unit : {W : Type 0} → (State W) → Res W (Unit {0})
take_unit st = if st.units == 0 then ends Budget st else done tt (record st { units = st.units - 1 })
