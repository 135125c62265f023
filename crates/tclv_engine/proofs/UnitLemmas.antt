-- A unit, by whether there is one.
use Rattle.std.proofs.Common.{◌≡◌, ◌-◌, rules, true, false, ◌==◌}
use Rattle.tclv_engine.specs.State.{State}
use Rattle.tclv_engine.specs.Results.{Budget, ends, done}
use Rattle.tclv_engine.specs.Units.{take_unit}

pub no_unit : {W : Type 0} → (st : (State W)) → st.units ≡ 0 → ends Budget st ≡ take_unit st
no_unit st h = let t : (st.units == 0) ≡ true = search (rules, h) in rw t

pub some_unit : {W : Type 0} → (st : (State W)) → (st.units ≡ 0 → ⊥) → done tt (record st { units = st.units - 1 }) ≡ take_unit st
some_unit st h = let t : (st.units == 0) ≡ false = search (rules, h) in rw t
