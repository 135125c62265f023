use Rattle.std.proofs.Common.{ap, sym, [], get_or}
use Rattle.std.specs.Option.{option_map}
use Rattle.tclv_engine.specs.Plans.{placed}
use Rattle.tclv_engine.specs.State.{state_of}
use Rattle.tclv_engine.proofs.Binds.{runs_as}
use Rattle.tclv_plain.specs.ArrayRows.{array_unset}
use Rattle.tclv_plain.proofs.array_unsetting.array_unset.Goals as goal

pub returns-in-None-clause-answer : goal.returns-in-None-clause-answer
returns-in-None-clause-answer g c here w told =
    let stack = c.args.machine.now.values.store.stack in
    runs_as (ap (λ p. array_unset (get_or stack c.args.name []) (option_map (placed stack) p) (state_of c.args.machine.now w)) (sym c.in-None.is)) (c.unset_array.ensures.answer here w told)

pub returns-in-Some-clause-answer : goal.returns-in-Some-clause-answer
returns-in-Some-clause-answer g c here w told =
    let stack = c.args.machine.now.values.store.stack in
    runs_as (ap (λ p. array_unset (get_or stack c.args.name []) (option_map (placed stack) p) (state_of c.args.machine.now w)) (sym c.in-Some.is)) (c.unset_fitting.ensures.answer here w told)
