use Rattle.std.proofs.Common.{ap, rules, refl, [], get_or}
use Rattle.std.specs.Option.{option_map}
use Rattle.tclv_engine.specs.Plans.{placed}
use Rattle.tclv_engine.specs.State.{state_of}
use Rattle.tclv_engine.proofs.Binds.{runs_as}
use Rattle.tclv_engine.proofs.Leaves.{memory_runs, from_same}
use Rattle.tclv_plain.specs.ArrayRows.{indices}
use Rattle.tclv_plain.proofs.array_indices.indices.Goals as goal

pub returns-in_err-make_text-clause-answer : goal.returns-in_err-make_text-clause-answer
returns-in_err-make_text-clause-answer g c here w told = memory_runs (search rules) told refl

pub returns-clause-answer : goal.returns-clause-answer
returns-clause-answer g c here w told =
    let old = c.args.machine.now in
    let mid = record old { values = c.make_text.new.self } in
    let stack = old.values.store.stack in
    from_same old mid (indices (get_or stack c.args.name []) (option_map (placed stack) c.args.pattern)) (search rules)
    (runs_as (ap (λ s. indices (get_or s c.args.name []) (option_map (placed s) c.args.pattern) (state_of mid w)) c.in_ok-make_text.ensures.stack) (c.indices_made.ensures.answer here w told))
