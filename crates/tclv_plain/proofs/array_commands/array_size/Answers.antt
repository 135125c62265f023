use Rattle.std.proofs.Common.{ap, rules, refl, [], get_or}
use Rattle.tclv_engine.specs.State.{state_of}
use Rattle.tclv_engine.proofs.Binds.{runs_as}
use Rattle.tclv_engine.proofs.Leaves.{memory_runs, from_same}
use Rattle.tclv_plain.specs.ArrayRows.{array_size}
use Rattle.tclv_plain.proofs.array_commands.array_size.Goals as goal

pub returns-in_err-make_text-clause-answer : goal.returns-in_err-make_text-clause-answer
returns-in_err-make_text-clause-answer g c here w told = memory_runs (search rules) told refl

pub returns-clause-answer : goal.returns-clause-answer
returns-clause-answer g c here w told =
    let old = c.args.machine.now in
    let mid = record old { values = c.make_text.new.self } in
    from_same old mid (array_size (get_or old.values.store.stack c.args.name [])) (search rules)
    (runs_as (ap (λ s. array_size (get_or s c.args.name []) (state_of mid w)) c.in_ok-make_text.ensures.stack) (c.size_made.ensures.answer here w told))
