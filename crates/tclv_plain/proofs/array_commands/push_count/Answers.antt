use Rattle.std.proofs.Common.{rules, refl, pos}
use Rattle.tclv_text.specs.Numbers.{whole_text}
use Rattle.tclv_engine.specs.Results.{plain}
use Rattle.tclv_engine.proofs.Leaves.{memory_runs, value_runs}
use Rattle.tclv_engine.proofs.StackLemmas.{last-pushed}
use Rattle.tclv_engine.proofs.WordLemmas.{values_same}
use Rattle.tclv_plain.proofs.array_commands.push_count.Goals as goal

pub returns-in_err-counted-clause-answer : goal.returns-in_err-counted-clause-answer
returns-in_err-counted-clause-answer g c here w told = memory_runs (search rules) told refl

pub returns-clause-answer : goal.returns-clause-answer
returns-clause-answer g c here w told =
    value_runs {a = plain (whole_text (pos c.args.count))} c.args.machine.now told (values_same c.args.machine.now c.counted.new.values c.counted.ensures.same)
    (last-pushed _ _ _ c.in_ok-counted.ensures.pushed, refl)
