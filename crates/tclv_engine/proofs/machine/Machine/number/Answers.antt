use Rattle.std.proofs.Common.{rules, refl, ap, ◌∙◌, w64}
use Rattle.std.proofs.lemmas.Int.{to_z-of_z}
use Rattle.tclv_text.specs.Numbers.{whole_text}
use Rattle.tclv_engine.proofs.Leaves.{value_runs, memory_runs}
use Rattle.tclv_engine.proofs.StackLemmas.{last-pushed}
use Rattle.tclv_engine.proofs.machine.Machine.number.Goals as goal

pub returns-in_err-push_whole-clause-answer : goal.returns-in_err-push_whole-clause-answer
returns-in_err-push_whole-clause-answer g c here w told = memory_runs (search rules) told refl

pub returns-clause-answer : goal.returns-clause-answer
returns-clause-answer g c here w told =
    value_runs c.args.self.now told (search rules) (last-pushed _ _ _ c.in_ok-push_whole.ensures.pushed ∙ ap whole_text (to_z-of_z w64 c.args.value c.ranges.value))
