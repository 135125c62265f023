use Rattle.std.proofs.Common.{rules, refl}
use Rattle.tclv_engine.proofs.Leaves.{value_runs, memory_runs}
use Rattle.tclv_engine.proofs.StackLemmas.{last-pushed}
use Rattle.tclv_engine.proofs.machine.Machine.push_text.Goals as goal

pub returns-in_err-push_text-clause-answer : goal.returns-in_err-push_text-clause-answer
returns-in_err-push_text-clause-answer g c here w told = memory_runs (search rules) told refl

pub returns-clause-answer : goal.returns-clause-answer
returns-clause-answer g c here w told = value_runs c.args.self.now told (search rules) (last-pushed _ _ _ c.in_ok-push_text.ensures.pushed)
