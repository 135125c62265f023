use Rattle.std.proofs.Common.{rules, refl}
use Rattle.std.specs.Str.{chars}
use Rattle.tclv_engine.proofs.Leaves.{memory_runs}
use Rattle.tclv_engine.proofs.WordLemmas.{values_same}
use Rattle.tclv_plain.proofs.VariableRowLemmas.{pushed_runs, kept_pushed}
use Rattle.tclv_plain.proofs.variable_commands.assign_text.Goals as goal

pub returns-in_err-push_text-clause-answer : goal.returns-in_err-push_text-clause-answer
returns-in_err-push_text-clause-answer g c here w told = memory_runs (search rules) told refl

pub returns-clause-answer : goal.returns-clause-answer
returns-clause-answer g c here w told =
    pushed_runs c.args.machine.now (record c.args.machine.now { values = c.push_text.new.self }) c.args.name (chars c.args.text.now) (values_same c.args.machine.now c.push_text.new.self c.push_text.ensures.same) (search rules) c.in_ok-push_text.ensures.pushed
    (c.assign_result.ensures.answer here w told)

pub returns-clause-stack : goal.returns-clause-stack
returns-clause-stack g c = kept_pushed c.assign_result.result _ c.args.machine.now.values.store.stack c.push_text.new.self.store.stack c.assign_result.new.machine.values.store.stack c.in_ok-push_text.ensures.pushed c.assign_result.ensures.stack
