use Rattle.std.proofs.Common.{rules, refl, ap, ◌∙◌, [], w64, ◌++◌}
use Rattle.std.proofs.lemmas.Int.{to_z-of_z}
use Rattle.std.proofs.Common.{◌∷◌}
use Rattle.tclv_text.specs.Numbers.{whole_text}
use Rattle.tclv_engine.proofs.Leaves.{memory_runs}
use Rattle.tclv_engine.proofs.WordLemmas.{values_same}
use Rattle.tclv_plain.proofs.VariableRowLemmas.{pushed_runs, kept_pushed}
use Rattle.tclv_plain.proofs.variable_commands.assign_whole.Goals as goal

pub returns-in_err-push_whole-clause-answer : goal.returns-in_err-push_whole-clause-answer
returns-in_err-push_whole-clause-answer g c here w told = memory_runs (search rules) told refl

pub returns-clause-answer : goal.returns-clause-answer
returns-clause-answer g c here w told =
    let same = to_z-of_z w64 c.args.n c.ranges.n in
    pushed_runs c.args.machine.now (record c.args.machine.now { values = c.push_whole.new.self }) c.args.name (whole_text c.args.n) (values_same c.args.machine.now c.push_whole.new.self c.push_whole.ensures.same) (search rules) (c.in_ok-push_whole.ensures.pushed ∙ ap (λ z. c.args.machine.now.values.store.stack ++ whole_text z ∷ []) same)
    (c.assign_result.ensures.answer here w told)

pub returns-clause-stack : goal.returns-clause-stack
returns-clause-stack g c = kept_pushed c.assign_result.result _ c.args.machine.now.values.store.stack c.push_whole.new.self.store.stack c.assign_result.new.machine.values.store.stack c.in_ok-push_whole.ensures.pushed c.assign_result.ensures.stack
