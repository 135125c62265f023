use Rattle.std.proofs.Common.{rules, refl, ◌∙◌, []}
use Rattle.std.proofs.lemmas.Str.{chars-nil}
use Rattle.tclv_engine.specs.Results.{plain}
use Rattle.tclv_engine.proofs.Leaves.{memory_runs, value_runs}
use Rattle.tclv_engine.proofs.StackLemmas.{last-pushed}
use Rattle.tclv_engine.proofs.WordLemmas.{values_same}
use Rattle.tclv_plain.proofs.link_commands.push_empty.Goals as goal

pub returns-in_err-push_text-clause-answer : goal.returns-in_err-push_text-clause-answer
returns-in_err-push_text-clause-answer g c here w told = memory_runs (search rules) told refl

pub returns-clause-answer : goal.returns-clause-answer
returns-clause-answer g c here w told =
    value_runs {a = plain []} c.args.machine.now told (values_same c.args.machine.now c.push_text.new.self c.push_text.ensures.same)
    (last-pushed _ _ _ c.in_ok-push_text.ensures.pushed ∙ chars-nil, refl)
