use Rattle.std.proofs.Common.{rules, ap}
use Rattle.std.specs.Str.{chars}
use Rattle.tclv_value.specs.View.{text_at}
use Rattle.tclv_engine.specs.State.{state_of}
use Rattle.tclv_engine.specs.Variables.{variable}
use Rattle.tclv_engine.proofs.Binds.{runs_as}
use Rattle.tclv_engine.proofs.Leaves.{memory_runs, value_runs, from_same}
use Rattle.tclv_engine.proofs.StackLemmas.{last-pushed}
use Rattle.tclv_engine.proofs.WordLemmas.{text_kept}
use Rattle.tclv_plain.proofs.VariableRowLemmas.{unset_value, set_value}
use Rattle.tclv_plain.proofs.variable_commands.push_variable_or.Goals as goal

pub returns-in_err-is_unset-clause-answer : goal.returns-in_err-is_unset-clause-answer
returns-in_err-is_unset-clause-answer g c here w told = memory_runs (search rules) told (search rules)

pub returns-in_err-push_text-clause-answer : goal.returns-in_err-push_text-clause-answer
returns-in_err-push_text-clause-answer g c here w told = memory_runs (search rules) told (search rules)

pub returns-in_ok-push_text-clause-answer : goal.returns-in_ok-push_text-clause-answer
returns-in_ok-push_text-clause-answer g c here w told =
    runs_as (unset_value (chars c.args.instead.now) (text_at c.args.machine.now.values.store c.args.name) (state_of c.args.machine.now w) _ c.in_ok-is_unset.ensures.answer c.if-branch.true)
    (value_runs c.args.machine.now told (search rules) (last-pushed _ _ _ c.in_ok-push_text.ensures.pushed))

pub returns-else-branch-clause-answer : goal.returns-else-branch-clause-answer
returns-else-branch-clause-answer g c here w told =
    runs_as (set_value (chars c.args.instead.now) (text_at c.args.machine.now.values.store c.args.name) (state_of c.args.machine.now w) _ c.in_ok-is_unset.ensures.answer c.if-branch.false)
    (from_same c.args.machine.now c.is_unset.new.machine (variable (text_at c.args.machine.now.values.store c.args.name)) c.is_unset.ensures.same
    (runs_as (ap (λ t. variable t (state_of c.is_unset.new.machine w)) (text_kept c.args.machine.now.values.store c.is_unset.new.machine.values.store c.args.name c.is_unset.ensures.stack c.is_unset.ensures.same.variables.cells))
    (c.push_variable_at.ensures.answer here w told)))
