use Rattle.std.proofs.Common.{rules, ap, ◌∙◌, to_z, of_z, w64}
use Rattle.tclv_value.specs.View.{text_at}
use Rattle.tclv_engine.specs.State.{state_of}
use Rattle.tclv_engine.specs.Answers.{last_of}
use Rattle.std.proofs.lemmas.Int.{to_z-of_z}
use Rattle.tclv_value.specs.declared.places.At.TheVariants.{Stack}
use Rattle.tclv_plain.specs.VariableRows.{variable_or, increase_from}
use Rattle.tclv_engine.proofs.Binds.{runs_as, bind_ok, then_stop}
use Rattle.tclv_engine.proofs.StackLemmas.{text_below}
use Rattle.tclv_plain.proofs.VariableRowLemmas.{zero_written}
use Rattle.tclv_plain.proofs.variable_commands.increase.Goals as goal

pub returns-in_err-push_variable_or-clause-answer : goal.returns-in_err-push_variable_or-clause-answer
returns-in_err-push_variable_or-clause-answer g c here w told =
    let name = text_at c.args.machine.now.values.store (Stack c.args.name) in
    then_stop _ (search rules) (runs_as (ap (λ t. variable_or t name (state_of c.args.machine.now w)) zero_written) (c.in_err-push_variable_or.ensures.answer here w told))

pub returns-clause-answer : goal.returns-clause-answer
returns-clause-answer g c here w told =
    let old = c.args.machine.now.values.store.stack in
    let mid = c.push_variable_or.new.machine.values.store.stack in
    let name = text_at c.args.machine.now.values.store (Stack c.args.name) in
    let below = text_below old mid c.args.name c.in_ok-push_variable_or.ensures.stack (search rules) in
    let by = to_z-of_z w64 c.args.increment c.ranges.increment in
    bind_ok _ (runs_as (ap (λ t. variable_or t name (state_of c.args.machine.now w)) zero_written) (c.in_ok-push_variable_or.ensures.answer here w told))
    (λ text v e shown. runs_as (ap (λ t. increase_from t (to_z w64 (of_z w64 c.args.increment)) (last_of mid) (state_of c.push_variable_or.new.machine v)) below
    ∙ ap (λ z. increase_from name z (last_of mid) (state_of c.push_variable_or.new.machine v)) by
    ∙ ap (λ t. increase_from name c.args.increment t (state_of c.push_variable_or.new.machine v)) shown)
    (c.increase_from.ensures.answer here v e))
