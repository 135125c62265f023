use Rattle.std.proofs.Common.{rules, ap, ◌∙◌, ◌-◌, ◌+◌, ◌++◌, take, drop}
use Rattle.std.specs.List.{concat}
use Rattle.tclv_value.specs.View.{text_at}
use Rattle.tclv_engine.specs.State.{state_of}
use Rattle.tclv_engine.specs.Answers.{last_of}
use Rattle.std.proofs.lemmas.Str.{chars-nil}
use Rattle.tclv_value.specs.declared.places.At.TheVariants.{Stack}
use Rattle.tclv_plain.specs.VariableRows.{variable_or, assign_result}
use Rattle.tclv_engine.proofs.Binds.{runs_as, bind_ok, then_stop}
use Rattle.tclv_engine.proofs.StackLemmas.{text_below}
use Rattle.tclv_plain.proofs.VariableRowLemmas.{texts_below}
use Rattle.tclv_plain.proofs.variable_commands.append_all.Goals as goal

pub returns-in_err-push_variable_or-clause-answer : goal.returns-in_err-push_variable_or-clause-answer
returns-in_err-push_variable_or-clause-answer g c here w told =
    let name = text_at c.args.machine.now.values.store (Stack c.args.name) in
    then_stop _ (search rules) (runs_as (ap (λ t. variable_or t name (state_of c.args.machine.now w)) chars-nil) (c.in_err-push_variable_or.ensures.answer here w told))

pub returns-clause-answer : goal.returns-clause-answer
returns-clause-answer g c here w told =
    let old = c.args.machine.now.values.store.stack in
    let mid = c.push_variable_or.new.machine.values.store.stack in
    let name = text_at c.args.machine.now.values.store (Stack c.args.name) in
    let below = text_below old mid c.args.name c.in_ok-push_variable_or.ensures.stack c.requires in
    let values = ap (λ l. take (l - (c.args.name + 1)) (drop (c.args.name + 1) mid)) c.height-last.ensures ∙ texts_below old mid (c.args.name + 1) c.in_ok-push_variable_or.ensures.stack (search rules) in
    bind_ok _ (runs_as (ap (λ t. variable_or t name (state_of c.args.machine.now w)) chars-nil) (c.in_ok-push_variable_or.ensures.answer here w told))
    (λ text v e shown. runs_as (ap (λ t. assign_result t (last_of mid ++ concat (take (c.height-last.result - (c.args.name + 1)) (drop (c.args.name + 1) mid))) (state_of c.push_variable_or.new.machine v)) below
    ∙ ap (λ ts. assign_result name (last_of mid ++ concat ts) (state_of c.push_variable_or.new.machine v)) values
    ∙ ap (λ t. assign_result name (t ++ concat (drop (c.args.name + 1) old)) (state_of c.push_variable_or.new.machine v)) shown)
    (c.append_between.ensures.answer here v e))
