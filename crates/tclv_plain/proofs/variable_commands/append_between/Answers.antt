use Rattle.std.proofs.Common.{rules, ap, ◌∙◌, ◌-◌, ◌+◌, [], get_or, ◌++◌, take, drop}
use Rattle.std.specs.Str.{chars}
use Rattle.std.specs.List.{concat}
use Rattle.tclv_value.specs.View.{text_at}
use Rattle.tclv_engine.specs.State.{state_of}
use Rattle.tclv_engine.specs.Answers.{last_of}
use Rattle.tclv_value.specs.declared.places.At.TheVariants.{Stack}
use Rattle.tclv_plain.specs.VariableRows.{assign_result}
use Rattle.tclv_engine.proofs.Binds.{runs_as}
use Rattle.tclv_engine.proofs.Leaves.{memory_runs, from_same}
use Rattle.tclv_plain.proofs.variable_commands.append_between.Goals as goal

pub returns-in_err-text-clause-answer : goal.returns-in_err-text-clause-answer
returns-in_err-text-clause-answer g c here w told = memory_runs (search rules) told c.joined.ensures.same.events

pub returns-clause-answer : goal.returns-clause-answer
returns-clause-answer g c here w told =
    let old = c.args.machine.now.values.store.stack in
    let name = text_at c.args.machine.now.values.store (Stack c.args.name) in
    let value = last_of old ++ concat (take (c.args.last - (c.args.name + 1)) (drop (c.args.name + 1) old)) in
    from_same c.args.machine.now c.joined.new.machine (assign_result name value) c.in_ok-text.ensures.same
    (runs_as (ap (λ s. assign_result (get_or s c.args.name []) (chars c.bytes.result.now) (state_of c.joined.new.machine w)) c.in_ok-text.ensures.stack
    ∙ ap (λ t. assign_result name t (state_of c.joined.new.machine w)) (c.bytes.ensures.text ∙ c.in_ok-text.ensures.text))
    (c.assign_text.ensures.answer here w told))
