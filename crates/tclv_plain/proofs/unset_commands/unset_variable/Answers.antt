use Rattle.std.proofs.Common.{rules, ap, ◌∙◌, refl}
use Rattle.tclv_value.specs.View.{text_at}
use Rattle.tclv_value.specs.declared.places.At.TheVariants.{Stack}
use Rattle.tclv_engine.specs.State.{state_of}
use Rattle.tclv_engine.proofs.Binds.{runs_as}
use Rattle.tclv_engine.proofs.Leaves.{memory_runs, from_same}
use Rattle.tclv_engine.proofs.WordLemmas.{values_same}
use Rattle.tclv_plain.specs.UnsetRows.{unset_variable}
use Rattle.tclv_plain.proofs.unset_commands.unset_variable.Goals as goal

pub returns-in_err-text-clause-answer : goal.returns-in_err-text-clause-answer
returns-in_err-text-clause-answer g c here w told = memory_runs (search rules) told refl

pub returns-clause-answer : goal.returns-clause-answer
returns-clause-answer g c here w told =
    let old = c.args.machine.now in
    let mid = record old { values = c.copy_at.new.values } in
    let name = text_at old.values.store (Stack c.args.name) in
    from_same old mid (unset_variable c.args.complains name) (values_same old c.copy_at.new.values c.copy_at.ensures.same)
    (runs_as (ap (λ t. unset_variable c.args.complains t (state_of mid w)) (c.bytes.ensures.text ∙ c.in_ok-text.ensures.copy)) (c.unset_text.ensures.answer here w told))
