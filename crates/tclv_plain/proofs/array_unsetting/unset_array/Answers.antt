use Rattle.std.proofs.Common.{rules, ap, ◌∙◌, refl, [], None, get_or}
use Rattle.std.proofs.lemmas.Str.{chars-nil}
use Rattle.tclv_engine.specs.Results.{ok}
use Rattle.tclv_engine.specs.State.{state_of}
use Rattle.tclv_engine.proofs.Binds.{runs_as, bind_ok, then_stop}
use Rattle.tclv_engine.proofs.Leaves.{memory_runs, from_same}
use Rattle.tclv_engine.proofs.WordLemmas.{values_same}
use Rattle.tclv_plain.specs.ArrayRows.{array_unset, unset_array}
use Rattle.tclv_plain.proofs.array_unsetting.unset_array.Goals as goal

pub returns-in_err-text-clause-answer : goal.returns-in_err-text-clause-answer
returns-in_err-text-clause-answer g c here w told = memory_runs (search rules) told refl

pub returns-in_err-unset_whole-clause-answer : goal.returns-in_err-unset_whole-clause-answer
returns-in_err-unset_whole-clause-answer g c here w told =
    let old = c.args.machine.now in
    let mid = record old { values = c.copy_at.new.values } in
    let name = get_or old.values.store.stack c.args.name [] in
    from_same old mid (array_unset name None) (values_same old c.copy_at.new.values c.copy_at.ensures.same)
    (then_stop _ (search rules)
    (runs_as (ap (λ t. unset_array t (state_of mid w)) (c.bytes.ensures.text ∙ c.in_ok-text.ensures.copy)) (c.in_err-unset_whole.ensures.answer here w told)))

pub returns-clause-answer : goal.returns-clause-answer
returns-clause-answer g c here w told =
    let old = c.args.machine.now in
    let mid = record old { values = c.copy_at.new.values } in
    let name = get_or old.values.store.stack c.args.name [] in
    from_same old mid (array_unset name None) (values_same old c.copy_at.new.values c.copy_at.ensures.same)
    (bind_ok _
    (runs_as (ap (λ t. unset_array t (state_of mid w)) (c.bytes.ensures.text ∙ c.in_ok-text.ensures.copy)) (c.in_ok-unset_whole.ensures.answer here w told))
    (λ u v e shown. runs_as (ap (λ t. ok t (state_of c.unset_whole.new.machine v)) chars-nil) (c.push_result.ensures.answer here v e)))
