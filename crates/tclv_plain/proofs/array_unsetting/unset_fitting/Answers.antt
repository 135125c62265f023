use Rattle.std.proofs.Common.{rules, ap, ◌∙◌, refl, [], get_or}
use Rattle.std.proofs.lemmas.Str.{chars-nil}
use Rattle.tclv_engine.specs.Results.{ok}
use Rattle.tclv_engine.specs.State.{state_of}
use Rattle.tclv_engine.proofs.Binds.{runs_as, bind_ok, then_stop}
use Rattle.tclv_engine.proofs.Leaves.{memory_runs, same_state}
use Rattle.tclv_engine.proofs.WordLemmas.{values_same}
use Rattle.tclv_plain.specs.ArrayRows.{without_elements}
use Rattle.tclv_plain.proofs.ArrayLemmas.{changed_runs}
use Rattle.tclv_plain.proofs.array_unsetting.unset_fitting.Goals as goal

pub returns-in_err-chosen-clause-answer : goal.returns-in_err-chosen-clause-answer
returns-in_err-chosen-clause-answer g c here w told = then_stop _ (search rules) (c.in_err-chosen.ensures.answer here w told)

pub returns-in_err-array-clause-answer : goal.returns-in_err-array-clause-answer
returns-in_err-array-clause-answer g c here w told =
    bind_ok _ (c.in_ok-chosen.ensures.answer here w told) (λ is v e shown. memory_runs (search rules) e refl)

pub returns-clause-answer : goal.returns-clause-answer
returns-clause-answer g c here w told =
    let stack = c.args.machine.now.values.store.stack in
    let name = get_or stack c.args.name [] in
    let one = c.indices.new.machine in
    let mid = record one { values = c.copy_at.new.values } in
    let new = c.drop_elements.new.machine in
    let text = c.bytes.ensures.text ∙ c.in_ok-array.ensures.copy ∙ ap (λ s. get_or s c.args.name []) c.in_ok-chosen.ensures.stack in
    bind_ok _ (c.in_ok-chosen.ensures.answer here w told)
    (λ is v e shown. changed_runs one new (ok []) (without_elements name is (state_of one v))
    (c.drop_elements.ensures.state v
    ∙ ap (λ t. without_elements t c.all.result.now (state_of mid v)) text
    ∙ ap (λ ws. without_elements name ws (state_of mid v)) (c.all.ensures ∙ shown)
    ∙ ap (without_elements name is) (same_state one mid v (values_same one c.copy_at.new.values c.copy_at.ensures.same)))
    c.drop_elements.ensures.writes
    (runs_as (ap (λ t. ok t (state_of new v)) chars-nil) (c.push_result.ensures.answer here v e)))
