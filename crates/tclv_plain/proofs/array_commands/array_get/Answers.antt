use Rattle.std.proofs.Common.{rules, ap, ◌∙◌, refl, [], get_or}
use Rattle.tclv_engine.specs.State.{state_of}
use Rattle.tclv_engine.proofs.Binds.{runs_as, bind_ok, then_stop}
use Rattle.tclv_engine.proofs.Leaves.{memory_runs, from_same}
use Rattle.tclv_engine.proofs.WordLemmas.{values_same}
use Rattle.tclv_plain.specs.ArrayRows.{collect_list}
use Rattle.tclv_plain.proofs.array_commands.array_get.Goals as goal

pub returns-in_err-chosen-clause-answer : goal.returns-in_err-chosen-clause-answer
returns-in_err-chosen-clause-answer g c here w told = then_stop _ (search rules) (c.in_err-chosen.ensures.answer here w told)

pub returns-in_err-array-clause-answer : goal.returns-in_err-array-clause-answer
returns-in_err-array-clause-answer g c here w told =
    bind_ok _ (c.in_ok-chosen.ensures.answer here w told) (λ is v e shown. memory_runs (search rules) e refl)

pub returns-clause-answer : goal.returns-clause-answer
returns-clause-answer g c here w told =
    let stack = c.args.machine.now.values.store.stack in
    let name = get_or stack c.args.name [] in
    let one = c.indices.new.machine in
    let mid = record one { values = c.copy_at.new.values } in
    let text = c.bytes.ensures.text ∙ c.in_ok-array.ensures.copy ∙ ap (λ s. get_or s c.args.name []) c.in_ok-chosen.ensures.stack in
    bind_ok _ (c.in_ok-chosen.ensures.answer here w told)
    (λ is v e shown. from_same one mid (collect_list name is) (values_same one c.copy_at.new.values c.copy_at.ensures.same)
    (runs_as
    (ap (λ t. collect_list t c.all.result.now (state_of mid v)) text
    ∙ ap (λ ws. collect_list name ws (state_of mid v)) (c.all.ensures ∙ shown))
    (c.collect_list.ensures.answer here v e)))
