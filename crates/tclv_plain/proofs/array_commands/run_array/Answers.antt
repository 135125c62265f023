use Rattle.std.proofs.Common.{ap, sym}
use Rattle.tclv_value.specs.Stacks.{top}
use Rattle.tclv_engine.specs.State.{state_of}
use Rattle.tclv_engine.proofs.Binds.{runs_as}
use Rattle.tclv_plain.specs.ArrayRows.{array_row}
use Rattle.tclv_plain.proofs.array_commands.run_array.Goals as goal

pub returns-in-Exists-clause-answer : goal.returns-in-Exists-clause-answer
returns-in-Exists-clause-answer g c here w told =
    runs_as (ap (λ k. array_row k (top c.args.n c.args.machine.now.values.store.stack) (state_of c.args.machine.now w)) (sym c.in-Exists.is)) (c.run_exists.ensures.answer here w told)

pub returns-in-Get-clause-answer : goal.returns-in-Get-clause-answer
returns-in-Get-clause-answer g c here w told =
    runs_as (ap (λ k. array_row k (top c.args.n c.args.machine.now.values.store.stack) (state_of c.args.machine.now w)) (sym c.in-Get.is)) (c.run_get.ensures.answer here w told)

pub returns-in-Names-clause-answer : goal.returns-in-Names-clause-answer
returns-in-Names-clause-answer g c here w told =
    runs_as (ap (λ k. array_row k (top c.args.n c.args.machine.now.values.store.stack) (state_of c.args.machine.now w)) (sym c.in-Names.is)) (c.run_names.ensures.answer here w told)

pub returns-in-Set-clause-answer : goal.returns-in-Set-clause-answer
returns-in-Set-clause-answer g c here w told =
    runs_as (ap (λ k. array_row k (top c.args.n c.args.machine.now.values.store.stack) (state_of c.args.machine.now w)) (sym c.in-Set.is)) (c.run_set.ensures.answer here w told)

pub returns-in-Size-clause-answer : goal.returns-in-Size-clause-answer
returns-in-Size-clause-answer g c here w told =
    runs_as (ap (λ k. array_row k (top c.args.n c.args.machine.now.values.store.stack) (state_of c.args.machine.now w)) (sym c.in-Size.is)) (c.run_size.ensures.answer here w told)

pub returns-in-Unset-clause-answer : goal.returns-in-Unset-clause-answer
returns-in-Unset-clause-answer g c here w told =
    runs_as (ap (λ k. array_row k (top c.args.n c.args.machine.now.values.store.stack) (state_of c.args.machine.now w)) (sym c.in-Unset.is)) (c.run_unset.ensures.answer here w told)
