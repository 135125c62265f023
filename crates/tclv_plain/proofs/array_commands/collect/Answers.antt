use Rattle.std.proofs.Common.{rules, ap, refl, ◌∙◌, ◌+◌, length, drop}
use Rattle.std.specs.Str.{chars}
use Rattle.tclv_engine.specs.State.{state_of}
use Rattle.tclv_engine.proofs.Binds.{runs_as, bind_ok, then_stop}
use Rattle.tclv_engine.proofs.Leaves.{done_runs}
use Rattle.tclv_engine.proofs.StackLemmas.{drop-more, keeps_on, keeps-split}
use Rattle.tclv_plain.specs.ArrayRows.{collect}
use Rattle.tclv_plain.proofs.ArrayLemmas.{collects_begin, collect_step, collect_end}
use Rattle.tclv_plain.proofs.array_commands.collect.Goals as goal

pub loop-index-init : goal.loop-index-init
loop-index-init g c = collects_begin (chars c.args.array.now) c.args.indices.now c.args.machine.now

pub returns-in_err-push_pair-clause-answer : goal.returns-in_err-push_pair-clause-answer
returns-in_err-push_pair-clause-answer g c here w told =
    c.loop-index.invariant.goes here w told _ _
    (λ v e. runs_as (collect_step (chars c.args.array.now) (drop (length c.args.machine.now.values.store.stack) c.loop-index.machine.values.store.stack) c.args.indices.now c.loop-index.index-index c.index-item.result (chars c.bytes.result.now) (state_of c.loop-index.machine v) (search rules) (search rules) c.bytes.ensures.text)
    (then_stop _ (search rules) (c.in_err-push_pair.ensures.answer here v e)))

pub loop-index-preserved : goal.loop-index-preserved
loop-index-preserved g c =
    let base = c.args.machine.now.values.store.stack in
    let mid = c.loop-index.machine.values.store.stack in
    let name = chars c.args.array.now in
    record {
      stack = keeps_on base mid c.push_pair.new.machine.values.store.stack c.loop-index.invariant.stack c.in_ok-push_pair.ensures.stack;
      units_left = c.in_ok-push_pair.ensures.units ∙ c.loop-index.invariant.units_left;
      goes = λ here w told r after k. c.loop-index.invariant.goes here w told r after
          (λ v e. runs_as (collect_step name (drop (length base) mid) c.args.indices.now c.loop-index.index-index c.index-item.result (chars c.bytes.result.now) (state_of c.loop-index.machine v) (search rules) (search rules) c.bytes.ensures.text)
          (bind_ok _ (c.in_ok-push_pair.ensures.answer here v e)
          (λ texts v2 e2 over. runs_as (ap (λ x. collect name x (drop (c.loop-index.index-index + 1) c.args.indices.now) (state_of c.push_pair.new.machine v2)) (drop-more base mid c.push_pair.new.machine.values.store.stack texts c.loop-index.invariant.stack.some over)) (k v2 e2))));
    }

pub returns-clause-answer : goal.returns-clause-answer
returns-clause-answer g c here w told =
    let base = c.args.machine.now.values.store.stack in
    let stack = c.loop-index.machine.values.store.stack in
    c.loop-index.invariant.goes here w told _ _
    (λ v e. runs_as (collect_end (chars c.args.array.now) (drop (length base) stack) c.args.indices.now c.loop-index.index-index (state_of c.loop-index.machine v) (search rules))
    (done_runs e refl (keeps-split base stack c.loop-index.invariant.stack)))
