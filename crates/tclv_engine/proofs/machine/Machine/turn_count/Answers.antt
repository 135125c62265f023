use Rattle.std.proofs.Common.{rules, ◌≡◌, ◌≤◌, length, get_or}
use Rattle.std.proofs.lemmas.List.{get_or_default}
use Rattle.tclv_engine.specs.EachLoops.{turn_count}
use Rattle.tclv_engine.specs.EachSteps.{groups_at}
use Rattle.tclv_engine.proofs.ForeachLemmas.{count_more, count_all}
use Rattle.tclv_engine.proofs.machine.Machine.turn_count.Goals as goal

pub group_turns-requires : goal.group_turns-requires
group_turns-requires g c = c.requires c.loop-i.i _ c.loop-i-test.true

pub loop-i-preserved : goal.loop-i-preserved
loop-i-preserved g c =
    let stack = c.args.self.now.values.store.stack in
    let group = get_or c.args.groups.now c.loop-i.i (record { names = 0; values = 0; name_count = 0; value_count = 0 }) in
    let known : get_or c.args.groups.now c.loop-i.i group ≡ group = get_or_default c.args.groups.now c.loop-i.i group _ c.loop-i-test.true in
    count_more stack c.args.groups.now c.loop-i.i group c.loop-i.most c.max-most.result (turn_count (groups_at stack c.args.groups.now)) c.loop-i-test.true known c.loop-i.invariant (search rules)

pub returns : goal.returns
returns g c =
    let stack = c.args.self.now.values.store.stack in
    let ended : length c.args.groups.now ≤ c.loop-i.i = search rules in
    count_all stack c.args.groups.now c.loop-i.i c.loop-i.most (turn_count (groups_at stack c.args.groups.now)) ended c.loop-i.invariant
