use Rattle.std.proofs.Common.{◌*◌, [], get_or, drop}
use Rattle.tclv_engine.specs.ListAssignment.{listed}
use Rattle.tclv_plain.specs.ArrayRows.{assign_pairs}
use Rattle.tclv_plain.proofs.LinkLemmas.{Links}
use Rattle.tclv_plain.proofs.array_setting.assign_pairs.Given as goal

abbrev pub invariant-loop-i : goal.invariant-loop-i
invariant-loop-i g l =
    let stack = l.fn.machine.values.store.stack in
    let name = get_or stack l.array [] in
    let texts = listed (get_or stack l.list []) in
    Links (assign_pairs name texts) (assign_pairs name (drop (2 * l.i) texts)) l.fn.machine l.machine
