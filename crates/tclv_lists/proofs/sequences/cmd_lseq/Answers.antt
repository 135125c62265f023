use Rattle.std.proofs.Common.{◌≤◌, arith}
use Rattle.tclv_reply.proofs.Laws.{answered}
use Rattle.tclv_lists.proofs.sequences.cmd_lseq.Goals as goal

pub returns : goal.returns
returns c =
    let n = c.args.n in
    let h = c.height-height.ensures in
    let le : n ≤ c.height-height.result = omega arith in
    answered _ n _ _ _ _ _ _ h le c.push_numbers-done.ensures c.settle.ensures.settles c.settle.ensures.same
