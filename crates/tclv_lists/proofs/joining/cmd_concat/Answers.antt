use Rattle.std.proofs.Common.{◌≤◌, arith}
use Rattle.tclv_reply.proofs.Laws.{answered}
use Rattle.tclv_lists.proofs.joining.cmd_concat.Goals as goal

pub returns : goal.returns
returns c =
    let n = c.args.n in
    let le : n ≤ c.height-height.result = omega arith in
    answered _ n _ _ _ _ _ _ c.height-height.ensures le c.push_concat-done.ensures c.settle.ensures.settles c.settle.ensures.same
