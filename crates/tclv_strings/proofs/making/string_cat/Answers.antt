use Rattle.std.proofs.Common.{◌≤◌, [], ap, arith}
use Rattle.tclv_reply.specs.Replies.{call_word}
use Rattle.tclv_strings.specs.Making.{row_cat}
use Rattle.tclv_reply.proofs.Laws.{answered, answers_as, first_word}
use Rattle.tclv_strings.proofs.making.string_cat.Goals as goal

pub returns : goal.returns
returns c =
    let s = c.args.store.now.stack in
    let n = c.args.n in
    let h = c.height-height.ensures in
    let le : n ≤ c.height-height.result = omega arith in
    let row = ap (row_cat (call_word n s)) (first_word s [] n (omega arith) (omega arith)) in
    answers_as _ _ n _ _ _ row (answered _ n _ _ _ _ _ _ h le c.push_all_joined-done.ensures c.settle.ensures.settles c.settle.ensures.same)
