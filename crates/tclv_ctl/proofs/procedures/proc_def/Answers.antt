use Rattle.std.proofs.Common.{arith}
use Rattle.tclv_value.specs.Stacks.{top}
use Rattle.tclv_reply.specs.Replies.{call_word}
use Rattle.tclv_reply.proofs.Laws.{room_refused}
use Rattle.tclv_ctl.specs.Parameters.{proc_of}
use Rattle.tclv_ctl.proofs.CallLemmas.{understood, misunderstood}
use Rattle.tclv_ctl.proofs.procedures.proc_def.Goals as goal

pub returns-in-Ok : goal.returns-in-Ok
returns-in-Ok c =
    let s = c.args.store.now in
    let n = c.args.n in
    understood (proc_of (call_word n s.stack) (top n s.stack)) _ n s c.read_procedure.new.store c.cut.new.store c.height-height.result c.in-Ok.made c.height-height.ensures c.in-Ok.ensures c.cut.ensures.stack c.cut.ensures.cells c.cut.ensures.keeps

pub settle_refusal-requires-clause-left : goal.settle_refusal-requires-clause-left
settle_refusal-requires-clause-left c =
    let s = c.args.store.now in
    let n = c.args.n in
    room_refused (proc_of (call_word n s.stack) (top n s.stack)) c.height-height.result s c.read_procedure.new.store c.in-Err.kind c.height-height.ensures c.in-Err.ensures.grows c.in-Err.ensures.refuses

pub returns-in-Err : goal.returns-in-Err
returns-in-Err c =
    let s = c.args.store.now in
    let n = c.args.n in
    misunderstood (proc_of (call_word n s.stack) (top n s.stack)) _ n s c.read_procedure.new.store c.settle_refusal.new.store c.height-height.result c.in-Err.kind c.settle_refusal.result c.height-height.ensures (omega (arith, c.height-height.ensures)) c.settle_refusal.ensures.same c.in-Err.ensures c.settle_refusal.ensures.settles
