use Rattle.std.proofs.Common.{◌-◌, ap, sym, ℕ, drop, arith}
use Rattle.tclv_value.specs.Stacks.{top}
use Rattle.tclv_reply.proofs.Laws.{room_refused}
use Rattle.tclv_ctl.specs.Returns.{return_of}
use Rattle.tclv_ctl.proofs.ReadLemmas.{understood_so, refused_so}
use Rattle.tclv_ctl.proofs.returns.return_words.Goals as goal

pub returns-in-Ok : goal.returns-in-Ok
returns-in-Ok c =
    let s = c.args.store.now in
    let n = c.args.n in
    let h = c.height-height.result in
    understood_so (return_of (top n s.stack)) (return_of (drop (h - n) s.stack)) _ n s c.read_return.new.store c.in-Ok.ret (sym (ap (λ (k : ℕ). return_of (drop (k - n) s.stack)) c.height-height.ensures)) c.in-Ok.ensures

pub settle_refusal-requires-clause-left : goal.settle_refusal-requires-clause-left
settle_refusal-requires-clause-left c =
    let s = c.args.store.now in
    room_refused (return_of (drop (c.height-height.result - c.args.n) s.stack)) c.height-height.result s c.read_return.new.store c.in-Err.kind c.height-height.ensures c.in-Err.ensures.grows c.in-Err.ensures.refuses

pub returns-in-Err : goal.returns-in-Err
returns-in-Err c =
    let s = c.args.store.now in
    let n = c.args.n in
    let h = c.height-height.result in
    refused_so (return_of (top n s.stack)) (return_of (drop (h - n) s.stack)) _ n s c.read_return.new.store c.settle_refusal.new.store h c.in-Err.kind c.settle_refusal.result (sym (ap (λ (k : ℕ). return_of (drop (k - n) s.stack)) c.height-height.ensures)) c.height-height.ensures (omega (arith, c.height-height.ensures)) c.settle_refusal.ensures.same c.in-Err.ensures.grows c.in-Err.ensures.refuses c.settle_refusal.ensures.settles
