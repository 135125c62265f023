use Rattle.std.proofs.Common.{◌+◌, ◌-◌, subst, List, ℕ, [], drop, get_or, arith}
use Rattle.tclv_model.specs.declared.usages.Usage.TheVariants.{Try}
use Rattle.tclv_model.specs.Usages.{usage_of}
use Rattle.tclv_model.specs.Rows.{wrong_count}
use Rattle.tclv_value.specs.Stacks.{top}
use Rattle.tclv_reply.specs.Replies.{Refused, call_word}
use Rattle.tclv_reply.proofs.Laws.{room_refused, count_refused}
use Rattle.tclv_ctl.specs.Handlers.{Handlers, clauses_of, handlers_of}
use Rattle.tclv_ctl.proofs.HandlerLemmas.{some_words}
use Rattle.tclv_ctl.proofs.ReadLemmas.{understood_so, refused_so}
use Rattle.tclv_ctl.proofs.EndingLemmas.{no_words}
use Rattle.tclv_ctl.proofs.handlers.try_clauses.Goals as goal

pub returns-then-n-eq0 : goal.returns-then-n-eq0
returns-then-n-eq0 c =
    let s = c.args.store.now in
    let n = c.args.n in
    let h = c.height-height.result in
    let mid = c.refuse_count-kind.new.store in
    let kind = c.refuse_count-kind.result in
    let word = get_or s.stack (h - 1) [] in
    let said = c.refuse_count-kind.ensures.refused in
    refused_so (handlers_of (call_word n s.stack) (top n s.stack)) (wrong_count word (usage_of Try)) _ n s mid c.settle_refusal.new.store h kind c.settle_refusal.result
    (no_words s.stack n h c.height-height.ensures (omega (arith, c.if-n-eq0.true))) c.height-height.ensures (omega (arith, c.if-n-eq0.true)) c.settle_refusal.ensures.same c.refuse_count-kind.ensures.grows
    (count_refused Handlers word (usage_of Try) kind s.stack mid.stack said) c.settle_refusal.ensures.settles

pub returns-in-Ok : goal.returns-in-Ok
returns-in-Ok c =
    let s = c.args.store.now in
    let n = c.args.n in
    let h = c.height-height.result in
    understood_so (handlers_of (call_word n s.stack) (top n s.stack)) (clauses_of (get_or s.stack (h - n - 1) []) (drop (h - n + 1) s.stack)) _ n s c.read_clauses.new.store c.in-Ok.plan
    (some_words s.stack n h c.height-height.ensures (omega arith) (omega (arith, c.requires))) c.in-Ok.ensures

pub settle_refusal-requires-in-Err-clause-left : goal.settle_refusal-requires-in-Err-clause-left
settle_refusal-requires-in-Err-clause-left c =
    let s = c.args.store.now in
    let h = c.height-height.result in
    room_refused (clauses_of (get_or s.stack (h - c.args.n - 1) []) (drop (h - c.args.n + 1) s.stack)) h s c.read_clauses.new.store c.in-Err.kind c.height-height.ensures c.in-Err.ensures.grows c.in-Err.ensures.refuses

pub returns-in-Err : goal.returns-in-Err
returns-in-Err c =
    let s = c.args.store.now in
    let n = c.args.n in
    let h = c.height-height.result in
    refused_so (handlers_of (call_word n s.stack) (top n s.stack)) (clauses_of (get_or s.stack (h - n - 1) []) (drop (h - n + 1) s.stack)) _ n s c.read_clauses.new.store c.settle_refusal-in-Err.new.store h c.in-Err.kind c.settle_refusal-in-Err.result
    (some_words s.stack n h c.height-height.ensures (omega arith) (omega (arith, c.requires))) c.height-height.ensures (omega (arith, c.height-height.ensures, c.requires)) c.settle_refusal-in-Err.ensures.same c.in-Err.ensures.grows c.in-Err.ensures.refuses c.settle_refusal-in-Err.ensures.settles
