use Rattle.std.proofs.Common.{◌≤◌, subst, ◌-◌, Err, List, ℕ, [], arith, get_or}
use Rattle.tclv_model.specs.Rows.{wrong_count}
use Rattle.tclv_model.specs.Usages.{usage_of}
use Rattle.tclv_reply.specs.Replies.{call_word, Refused}
use Rattle.tclv_reply.proofs.ReplyLemmas.{answered, leaves_refusal}
use Rattle.tclv_reply.proofs.replies.refuse_words.Goals as goal

pub returns : goal.returns
returns c =
    let old = c.args.store.now in
    let mid = c.refuse_count-fault.new.store in
    let n = c.args.n in
    let usage = usage_of c.args.usage in
    let kind = c.refuse_count-fault.result in
    let le : n ≤ c.height-height.result = omega arith in
    let refused = subst (λ (h : ℕ). Refused {A = List ℕ} (wrong_count (get_or old.stack (h - n - 1) []) usage) kind old.stack mid.stack) c.height-height.ensures c.refuse_count-fault.ensures.refused in
    answered (wrong_count (call_word n old.stack) usage) n old mid c.settle.new.store c.height-height.result (Err kind) c.settle.result c.height-height.ensures le
    (leaves_refusal (wrong_count (call_word n old.stack) usage) old mid kind c.refuse_count-fault.ensures.grows refused) c.settle.ensures.settles c.settle.ensures.same
