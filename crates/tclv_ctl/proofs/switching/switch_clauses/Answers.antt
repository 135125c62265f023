use Rattle.std.proofs.Common.{◌-◌, ◌∙◌, ◌++◌, ap, subst, ℕ, List, [], Ok, Err, drop, get_or, arith}
use Rattle.tclv_model.specs.Rows.{wrong_count}
use Rattle.tclv_reply.specs.Replies.{call_word, Refused}
use Rattle.tclv_value.specs.Stacks.{top}
use Rattle.tclv_ctl.specs.Steps.{Steps}
use Rattle.tclv_ctl.specs.Switching.{usage, row_switch, IsPlanOf, options, plain, pushed_for}
use Rattle.tclv_reply.proofs.Laws.{room_refused}
use Rattle.tclv_ctl.proofs.SwitchLemmas.{few_words}
use Rattle.tclv_ctl.proofs.PlanLemmas.{plans_refused, count_fails}
use Rattle.tclv_ctl.proofs.switching.switch_clauses.Goals as goal

pub returns-then-n-lt2-clause-plans : goal.returns-then-n-lt2-clause-plans
returns-then-n-lt2-clause-plans c =
    let s = c.args.store.now in
    let n = c.args.n in
    let call = call_word n s.stack in
    let kind = c.refuse_count-kind.result in
    let mid = c.refuse_count-kind.new.store in
    let row = row_switch call (top n s.stack) in
    let said = subst (λ (h : ℕ). Refused {A = List ℕ} (wrong_count (get_or s.stack (h - n - 1) []) usage) kind s.stack mid.stack) c.height-height.ensures c.refuse_count-kind.ensures.refused in
    plans_refused row n s mid c.settle_refusal.new.store c.height-height.result kind c.settle_refusal.result c.height-height.ensures (omega (arith, c.height-height.ensures)) c.settle_refusal.ensures.same c.refuse_count-kind.ensures.grows (count_fails row call kind s.stack mid.stack (few_words call s.stack n (omega arith) (omega arith)) said) c.settle_refusal.ensures.settles

pub settle_refusal-requires-in-Err-clause-left : goal.settle_refusal-requires-in-Err-clause-left
settle_refusal-requires-in-Err-clause-left c =
    let s = c.args.store.now in
    room_refused (row_switch [] (drop (c.height-height.result - c.args.n) s.stack)) c.height-height.result s c.read_words.new.store c.in-Err.kind c.height-height.ensures (c.in-Err.ensures.steps []).grows (c.in-Err.ensures.steps []).refuses

pub returns-in-Ok-clause-plans : goal.returns-in-Ok-clause-plans
returns-in-Ok-clause-plans c =
    let s = c.args.store.now in
    let n = c.args.n in
    let call = call_word n s.stack in
    let new = c.read_words.new.store in
    let st = subst (λ (h : ℕ). Steps (row_switch call (drop (h - n) s.stack)) IsPlanOf s new (Ok c.in-Ok.plan)) c.height-height.ensures (c.in-Ok.ensures.steps call) in
    record { gives = st.gives; refuses = tt; cells = st.gives.grows.cells }

pub returns-in-Err-clause-plans : goal.returns-in-Err-clause-plans
returns-in-Err-clause-plans c =
    let s = c.args.store.now in
    let n = c.args.n in
    let call = call_word n s.stack in
    let mid = c.read_words.new.store in
    let row = row_switch call (top n s.stack) in
    let st = subst (λ (h : ℕ). Steps (row_switch call (drop (h - n) s.stack)) IsPlanOf s mid (Err c.in-Err.kind)) c.height-height.ensures (c.in-Err.ensures.steps call) in
    plans_refused row n s mid c.settle_refusal-in-Err.new.store c.height-height.result c.in-Err.kind c.settle_refusal-in-Err.result c.height-height.ensures (omega (arith, c.height-height.ensures)) c.settle_refusal-in-Err.ensures.same st.grows st.refuses c.settle_refusal-in-Err.ensures.settles

pub returns-in-Ok-clause-stack : goal.returns-in-Ok-clause-stack
returns-in-Ok-clause-stack c =
    let s = c.args.store.now.stack in
    c.in-Ok.ensures.stack ∙ ap (λ (h : ℕ). s ++ pushed_for (options plain (drop (h - c.args.n) s))) c.height-height.ensures
