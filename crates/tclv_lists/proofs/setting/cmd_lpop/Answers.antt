use Rattle.tclv_model.specs.declared.usages.Usage.TheVariants as command
use Rattle.tclv_model.specs.Usages.{usage_of}
use Rattle.std.proofs.Common.{◌≤◌, ◌-◌, ◌∙◌, List, ℕ, [], get_or, sym, ap, arith}
use Rattle.std.specs.Prelude.{codes}
use Rattle.tclv_value.specs.Stacks.{top}
use Rattle.tclv_reply.specs.Replies.{call_word, variable_of}
use Rattle.tclv_lists.specs.Variables.{lpop_of, row_lpop}
use Rattle.tclv_reply.proofs.Laws.{one_word, two_words, count_words, var_as}
use Rattle.tclv_lists.proofs.StoredLemmas.{stored, stored_room, var_count, lpop_count}
use Rattle.tclv_lists.proofs.setting.cmd_lpop.Goals as goal

pub returns-then-n-eq1 : goal.returns-then-n-eq1
returns-then-n-eq1 c =
    let old = c.args.store.now in
    let s = old.stack in
    let n = c.args.n in
    let h = c.height-height.ensures in
    let height = c.height-height.result in
    let v = variable_of c.args.variable old in
    let le : n ≤ height = omega arith in
    let row = ap (λ (ws : List (List ℕ)). row_lpop (call_word n s) ws v) (one_word s [] n c.if-n-eq1.true (omega arith)) ∙ ap (λ (k : ℕ). lpop_of (get_or s (k - 1) []) (codes "end") v) (sym h) in
    var_as _ _ c.args.variable n _ _ _ row (stored _ c.args.variable n old _ _ height _ _ h le c.pop_last-done.ensures c.settle.ensures.settles c.settle.ensures.same)

pub settle-requires-then-n-eq2-clause-left : goal.settle-requires-then-n-eq2-clause-left
settle-requires-then-n-eq2-clause-left c = stored_room _ _ _ c.args.store.now _ _ c.height-height.ensures c.pop_at-done.ensures

pub returns-then-n-eq2 : goal.returns-then-n-eq2
returns-then-n-eq2 c =
    let old = c.args.store.now in
    let s = old.stack in
    let n = c.args.n in
    let h = c.height-height.ensures in
    let height = c.height-height.result in
    let v = variable_of c.args.variable old in
    let le : n ≤ height = omega arith in
    let row = ap (λ (ws : List (List ℕ)). row_lpop (call_word n s) ws v) (two_words s [] n c.if-n-eq2.true (omega arith)) ∙ ap (λ (k : ℕ). lpop_of (get_or s (k - 2) []) (get_or s (k - 1) []) v) (sym h) in
    var_as _ _ c.args.variable n _ _ _ row (stored _ c.args.variable n old _ _ height _ _ h le c.pop_at-done.ensures c.settle-then-n-eq2.ensures.settles c.settle-then-n-eq2.ensures.same)

pub returns : goal.returns
returns c =
    let old = c.args.store.now in
    let s = old.stack in
    let n = c.args.n in
    let count = count_words s [] n (omega arith) in
    var_as _ _ c.args.variable n _ _ _ (lpop_count (call_word n s) (top n s) (variable_of c.args.variable old) (λ e. c.if-n-eq1.false (sym count ∙ e)) (λ e. c.if-n-eq2.false (sym count ∙ e)))
    (var_count (call_word n s) (usage_of command.Lpop) c.args.variable n old c.refuse_words.new.store c.refuse_words.result c.refuse_words.ensures)
