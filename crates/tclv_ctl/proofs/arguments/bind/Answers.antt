use Rattle.std.proofs.Common.{◌≡◌, ◌<◌, ◌≤◌, ◌-◌, ◌++◌, ◌∙◌, ap, sym, subst, ℕ, Bool, [], ◌∷◌, length, take, drop, arith}
use Rattle.tclv_text.specs.Quotes.{list_text}
use Rattle.tclv_value.specs.Stacks.{top, under}
use Rattle.tclv_ctl.specs.Arguments.{bound, spaced, parameter_usage, unless_bound, ArePushed}
use Rattle.tclv_ctl.proofs.ArgumentLemmas.{listed, listed_stack, heads_are, count_refuses}
use Rattle.tclv_ctl.proofs.arguments.bind.Goals as goal

pub returns-then-n-count : goal.returns-then-n-count
returns-then-n-count c =
    let s = c.args.store.now.stack in
    let d = c.args.def.now in
    let n = c.args.n in
    let k = length d.params in
    let count = ap length c.params-count.ensures in
    let more : k < n = omega (arith, c.if-n-count.true, count) in
    let rest = sym c.has_rest.ensures ∙ c.if-has_rest.true in
    let g = c.in_ok-push_list.ensures.gathered in
    let new = c.push_list.new.self.stack in
    let within : n ≤ length s = omega (arith, c.requires.words) in
    record {
      gives = record {
        texts = take k (top n s) ++ list_text (top (n - k) s) ∷ [];
        given = ap (unless_bound (spaced (top c.args.heads (under n s))) (parameter_usage d)) (listed s n within d.params d.rest rest more);
        stack = listed_stack s n within k (list_text (top (n - k) s)) new (omega (arith, more)) (subst (λ (i : ℕ). new ≡ under (n - i) s ++ list_text (top (n - i) s) ∷ []) count g.stack);
      };
      refuses = tt;
      cells = g.cells;
    }

pub returns-in-Ok-false : goal.returns-in-Ok-false
returns-in-Ok-false c =
    let s = c.args.store.now in
    let d = c.args.def.now in
    let n = c.args.n in
    let heads = c.args.heads in
    let h = c.height-height.result in
    let mid = c.push_missing.new.store in
    let x = bound d.params d.rest (top n s.stack) in
    let g = c.in-Ok-false.ensures.grows in
    count_refuses (spaced (top heads (under n s.stack))) (parameter_usage d) x n h s mid c.refuse_usage-kind.new.store c.settle_refusal.new.store c.refuse_usage-kind.result c.settle_refusal.result c.height-height.ensures (omega (arith, c.height-height.ensures, c.requires.words)) g
    (spaced (take (h - n - (h - n - heads)) (drop (h - n - heads) mid.stack))) (ap spaced (heads_are s.stack mid.stack g.more n heads h g.stack c.height-height.ensures c.requires.words))
    (subst (λ (b : Bool). ArePushed x b (under n s.stack) mid.stack) c.in-Ok-false.field-0-test c.in-Ok-false.ensures.pushed) c.refuse_usage-kind.ensures.grows c.refuse_usage-kind.ensures.refused c.settle_refusal.ensures.same c.settle_refusal.ensures.settles
