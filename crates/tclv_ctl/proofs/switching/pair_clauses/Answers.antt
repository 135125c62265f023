use Rattle.std.proofs.Common.{◌≡◌, ◌+◌, ◌-◌, ◌*◌, ◌<◌, ◌∙◌, ap, subst, List, ℕ, [], length, drop, map, get_or, false, cond, arith}
use Rattle.std.specs.Prelude.{reverse}
use Rattle.tclv_ctl.specs.Switching.{Text, is_dash, next_body, pairs, clause_in}
use Rattle.tclv_reply.proofs.Laws.{keeps_trans}
use Rattle.tclv_ctl.proofs.PlanLemmas.{one_more}
use Rattle.tclv_ctl.proofs.switching.pair_clauses.Goals as goal

pub loop-count-preserved : goal.loop-count-preserved
loop-count-preserved c =
    let s = c.args.store.now.stack in
    let v = c.loop-count.invariant in
    let count = c.loop-count.count in
    let p = c.height-height.result - 2 * count - 2 in
    let here : length s - 2 * count ≡ p + 2 = omega (arith, c.height-height.ensures) in
    let next : p ≡ length s - 2 * (count + 1) = omega (arith, c.height-height.ensures) in
    let step : c.in_ok-body.body ≡ cond (is_dash (get_or s (p + 1) [])) c.loop-count.body (p + 1) = c.in_ok-body.ensures.body ∙ ap (λ (u : List Text). cond (is_dash (get_or u (p + 1) [])) c.loop-count.body (p + 1)) v.kept.stack in
    let last : count ≡ 0 → is_dash (get_or s (p + 1) []) ≡ false = λ (z : count ≡ 0). let top : p + 1 ≡ length s - 1 = omega (arith, c.height-height.ensures) in ap (λ (i : ℕ). is_dash (get_or s i [])) top ∙ c.requires.ended in
    let m = one_more s p c.loop-count.body c.in_ok-body.body count c.loop-count.found.items c.push.new.self.items c.in_ok-push.ensures.items (omega (arith, c.height-height.ensures)) step (subst (λ (i : ℕ). 0 < count → get_or s c.loop-count.body [] ≡ next_body (drop i s)) here v.body) last v.within v.inside (subst (λ (i : ℕ). pairs (drop i s) ≡ map (clause_in s) (reverse c.loop-count.found.items)) here v.are) in
    record {
      kept = keeps_trans c.args.store.now c.loop-count.store c.body_at.new.store v.kept c.in_ok-body.ensures.kept;
      within = m.within;
      body = λ _. subst (λ (i : ℕ). get_or s c.in_ok-body.body [] ≡ next_body (drop i s)) next m.body;
      inside = m.inside;
      are = subst (λ (i : ℕ). pairs (drop i s) ≡ map (clause_in s) (reverse c.push.new.self.items)) next m.are;
    }
