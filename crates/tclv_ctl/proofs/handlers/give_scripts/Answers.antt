use Rattle.std.proofs.Common.{◌≡◌, ◌+◌, ◌-◌, ◌<◌, ◌∙◌, ap, sym, subst, List, ℕ, [], length, drop, map, get_or, cond, arith}
use Rattle.std.specs.Prelude.{reverse}
use Rattle.tclv_ctl.specs.Switching.{Text, is_dash}
use Rattle.tclv_ctl.specs.Handlers.{next_script, with_scripts, handler_in}
use Rattle.tclv_reply.proofs.Laws.{keeps_trans}
use Rattle.tclv_ctl.proofs.ScriptLemmas.{no_handler, last_dash, one_script}
use Rattle.tclv_ctl.proofs.handlers.give_scripts.Goals as goal

pub loop-count-preserved : goal.loop-count-preserved
loop-count-preserved c =
    let s = c.args.store.now.stack in
    let rs = c.args.read.now in
    let v = c.loop-count.invariant in
    let count = c.loop-count.count in
    let p = length rs - 1 - count in
    let here : length rs - count ≡ p + 1 = omega (arith, c.loop-count-test.true) in
    let next : p ≡ length rs - (count + 1) = omega (arith, c.loop-count-test.true) in
    let inside : p < length rs = omega (arith, c.loop-count-test.true) in
    let m = one_script s rs p c.loop-count.body c.in_ok-body.body count c.loop-count.found.items c.add_handler.new.found.items no_handler inside c.requires.inside c.in_ok-add_handler.ensures
    (c.in_ok-body.ensures.body ∙ ap (λ (u : List Text). cond (is_dash (get_or u (get_or rs p no_handler).body [])) c.loop-count.body (get_or rs p no_handler).body) v.kept.stack)
    (subst (λ (i : ℕ). 0 < count → get_or s c.loop-count.body [] ≡ next_script (map (handler_in s) (drop i rs))) here v.body)
    (λ (z : count ≡ 0). let last : p ≡ length rs - 1 = omega (arith, z) in sym (last_dash s rs p no_handler last inside) ∙ c.requires.ended) v.within v.inside
    (subst (λ (i : ℕ). with_scripts (map (handler_in s) (drop i rs)) ≡ map (handler_in s) (reverse c.loop-count.found.items)) here v.are) in
    record {
      kept = keeps_trans c.args.store.now c.loop-count.store c.body_at.new.store v.kept c.in_ok-body.ensures.kept;
      within = m.within;
      body = λ _. subst (λ (i : ℕ). get_or s c.in_ok-body.body [] ≡ next_script (map (handler_in s) (drop i rs))) next m.body;
      inside = m.inside;
      are = subst (λ (i : ℕ). with_scripts (map (handler_in s) (drop i rs)) ≡ map (handler_in s) (reverse c.add_handler.new.found.items)) next m.are;
    }
