use Rattle.std.proofs.Common.{◌≡◌, ◌<◌, ◌∙◌, ◌+◌, ◌*◌, sym, ap, [], length, drop, get_or, arith}
use Rattle.std.proofs.lemmas.List.{get_or_default}
use Rattle.tclv_text.specs.Pairs.{Pairs, put, put_all}
use Rattle.tclv_ctl.specs.Switching.{Text}
use Rattle.tclv_ctl.proofs.PutLemmas.{put_two, last_alone}
use Rattle.tclv_ctl.proofs.dicts.pairs_of.Goals as goal

pub loop-k-preserved : goal.loop-k-preserved
loop-k-preserved c =
    let ts = c.args.texts.now in
    let k = c.loop-k.k in
    let ps = c.loop-k.pairs.items in
    let inside : 2 * k + 1 < length ts = omega (arith, c.loop-k-test.true) in
    let key : c.in_ok-key.key ≡ get_or ts (2 * k) [] = c.in_ok-key.ensures ∙ (c.index-texts-k.is ∙ get_or_default ts (2 * k) _ _ (omega arith)) in
    let value : c.in_ok-value.value ≡ get_or ts (2 * k + 1) [] = c.in_ok-value.ensures ∙ (c.index-texts-k-in-loop-k.is ∙ get_or_default ts (2 * k + 1) _ _ inside) in
    c.loop-k.invariant ∙ put_two ts k ps inside
    ∙ sym (ap (λ (qs : Pairs). put_all qs (drop (2 * (k + 1)) ts)) (c.in_ok-put.ensures ∙ ap (λ (t : Text). put t c.in_ok-value.value ps) key ∙ ap (λ (t : Text). put (get_or ts (2 * k) []) t ps) value))

pub returns-then-texts-eq1 : goal.returns-then-texts-eq1
returns-then-texts-eq1 c =
    let ts = c.args.texts.now in
    let k = c.loop-k.k in
    c.loop-k.invariant ∙ last_alone c.loop-k.pairs.items ts k (omega (arith, c.loop-k-test.false, c.if-texts-eq1.true, c.loop-k.auto.k-end))
