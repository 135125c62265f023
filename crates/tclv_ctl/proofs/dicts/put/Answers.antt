use Rattle.std.proofs.Common.{◌≡◌, ◌<◌, ◌∙◌, sym, ap, true, false, [], ◌∷◌, ◌++◌, length, get_or, arith}
use Rattle.std.specs.Str.{bytes_eq}
use Rattle.std.proofs.lemmas.List.{get_or_default}
use Rattle.tclv_text.specs.Pairs.{Pairs}
use Rattle.tclv_ctl.specs.Switching.{Text}
use Rattle.tclv_ctl.proofs.PutLemmas.{same_text, passed_more, put_set, put_new}
use Rattle.tclv_ctl.proofs.dicts.put.Goals as goal

pub returns-then-is_same : goal.returns-then-is_same
returns-then-is_same c =
    let ps = c.args.pairs.now.items in
    let n = c.loop-k.pairs.items in
    let k = c.loop-k.k in
    let v = c.loop-k.invariant in
    let h : k < length ps = omega (arith, c.loop-k-test.true, c.len-k-end.ensures) in
    let x = c.index.result.now in
    let e = c.index_mut.result.now in
    let here : x ≡ get_or ps k e = c.index.ensures ∙ ap (λ (qs : Pairs). get_or qs k x) v.same ∙ get_or_default ps k x e h in
    let same : bytes_eq c.args.key (get_or ps k e).0 ≡ true = ap (λ (y : Text × Text). bytes_eq c.args.key y.0) (sym here) ∙ sym (same_text c.args.key c.is_same.result x.0 c.is_same.ensures) ∙ c.if-is_same.true in
    put_set c.args.key c.args.value ps n k e v.same h c.index_mut.ensures.value same v.came

pub loop-k-preserved : goal.loop-k-preserved
loop-k-preserved c =
    let ps = c.args.pairs.now.items in
    let k = c.loop-k.k in
    let v = c.loop-k.invariant in
    let h : k < length ps = omega (arith, c.loop-k-test.true, c.len-k-end.ensures) in
    let x = c.index.result.now in
    let here : x ≡ get_or ps k x = c.index.ensures ∙ ap (λ (qs : Pairs). get_or qs k x) v.same in
    let other : bytes_eq c.args.key (get_or ps k x).0 ≡ false = ap (λ (y : Text × Text). bytes_eq c.args.key y.0) (sym here) ∙ sym (same_text c.args.key c.is_same.result x.0 c.is_same.ensures) ∙ c.if-is_same.false in
    record { same = v.same; came = passed_more c.args.key c.args.value ps k x h other v.came }

pub returns : goal.returns
returns c =
    let v = c.loop-k.invariant in
    c.in_ok-push.ensures.items ∙ ap (λ (ps : Pairs). ps ++ (c.args.key, c.args.value) ∷ []) v.same ∙ sym (put_new c.args.key c.args.value c.args.pairs.now.items c.loop-k.k (omega (arith, c.loop-k-test.false, c.len-k-end.ensures)) v.came)
