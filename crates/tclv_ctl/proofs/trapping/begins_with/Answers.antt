use Rattle.std.proofs.Common.{◌≡◌, ◌<◌, ◌∙◌, sym, ap, false, true, [], length, get_or, arith}
use Rattle.std.specs.Str.{bytes_eq}
use Rattle.std.proofs.lemmas.Slice.Eq.{bytes_eq-Decides}
use Rattle.std.proofs.lemmas.Bool.Decides.{same_from_decides}
use Rattle.std.proofs.lemmas.List.{get_or_default}
use Rattle.tclv_ctl.specs.Switching.{Text}
use Rattle.tclv_ctl.proofs.HandlerLemmas.{begins_more, begins_other, begins_short}
use Rattle.tclv_ctl.proofs.trapping.begins_with.Goals as goal

pub returns-then-k-words : goal.returns-then-k-words
returns-then-k-words c = sym (c.loop-k.invariant ∙ begins_short c.args.words.now c.args.front.now c.loop-k.k (omega (arith, c.if-k-words.true)) (omega (arith, c.loop-k-test.true)))

pub returns-then-not-is_same : goal.returns-then-not-is_same
returns-then-not-is_same c =
    let ws = c.args.words.now in
    let fs = c.args.front.now in
    let k = c.loop-k.k in
    let h : k < length ws = omega (arith, c.if-k-words.false) in
    let l : k < length fs = omega (arith, c.loop-k-test.true) in
    let x = c.index-words-k.result in
    let y = c.index-front-k.result in
    let same : c.is_same.result ≡ bytes_eq x y = same_from_decides _ _ c.is_same.ensures (bytes_eq-Decides x y) in
    let other : bytes_eq (get_or ws k []) (get_or fs k []) ≡ false =
    sym (ap (bytes_eq (get_or ws k [])) (c.index-front-k.is ∙ get_or_default fs k _ _ l)) ∙ sym (ap (λ (t : Text). bytes_eq t y) (c.index-words-k.is ∙ get_or_default ws k _ _ h)) ∙ sym same ∙ c.if-not-is_same.true in
    sym (c.loop-k.invariant ∙ begins_other ws fs k h l other)

pub loop-k-preserved : goal.loop-k-preserved
loop-k-preserved c =
    let ws = c.args.words.now in
    let fs = c.args.front.now in
    let k = c.loop-k.k in
    let h : k < length ws = omega (arith, c.if-k-words.false) in
    let l : k < length fs = omega (arith, c.loop-k-test.true) in
    let x = c.index-words-k.result in
    let y = c.index-front-k.result in
    let same : c.is_same.result ≡ bytes_eq x y = same_from_decides _ _ c.is_same.ensures (bytes_eq-Decides x y) in
    let equal : bytes_eq (get_or ws k []) (get_or fs k []) ≡ true =
    sym (ap (bytes_eq (get_or ws k [])) (c.index-front-k.is ∙ get_or_default fs k _ _ l)) ∙ sym (ap (λ (t : Text). bytes_eq t y) (c.index-words-k.is ∙ get_or_default ws k _ _ h)) ∙ sym same ∙ c.if-not-is_same.false in
    c.loop-k.invariant ∙ begins_more ws fs k h l equal
