use Rattle.std.proofs.Common.{◌≡◌, ◌<◌, ◌+◌, ◌++◌, ◌∷◌, [], ℕ, List, map, take, get_or, length, sym, ap, subst, ◌∙◌, arith}
use Rattle.std.proofs.lemmas.List.{take_more, take_all, map_push}
use Rattle.std.specs.Str.{chars}
use Rattle.tclv_value.specs.Elements.{IsListText}
use Rattle.tclv_value.proofs.ElementLemmas.{nothing_written}
use Rattle.tclv_value.proofs.forms.list_of_kids.Goals as goal

one_more : (f : ℕ → List ℕ) (ids : List ℕ) (k x : ℕ) (t : List ℕ) → k < length ids → x ≡ get_or ids k 0 → t ≡ f x → map f (take k ids) ++ t ∷ [] ≡ map f (take (k + 1) ids)
one_more f ids k x t within is text =
    ap (λ y. map f (take k ids) ++ y ∷ []) (text ∙ ap f is) ∙ sym (map_push f (take k ids) (get_or ids k 0)) ∙ ap (map f) (sym (take_more ids k 0 within))

pub loop-k-init : goal.loop-k-init
loop-k-init g c = nothing_written c.new-text.result.items c.new-text.ensures.items

pub loop-k-preserved : goal.loop-k-preserved
loop-k-preserved g c =
    subst (λ ts. IsListText ts c.add_element.new.list.items) (one_more _ c.args.list.now.ids c.loop-k.k c.at.result (chars c.text.result.now) (omega (arith, c.loop-k-test.true, c.len-k-end.ensures)) c.at.ensures c.text.ensures.text)
    (c.in_ok-add_element.ensures (map (g.K.Texts.stands c.args.kids.now) (take c.loop-k.k c.args.list.now.ids)) c.loop-k.invariant)

pub returns : goal.returns
returns g c =
    subst (λ xs. IsListText (map (g.K.Texts.stands c.args.kids.now) xs) c.loop-k.text.items) (take_all c.loop-k.k c.args.list.now.ids (omega (arith, c.loop-k-test.false, c.len-k-end.ensures))) c.loop-k.invariant
