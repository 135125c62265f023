use Rattle.std.proofs.Common.{◌≡◌, ℕ, List, ◌+◌, ◌<◌, ◌++◌, ◌∷◌, [], length, take, get_or, arith, sym, ap, ◌∙◌, subst}
use Rattle.std.proofs.lemmas.List.{take_more, take_all, get_or_default}
use Rattle.tclv_heap.specs.Graph.{occurs}
use Rattle.tclv_heap.specs.Noted.{Untexted}
use Rattle.tclv_heap.proofs.TextLemmas.{occurs_at}
use Rattle.tclv_heap.proofs.RetextLemmas.{Untexted_start, Untexted_more, untexted_there}
use Rattle.tclv_heap.proofs.strings.take_texts.Goals as goal

-- the object of this turn, as it was read
turn : (items read : List ℕ) (k x id : ℕ) → read ≡ items → k < length items → x ≡ get_or read k x → id ≡ x → id ≡ get_or items k 0
turn items read k x id same within is view = view ∙ is ∙ ap (λ xs. get_or xs k x) same ∙ get_or_default items k x 0 within

pub loop-id-init : goal.loop-id-init
loop-id-init g c = Untexted_start _

pub index_mut-object-requires : goal.index_mut-object-requires
index_mut-object-requires g c =
    let items = c.args.made.now.items in
    let id = turn items _ c.loop-id.id-index c.id-item.result c.id.inside.0 c.deref-id-items.ensures.value (omega arith) c.id-item.is c.id.view_is in
    let noted : 0 < occurs c.id.inside.0 items = subst (λ x. 0 < occurs x items) (sym id) (occurs_at items c.loop-id.id-index (omega arith)) in
    untexted_there _ _ _ c.id.inside.0 c.loop-id.invariant (c.requires c.id.inside.0 noted)

pub loop-id-preserved : goal.loop-id-preserved
loop-id-preserved g c =
    let items = c.args.made.now.items in
    let k = c.loop-id.id-index in
    let id = turn items _ k c.id-item.result c.id.inside.0 c.deref-id-items.ensures.value (omega arith) c.id-item.is c.id.view_is in
    let grows : take (k + 1) items ≡ take k items ++ c.id.inside.0 ∷ [] = take_more items k 0 (omega arith) ∙ ap (λ x. take k items ++ x ∷ []) (sym id) in
    Untexted_more _ _ (take k items) (take (k + 1) items) c.id.inside.0 _ grows c.loop-id.invariant c.index_mut-object.ensures.value

pub returns : goal.returns
returns g c =
    let items = c.args.made.now.items in
    subst (λ xs. Untexted c.args.objects.now.slots xs c.loop-id.objects.slots) (take_all c.loop-id.id-index items (omega arith)) c.loop-id.invariant
