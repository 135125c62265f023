use Rattle.std.proofs.Common.{◌≡◌, ◌++◌, ◌∷◌, [], Some, None, IsSome, refl, sym, ap, subst, ◌∙◌}
use Rattle.std.specs.Prelude.{IsOkAnd, slice_get}
use Rattle.std.specs.Option.{option_map}
use Rattle.tclv_text.specs.Elements.{elements}
use Rattle.tclv_value.specs.Kept.{list_at}
use Rattle.tclv_value.specs.ListObjects.{IsListAt}
use Rattle.tclv_value.specs.Places.{id_at, text_of}
use Rattle.tclv_value.specs.View.{text_at}
use Rattle.tclv_value.proofs.AnswerLemmas.{element_found, element_pushed, element_missing, nothing_pushed}
use Rattle.tclv_value.proofs.GraphLemmas.{still_shared, placed_push}
use Rattle.tclv_value.proofs.SharingLemmas.{shared_list, shares_found, shares_none}
use Rattle.tclv_value.proofs.ViewLemmas.{Shift, named_id, named_text, id_of_is, push_stack, push_cells, push_stays, push_listed}
use Rattle.tclv_value.proofs.store.Store.push_kept.Goals as goal
use Rattle.tclv_value.proofs.store.Store.push_kept.Goals.{After-object_at-id, After-element_of, After-share, In-None}

id_is : (c : After-object_at-id) → c.object_at-id.result ≡ id_at c.self.inside.stack.items c.self.inside.cells.entries c.args.at
id_is c = c.object_at-id.ensures ∙ ap (λ xs. id_at xs c.self.inside.cells.entries c.args.at) c.as_slice.ensures.value

pub object_at-id-requires : goal.object_at-id-requires
object_at-id-requires c = rw c.as_slice.ensures.value (named_id c.self.inside.heap.graph _ _ _ c.self.view_is c.args.at c.requires.place)

pub element_of-requires : goal.element_of-requires
element_of-requires c =
    let b = (goal.at.element_of-requires c).After-object_at-id in
    subst (λ o. IsSome (list_at c.self.inside.heap.graph o)) (id_of_is c.self.inside.heap.graph c.self.inside.heap.stats _ _ c.args.at ∙ sym (id_is b)) (subst (λ v. IsListAt v c.args.at) (sym c.self.view_is) c.requires.list)

text : (c : After-element_of) → IsOkAnd (elements (text_at c.args.self.now c.args.at)) (λ ts. option_map (text_of c.self.inside.heap.graph) c.element_of.result ≡ slice_get ts c.args.k)
text c =
    subst (λ t. IsOkAnd (elements t) (λ ts. option_map (text_of c.self.inside.heap.graph) c.element_of.result ≡ slice_get ts c.args.k)) (named_text c.self.inside.heap.graph _ _ _ c.self.view_is c.args.at c.requires.place _ (id_is (goal.at.After-element_of c).After-object_at-id)) c.element_of.ensures.text

shift : (c : After-share) → Shift c.self.inside.heap.graph c.self.inside.stack.items c.self.inside.cells.entries c.share.new.self.graph (c.self.inside.stack.items ++ c.in-Some.element ∷ []) c.self.inside.cells.entries
shift c =
    let e = c.share.ensures in
    record {
      before = c.self.invariant;
      after = placed_push _ _ _ _ _ c.self.invariant e.holders e.keeps;
      still = still_shared _ _ _ c.in-Some.ensures.there e.shared e.keeps;
    }

pub invariant_of-self-in-Some : goal.invariant_of-self-in-Some
invariant_of-self-in-Some c = rw (c.push_reserved.ensures.items, c.reserve.ensures.items) (shift (goal.at.invariant_of-self-in-Some c).After-share).after

found_text : (c : After-share) → IsOkAnd (elements (text_at c.args.self.now c.args.at)) (λ ts. Some (text_of c.self.inside.heap.graph c.in-Some.element) ≡ slice_get ts c.args.k)
found_text c =
    subst (λ r. IsOkAnd (elements (text_at c.args.self.now c.args.at)) (λ ts. option_map (text_of c.self.inside.heap.graph) r ≡ slice_get ts c.args.k)) c.in-Some.is (text (goal.at.After-share c).After-element_of)

pub returns-in_ok-reserve-in-Some-clause-found : goal.returns-in_ok-reserve-in-Some-clause-found
returns-in_ok-reserve-in-Some-clause-found c =
    element_found (elements (text_at c.args.self.now c.args.at)) c.args.k [] [] _ (found_text (goal.at.returns-in_ok-reserve-in-Some-clause-found c).After-share)

pub returns-in_ok-reserve-in-Some-clause-pushed : goal.returns-in_ok-reserve-in-Some-clause-pushed
returns-in_ok-reserve-in-Some-clause-pushed c =
    let a = (goal.at.returns-in_ok-reserve-in-Some-clause-pushed c).After-share in
    let s = shift a in
    let stack = c.args.self.now.stack in
    let there = s.after.holders.there c.in-Some.element (push_listed _ _ _ _ _ s _ c.self.view_is) in
    let pushed = push_stack _ _ _ _ _ s _ c.self.view_is ∙ ap (λ t. stack ++ t ∷ []) (s.still.says c.in-Some.element c.in-Some.ensures.there there) in
    rw (c.push_reserved.ensures.items, c.reserve.ensures.items) (element_pushed (elements (text_at c.args.self.now c.args.at)) c.args.k _ stack (text_of c.self.inside.heap.graph c.in-Some.element) pushed (found_text a))

pub returns-in_ok-reserve-in-Some-clause-cells : goal.returns-in_ok-reserve-in-Some-clause-cells
returns-in_ok-reserve-in-Some-clause-cells c = push_cells _ _ _ _ _ (shift (goal.at.returns-in_ok-reserve-in-Some-clause-cells c).After-share) _ c.self.view_is

pub returns-in_ok-reserve-in-Some-clause-stays : goal.returns-in_ok-reserve-in-Some-clause-stays
returns-in_ok-reserve-in-Some-clause-stays c = rw (c.push_reserved.ensures.items, c.reserve.ensures.items) (push_stays _ _ _ _ _ (shift (goal.at.returns-in_ok-reserve-in-Some-clause-stays c).After-share) _ c.self.view_is)

no_text : (c : In-None) → IsOkAnd (elements (text_at c.args.self.now c.args.at)) (λ ts. None ≡ slice_get ts c.args.k)
no_text c =
    subst (λ r. IsOkAnd (elements (text_at c.args.self.now c.args.at)) (λ ts. option_map (text_of c.self.inside.heap.graph) r ≡ slice_get ts c.args.k)) c.in-None.is (text (goal.at.In-None c).After-element_of)

pub returns-in-None-clause-found : goal.returns-in-None-clause-found
returns-in-None-clause-found c = element_missing (elements (text_at c.args.self.now c.args.at)) c.args.k [] [] (no_text (goal.at.returns-in-None-clause-found c).In-None)

pub returns-in-None-clause-pushed : goal.returns-in-None-clause-pushed
returns-in-None-clause-pushed c = nothing_pushed (elements (text_at c.args.self.now c.args.at)) c.args.k _ c.args.self.now.stack refl (no_text (goal.at.returns-in-None-clause-pushed c).In-None)

list_of : (c : After-object_at-id) → IsSome (list_at c.self.inside.heap.graph (id_at c.self.inside.stack.items c.self.inside.cells.entries c.args.at))
list_of c = subst (λ o. IsSome (list_at c.self.inside.heap.graph o)) (id_of_is c.self.inside.heap.graph c.self.inside.heap.stats _ _ c.args.at) (subst (λ v. IsListAt v c.args.at) (sym c.self.view_is) c.requires.list)

pub returns-in_ok-reserve-in-Some-clause-shares : goal.returns-in_ok-reserve-in-Some-clause-shares
returns-in_ok-reserve-in-Some-clause-shares c =
    let b = (goal.at.returns-in_ok-reserve-in-Some-clause-shares c).After-object_at-id in
    rw (c.push_reserved.ensures.items, c.reserve.ensures.items) (shares_found c.self.inside.heap.graph c.share.new.self.graph _ _ c.args.at c.args.k c.in-Some.element _ c.self.view_is c.requires.list (named_id c.self.inside.heap.graph _ _ _ c.self.view_is c.args.at c.requires.place)
    (λ xs is. sym c.in-Some.is ∙ c.element_of.ensures.element xs (ap (list_at c.self.inside.heap.graph) (id_is b) ∙ is))
    (shared_list c.self.inside.heap.graph c.share.new.self.graph c.in-Some.element c.in-Some.ensures.there c.share.ensures.shared _ (list_of b))
    (ap (λ h. h.stats) c.share.ensures.rest))

pub returns-in-None-clause-shares : goal.returns-in-None-clause-shares
returns-in-None-clause-shares c =
    let b = (goal.at.returns-in-None-clause-shares c).After-object_at-id in
    shares_none c.self.inside.heap.graph _ _ c.args.at c.args.k _ c.self.view_is c.requires.list (λ xs is. sym c.in-None.is ∙ c.element_of.ensures.element xs (ap (list_at c.self.inside.heap.graph) (id_is b) ∙ is))
