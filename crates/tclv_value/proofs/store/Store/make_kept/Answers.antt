use Rattle.std.proofs.Common.{◌≡◌, [], IsSome, is_some, sym, ap, subst, ◌∙◌}
use Rattle.std.specs.Prelude.{IsOkAnd, slice_get}
use Rattle.std.specs.Option.{option_map}
use Rattle.tclv_text.specs.Elements.{elements}
use Rattle.tclv_value.specs.Kept.{list_at}
use Rattle.tclv_value.specs.ListObjects.{IsListAt, HasMade}
use Rattle.tclv_value.specs.Places.{id_at, text_of, places, IsPlaced}
use Rattle.tclv_value.specs.View.{text_at}
use Rattle.tclv_value.proofs.AnswerLemmas.{element_found, element_missing}
use Rattle.tclv_value.proofs.KeptLemmas.{retexted_list, has_made}
use Rattle.tclv_value.proofs.GraphLemmas.{retexted_made}
use Rattle.tclv_value.proofs.ViewLemmas.{G, named_id, named_text, id_of_is, kept_stack, kept_cells, stays_made}
use Rattle.tclv_value.proofs.store.Store.make_kept.Goals as goal
use Rattle.tclv_value.proofs.store.Store.make_kept.Goals.{After-object_at-id, After-element_of, After-make_string}

id_is : (c : After-object_at-id) → c.object_at-id.result ≡ id_at c.self.inside.stack.items c.self.inside.cells.entries c.args.at
id_is c = c.object_at-id.ensures ∙ ap (λ xs. id_at xs c.self.inside.cells.entries c.args.at) c.as_slice.ensures.value

pub object_at-id-requires : goal.object_at-id-requires
object_at-id-requires c = rw c.as_slice.ensures.value (named_id c.self.inside.heap.graph _ _ _ c.self.view_is c.args.at c.requires.place)

list_here : (c : After-object_at-id) → IsSome (list_at c.self.inside.heap.graph c.object_at-id.result)
list_here c = subst (λ o. IsSome (list_at c.self.inside.heap.graph o)) (id_of_is c.self.inside.heap.graph c.self.inside.heap.stats _ _ c.args.at ∙ sym (id_is c)) (subst (λ v. IsListAt v c.args.at) (sym c.self.view_is) c.requires.list)

pub element_of-requires : goal.element_of-requires
element_of-requires c = list_here (goal.at.element_of-requires c).After-object_at-id

text : (c : After-element_of) → IsOkAnd (elements (text_at c.args.self.now c.args.at)) (λ ts. option_map (text_of c.self.inside.heap.graph) c.element_of.result ≡ slice_get ts c.args.k)
text c =
    subst (λ t. IsOkAnd (elements t) (λ ts. option_map (text_of c.self.inside.heap.graph) c.element_of.result ≡ slice_get ts c.args.k)) (named_text c.self.inside.heap.graph _ _ _ c.self.view_is c.args.at c.requires.place _ (id_is (goal.at.After-element_of c).After-object_at-id)) c.element_of.ensures.text

after : (c : After-make_string) → IsPlaced c.make_string.new.self.graph c.self.inside.stack.items c.self.inside.cells.entries
after c =
    let e = c.make_string.ensures in
    record { sound = e.keeps.sound; closed = e.keeps.closed c.self.invariant.closed; holders = e.holders (places c.self.inside.stack.items c.self.inside.cells.entries) c.self.invariant.holders }

pub returns-in_ok-make_string-in-Some-clause-found : goal.returns-in_ok-make_string-in-Some-clause-found
returns-in_ok-make_string-in-Some-clause-found c =
    let a = (goal.at.returns-in_ok-make_string-in-Some-clause-found c).After-element_of in
    element_found (elements (text_at c.args.self.now c.args.at)) c.args.k [] [] _ (subst (λ r. IsOkAnd (elements (text_at c.args.self.now c.args.at)) (λ ts. option_map (text_of c.self.inside.heap.graph) r ≡ slice_get ts c.args.k)) c.in-Some.is (text a))

pub returns-in_ok-make_string-in-Some-clause-made : goal.returns-in_ok-make_string-in-Some-clause-made
returns-in_ok-make_string-in-Some-clause-made c _ =
    let b = (goal.at.returns-in_ok-make_string-in-Some-clause-made c).After-object_at-id in
    let g = c.self.inside.heap.graph in
    let h : G = c.make_string.new.self.graph in
    let same = retexted_list _ g h c.make_string.ensures.retexts c.object_at-id.result (list_here b) in
    let id = id_of_is h c.make_string.new.self.stats c.self.inside.stack.items c.self.inside.cells.entries c.args.at ∙ sym (id_is b) in
    subst (λ o. HasMade h (list_at h o) c.args.k) (sym id)
    (has_made h (list_at h c.object_at-id.result) c.args.k c.in-Some.element (subst IsSome (sym same) (list_here b)) (λ ids is. c.in-Some.ensures.element ids (sym same ∙ is)) (ap is_some c.in_ok-make_string-in-Some.ensures.made))

pub returns-in_ok-make_string-in-Some-clause-kept : goal.returns-in_ok-make_string-in-Some-clause-kept
returns-in_ok-make_string-in-Some-clause-kept c =
    let a = after (goal.at.returns-in_ok-make_string-in-Some-clause-kept c).After-make_string in
    record {
      stack = kept_stack _ _ _ _ c.self.invariant a c.make_string.ensures.keeps.says _ c.self.view_is;
      cells = kept_cells _ _ _ _ c.self.invariant a c.make_string.ensures.keeps.says _ c.self.view_is;
      stays = stays_made _ _ _ _ c.self.invariant a c.make_string.ensures.keeps.says _ c.self.view_is (retexted_made _ _ _ c.make_string.ensures.retexts);
    }

pub returns-in-None-clause-found : goal.returns-in-None-clause-found
returns-in-None-clause-found c =
    let a = (goal.at.returns-in-None-clause-found c).After-element_of in
    element_missing (elements (text_at c.args.self.now c.args.at)) c.args.k [] [] (subst (λ r. IsOkAnd (elements (text_at c.args.self.now c.args.at)) (λ ts. option_map (text_of c.self.inside.heap.graph) r ≡ slice_get ts c.args.k)) c.in-None.is (text a))
