use Rattle.std.proofs.Common.{◌≡◌, Some, IsSome, ap, sym, subst, ◌∙◌}
use Rattle.std.specs.Prelude.{IfSome, IsOkAnd, slice_get, ◌↔◌}
use Rattle.std.specs.Str.{chars}
use Rattle.tclv_text.specs.Texts.{IsText}
use Rattle.tclv_text.specs.Elements.{elements}
use Rattle.tclv_value.specs.Kept.{list_at}
use Rattle.tclv_value.specs.ListObjects.{IsElementMade, HasMade}
use Rattle.tclv_value.specs.Places.{id_at}
use Rattle.tclv_value.proofs.ViewLemmas.{named_id, named_listed, named_text, id_of_is}
use Rattle.tclv_value.proofs.store.Store.element_text.Goals as goal
use Rattle.tclv_value.proofs.store.Store.element_text.Goals.{After-object_at-id}

id_is : (c : After-object_at-id) → c.object_at-id.result ≡ id_at c.self.inside.stack.items c.self.inside.cells.entries c.args.at
id_is c = c.object_at-id.ensures ∙ ap (λ xs. id_at xs c.self.inside.cells.entries c.args.at) c.as_slice.ensures.value

pub object_at-id-requires : goal.object_at-id-requires
object_at-id-requires c = rw c.as_slice.ensures.value (named_id c.self.inside.heap.graph _ _ _ c.self.view_is c.args.at c.requires)

pub made_element-requires : goal.made_element-requires
made_element-requires c = c.self.invariant.holders.there _ (named_listed c.self.inside.heap.graph _ _ _ c.self.view_is c.args.at c.requires _ (id_is (goal.at.made_element-requires c).After-object_at-id))

pub returns-clause-text : goal.returns-clause-text
returns-clause-text c =
    subst (λ t. IfSome c.made_element.result (λ text. IsText text.now × IsOkAnd (elements t) (λ ts. Some (chars text.now) ≡ slice_get ts c.args.k))) (named_text c.self.inside.heap.graph _ _ _ c.self.view_is c.args.at c.requires _ (id_is (goal.at.returns-clause-text c).After-object_at-id)) c.made_element.ensures.text

pub returns-clause-made : goal.returns-clause-made
returns-clause-made c =
    let b = (goal.at.returns-clause-made c).After-object_at-id in
    let id = id_of_is c.self.inside.heap.graph c.self.inside.heap.stats c.self.inside.stack.items c.self.inside.cells.entries c.args.at ∙ sym (id_is b) in
    subst (λ v. IsSome c.made_element.result ↔ IsElementMade v c.args.at c.args.k) c.self.view_is
    (subst (λ o. IsSome c.made_element.result ↔ HasMade c.self.inside.heap.graph (list_at c.self.inside.heap.graph o) c.args.k) (sym id) c.made_element.ensures.made)
