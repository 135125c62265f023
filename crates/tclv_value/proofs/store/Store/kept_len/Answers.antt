use Rattle.std.proofs.Common.{◌≡◌, IsSome, length, ap, sym, subst, ◌∙◌}
use Rattle.std.specs.Prelude.{IsOkAnd}
use Rattle.tclv_text.specs.Elements.{elements}
use Rattle.tclv_value.specs.Kept.{list_at}
use Rattle.tclv_value.specs.ListObjects.{IsListAt}
use Rattle.tclv_value.specs.Places.{id_at}
use Rattle.tclv_value.specs.View.{id_of}
use Rattle.tclv_value.proofs.ViewLemmas.{named_id, named_text, id_of_is}
use Rattle.tclv_value.proofs.NameLemmas.{view_told}
use Rattle.tclv_value.proofs.store.Store.kept_len.Goals as goal
use Rattle.tclv_value.proofs.store.Store.kept_len.Goals.{After-object_at-id}

id_is : (c : After-object_at-id) → c.object_at-id.result ≡ id_at c.self.inside.stack.items c.self.inside.cells.entries c.args.at
id_is c = c.object_at-id.ensures ∙ ap (λ xs. id_at xs c.self.inside.cells.entries c.args.at) c.as_slice.ensures.value

pub object_at-id-requires : goal.object_at-id-requires
object_at-id-requires c = rw c.as_slice.ensures.value (named_id c.self.inside.heap.graph _ _ _ c.self.view_is c.args.at c.requires.place)

pub length_of-requires : goal.length_of-requires
length_of-requires c =
    let b = (goal.at.length_of-requires c).After-object_at-id in
    subst (λ o. IsSome (list_at c.self.inside.heap.graph o)) (id_of_is c.self.inside.heap.graph c.self.inside.heap.stats _ _ c.args.at ∙ sym (id_is b)) (subst (λ v. IsListAt v c.args.at) (sym c.self.view_is) c.requires.list)

pub returns-clause-text : goal.returns-clause-text
returns-clause-text c =
    subst (λ t. IsOkAnd (elements t) (λ ts. c.length_of.result ≡ length ts)) (named_text c.self.inside.heap.graph _ _ _ c.self.view_is c.args.at c.requires.place _ (id_is (goal.at.returns-clause-text c).After-object_at-id)) c.length_of.ensures.text

pub returns-clause-ids : goal.returns-clause-ids
returns-clause-ids c ids is =
    let b = (goal.at.returns-clause-ids c).After-object_at-id in
    c.length_of.ensures.ids ids (ap (list_at c.self.inside.heap.graph) (id_is b ∙ sym (id_of_is c.self.inside.heap.graph c.self.inside.heap.stats _ _ c.args.at)) ∙ ap (λ v. list_at v.graph (id_of v c.args.at)) c.self.view_is ∙ is)

pub returns-clause-told : goal.returns-clause-told
returns-clause-told c = view_told c.self.inside.heap.graph c.self.inside.heap.stats c.self.inside.stack.items c.self.inside.cells.entries c.args.self.now c.self.view_is
