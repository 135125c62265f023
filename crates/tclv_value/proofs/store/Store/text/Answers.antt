use Rattle.std.proofs.Common.{◌≡◌, sym, ap, ◌∙◌}
use Rattle.tclv_value.specs.Places.{id_at}
use Rattle.tclv_value.proofs.ViewLemmas.{named_id, named_listed, named_text, named_made}
use Rattle.tclv_value.proofs.AnswerLemmas.{lent_text, lent_made}
use Rattle.tclv_value.proofs.store.Store.text.Goals as goal
use Rattle.tclv_value.proofs.store.Store.text.Goals.{After-object_at-id}

id_is : (c : After-object_at-id) → c.object_at-id.result ≡ id_at c.self.inside.stack.items c.self.inside.cells.entries c.args.at
id_is c = c.object_at-id.ensures ∙ ap (λ xs. id_at xs c.self.inside.cells.entries c.args.at) c.as_slice.ensures.value

pub object_at-id-requires : goal.object_at-id-requires
object_at-id-requires c = rw c.as_slice.ensures.value (named_id c.self.inside.heap.graph _ _ _ c.self.view_is c.args.at c.requires)

pub text-requires : goal.text-requires
text-requires c = c.self.invariant.holders.there _ (named_listed c.self.inside.heap.graph _ _ _ c.self.view_is c.args.at c.requires _ (id_is (goal.at.text-requires c).After-object_at-id))

pub returns-clause-text : goal.returns-clause-text
returns-clause-text c =
    lent_text c.self.inside.heap.graph c.object_at-id.result c.text.result _ (named_text c.self.inside.heap.graph _ _ _ c.self.view_is c.args.at c.requires _ (id_is (goal.at.returns-clause-text c).After-object_at-id)) c.text.ensures.some

pub returns-clause-made : goal.returns-clause-made
returns-clause-made c =
    let e = lent_made c.self.inside.heap.graph c.object_at-id.result c.text.result c.text.ensures.some c.text.ensures.none ∙ named_made c.self.inside.heap.graph _ _ _ c.self.view_is c.args.at c.requires _ (id_is (goal.at.returns-clause-made c).After-object_at-id) in
    (λ h. sym e ∙ h, λ h. e ∙ h)
