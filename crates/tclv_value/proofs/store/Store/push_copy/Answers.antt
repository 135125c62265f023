use Rattle.std.proofs.Common.{◌≡◌, ◌++◌, ◌∷◌, ◌<◌, [], ap, ◌∙◌}
use Rattle.tclv_heap.specs.Graph.{occurs}
use Rattle.tclv_value.specs.Places.{id_at, places}
use Rattle.tclv_value.proofs.ViewLemmas.{Shift, push_stack, push_cells, push_made, push_keeps, push_listed, named_id, named_listed, named_text, named_made, same_text, same_made}
use Rattle.tclv_value.proofs.GraphLemmas.{still_shared, placed_push}
use Rattle.tclv_value.proofs.store.Store.push_copy.Goals as goal
use Rattle.tclv_value.proofs.store.Store.push_copy.Goals.{After-share, After-object_at-id}

id_is : (c : After-object_at-id) → c.object_at-id.result ≡ id_at c.self.inside.stack.items c.self.inside.cells.entries c.args.from
id_is c = c.object_at-id.ensures ∙ ap (λ xs. id_at xs c.self.inside.cells.entries c.args.from) c.as_slice.ensures.value

listed : (c : After-object_at-id) → 0 < occurs c.object_at-id.result (places c.self.inside.stack.items c.self.inside.cells.entries)
listed c = named_listed c.self.inside.heap.graph _ _ _ c.self.view_is c.args.from c.requires _ (id_is c)

pub object_at-id-requires : goal.object_at-id-requires
object_at-id-requires c = rw c.as_slice.ensures.value (named_id c.self.inside.heap.graph _ _ _ c.self.view_is c.args.from c.requires)

pub share-requires : goal.share-requires
share-requires c = c.self.invariant.holders.there _ (listed (goal.at.share-requires c).After-object_at-id)

shift : (c : After-share) → Shift c.self.inside.heap.graph c.self.inside.stack.items c.self.inside.cells.entries c.share.new.self.graph (c.self.inside.stack.items ++ c.object_at-id.result ∷ []) c.self.inside.cells.entries
shift c =
    let e = c.share.ensures in
    record {
      before = c.self.invariant;
      after = placed_push _ _ _ _ _ c.self.invariant e.holders e.keeps;
      still = still_shared _ _ _ (c.self.invariant.holders.there _ (listed (goal.at.After-share c).After-object_at-id)) e.shared e.keeps;
    }

pub invariant_of-self-2 : goal.invariant_of-self-2
invariant_of-self-2 c = rw (c.push_reserved.ensures.items, c.reserve.ensures.items) (shift (goal.at.invariant_of-self-2 c).After-share).after

pub returns-clause-pushed : goal.returns-clause-pushed
returns-clause-pushed c =
    let s = shift (goal.at.returns-clause-pushed c).After-share in
    let b = (goal.at.returns-clause-pushed c).After-object_at-id in
    let text = same_text _ _ _ _ _ _ s c.object_at-id.result (listed b) (push_listed _ _ _ _ _ s _ c.self.view_is) ∙ named_text c.self.inside.heap.graph _ _ _ c.self.view_is c.args.from c.requires _ (id_is b) in
    rw (c.push_reserved.ensures.items, c.reserve.ensures.items) (push_stack _ _ _ _ _ s _ c.self.view_is ∙ ap (λ t. c.args.self.now.stack ++ t ∷ []) text)

pub returns-clause-made : goal.returns-clause-made
returns-clause-made c =
    let s = shift (goal.at.returns-clause-made c).After-share in
    let b = (goal.at.returns-clause-made c).After-object_at-id in
    let made = same_made _ _ _ _ _ _ s c.object_at-id.result (listed b) (push_listed _ _ _ _ _ s _ c.self.view_is) ∙ named_made c.self.inside.heap.graph _ _ _ c.self.view_is c.args.from c.requires _ (id_is b) in
    rw (c.push_reserved.ensures.items, c.reserve.ensures.items) (push_made _ _ _ _ _ s _ c.self.view_is ∙ made)

pub returns-clause-cells : goal.returns-clause-cells
returns-clause-cells c = push_cells _ _ _ _ _ (shift (goal.at.returns-clause-cells c).After-share) _ c.self.view_is

pub returns-clause-keeps : goal.returns-clause-keeps
returns-clause-keeps c = rw (c.push_reserved.ensures.items, c.reserve.ensures.items) (push_keeps _ _ _ _ _ (shift (goal.at.returns-clause-keeps c).After-share) _ c.self.view_is)
