use Rattle.std.proofs.Common.{◌≡◌, ◌<◌, ◌++◌, ◌∷◌, [], set, length, get_or, sym, ap, ◌∙◌, arith}
use Rattle.std.proofs.lemmas.List.{get_or_read}
use Rattle.tclv_heap.specs.Graph.{occurs}
use Rattle.tclv_value.specs.Places.{id_at, IsPlaced, places}
use Rattle.tclv_value.specs.ListObjects.{KeepsCells}
use Rattle.tclv_value.specs.View.{View}
use Rattle.tclv_value.proofs.ViewLemmas.{Shift, named_id, named_listed, named_text, named_made, same_view, over_stack, over_cells, over_made, over_keeps}
use Rattle.tclv_value.proofs.GraphLemmas.{still_shared, still_then_released, placed_push, placed_released, released_outside, over_splits}
use Rattle.tclv_value.proofs.store.Store.copy_over.Goals as goal
use Rattle.tclv_value.proofs.store.Store.copy_over.Goals.{After-object_at-copied, After-index-old, After-share, After-release}

id_is : (c : After-object_at-copied) → c.object_at-copied.result ≡ id_at c.self.inside.stack.items c.self.inside.cells.entries c.args.from
id_is c = c.object_at-copied.ensures ∙ ap (λ xs. id_at xs c.self.inside.cells.entries c.args.from) c.as_slice.ensures.value

listed : (c : After-object_at-copied) → 0 < occurs c.object_at-copied.result (places c.self.inside.stack.items c.self.inside.cells.entries)
listed c = named_listed c.self.inside.heap.graph _ _ _ c.self.view_is c.args.from c.requires.from _ (id_is c)

pub object_at-copied-requires : goal.object_at-copied-requires
object_at-copied-requires c = rw c.as_slice.ensures.value (named_id c.self.inside.heap.graph _ _ _ c.self.view_is c.args.from c.requires.from)

pub share-requires : goal.share-requires
share-requires c = c.self.invariant.holders.there _ (listed (goal.at.share-requires c).After-object_at-copied)

within : (c : After-object_at-copied) → c.args.to < length c.self.inside.stack.items
within c = omega (arith, c.requires.to, same_view c.self.inside.heap.graph _ _ _ c.self.view_is)

here : (c : After-index-old) → get_or c.self.inside.stack.items c.args.to 0 ≡ c.index-old.result.now
here c = sym (get_or_read c.self.inside.stack.items c.args.to c.index-old.result.now (within (goal.at.After-index-old c).After-object_at-copied) c.index-old.ensures 0)

mid : (c : After-share) → IsPlaced c.share.new.self.graph (c.self.inside.stack.items ++ c.object_at-copied.result ∷ []) c.self.inside.cells.entries
mid c = placed_push _ _ _ _ _ c.self.invariant c.share.ensures.holders c.share.ensures.keeps

pub release-requires : goal.release-requires
release-requires c =
    let a = (goal.at.release-requires c).After-share in
    let i = (goal.at.release-requires c).After-index-old in
    released_outside _ c.share.new.self.graph (c.self.inside.stack.items ++ c.object_at-copied.result ∷ []) (set c.self.inside.stack.items c.args.to c.object_at-copied.result) c.self.inside.cells.entries c.self.inside.cells.entries c.index-old.result.now (mid a)
    (λ x. over_splits c.self.inside.stack.items c.self.inside.cells.entries c.args.to c.object_at-copied.result c.index-old.result.now x (within (goal.at.After-index-old i).After-object_at-copied) (here i))

shift : (c : After-release) → Shift c.self.inside.heap.graph c.self.inside.stack.items c.self.inside.cells.entries c.release.new.self.graph (set c.self.inside.stack.items c.args.to c.object_at-copied.result) c.self.inside.cells.entries
shift c =
    let a = (goal.at.After-release c).After-share in
    let i = (goal.at.After-release c).After-index-old in
    let b = (goal.at.After-release c).After-object_at-copied in
    record {
      before = c.self.invariant;
      after = placed_released _ _ (c.self.inside.stack.items ++ c.object_at-copied.result ∷ []) _ _ _ c.index-old.result.now (mid a)
          (λ x. over_splits c.self.inside.stack.items c.self.inside.cells.entries c.args.to c.object_at-copied.result c.index-old.result.now x (within b) (here i)) c.release.ensures.holders c.release.ensures.keeps;
      still = still_then_released _ _ _ _ (still_shared _ _ _ (c.self.invariant.holders.there _ (listed b)) c.share.ensures.shared c.share.ensures.keeps) c.release.ensures.released c.release.ensures.keeps;
    }

pub invariant_of-self : goal.invariant_of-self
invariant_of-self c = (shift (goal.at.invariant_of-self c).After-release).after

pub returns-clause-stack : goal.returns-clause-stack
returns-clause-stack c =
    let b = (goal.at.returns-clause-stack c).After-object_at-copied in
    over_stack _ _ _ _ _ _ (shift (goal.at.returns-clause-stack c).After-release) (within b) (listed b) _ c.self.view_is ∙ ap (set c.args.self.now.stack c.args.to) (named_text c.self.inside.heap.graph _ _ _ c.self.view_is c.args.from c.requires.from _ (id_is b))

pub returns-clause-made : goal.returns-clause-made
returns-clause-made c =
    let b = (goal.at.returns-clause-made c).After-object_at-copied in
    over_made _ _ _ _ _ _ (shift (goal.at.returns-clause-made c).After-release) (within b) (listed b) _ c.self.view_is ∙ named_made c.self.inside.heap.graph _ _ _ c.self.view_is c.args.from c.requires.from _ (id_is b)

pub returns-clause-cells : goal.returns-clause-cells
returns-clause-cells c =
    let b = (goal.at.returns-clause-cells c).After-object_at-copied in
    over_cells _ _ _ _ _ _ (shift (goal.at.returns-clause-cells c).After-release) (within b) (listed b) _ c.self.view_is

pub returns-clause-keeps : goal.returns-clause-keeps
returns-clause-keeps c =
    let b = (goal.at.returns-clause-keeps c).After-object_at-copied in
    over_keeps _ _ _ _ _ _ (shift (goal.at.returns-clause-keeps c).After-release) (within b) (listed b) _ c.self.view_is

pub returns-clause-objects : goal.returns-clause-objects
unfolding KeepsCells
returns-clause-objects c = (ap (λ (v : View). v.cell_ids) c.self.view_is, ap (λ h. h.stats) c.release.ensures.rest ∙ ap (λ h. h.stats) c.share.ensures.rest ∙ ap (λ (v : View). v.stats) c.self.view_is)
