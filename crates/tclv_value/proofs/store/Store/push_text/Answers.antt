use Rattle.std.proofs.Common.{◌++◌, ◌∷◌, [], ap, ◌∙◌}
use Rattle.std.specs.Prelude.{is_some}
use Rattle.std.specs.Str.{chars}
use Rattle.tclv_heap.specs.Graph.{text_in}
use Rattle.tclv_value.proofs.ViewLemmas.{Shift, push_stack, push_cells, push_made, push_keeps}
use Rattle.tclv_value.proofs.GraphLemmas.{still_adds, placed_push}
use Rattle.tclv_value.proofs.store.Store.push_text.Goals as goal
use Rattle.tclv_value.proofs.store.Store.push_text.Goals.{In_ok-id}

shift : (c : In_ok-id) → Shift c.self.inside.heap.graph c.self.inside.stack.items c.self.inside.cells.entries c.make_text_object.new.self.graph (c.self.inside.stack.items ++ c.in_ok-id.id ∷ []) c.self.inside.cells.entries
shift c =
    let e = c.in_ok-id.ensures in
    let k = c.make_text_object.ensures.keeps in
    record {
      before = c.self.invariant;
      after = placed_push _ _ _ _ _ c.self.invariant e.holders k;
      still = still_adds _ _ _ _ e.made k;
    }

pub invariant_of-self-2 : goal.invariant_of-self-2
invariant_of-self-2 c = rw (c.push_reserved.ensures.items, c.reserve.ensures.items) (shift (goal.at.invariant_of-self-2 c).In_ok-id).after

pub returns-clause-pushed : goal.returns-clause-pushed
returns-clause-pushed c =
    rw (c.push_reserved.ensures.items, c.reserve.ensures.items)
    (push_stack _ _ _ _ _ (shift (goal.at.returns-clause-pushed c).In_ok-id) _ c.self.view_is ∙ ap (λ t. c.args.self.now.stack ++ t ∷ []) (c.in_ok-id.ensures.stands ∙ c.new.ensures ∙ ap chars c.in_ok-bytes.ensures.items))

pub returns-clause-made : goal.returns-clause-made
returns-clause-made c =
    rw (c.push_reserved.ensures.items, c.reserve.ensures.items)
    (push_made _ _ _ _ _ (shift (goal.at.returns-clause-made c).In_ok-id) _ c.self.view_is ∙ ap (λ s. is_some (text_in s)) c.in_ok-id.ensures.made.made.changed)

pub returns-clause-cells : goal.returns-clause-cells
returns-clause-cells c = push_cells _ _ _ _ _ (shift (goal.at.returns-clause-cells c).In_ok-id) _ c.self.view_is

pub returns-clause-keeps : goal.returns-clause-keeps
returns-clause-keeps c =
    rw (c.push_reserved.ensures.items, c.reserve.ensures.items)
    (push_keeps _ _ _ _ _ (shift (goal.at.returns-clause-keeps c).In_ok-id) _ c.self.view_is)
