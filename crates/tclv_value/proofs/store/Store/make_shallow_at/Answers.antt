use Rattle.std.proofs.Common.{refl, subst}
use Rattle.tclv_value.specs.ListObjects.{Retells}
use Rattle.tclv_value.specs.Places.{IsPlaced, places, view_of}
use Rattle.tclv_value.proofs.GraphLemmas.{retexted_made}
use Rattle.tclv_value.proofs.RetellLemmas.{retold}
use Rattle.tclv_value.proofs.ViewLemmas.{kept_stack, kept_cells, stays_made}
use Rattle.tclv_value.proofs.store.Store.make_shallow_at.Goals as goal
use Rattle.tclv_value.proofs.store.Store.make_shallow_at.Goals.{After-make_string}

after : (c : After-make_string) → IsPlaced c.make_string.new.self.graph c.self.inside.stack.items c.self.inside.cells.entries
after c =
    let e = c.make_string.ensures in
    record { sound = e.keeps.sound; closed = e.keeps.closed c.self.invariant.closed; holders = e.holders (places c.self.inside.stack.items c.self.inside.cells.entries) c.self.invariant.holders }

pub returns-clause-kept : goal.returns-clause-kept
returns-clause-kept c =
    let a = after (goal.at.returns-clause-kept c).After-make_string in
    record {
      stack = kept_stack _ _ _ _ c.self.invariant a c.make_string.ensures.keeps.says _ c.self.view_is;
      cells = kept_cells _ _ _ _ c.self.invariant a c.make_string.ensures.keeps.says _ c.self.view_is;
      stays = stays_made _ _ _ _ c.self.invariant a c.make_string.ensures.keeps.says _ c.self.view_is (retexted_made _ _ _ c.make_string.ensures.retexts);
    }

pub returns-clause-retells : goal.returns-clause-retells
returns-clause-retells c =
    let now = view_of c.make_string.new.self.graph c.make_string.new.self.stats c.self.inside.stack.items c.self.inside.cells.entries in
    subst (λ v. Retells v now) c.self.view_is (retold _ (view_of c.self.inside.heap.graph c.self.inside.heap.stats c.self.inside.stack.items c.self.inside.cells.entries) now (record { stack = refl; cells = refl }) c.make_string.ensures.retexts)
