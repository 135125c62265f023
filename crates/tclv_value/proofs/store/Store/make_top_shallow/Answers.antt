use Rattle.std.proofs.Common.{IsSome, refl, ap, sym, subst, ◌∙◌}
use Rattle.tclv_heap.specs.Graph.{at, count_in}
use Rattle.tclv_value.specs.ListObjects.{IsAloneAt, Retells, OnlyWrites}
use Rattle.tclv_value.specs.Places.{IsPlaced, places, id_at, view_of}
use Rattle.tclv_value.proofs.GraphLemmas.{retexted_made, retexted_count, retexted_there}
use Rattle.tclv_value.proofs.RetellLemmas.{retold}
use Rattle.tclv_value.proofs.ViewLemmas.{named_id, id_listed, id_of_is, kept_stack, kept_cells, stays_made}
use Rattle.tclv_value.proofs.store.Store.make_top_shallow.Goals as goal
use Rattle.tclv_value.proofs.store.Store.make_top_shallow.Goals.{After-make_string}

after : (c : After-make_string) → IsPlaced c.make_string.new.self.graph c.self.inside.stack.items c.self.inside.cells.entries
after c =
    let e = c.make_string.ensures in
    record { sound = e.keeps.sound; closed = e.keeps.closed c.self.invariant.closed; holders = e.holders (places c.self.inside.stack.items c.self.inside.cells.entries) c.self.invariant.holders }

pub returns-clause-kept : goal.returns-clause-kept
returns-clause-kept c =
    let a = after (goal.at.returns-clause-kept c).After-make_string in
    record {
      stack = kept_stack _ _ _ _ c.self.invariant a c.make_string.ensures.keeps.says _ c.self.view_is;
      cells = kept_cells _ _ _ _ c.self.invariant a c.make_string.ensures.keeps.says _ c.self.view_is;
      stays = stays_made _ _ _ _ c.self.invariant a c.make_string.ensures.keeps.says _ c.self.view_is (retexted_made _ _ _ c.make_string.ensures.retexts);
    }

pub returns-clause-alone : goal.returns-clause-alone
returns-clause-alone c place there alone =
    let g = c.self.inside.heap.graph in
    let h = c.make_string.new.self.graph in
    let ids = c.self.inside.stack.items in
    let es = c.self.inside.cells.entries in
    let has = named_id g ids es _ c.self.view_is place there in
    let was : IsAloneAt (view_of g c.self.inside.heap.stats ids es) place = subst (λ v. IsAloneAt v place) (sym c.self.view_is) alone in
    ap (λ o. count_in (at h o)) (id_of_is h c.make_string.new.self.stats ids es place) ∙ retexted_count _ g h c.make_string.ensures.retexts (id_at ids es place) (c.self.invariant.holders.there _ (id_listed ids es place has))
    ∙ sym (ap (λ o. count_in (at g o)) (id_of_is g c.self.inside.heap.stats ids es place)) ∙ was

pub returns-clause-there : goal.returns-clause-there
returns-clause-there c o there = retexted_there _ c.self.inside.heap.graph c.make_string.new.self.graph c.make_string.ensures.retexts o (subst (λ v. IsSome (at v.graph o)) (sym c.self.view_is) there)

pub returns-clause-retells : goal.returns-clause-retells
returns-clause-retells c =
    let now = view_of c.make_string.new.self.graph c.make_string.new.self.stats c.self.inside.stack.items c.self.inside.cells.entries in
    subst (λ v. Retells v now) c.self.view_is (retold _ (view_of c.self.inside.heap.graph c.self.inside.heap.stats c.self.inside.stack.items c.self.inside.cells.entries) now (record { stack = refl; cells = refl }) c.make_string.ensures.retexts)

pub returns-then-depth-lt50-clause-written : goal.returns-then-depth-lt50-clause-written
unfolding OnlyWrites
returns-then-depth-lt50-clause-written c = (refl, refl)

pub returns-clause-written : goal.returns-clause-written
unfolding OnlyWrites
returns-clause-written c = (
  ap (λ h. h.stats.read) c.make_string.ensures.rest ∙ ap (λ v. v.stats.read) c.self.view_is,
  ap (λ h. h.stats.copied) c.make_string.ensures.rest ∙ ap (λ v. v.stats.copied) c.self.view_is,
)
