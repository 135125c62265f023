use Rattle.std.proofs.Common.{IsSome, is_some, ap, sym, subst, ◌≡◌, ◌∙◌}
use Rattle.tclv_heap.specs.Graph.{at, count_in}
use Rattle.tclv_value.specs.ListObjects.{IsAloneAt}
use Rattle.tclv_value.specs.Places.{IsPlaced, places, id_at, view_of}
use Rattle.tclv_value.proofs.AnswerLemmas.{on_ok}
use Rattle.tclv_value.proofs.GraphLemmas.{retexted_made, retexted_count, retexted_there}
use Rattle.tclv_value.proofs.ViewLemmas.{named_id, named_listed, id_listed, id_of_is, kept_stack, kept_cells, stays_made, made_there}
use Rattle.tclv_value.proofs.store.Store.write_text.Goals as goal
use Rattle.tclv_value.proofs.store.Store.write_text.Goals.{After-object_at-id, After-make_string}

id_is : (c : After-object_at-id) → c.object_at-id.result ≡ id_at c.self.inside.stack.items c.self.inside.cells.entries c.args.at
id_is c = c.object_at-id.ensures ∙ ap (λ xs. id_at xs c.self.inside.cells.entries c.args.at) c.as_slice.ensures.value

pub object_at-id-requires : goal.object_at-id-requires
object_at-id-requires c = rw c.as_slice.ensures.value (named_id c.self.inside.heap.graph _ _ _ c.self.view_is c.args.at c.requires)

pub make_string-requires-clause-there : goal.make_string-requires-clause-there
make_string-requires-clause-there c = c.self.invariant.holders.there _ (named_listed c.self.inside.heap.graph _ _ _ c.self.view_is c.args.at c.requires _ (id_is (goal.at.make_string-requires-clause-there c).After-object_at-id))

after : (c : After-make_string) → IsPlaced c.make_string.new.self.graph c.self.inside.stack.items c.self.inside.cells.entries
after c =
    let e = c.make_string.ensures in
    record { sound = e.keeps.sound; closed = e.keeps.closed c.self.invariant.closed; holders = e.holders (places c.self.inside.stack.items c.self.inside.cells.entries) c.self.invariant.holders }

pub returns-clause-made : goal.returns-clause-made
returns-clause-made c =
    let b = (goal.at.returns-clause-made c).After-object_at-id in
    let a = after (goal.at.returns-clause-made c).After-make_string in
    on_ok c.make_string.result (λ made. made_there _ _ _ _ c.self.invariant a c.make_string.ensures.keeps.says _ c.self.view_is c.args.at c.requires c.object_at-id.result (id_is b) (ap is_some made)) c.make_string.ensures.made

pub returns-clause-kept : goal.returns-clause-kept
returns-clause-kept c =
    let a = after (goal.at.returns-clause-kept c).After-make_string in
    record {
      stack = kept_stack _ _ _ _ c.self.invariant a c.make_string.ensures.keeps.says _ c.self.view_is;
      cells = kept_cells _ _ _ _ c.self.invariant a c.make_string.ensures.keeps.says _ c.self.view_is;
      stays = stays_made _ _ _ _ c.self.invariant a c.make_string.ensures.keeps.says _ c.self.view_is (retexted_made _ _ _ c.make_string.ensures.retexts);
    }

pub returns-clause-alone : goal.returns-clause-alone
returns-clause-alone c place there alone =
    let g = c.self.inside.heap.graph in
    let h = c.make_string.new.self.graph in
    let ids = c.self.inside.stack.items in
    let es = c.self.inside.cells.entries in
    let has = named_id g ids es _ c.self.view_is place there in
    let was : IsAloneAt (view_of g c.self.inside.heap.stats ids es) place = subst (λ v. IsAloneAt v place) (sym c.self.view_is) alone in
    ap (λ o. count_in (at h o)) (id_of_is h c.make_string.new.self.stats ids es place) ∙ retexted_count _ g h c.make_string.ensures.retexts (id_at ids es place) (c.self.invariant.holders.there _ (id_listed ids es place has))
    ∙ sym (ap (λ o. count_in (at g o)) (id_of_is g c.self.inside.heap.stats ids es place)) ∙ was

pub returns-clause-there : goal.returns-clause-there
returns-clause-there c o there = retexted_there _ c.self.inside.heap.graph c.make_string.new.self.graph c.make_string.ensures.retexts o (subst (λ v. IsSome (at v.graph o)) (sym c.self.view_is) there)
