use Rattle.std.proofs.Common.{◌≡◌, ap, ◌∙◌, is_some}
use Rattle.tclv_value.specs.Places.{id_at, IsPlaced, places}
use Rattle.tclv_value.proofs.ViewLemmas.{named_id, named_listed, kept_stack, kept_cells, stays_made, made_there, keeps_same}
use Rattle.tclv_value.proofs.GraphLemmas.{retexted_made}
use Rattle.tclv_value.proofs.AnswerLemmas.{on_ok, on_err}
use Rattle.tclv_value.proofs.store.Store.make_text.Goals as goal
use Rattle.tclv_value.proofs.store.Store.make_text.Goals.{After-object_at-id, After-make_string}

id_is : (c : After-object_at-id) → c.object_at-id.result ≡ id_at c.self.inside.stack.items c.self.inside.cells.entries c.args.at
id_is c = c.object_at-id.ensures ∙ ap (λ xs. id_at xs c.self.inside.cells.entries c.args.at) c.as_slice.ensures.value

pub object_at-id-requires : goal.object_at-id-requires
object_at-id-requires c = rw c.as_slice.ensures.value (named_id c.self.inside.heap.graph _ _ _ c.self.view_is c.args.at c.requires)

pub make_string-requires-clause-there : goal.make_string-requires-clause-there
make_string-requires-clause-there c = c.self.invariant.holders.there _ (named_listed c.self.inside.heap.graph _ _ _ c.self.view_is c.args.at c.requires _ (id_is (goal.at.make_string-requires-clause-there c).After-object_at-id))

after : (c : After-make_string) → IsPlaced c.make_string.new.self.graph c.self.inside.stack.items c.self.inside.cells.entries
after c =
    let e = c.make_string.ensures in
    record { sound = e.keeps.sound; closed = e.keeps.closed c.self.invariant.closed; holders = e.holders (places c.self.inside.stack.items c.self.inside.cells.entries) c.self.invariant.holders }

pub returns-clause-made : goal.returns-clause-made
returns-clause-made c =
    let a = (goal.at.returns-clause-made c).After-make_string in
    let b = (goal.at.returns-clause-made c).After-object_at-id in
    on_ok c.make_string.result (λ is. made_there _ _ _ _ c.self.invariant (after a) c.make_string.ensures.keeps.says _ c.self.view_is c.args.at c.requires _ (id_is b) (ap is_some is)) c.make_string.ensures.made

pub returns-clause-stack : goal.returns-clause-stack
returns-clause-stack c = kept_stack _ _ _ _ c.self.invariant (after (goal.at.returns-clause-stack c).After-make_string) c.make_string.ensures.keeps.says _ c.self.view_is

pub returns-clause-cells : goal.returns-clause-cells
returns-clause-cells c = kept_cells _ _ _ _ c.self.invariant (after (goal.at.returns-clause-cells c).After-make_string) c.make_string.ensures.keeps.says _ c.self.view_is

pub returns-clause-stays : goal.returns-clause-stays
returns-clause-stays c = stays_made _ _ _ _ c.self.invariant (after (goal.at.returns-clause-stays c).After-make_string) c.make_string.ensures.keeps.says _ c.self.view_is (retexted_made _ _ _ c.make_string.ensures.retexts)

pub returns-clause-refused : goal.returns-clause-refused
returns-clause-refused c = on_err c.make_string.result (λ same. keeps_same c.self.inside.heap.graph _ _ _ _ c.self.view_is (ap (λ h. h.graph) same)) c.make_string.ensures.refused
