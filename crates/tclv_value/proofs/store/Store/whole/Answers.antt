use Rattle.std.proofs.Common.{◌≡◌, Ok, ap, subst, ◌∙◌}
use Rattle.std.specs.Prelude.{IfOk, IfErr}
use Rattle.tclv_text.specs.Numbers.{whole}
use Rattle.tclv_value.specs.Answers.{RefusesWhole}
use Rattle.tclv_value.specs.Places.{id_at, IsPlaced, places}
use Rattle.tclv_value.proofs.ViewLemmas.{named_id, named_listed, named_text, kept_stack, kept_cells, stays_made}
use Rattle.tclv_value.proofs.store.Store.whole.Goals as goal
use Rattle.tclv_value.proofs.store.Store.whole.Goals.{After-object_at-id, After-whole_of}

id_is : (c : After-object_at-id) → c.object_at-id.result ≡ id_at c.self.inside.stack.items c.self.inside.cells.entries c.args.at
id_is c = c.object_at-id.ensures ∙ ap (λ xs. id_at xs c.self.inside.cells.entries c.args.at) c.as_slice.ensures.value

pub object_at-id-requires : goal.object_at-id-requires
object_at-id-requires c = rw c.as_slice.ensures.value (named_id c.self.inside.heap.graph _ _ _ c.self.view_is c.args.at c.requires)

pub whole_of-requires-clause-there : goal.whole_of-requires-clause-there
whole_of-requires-clause-there c = c.self.invariant.holders.there _ (named_listed c.self.inside.heap.graph _ _ _ c.self.view_is c.args.at c.requires _ (id_is (goal.at.whole_of-requires-clause-there c).After-object_at-id))

after : (c : After-whole_of) → IsPlaced c.whole_of.new.heap.graph c.self.inside.stack.items c.self.inside.cells.entries
after c =
    let e = c.whole_of.ensures in
    record { sound = e.keeps.sound; closed = e.keeps.closed c.self.invariant.closed; holders = e.holders (places c.self.inside.stack.items c.self.inside.cells.entries) c.self.invariant.holders }

pub returns-clause-number : goal.returns-clause-number
returns-clause-number c =
    subst (λ t. IfOk c.whole_of.result (λ n. whole t ≡ Ok n)) (named_text c.self.inside.heap.graph _ _ _ c.self.view_is c.args.at c.requires _ (id_is (goal.at.returns-clause-number c).After-object_at-id)) c.whole_of.ensures.number

pub returns-clause-refused : goal.returns-clause-refused
returns-clause-refused c =
    subst (λ t. IfErr c.whole_of.result (λ fault. RefusesWhole fault (whole t))) (named_text c.self.inside.heap.graph _ _ _ c.self.view_is c.args.at c.requires _ (id_is (goal.at.returns-clause-refused c).After-object_at-id)) c.whole_of.ensures.refused

pub returns-clause-stack : goal.returns-clause-stack
returns-clause-stack c = kept_stack _ _ _ _ c.self.invariant (after (goal.at.returns-clause-stack c).After-whole_of) c.whole_of.ensures.keeps.says _ c.self.view_is

pub returns-clause-cells : goal.returns-clause-cells
returns-clause-cells c = kept_cells _ _ _ _ c.self.invariant (after (goal.at.returns-clause-cells c).After-whole_of) c.whole_of.ensures.keeps.says _ c.self.view_is

pub returns-clause-stays : goal.returns-clause-stays
returns-clause-stays c = stays_made _ _ _ _ c.self.invariant (after (goal.at.returns-clause-stays c).After-whole_of) c.whole_of.ensures.keeps.says _ c.self.view_is c.whole_of.ensures.texts
