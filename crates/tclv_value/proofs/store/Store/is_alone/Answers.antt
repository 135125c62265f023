use Rattle.std.proofs.Common.{◌≡◌, ℕ, true, ap, sym, ◌∙◌, nat_eq, arith}
use Rattle.tclv_heap.specs.Graph.{at, count_in}
use Rattle.tclv_value.specs.View.{id_of}
use Rattle.tclv_value.specs.Places.{id_at}
use Rattle.tclv_value.proofs.ViewLemmas.{named_id, named_listed, named_of}
use Rattle.tclv_value.proofs.store.Store.is_alone.Goals as goal
use Rattle.tclv_value.proofs.store.Store.is_alone.Goals.{After-object_at-id}

id_is : (c : After-object_at-id) → c.object_at-id.result ≡ id_at c.self.inside.stack.items c.self.inside.cells.entries c.args.at
id_is c = c.object_at-id.ensures ∙ ap (λ xs. id_at xs c.self.inside.cells.entries c.args.at) c.as_slice.ensures.value

pub object_at-id-requires : goal.object_at-id-requires
object_at-id-requires c = rw c.as_slice.ensures.value (named_id c.self.inside.heap.graph _ _ _ c.self.view_is c.args.at c.requires)

pub count-requires : goal.count-requires
count-requires c = c.self.invariant.holders.there _ (named_listed c.self.inside.heap.graph _ _ _ c.self.view_is c.args.at c.requires _ (id_is (goal.at.count-requires c).After-object_at-id))

one_is : (n : ℕ) → nat_eq n 1 ≡ true → n ≡ 1
one_is n e = grind arith

is_one : (n : ℕ) → n ≡ 1 → nat_eq n 1 ≡ true
is_one n e = ap (λ k. nat_eq k 1) e

pub returns : goal.returns
returns c =
    let b = (goal.at.returns c).After-object_at-id in
    let same : count_in (at c.args.self.now.graph (id_of c.args.self.now c.args.at)) ≡ c.count.result =
    ap (λ v. count_in (at v.graph (id_of c.args.self.now c.args.at))) (sym c.self.view_is)
    ∙ ap (λ o. count_in (at c.self.inside.heap.graph o)) (named_of c.self.inside.heap.graph _ _ _ c.self.view_is c.args.at c.requires ∙ sym (id_is b)) ∙ sym c.count.ensures.value in
    (λ t. same ∙ one_is c.count.result t, λ alone. is_one c.count.result (sym same ∙ alone))
