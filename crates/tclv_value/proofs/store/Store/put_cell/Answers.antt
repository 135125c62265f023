use Rattle.std.proofs.Common.{◌≡◌, ◌-◌, ◌<◌, ◌++◌, ◌∷◌, [], ℕ, Some, None, cond, get_or, sym, ap, subst, ◌∙◌, arith, vec_len, nat_eq}
use Rattle.std.specs.Option.{option_to_list}
use Rattle.std.specs.Map.{lookup}
use Rattle.indexmap.specs.IndexMap.{insert_entry}
use Rattle.tclv_heap.specs.Graph.{occurs}
use Rattle.tclv_value.specs.Places.{IsPlaced, view_of, places}
use Rattle.tclv_value.proofs.ViewLemmas.{Shift, same_view, top_stack, put_cells, put_made, put_keeps}
use Rattle.tclv_value.proofs.GraphLemmas.{still_same, still_released, placed_released, released_outside, put_splits, put_was, placed_put}
use Rattle.tclv_value.proofs.store.Store.put_cell.Goals as goal
use Rattle.tclv_value.proofs.store.Store.put_cell.Goals.{After-pop, After-release}

ends : (c : After-pop) → c.self.inside.stack.items ≡ c.pop.new.self.items ++ c.index-top.result.now ∷ []
ends c =
    let t = c.index-top.result.now in
    let some : 0 < vec_len c.self.inside.stack = omega (arith, c.requires, same_view c.self.inside.heap.graph _ _ _ c.self.view_is, c.self.inside.stack.ok.0) in
    let read : t ≡ get_or c.self.inside.stack.items (vec_len c.self.inside.stack - 1) t = subst (λ n. t ≡ get_or c.self.inside.stack.items (n - 1) t) c.len.ensures c.index-top.ensures in
    let result : c.pop.result ≡ Some t = c.pop.ensures.value t some ∙ ap Some (sym read) in
    c.pop.ensures.items ∙ ap (λ r. c.pop.new.self.items ++ option_to_list r) result

before : (c : After-pop) → IsPlaced c.self.inside.heap.graph (c.pop.new.self.items ++ c.index-top.result.now ∷ []) c.self.inside.cells.entries
before c = subst (λ xs. IsPlaced c.self.inside.heap.graph xs c.self.inside.cells.entries) (ends c) c.self.invariant

view : (c : After-pop) → view_of c.self.inside.heap.graph c.self.inside.heap.stats (c.pop.new.self.items ++ c.index-top.result.now ∷ []) c.self.inside.cells.entries ≡ c.args.self.now
view c = ap (λ xs. view_of c.self.inside.heap.graph c.self.inside.heap.stats xs c.self.inside.cells.entries) (sym (ends c)) ∙ c.self.view_is

entries : (c : After-pop) → c.insert.new.self.entries ≡ insert_entry nat_eq c.self.inside.cells.entries c.args.cell c.index-top.result.now
entries c = c.in_ok-old.ensures.entries

put : (c : After-pop) (q : ℕ) → lookup (nat_eq q) c.insert.new.self.entries ≡ cond (nat_eq c.args.cell q) (Some c.index-top.result.now) (lookup (nat_eq q) c.self.inside.cells.entries)
put c q = c.in_ok-old.ensures.updates.0 q

found : (c : After-pop) → lookup (nat_eq c.args.cell) c.insert.new.self.entries ≡ Some c.index-top.result.now
found c = c.in_ok-old.ensures.updates.1

-- no cell was there
fresh : (c : After-pop) → lookup (nat_eq c.args.cell) c.self.inside.cells.entries ≡ None → Shift c.self.inside.heap.graph (c.pop.new.self.items ++ c.index-top.result.now ∷ []) c.self.inside.cells.entries c.self.inside.heap.graph c.pop.new.self.items c.insert.new.self.entries
fresh c none = record {
  before = before c;
  after = placed_put c.self.inside.heap.graph c.pop.new.self.items c.self.inside.cells.entries c.insert.new.self.entries c.index-top.result.now c.args.cell (entries c) (before c) none;
  still = still_same c.self.inside.heap.graph;
}

splits : (c : After-pop) (old : ℕ) → lookup (nat_eq c.args.cell) c.self.inside.cells.entries ≡ Some old → (x : ℕ) → occurs x (places (c.pop.new.self.items ++ c.index-top.result.now ∷ []) c.self.inside.cells.entries) ≡ occurs x (old ∷ places c.pop.new.self.items c.insert.new.self.entries)
splits c old is x = put_splits c.self.inside.heap.graph c.pop.new.self.items c.self.inside.cells.entries c.insert.new.self.entries c.index-top.result.now c.args.cell (entries c) (Some old) is x

was : (c : After-pop) (p : ℕ) → 0 < occurs p (places c.pop.new.self.items c.insert.new.self.entries) → 0 < occurs p (places (c.pop.new.self.items ++ c.index-top.result.now ∷ []) c.self.inside.cells.entries)
was c = put_was c.self.inside.heap.graph c.pop.new.self.items c.self.inside.cells.entries c.insert.new.self.entries c.index-top.result.now c.args.cell (entries c)

pub release-requires : goal.release-requires
release-requires c =
    let a = (goal.at.release-requires c).After-pop in
    released_outside c.self.inside.heap.graph c.self.inside.heap.graph (c.pop.new.self.items ++ c.index-top.result.now ∷ []) c.pop.new.self.items c.self.inside.cells.entries c.insert.new.self.entries c.in-Some.old (before a) (splits a c.in-Some.old (sym c.in_ok-old.ensures.old ∙ c.in-Some.is))

-- the cell's old object goes
replaced : (c : After-release) → Shift c.self.inside.heap.graph (c.pop.new.self.items ++ c.index-top.result.now ∷ []) c.self.inside.cells.entries c.release.new.self.graph c.pop.new.self.items c.insert.new.self.entries
replaced c =
    let a = (goal.at.After-release c).After-pop in
    record {
      before = before a;
      after = placed_released _ _ _ _ _ _ _ (before a) (splits a c.in-Some.old (sym c.in_ok-old.ensures.old ∙ c.in-Some.is)) c.release.ensures.holders c.release.ensures.keeps;
      still = still_released _ _ _ c.release.ensures.released c.release.ensures.keeps;
    }

pub invariant_of-self-in-Some : goal.invariant_of-self-in-Some
invariant_of-self-in-Some c = (replaced (goal.at.invariant_of-self-in-Some c).After-release).after

pub invariant_of-self-in_default : goal.invariant_of-self-in_default
invariant_of-self-in_default c = (fresh (goal.at.invariant_of-self-in_default c).After-pop (sym c.in_ok-old.ensures.old ∙ c.in_default.is)).after

pub returns-in-Some-clause-popped : goal.returns-in-Some-clause-popped
returns-in-Some-clause-popped c = top_stack _ _ _ _ _ _ (replaced (goal.at.returns-in-Some-clause-popped c).After-release) _ (view (goal.at.returns-in-Some-clause-popped c).After-pop)

pub returns-in-Some-clause-put : goal.returns-in-Some-clause-put
returns-in-Some-clause-put c =
    let a = (goal.at.returns-in-Some-clause-put c).After-pop in
    put_cells _ _ _ _ _ _ _ (replaced (goal.at.returns-in-Some-clause-put c).After-release) (put a) (found a) (was a) _ (view a)

pub returns-in-Some-clause-made : goal.returns-in-Some-clause-made
returns-in-Some-clause-made c =
    let a = (goal.at.returns-in-Some-clause-made c).After-pop in
    put_made _ _ _ _ _ _ _ (replaced (goal.at.returns-in-Some-clause-made c).After-release) (put a) (found a) (was a) _ (view a)

pub returns-in-Some-clause-keeps : goal.returns-in-Some-clause-keeps
returns-in-Some-clause-keeps c =
    let a = (goal.at.returns-in-Some-clause-keeps c).After-pop in
    put_keeps _ _ _ _ _ _ _ (replaced (goal.at.returns-in-Some-clause-keeps c).After-release) (put a) (found a) (was a) _ (view a)

pub returns-in_default-clause-put : goal.returns-in_default-clause-put
returns-in_default-clause-put c =
    let a = (goal.at.returns-in_default-clause-put c).After-pop in
    put_cells _ _ _ _ _ _ _ (fresh a (sym c.in_ok-old.ensures.old ∙ c.in_default.is)) (put a) (found a) (was a) _ (view a)

pub returns-in_default-clause-made : goal.returns-in_default-clause-made
returns-in_default-clause-made c =
    let a = (goal.at.returns-in_default-clause-made c).After-pop in
    put_made _ _ _ _ _ _ _ (fresh a (sym c.in_ok-old.ensures.old ∙ c.in_default.is)) (put a) (found a) (was a) _ (view a)

pub returns-in_default-clause-keeps : goal.returns-in_default-clause-keeps
returns-in_default-clause-keeps c =
    let a = (goal.at.returns-in_default-clause-keeps c).After-pop in
    put_keeps _ _ _ _ _ _ _ (fresh a (sym c.in_ok-old.ensures.old ∙ c.in_default.is)) (put a) (found a) (was a) _ (view a)
