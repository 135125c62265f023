use Rattle.std.proofs.Common.{◌≡◌, ◌++◌, ◌∷◌, [], IsSome, is_some, ap, sym, subst, ◌∙◌}
use Rattle.std.specs.Option.{option_to_list}
use Rattle.tclv_value.specs.Kept.{list_at}
use Rattle.tclv_value.specs.Places.{id_at}
use Rattle.tclv_value.specs.ListObjects.{IsListAt}
use Rattle.tclv_value.proofs.ViewLemmas.{named_id, id_of_is, under_there}
use Rattle.tclv_value.proofs.AppendPlaceLemmas.{has2, same_id, can, placed2, appended_view, appended_list}
use Rattle.tclv_value.proofs.store.Store.append_in_place.Goals as goal
use Rattle.tclv_value.proofs.store.Store.append_in_place.Goals.{After-object_at-id, In-Some}

id_is : (c : After-object_at-id) → c.object_at-id.result ≡ id_at c.self.inside.stack.items c.self.inside.cells.entries c.args.at
id_is c = c.object_at-id.ensures ∙ ap (λ xs. id_at xs c.self.inside.cells.entries c.args.at) c.as_slice.ensures.value

pub object_at-id-requires : goal.object_at-id-requires
object_at-id-requires c = rw c.as_slice.ensures.value (named_id c.self.inside.heap.graph _ _ _ c.self.view_is c.args.at (under_there c.args.self.now 1 c.args.at c.requires.place))

pub next_list-requires : goal.next_list-requires
next_list-requires c =
    let b = (goal.at.next_list-requires c).After-object_at-id in
    subst (λ o. IsSome (list_at c.self.inside.heap.graph o)) (id_of_is c.self.inside.heap.graph c.self.inside.heap.stats _ _ c.args.at ∙ sym (id_is b)) (subst (λ v. IsListAt v c.args.at) (sym c.self.view_is) c.requires.list)

ends : (c : In-Some) → c.self.inside.stack.items ≡ c.pop.new.self.items ++ c.in-Some.value ∷ []
ends c = c.pop.ensures.items ∙ ap (λ r. c.pop.new.self.items ++ option_to_list r) c.in-Some.is

pub append_value-requires-clause-can : goal.append_value-requires-clause-can
append_value-requires-clause-can c =
    let a = (goal.at.append_value-requires-clause-can c).In-Some in
    let b = (goal.at.append_value-requires-clause-can c).After-object_at-id in
    can c.self.inside.heap.graph c.self.inside.stack.items c.pop.new.self.items c.self.inside.cells.entries c.in-Some.value c.object_at-id.result c.args.at c.args.self.now c.self.view_is (ends a) c.self.invariant (id_is b) c.requires.place c.requires.list c.requires.shallow c.requires.alone

pub invariant_of-self : goal.invariant_of-self
invariant_of-self c =
    let a = (goal.at.invariant_of-self c).In-Some in
    let b = (goal.at.invariant_of-self c).After-object_at-id in
    placed2 c.self.inside.heap.graph c.self.inside.stack.items c.pop.new.self.items c.self.inside.cells.entries c.in-Some.value c.object_at-id.result c.args.at c.args.self.now c.self.view_is (ends a) c.self.invariant (id_is b) c.requires.place c.requires.list c.requires.shallow c.requires.alone c.append_value.new.heap.graph c.append_value.ensures.appended c.next_list.ensures.elements

pub returns-clause-appended : goal.returns-clause-appended
returns-clause-appended c =
    let a = (goal.at.returns-clause-appended c).In-Some in
    let b = (goal.at.returns-clause-appended c).After-object_at-id in
    appended_view c.self.inside.heap.graph c.self.inside.stack.items c.pop.new.self.items c.self.inside.cells.entries c.in-Some.value c.object_at-id.result c.args.at c.args.self.now c.self.view_is (ends a) c.self.invariant (id_is b) c.requires.place c.requires.list c.requires.shallow c.requires.alone c.append_value.new.heap.graph c.append_value.ensures.appended c.next_list.ensures.elements _

pub returns-clause-elements : goal.returns-clause-elements
returns-clause-elements c =
    let a = (goal.at.returns-clause-elements c).In-Some in
    let b = (goal.at.returns-clause-elements c).After-object_at-id in
    appended_list c.self.inside.heap.graph c.self.inside.stack.items c.pop.new.self.items c.self.inside.cells.entries c.in-Some.value c.object_at-id.result c.args.at c.args.self.now c.self.view_is (ends a) c.self.invariant (id_is b) c.requires.place c.requires.list c.requires.shallow c.requires.alone c.append_value.new.heap.graph c.append_value.ensures.appended c.next_list.ensures.elements

pub returns-clause-listed : goal.returns-clause-listed
returns-clause-listed c =
    let a = (goal.at.returns-clause-listed c).In-Some in
    let b = (goal.at.returns-clause-listed c).After-object_at-id in
    let here = id_of_is c.append_value.new.heap.graph c.append_value.new.heap.stats c.pop.new.self.items c.self.inside.cells.entries c.args.at in
    let same = (same_id c.self.inside.heap.graph c.self.inside.stack.items c.pop.new.self.items c.self.inside.cells.entries c.in-Some.value c.object_at-id.result c.args.at c.args.self.now c.self.view_is (ends a) c.self.invariant (id_is b) c.requires.place c.requires.list c.requires.shallow c.args.at (has2 c.self.inside.heap.graph c.self.inside.stack.items c.pop.new.self.items c.self.inside.cells.entries c.in-Some.value c.object_at-id.result c.args.at c.args.self.now c.self.view_is (ends a) c.self.invariant (id_is b) c.requires.place c.requires.list c.requires.shallow)).0 in
    ap (λ o. is_some (list_at c.append_value.new.heap.graph o)) (here ∙ same ∙ sym (id_is b)) ∙ ap is_some c.append_value.ensures.appended.list
