use Rattle.std.proofs.Common.{◌≡◌, IsSome, ap, sym, subst, ◌∙◌}
use Rattle.std.specs.Prelude.{IfErr}
use Rattle.tclv_heap.specs.Graph.{at, count_in}
use Rattle.tclv_value.specs.Kept.{list_at}
use Rattle.tclv_value.specs.View.{id_of}
use Rattle.tclv_value.specs.Lists.{RefusesList}
use Rattle.tclv_value.specs.Paths.{RefusesStep}
use Rattle.std.proofs.Common.{length}
use Rattle.tclv_heap.specs.Counters.{raised}
use Rattle.tclv_value.specs.ListObjects.{IsListAt, IsAloneAt, CountsRead, ReadsAt, CopiesNone}
use Rattle.tclv_value.proofs.CountLemmas.{read_as}
use Rattle.tclv_value.specs.Places.{id_at, view_of, IsPlaced, places}
use Rattle.tclv_value.proofs.AnswerLemmas.{on_ok}
use Rattle.tclv_value.proofs.ViewLemmas.{named_id, named_listed, named_text, id_of_is, kept_stack, kept_cells, stays_made}
use Rattle.tclv_value.proofs.store.Store.keep_list_at.Goals as goal
use Rattle.tclv_value.proofs.store.Store.keep_list_at.Goals.{After-object_at-id, After-keep_list}

id_is : (c : After-object_at-id) → c.object_at-id.result ≡ id_at c.self.inside.stack.items c.self.inside.cells.entries c.args.at
id_is c = c.object_at-id.ensures ∙ ap (λ xs. id_at xs c.self.inside.cells.entries c.args.at) c.as_slice.ensures.value

pub object_at-id-requires : goal.object_at-id-requires
object_at-id-requires c = rw c.as_slice.ensures.value (named_id c.self.inside.heap.graph _ _ _ c.self.view_is c.args.at c.requires)

pub keep_list-requires-clause-outside : goal.keep_list-requires-clause-outside
keep_list-requires-clause-outside c = record {
  ids = places c.self.inside.stack.items c.self.inside.cells.entries;
  holders = c.self.invariant.holders;
  listed = named_listed c.self.inside.heap.graph _ _ _ c.self.view_is c.args.at c.requires _ (id_is (goal.at.keep_list-requires-clause-outside c).After-object_at-id);
}

after : (c : After-keep_list) → IsPlaced c.keep_list.new.heap.graph c.self.inside.stack.items c.self.inside.cells.entries
after c =
    let e = c.keep_list.ensures in
    record { sound = e.keeps.sound; closed = e.keeps.closed c.self.invariant.closed; holders = e.holders (places c.self.inside.stack.items c.self.inside.cells.entries) c.self.invariant.holders }

pub returns-clause-list : goal.returns-clause-list
returns-clause-list c =
    let b = (goal.at.returns-clause-list c).After-object_at-id in
    on_ok c.keep_list.result (λ is. subst (λ o. IsSome (list_at c.keep_list.new.heap.graph o)) (id_is b ∙ sym (id_of_is c.keep_list.new.heap.graph c.keep_list.new.heap.stats _ _ c.args.at)) is) c.keep_list.ensures.list

pub returns-clause-refused : goal.returns-clause-refused
returns-clause-refused c =
    subst (λ t. IfErr c.keep_list.result (λ fault. RefusesList fault t)) (named_text c.self.inside.heap.graph _ _ _ c.self.view_is c.args.at c.requires _ (id_is (goal.at.returns-clause-refused c).After-object_at-id)) c.keep_list.ensures.refused

pub returns-clause-kept : goal.returns-clause-kept
returns-clause-kept c =
    let a = after (goal.at.returns-clause-kept c).After-keep_list in
    record {
      stack = kept_stack _ _ _ _ c.self.invariant a c.keep_list.ensures.keeps.says _ c.self.view_is;
      cells = kept_cells _ _ _ _ c.self.invariant a c.keep_list.ensures.keeps.says _ c.self.view_is;
      stays = stays_made _ _ _ _ c.self.invariant a c.keep_list.ensures.keeps.says _ c.self.view_is c.keep_list.ensures.texts;
    }

pub returns-clause-places : goal.returns-clause-places
returns-clause-places c = record { stack = ap (λ v. v.stack_ids) c.self.view_is; cells = ap (λ v. v.cell_ids) c.self.view_is }

pub returns-clause-unread : goal.returns-clause-unread
returns-clause-unread c was =
    let b = (goal.at.returns-clause-unread c).After-object_at-id in
    let before : IsListAt (view_of c.self.inside.heap.graph c.self.inside.heap.stats c.self.inside.stack.items c.self.inside.cells.entries) c.args.at = subst (λ v. IsListAt v c.args.at) (sym c.self.view_is) was in
    let kept = c.keep_list.ensures.kept (subst (λ o. IsSome (list_at c.self.inside.heap.graph o)) (id_of_is c.self.inside.heap.graph c.self.inside.heap.stats _ _ c.args.at ∙ sym (id_is b)) before) in
    ap (λ h. view_of h.graph h.stats c.self.inside.stack.items c.self.inside.cells.entries) kept ∙ c.self.view_is

pub returns-clause-stay : goal.returns-clause-stay
returns-clause-stay c = on_ok c.keep_list.result (λ stay o is. stay o (subst (λ v. IsSome (at v.graph o)) (sym c.self.view_is) is)) c.keep_list.ensures.stay

pub returns-clause-count : goal.returns-clause-count
returns-clause-count c =
    let b = (goal.at.returns-clause-count c).After-object_at-id in
    let g = c.self.inside.heap.graph in
    let h = c.keep_list.new.heap.graph in
    let ids = c.self.inside.stack.items in
    let es = c.self.inside.cells.entries in
    on_ok c.keep_list.result (λ same.
    ap (λ o. count_in (at h o)) (id_of_is h c.keep_list.new.heap.stats ids es c.args.at ∙ sym (id_is b)) ∙ same
    ∙ ap (λ o. count_in (at g o)) (id_is b ∙ sym (id_of_is g c.self.inside.heap.stats ids es c.args.at)) ∙ ap (λ v. count_in (at v.graph (id_of v c.args.at))) c.self.view_is) c.keep_list.ensures.count

pub returns-clause-memory : goal.returns-clause-memory
returns-clause-memory c list =
    let b = (goal.at.returns-clause-memory c).After-object_at-id in
    c.keep_list.ensures.memory (subst (λ o. IsSome (list_at c.self.inside.heap.graph o)) (id_of_is c.self.inside.heap.graph c.self.inside.heap.stats _ _ c.args.at ∙ sym (id_is b)) (subst (λ v. IsListAt v c.args.at) (sym c.self.view_is) list))

pub returns-clause-step : goal.returns-clause-step
returns-clause-step c =
    let b = (goal.at.returns-clause-step c).After-object_at-id in
    subst (λ t. IfErr c.keep_list.result (λ why. RefusesStep why t)) (named_text c.self.inside.heap.graph _ _ _ c.self.view_is c.args.at c.requires _ (id_is b)) c.keep_list.ensures.step

pub returns-clause-alone : goal.returns-clause-alone
returns-clause-alone c =
    let b = (goal.at.returns-clause-alone c).After-object_at-id in
    let g = c.self.inside.heap.graph in
    let h = c.keep_list.new.heap.graph in
    on_ok c.keep_list.result
    (λ kept alone.
    ap (λ o. count_in (at h o)) (id_of_is h c.keep_list.new.heap.stats c.self.inside.stack.items c.self.inside.cells.entries c.args.at ∙ sym (id_is b))
    ∙ kept (sym (ap (λ o. count_in (at g o)) (id_of_is g c.self.inside.heap.stats c.self.inside.stack.items c.self.inside.cells.entries c.args.at ∙ sym (id_is b))) ∙ subst (λ v. IsAloneAt v c.args.at) (sym c.self.view_is) alone))
    c.keep_list.ensures.alone

pub returns-clause-read : goal.returns-clause-read
returns-clause-read c =
    let b = (goal.at.returns-clause-read c).After-object_at-id in
    on_ok c.keep_list.result (λ counted. read_as c.self.inside.heap.graph c.keep_list.new.heap.graph c.self.inside.heap.stats c.keep_list.new.heap.stats c.self.inside.stack.items c.self.inside.cells.entries c.object_at-id.result c.args.at c.args.self.now c.self.view_is (id_is b) (named_text c.self.inside.heap.graph _ _ _ c.self.view_is c.args.at c.requires _ (id_is b)) counted) c.keep_list.ensures.counted

pub returns-clause-copied : goal.returns-clause-copied
unfolding CountsRead CopiesNone
returns-clause-copied c = on_ok c.keep_list.result (λ counted. counted.2 ∙ ap (λ v. v.stats.copied) c.self.view_is) c.keep_list.ensures.counted
