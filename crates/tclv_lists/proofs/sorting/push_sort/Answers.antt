use Rattle.std.proofs.Common.{◌∙◌, ◌-◌, ℕ, List, [], take, drop, get_or, refl, sym, ap}
use Rattle.std.specs.Prelude.{Option}
use Rattle.std.specs.Option.{option_map}
use Rattle.std.proofs.lemmas.Result.{err_from_is_err_and}
use Rattle.tclv_model.specs.Rows.{RowAnswer}
use Rattle.tclv_reply.specs.Options.{Options}
use Rattle.tclv_lists.specs.declared.sorting.Order.{Order}
use Rattle.tclv_lists.specs.Sorting.{order_options, sorted_of, row_lsort}
use Rattle.tclv_reply.proofs.Laws.{begun, read_on, leaves_on, leaves_there, went_as}
use Rattle.tclv_lists.proofs.GivenLemmas.{lsort_row}
use Rattle.tclv_lists.proofs.sorting.push_sort.Goals as goal

pub returns-in_err-order : goal.returns-in_err-order
returns-in_err-order c =
    let s = c.args.store.now in
    let from = c.args.from in
    let to = c.args.to in
    let call = get_or s.stack c.args.call [] in
    let f : Options Order → RowAnswer = λ x. sorted_of x.settings x.index (get_or s.stack (to - 1) []) in
    let w = went_as _ (begun (row_lsort call (take (to - from) (drop from s.stack))) s) (lsort_row call s.stack from to c.requires.words c.requires.within) in
    let options = order_options call (take (to - 1 - from) (drop from s.stack)) in
    let p = err_from_is_err_and c.from_residual.result c.from_residual.ensures.1 in
    rw (p.1, p.2) (leaves_there options f options w refl c.in_err-order.ensures)

pub returns : goal.returns
returns c =
    let s = c.args.store.now in
    let from = c.args.from in
    let to = c.args.to in
    let call = get_or s.stack c.args.call [] in
    let f : Options Order → RowAnswer = λ x. sorted_of x.settings x.index (get_or s.stack (to - 1) []) in
    let w = went_as _ (begun (row_lsort call (take (to - from) (drop from s.stack))) s) (lsort_row call s.stack from to c.requires.words c.requires.within) in
    let options = order_options call (take (to - 1 - from) (drop from s.stack)) in
    let r = read_on options f w options refl c.in_ok-order.ensures in
    let mid = c.order_options.new.store.stack in
    let order = c.in_ok-order.order in
    let index = c.in_ok-order.index in
    let row : List (List ℕ) → RowAnswer = λ q. sorted_of order (option_map (λ k. get_or q k []) index) (get_or q (to - 1) []) in
    leaves_on (row mid) r.went
    (sym (ap row r.went.same
    ∙ ap (λ (x : Order). sorted_of x (option_map (λ k. get_or s.stack k []) index) (get_or s.stack (to - 1) [])) r.shown.settings
    ∙ ap (λ (i : Option (List ℕ)). sorted_of r.value.settings i (get_or s.stack (to - 1) [])) r.shown.index)) c.push_sorted.ensures
