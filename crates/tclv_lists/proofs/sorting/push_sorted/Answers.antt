use Rattle.std.proofs.Common.{◌∙◌, ◌-◌, ℕ, List, [], take, drop, get_or, refl, sym, ap}
use Rattle.std.specs.Prelude.{Option}
use Rattle.std.specs.Option.{option_map}
use Rattle.tclv_text.specs.Quotes.{list_text}
use Rattle.tclv_model.specs.Rows.{RowAnswer, Gives, and_then}
use Rattle.tclv_model.specs.Values.{list_of}
use Rattle.tclv_lists.specs.Sorting.{keyed, sorted_texts, sorted_of}
use Rattle.tclv_reply.proofs.Laws.{grows_trans, leaves_after, begun, read_on}
use Rattle.tclv_lists.proofs.GivenLemmas.{part_above, index_kept}
use Rattle.tclv_lists.proofs.sorting.push_sorted.Goals as goal

pub returns : goal.returns
returns c =
    let old = c.args.store.now in
    let s = old.stack in
    let o = c.args.order in
    let named : List (List ℕ) → Option (List ℕ) = λ q. option_map (λ k. get_or q k []) c.args.index in
    let l = get_or s c.args.list [] in
    let f : List (List ℕ) → Option (List ℕ) → RowAnswer = λ ts i. and_then (keyed o i ts) (λ es. Gives (list_text (sorted_texts o es))) in
    let r = read_on (list_of l) (λ ts. f ts (named s)) (begun (sorted_of o (named s) l) old) (list_of l) refl c.in_ok-elements.ensures in
    let one = c.elements_of.new.store in
    let mid = c.push_all.new.store in
    let p = c.in_ok-push_all.ensures in
    let g = grows_trans old one mid r.went.grows p.grows in
    let words = part_above one.stack mid.stack c.all.result.now c.height-from.result c.height-to.result p.pushed c.height-from.ensures c.height-to.ensures in
    let same = ap (λ (ts : List (List ℕ)). f ts (named s)) (sym r.shown ∙ sym c.all.ensures ∙ sym words)
    ∙ ap (f (take (c.height-to.result - c.height-from.result) (drop c.height-from.result mid.stack))) (sym (index_kept s mid.stack g.more c.args.index g.stack c.requires.index)) in
    leaves_after _ _ old mid c.push_order.new.store c.push_order.result g (r.went.is ∙ same) c.push_order.ensures
