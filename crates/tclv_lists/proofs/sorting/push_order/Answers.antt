use Rattle.std.proofs.Common.{◌≡◌, ◌∙◌, ◌-◌, ◌<◌, ℕ, List, [], ◌++◌, length, take, drop, map, get_or, refl, sym, ap, subst}
use Rattle.std.specs.List.{All}
use Rattle.std.specs.Option.{option_map}
use Rattle.std.proofs.lemmas.List.Sorted.{All-permutation}
use Rattle.tclv_text.specs.Quotes.{list_text}
use Rattle.tclv_model.specs.Rows.{RowAnswer, Gives, and_then}
use Rattle.tclv_lists.specs.declared.sorting.Key.{Key}
use Rattle.tclv_lists.specs.declared.sorting.Entry.{Entry}
use Rattle.tclv_lists.specs.Sorting.{keyed, given, in_order, entry_before, text_in, sorted_texts}
use Rattle.tclv_reply.proofs.Laws.{grows_trans, begun, read_on, leaves_list}
use Rattle.tclv_lists.proofs.GivenLemmas.{sorted_mapped}
use Rattle.tclv_lists.proofs.sorting.push_order.Goals as goal

pub push_given-requires : goal.push_given-requires
push_given-requires c =
    let s = c.args.store.now.stack in
    let r = c.in_ok-entries.ensures in
    let P : Entry → Type 0 = λ e. e.at < length s in
    let sorted = All-permutation P c.in_ok-entries.entries.items c.sort_entries.new.entries.items c.sort_entries.ensures.same r.gives.shown.within in
    let lent = subst (λ (l : List Entry). All P l) (sym c.as_slice.ensures.value) sorted in
    subst (λ (q : List (List ℕ)). All (λ (e : Entry). e.at < length q) c.as_slice.result.now) (sym r.kept) lent

pub returns : goal.returns
returns c =
    let old = c.args.store.now in
    let s = old.stack in
    let o = c.args.order in
    let named = option_map (λ k. get_or s k []) c.args.index in
    let words = take (c.args.to - c.args.from) (drop c.args.from s) in
    let f : List (Key × List ℕ) → RowAnswer = λ es. Gives (list_text (sorted_texts o es)) in
    let r = read_on (keyed o named words) f (begun (and_then (keyed o named words) f) old) (keyed o named words) refl c.in_ok-entries.ensures in
    let one = c.read_entries.new.store in
    let mid = c.push_given.new.store in
    let before = entry_before o.direction in
    let xs = c.in_ok-entries.entries.items in
    let g = c.in_ok-push_given.ensures in
    let lent = c.as_slice.result.now in
    let lent_is : lent ≡ in_order before xs = c.as_slice.ensures.value ∙ c.in_ok-sort_entries.ensures.sorted in
    let pushed = g.pushed
    ∙ ap (λ (q : List (List ℕ)). q ++ map (text_in q) (given o.unique before lent)) r.went.same
    ∙ ap (λ (l : List Entry). s ++ map (text_in s) (given o.unique before l)) lent_is
    ∙ ap (λ (t : List (List ℕ)). s ++ t) (sorted_mapped s o xs)
    ∙ ap (λ (es : List (Key × List ℕ)). s ++ sorted_texts o es) r.shown.pairs in
    let count = ap (λ (k : ℕ). k - c.height-height.result) c.height-all.ensures ∙ ap (λ (k : ℕ). length mid.stack - k) (c.height-height.ensures ∙ ap length r.went.same) in
    leaves_list _ old mid c.push_list.new.self (sorted_texts o r.value) (c.height-all.result - c.height-height.result) (grows_trans old one mid r.went.grows g.grows) pushed count c.in_ok-push_list.ensures.gathered r.went.is
