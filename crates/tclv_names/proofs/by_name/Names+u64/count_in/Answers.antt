use Rattle.std.proofs.Common.{◌≡◌, ℕ, ◌+◌, length, is_some, Bool, true, false, Vec, Global, sym, ap, ◌∙◌, arith}
use Rattle.std.specs.List.{filter}
use Rattle.std.specs.FinMap.{get}
use Rattle.tclv_names.specs.Keyed.{Numbers, values_of}
use Rattle.tclv_names.proofs.SortLemmas.{count_values, one_passes, none_passes, at_most, copied_is_some}
use Rattle.tclv_names.proofs.by_name.Names+u64.count_in.Goals as goal

abbrev stands : {Y : Type 0} → Numbers Y → Vec ℕ Global × ℕ → Bool
stands m e = is_some (get m e.1)

pub loop-number-init : goal.loop-number-init
loop-number-init g c = omega arith

pub overflow_add-count : goal.overflow_add-count
overflow_add-count g c =
    let yes : is_some (get c.args.table.now.map c.in-Some.number.now) ≡ true = ap is_some (sym c.get.ensures.value) ∙ copied_is_some c.get.result ∙ sym c.if-is_some.ensures in
    let more = ap (λ xs. length (filter (stands c.args.table.now.map) xs)) c.in-Some.ensures.steps ∙ one_passes (stands c.args.table.now.map) _ c.next.new.self yes in
    let kept = c.loop-number.invariant in
    let most = at_most (stands c.args.table.now.map) c.into_iter-number-iterator.result in
    let given = ap length c.into_iter-number-iterator.ensures.into_iter_gives in
    let long = c.iter-number-items.ensures.len in
    let fits = c.iter-number-items.ensures.fits in
    omega (arith, more, kept, most, given, long, fits)

pub loop-number-preserved-then-is_some : goal.loop-number-preserved-then-is_some
loop-number-preserved-then-is_some g c =
    let yes : is_some (get c.args.table.now.map c.in-Some.number.now) ≡ true = ap is_some (sym c.get.ensures.value) ∙ copied_is_some c.get.result ∙ sym c.if-is_some.ensures in
    let more = ap (λ xs. length (filter (stands c.args.table.now.map) xs)) c.in-Some.ensures.steps ∙ one_passes (stands c.args.table.now.map) _ c.next.new.self yes in
    let kept = c.loop-number.invariant in
    omega (arith, more, kept)

pub loop-number-preserved : goal.loop-number-preserved
loop-number-preserved g c =
    let no : is_some (get c.args.table.now.map c.in-Some.number.now) ≡ false = ap is_some (sym c.get.ensures.value) ∙ copied_is_some c.get.result ∙ sym c.if-is_some.ensures in
    ap (λ n. c.loop-number.count + n) (sym (ap (λ xs. length (filter (stands c.args.table.now.map) xs)) c.in-Some.ensures.steps ∙ none_passes (stands c.args.table.now.map) _ c.next.new.self no)) ∙ c.loop-number.invariant

pub returns : goal.returns
returns g c =
    let kept = c.loop-number.invariant in
    let end = ap (λ xs. length (filter (stands c.args.table.now.map) xs)) c.in-None.ensures.steps.0 in
    let all : c.loop-number.count ≡ length (filter (stands c.args.table.now.map) c.into_iter-number-iterator.result) = omega (arith, kept, end) in
    all ∙ ap (λ xs. length (filter (stands c.args.table.now.map) xs)) (c.into_iter-number-iterator.ensures.into_iter_gives ∙ c.iter-number-items.ensures.rest)
    ∙ count_values (λ k. k.items) (λ n. is_some (get c.args.table.now.map n)) c.self.inside.table.entries c.iter-number-items.ensures.unique ∙ ap (λ m. length (filter (λ n. is_some (get c.args.table.now.map n)) (values_of m))) c.self.view_is
