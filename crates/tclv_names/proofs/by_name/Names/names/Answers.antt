use Rattle.std.proofs.Common.{◌≡◌, ◌∷◌, ◌++◌, List, [], ℕ, map, ap, sym, ◌∙◌, append-nil}
use Rattle.std.specs.FinMap.{keys}
use Rattle.tclv_names.proofs.SortLemmas.{sorted_names, one_copied}
use Rattle.tclv_names.proofs.by_name.Names.names.Goals as goal

pub loop-name-init : goal.loop-name-init
loop-name-init g c = ap (λ xs. map (λ k. k.items) xs ++ map (λ k. k.items) c.into_iter-name-iterator.result) c.new-names.ensures.items

pub loop-name-preserved : goal.loop-name-preserved
loop-name-preserved g c =
    ap (λ xs. map (λ k. k.items) xs ++ map (λ k. k.items) c.next.new.self) c.in_ok-push.ensures.items
    ∙ one_copied (λ k. k.items) c.loop-name.names.items c.in_ok-copy.copy (map (λ k. k.items) c.next.new.self)
    ∙ ap (λ t. map (λ k. k.items) c.loop-name.names.items ++ t ∷ map (λ k. k.items) c.next.new.self) (c.in_ok-copy.ensures.items ∙ c.as_slice.ensures.value)
    ∙ ap (λ xs. map (λ k. k.items) c.loop-name.names.items ++ map (λ k. k.items) xs) (sym c.in-Some.ensures.steps) ∙ c.loop-name.invariant

pub returns : goal.returns
returns g c =
    let copied = sym (append-nil _) ∙ ap (λ xs. map (λ k. k.items) c.loop-name.names.items ++ map (λ k. k.items) xs) (sym c.in-None.ensures.steps.0) ∙ c.loop-name.invariant
    ∙ ap (map (λ k. k.items)) (c.into_iter-name-iterator.ensures.into_iter_gives ∙ c.keys-name-items.ensures.rest) in
    sorted_names (λ k. k.items) c.self.inside.table.entries c.loop-name.names.items c.sort_unstable.new.self.items c.keys-name-items.ensures.unique copied c.sort_unstable.ensures.permutation c.sort_unstable.ensures.sorted
    ∙ ap keys c.self.view_is
