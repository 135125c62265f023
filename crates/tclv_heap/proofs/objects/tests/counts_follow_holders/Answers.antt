use Rattle.std.proofs.Common.{[], ◌∷◌}
use Rattle.tclv_heap.specs.Links.{links_table}
use Rattle.tclv_heap.proofs.HoldersLemmas.{Holders_new, Holders_first}
use Rattle.tclv_heap.proofs.objects.tests.counts_follow_holders.Goals as goal

pub count-requires : goal.count-requires
count-requires g c =
    let none = Holders_new links_table.parts c.new-heap.result _ _ c.new-heap.ensures.empty in
    let two = c.share.ensures.holders (c.in_ok-id.id ∷ []) (c.in_ok-id.ensures.holders [] none) in
    (Holders_first links_table.parts _ _ _ two).there

pub release-requires : goal.release-requires
release-requires g c =
    let none = Holders_new links_table.parts c.new-heap.result _ _ c.new-heap.ensures.empty in
    let two = c.share.ensures.holders (c.in_ok-id.id ∷ []) (c.in_ok-id.ensures.holders [] none) in
    Holders_first links_table.parts _ _ _ two

pub release-requires-2 : goal.release-requires-2
release-requires-2 g c =
    let none = Holders_new links_table.parts c.new-heap.result _ _ c.new-heap.ensures.empty in
    let two = c.share.ensures.holders (c.in_ok-id.id ∷ []) (c.in_ok-id.ensures.holders [] none) in
    Holders_first links_table.parts _ _ _ (c.release.ensures.holders (c.in_ok-id.id ∷ []) two)
