use Rattle.std.proofs.Common.{[], ◌∷◌}
use Rattle.tclv_heap.specs.Links.{links_table}
use Rattle.tclv_heap.proofs.HoldersLemmas.{Holders_new, Holders_swap, Holders_first}
use Rattle.tclv_heap.proofs.objects.tests.copies_share_parts.Goals as goal

pub release-requires-2 : goal.release-requires-2
release-requires-2 g c =
    let none = Holders_new links_table.parts c.new-heap.result _ _ c.new-heap.ensures.empty in
    let object = c.in_ok-object.ensures.holders [] (c.in_ok-part.ensures.holders [] none) in
    let both = c.in_ok-copy.ensures.holders (c.in_ok-object.object ∷ []) object in
    Holders_first links_table.parts _ _ _ (c.release.ensures.holders (c.in_ok-copy.copy ∷ []) (Holders_swap links_table.parts _ _ _ [] both))
