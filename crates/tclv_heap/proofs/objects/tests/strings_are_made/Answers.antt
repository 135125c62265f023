use Rattle.std.proofs.Common.{[], ◌∷◌}
use Rattle.tclv_heap.specs.Links.{links_table}
use Rattle.tclv_heap.proofs.HoldersLemmas.{Holders_new, Holders_first}
use Rattle.tclv_heap.proofs.objects.tests.strings_are_made.Goals as goal

pub form_depth-requires : goal.form_depth-requires
form_depth-requires g c =
    let none = Holders_new links_table.parts c.new-heap.result _ _ c.new-heap.ensures.empty in
    let one = c.in_ok-make_string.ensures.holders (c.in_ok-id.id ∷ []) (c.in_ok-id.ensures.holders [] none) in
    (Holders_first links_table.parts _ _ _ (c.set_form.ensures.holders (c.in_ok-id.id ∷ []) one)).there
