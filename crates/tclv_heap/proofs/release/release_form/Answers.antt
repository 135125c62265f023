use Rattle.std.proofs.Common.{subst}
use Rattle.tclv_heap.specs.Graph.{Takes, form_parts}
use Rattle.tclv_heap.proofs.DyingLemmas.{Ready_start}
use Rattle.tclv_heap.proofs.release.release_form.Goals as goal

pub drop_parts-first-requires : goal.drop_parts-first-requires
drop_parts-first-requires g c =
    Ready_start _ _ _ c.requires.sound (subst (λ f. Takes g.T.Types.table.parts c.args.objects.now.slots (form_parts g.T.Types.table.parts f)) c.in-Some.is c.requires.takes)
