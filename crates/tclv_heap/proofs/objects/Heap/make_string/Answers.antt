use Rattle.tclv_heap.proofs.RetextLemmas.{Closed_retexted}
use Rattle.tclv_heap.proofs.HoldersLemmas.{Holders_retexted}
use Rattle.tclv_heap.proofs.objects.Heap.make_string.Goals as goal

pub returns-clause-holders : goal.returns-clause-holders
returns-clause-holders g c ids holders = Holders_retexted g.T.Types.table _ _ _ ids (rw (← c.self.view_is) at holders) c.make_text.ensures.retexts

pub returns-clause-keeps : goal.returns-clause-keeps
returns-clause-keeps g c =
    rw (← c.self.view_is) (record {
      sound = c.make_text.ensures.sound;
      says = c.make_text.ensures.says;
      closed = Closed_retexted g.T.Types.table _ _ _ c.make_text.ensures.retexts;
    })
