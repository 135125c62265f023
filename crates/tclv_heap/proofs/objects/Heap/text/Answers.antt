use Rattle.std.proofs.Common.{Some, sym, ap, ◌∙◌}
use Rattle.tclv_heap.specs.Graph.{text_in}
use Rattle.tclv_heap.proofs.StandsLemmas.{stands_text}
use Rattle.tclv_heap.proofs.objects.Heap.text.Goals as goal

pub returns-in-Some-clause-some : goal.returns-in-Some-clause-some
returns-in-Some-clause-some g c =
    let text = c.in-Some.is ∙ ap Some (sym c.bytes.ensures.text) in
    rw (← c.self.view_is, ← c.id.view_is) (
      c.bytes.ensures.utf8,
      record {
        text = ap text_in c.index.ensures ∙ text;
        said = stands_text g.T.Types.table _ c.self.invariant.spoken _ _ _ c.index.ensures text;
      },
    )
