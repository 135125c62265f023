use Rattle.std.proofs.Common.{arith, ◌∙◌}
use Rattle.tclv_text.specs.Spans.{span_text}
use Rattle.tclv_value.proofs.KeptLemmas.{MakesTexts_more, one_more}
use Rattle.tclv_value.proofs.kept_lists.make_elements.Goals as goal

pub loop-span-preserved : goal.loop-span-preserved
loop-span-preserved c =
    let x = c.in-Ok.ensures.made in
    record {
      made = MakesTexts_more c.args.heap.now.graph c.loop-span.heap.graph c.make_element.new.heap.graph _ _ _ _ _ x.0 (one_more (span_text c.args.text.now) c.args.spans.now c.loop-span.span-index _ (omega (arith, c.loop-span-test.true))) x.1 c.loop-span.invariant.made x.2;
      room = omega (arith, c.loop-span.invariant.room, c.make_element.ensures.room);
      stats = c.make_element.ensures.stats ∙ c.loop-span.invariant.stats;
    }
