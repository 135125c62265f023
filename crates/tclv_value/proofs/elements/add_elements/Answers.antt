use Rattle.tclv_value.proofs.ElementLemmas.{written_more}
use Rattle.tclv_value.proofs.elements.add_elements.Goals as goal

pub loop-element-preserved : goal.loop-element-preserved
loop-element-preserved c =
    written_more c.args.list.now.items c.loop-element.list.items c.add_element.new.list.items c.args.elements.now c.loop-element.element-index c.element-item.result c.bytes.result.now c.loop-element-test.true c.element-item.is c.bytes.ensures.text c.loop-element.invariant c.in_ok-add_element.ensures
