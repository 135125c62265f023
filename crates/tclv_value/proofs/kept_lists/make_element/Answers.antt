use Rattle.tclv_value.proofs.KeptLemmas.{MakesTexts_one}
use Rattle.tclv_value.proofs.kept_lists.make_element.Goals as goal

pub returns-clause-made : goal.returns-clause-made
returns-clause-made c =
    let e = c.in_ok-id.ensures in
    (c.in_ok-id.id, c.in-Ok.ensures.pushed, MakesTexts_one c.args.heap.now.graph c.make_text_object.new.self.graph c.in_ok-id.id _ c.in_ok-one.one c.in_ok-one.ensures e.made e.stands e.holders e.keeps)
