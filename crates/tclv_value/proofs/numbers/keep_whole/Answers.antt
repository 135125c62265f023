use Rattle.std.proofs.Common.{Ok, sym, ap, ◌∙◌}
use Rattle.std.proofs.Math.Facts.{to_z-of_z}
use Rattle.tclv_text.specs.Numbers.{whole}
use Rattle.tclv_value.proofs.NumberLemmas.{text_said, reformed_texts}
use Rattle.tclv_value.proofs.numbers.keep_whole.Goals as goal

pub set_form-requires-clause-fits : goal.set_form-requires-clause-fits
set_form-requires-clause-fits c s text = ap whole (sym (text_said c.args.heap.now.graph c.args.id s text)) ∙ c.requires.number ∙ ap Ok (sym (to_z-of_z c.ranges.n))

pub returns-clause-texts : goal.returns-clause-texts
returns-clause-texts c = reformed_texts _ _ _ _ _ c.requires.made c.set_form.ensures.set
