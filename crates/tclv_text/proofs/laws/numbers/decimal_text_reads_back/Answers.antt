use Rattle.tclv_text.proofs.NumbersBack.{whole_back}
use Rattle.tclv_text.proofs.laws.numbers.decimal_text_reads_back.Goals as goal

pub returns : goal.returns
returns c = whole_back
