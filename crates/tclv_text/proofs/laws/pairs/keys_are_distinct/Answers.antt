use Rattle.tclv_text.proofs.PairLemmas.{keys_distinct}
use Rattle.tclv_text.proofs.laws.pairs.keys_are_distinct.Goals as goal

pub returns : goal.returns
returns c = keys_distinct
