use Rattle.tclv_text.proofs.PairLemmas.{put_read, others_read, place_kept, put_last}
use Rattle.tclv_text.proofs.laws.pairs.put_values_are_read.Goals as goal

pub returns : goal.returns
returns c = record { value = put_read; others = others_read; place = place_kept; last = put_last }
