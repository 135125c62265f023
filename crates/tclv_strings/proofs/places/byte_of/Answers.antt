use Rattle.std.proofs.Common.{arith}
use Rattle.tclv_strings.proofs.PlaceLemmas.{cut_none, cut_on, rest_text, rest_some}
use Rattle.tclv_strings.proofs.places.byte_of.Goals as goal

pub loop-k-init : goal.loop-k-init
loop-k-init c = cut_none c.requires.text

pub first_len-at-requires-clause-text : goal.first_len-at-requires-clause-text
first_len-at-requires-clause-text c = rest_text c.args.text.now c.loop-k.at c.loop-k.k c.loop-k.invariant

pub first_len-at-requires-clause-some : goal.first_len-at-requires-clause-some
first_len-at-requires-clause-some c = rest_some c.args.text.now c.loop-k.at c.loop-k.k c.loop-k.invariant (omega arith)

pub loop-k-preserved : goal.loop-k-preserved
loop-k-preserved c = cut_on c.args.text.now c.loop-k.at c.loop-k.k c.first_len-at.result 1 c.loop-k.invariant c.first_len-at.ensures
