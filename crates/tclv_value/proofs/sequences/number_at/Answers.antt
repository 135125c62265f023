use Rattle.tclv_value.proofs.SequenceLemmas.{computed}
use Rattle.tclv_value.proofs.sequences.number_at.Goals as goal

pub returns : goal.returns
returns c = computed c.args.start c.args.step c.args.k c.ranges.start c.ranges.step c.requires
