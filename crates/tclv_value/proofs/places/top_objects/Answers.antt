use Rattle.std.proofs.Common.{◌-◌, length}
use Rattle.tclv_value.proofs.ListPlaceLemmas.{slice_end}
use Rattle.tclv_value.proofs.places.top_objects.Goals as goal

pub returns : goal.returns
returns c = slice_end c.args.stack.now (length c.args.stack.now - c.args.n)
