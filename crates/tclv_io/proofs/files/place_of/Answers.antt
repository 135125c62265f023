use Rattle.std.proofs.Common.{arith}
use Rattle.tclv_io.proofs.FileLemmas.{absent}
use Rattle.tclv_io.proofs.files.place_of.Goals as goal

pub returns-clause-absent : goal.returns-clause-absent
returns-clause-absent c = absent c.args.files.now c.args.name.now (λ d k lt. c.loop-i.invariant d k (omega arith))
