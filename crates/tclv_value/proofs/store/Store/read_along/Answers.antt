use Rattle.std.proofs.Common.{arith}
use Rattle.tclv_value.proofs.WayPlaceLemmas.{longer, back_again}
use Rattle.tclv_value.proofs.store.Store.read_along.Goals as goal

pub returns : goal.returns
returns c = back_again c.args.self.now c.read_levels-read.new.self c.pop.new.self _ c.read_levels-read.ensures (omega (arith, c.height.ensures, c.height-height.ensures, longer c.args.self.now c.read_levels-read.new.self c.read_levels-read.ensures)) c.pop.ensures.popped c.pop.ensures.cells c.pop.ensures.keeps
