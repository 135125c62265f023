use Rattle.tclv_value.proofs.LeftoverLemmas.{nothing_left}
use Rattle.tclv_value.proofs.store.Store.keeps_nothing_loose.Goals as goal

pub returns : goal.returns
returns c = nothing_left c.self.inside.heap.graph c.self.inside.heap.stats c.self.inside.stack.items c.self.inside.cells.entries c.args.self.now c.self.view_is c.self.invariant c.requires.stack c.requires.cells
