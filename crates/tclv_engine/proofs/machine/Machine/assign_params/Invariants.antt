use Rattle.std.proofs.Common.{◌-◌, drop, length}
use Rattle.tclv_engine.specs.Frames.{names_of}
use Rattle.tclv_engine.proofs.ListLemmas.{Assigns}
use Rattle.tclv_engine.proofs.machine.Machine.assign_params.Given as goal

abbrev pub invariant-loop-i : goal.invariant-loop-i
invariant-loop-i g l = Assigns (names_of l.params) (drop (l.end - length l.params) l.fn.self.values.store.stack) l.fn.self l.self l.i
