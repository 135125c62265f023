use Rattle.std.proofs.Common.{◌≡◌, ◌+◌, ◌-◌, ◌<◌, ◌^◌, Some, vec_len}
use Rattle.tclv_io.specs.World.{World}
use Rattle.tclv_io.specs.Events.{shown}
use Rattle.tclv_shell.proofs.Reading.{Reading}
use Rattle.tclv_shell.proofs.script_files.read_all.Given as goal

abbrev pub invariant-loop-out : goal.invariant-loop-out
invariant-loop-out g l = record {
  told : (w : World) → g.O.Outside.told l.initial.out ≡ Some w → (v : World) × (g.O.Outside.told l.out ≡ Some v) × Reading w v l.file l.bytes.items;
  shown : shown (g.O.Outside.told l.out) ≡ shown (g.O.Outside.told l.initial.out);
  torn : g.O.Outside.torn l.out ≡ g.O.Outside.torn l.initial.out;
  faults : g.O.Outside.faults l.out ≡ g.O.Outside.faults l.initial.out;
  block : 0 < vec_len l.block;
}

abbrev pub decreases-loop-out : goal.decreases-loop-out
decreases-loop-out g l = 2 ^ 30 + 1 - vec_len l.bytes
