use Rattle.std.proofs.Common.{◌≡◌, ◌≤◌, drop}
use Rattle.std.specs.Str.{chars}
use Rattle.tclv_engine.specs.Answers.{Outer, on_top}
use Rattle.tclv_engine.specs.Functions.{picked}
use Rattle.tclv_engine.proofs.Walks.{Walk}
use Rattle.tclv_engine.proofs.machine.Machine.picked.Given as goal

-- Whatever the rest of the arguments gives, all of them give.
abbrev pub invariant-loop-i : goal.invariant-loop-i
invariant-loop-i g l = record {
  units : l.self.units ≤ l.fn.self.units;
  stack : l.self.values.store.stack ≡ l.fn.self.values.store.stack;
  own : l.self.own ≡ l.fn.self.own;
  walk : (here : Outer) → Walk {T = Unit {0}} on_top l.fn.self here 0 l.self here 0 (l.self.values.store.stack ≡ l.fn.self.values.store.stack) (Unit {0})
      (λ st. picked l.pick (chars l.name) l.first (drop l.from l.fn.self.values.store.stack) st)
      (λ st. picked l.pick (chars l.name) l.found (drop l.i l.fn.self.values.store.stack) st);
}
