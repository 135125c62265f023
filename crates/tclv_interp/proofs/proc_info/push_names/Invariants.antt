use Rattle.std.proofs.Common.{◌≡◌, ◌++◌, drop}
use Rattle.tclv_engine.specs.Frames.{names_of}
use Rattle.tclv_engine.specs.Holdings.{SameVariables}
use Rattle.tclv_interp.proofs.proc_info.push_names.Given as goal

-- The names before a number were pushed.
abbrev pub invariant-loop-i : goal.invariant-loop-i
invariant-loop-i l = record {
  pushed : l.fn.values.store.stack ++ names_of l.params ≡ l.values.store.stack ++ drop l.i (names_of l.params);
  same : SameVariables l.fn.values l.values;
}
