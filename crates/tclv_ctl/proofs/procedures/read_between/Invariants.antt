use Rattle.std.proofs.Common.{◌-◌, ◌++◌, List, take, drop}
use Rattle.tclv_model.specs.Rows.{Gives, and_then}
use Rattle.tclv_value.specs.declared.procedures.Param.{Param}
use Rattle.tclv_reply.proofs.Laws.{Went}
use Rattle.tclv_ctl.specs.Parameters.{parameters}
use Rattle.tclv_ctl.proofs.procedures.read_between.Given as goal

-- So many specifiers are read, and those behind are still to be read.
abbrev pub invariant-loop-at : goal.invariant-loop-at
invariant-loop-at l =
    let s = l.initial.store.stack in
    record {
      came : Went {A = List Param} (parameters (take (l.to - l.from) (drop l.from s))) (and_then (parameters (take (l.to - l.at) (drop l.at s))) (λ ps. Gives (l.params.items ++ ps))) l.initial.store l.store;
    }
