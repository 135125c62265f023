use Rattle.std.proofs.Common.{◌-◌, take, drop}
use Rattle.tclv_lists.specs.Paths.{forms_of}
use Rattle.tclv_reply.proofs.Laws.{Went}
use Rattle.tclv_lists.proofs.setting.check_indices.Given as goal

abbrev pub invariant-loop-at : goal.invariant-loop-at
invariant-loop-at l = let s = l.initial.store.stack in Went (forms_of (take (l.to - l.from) (drop l.from s))) (forms_of (take (l.to - l.at) (drop l.at s))) l.initial.store l.store
