use Rattle.std.proofs.Common.{◌-◌, [], take, drop}
use Rattle.tclv_model.specs.Rows.{RowAnswer, Gives}
use Rattle.tclv_lists.specs.Paths.{checked}
use Rattle.tclv_reply.proofs.Laws.{Went}
use Rattle.tclv_lists.proofs.paths.push_past.Given as goal

abbrev pub invariant-loop-at : goal.invariant-loop-at
invariant-loop-at l = let s = l.initial.store.stack in Went {A = _} (checked (take (l.to - l.from) (drop l.from s)) (let r : RowAnswer = Gives [] in r)) (checked (take (l.to - l.at) (drop l.at s)) (Gives [])) l.initial.store l.store
