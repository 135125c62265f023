use Rattle.tclv_value.proofs.PathLemmas.{Stands}
use Rattle.tclv_value.proofs.list_paths.steps_of.Given as goal

-- So many steps are done.
abbrev pub invariant-loop-level : goal.invariant-loop-level
invariant-loop-level l = Stands l.fn.outer l.path l.level l.text l.steps.items
