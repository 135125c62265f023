use Rattle.std.proofs.Common.{◌≡◌, ◌+◌, length, is_some}
use Rattle.std.specs.List.{filter}
use Rattle.std.specs.FinMap.{get}
use Rattle.tclv_names.proofs.by_name.Names+u64.count_in.Given as goal

abbrev pub invariant-loop-number : goal.invariant-loop-number
invariant-loop-number g l = l.count + length (filter (λ e. is_some (get l.table.map e.1)) l.number-iterator) ≡ length (filter (λ e. is_some (get l.table.map e.1)) l.initial.number-iterator)
