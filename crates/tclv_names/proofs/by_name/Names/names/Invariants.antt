use Rattle.std.proofs.Common.{◌≡◌, ◌++◌, map}
use Rattle.tclv_names.proofs.by_name.Names.names.Given as goal

abbrev pub invariant-loop-name : goal.invariant-loop-name
invariant-loop-name g l = map (λ k. k.items) l.names.items ++ map (λ k. k.items) l.name-iterator ≡ map (λ k. k.items) l.initial.name-iterator
