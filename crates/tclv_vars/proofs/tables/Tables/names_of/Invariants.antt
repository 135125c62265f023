use Rattle.std.proofs.Common.{◌≡◌, ◌++◌, map}
use Rattle.std.specs.List.{filter}
use Rattle.std.specs.Str.{chars}
use Rattle.tclv_vars.specs.Indices.{is_set}
use Rattle.tclv_vars.proofs.tables.Tables.names_of.Given as goal

abbrev pub invariant-loop-name : goal.invariant-loop-name
invariant-loop-name l = l.texts.items ++ map chars (filter (is_set l.self.cells.map l.elements) (map (λ k. k.items) l.name-iterator.rest.items))
    ≡ map chars (filter (is_set l.self.cells.map l.elements) (map (λ k. k.items) l.initial.name-iterator.rest.items))
