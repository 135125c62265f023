use Rattle.std.proofs.Common.{◌≡◌, ◌++◌, false}
use Rattle.std.specs.List.{filter}
use Rattle.std.specs.Str.{chars}
use Rattle.tclv_text.specs.Globs.{matches}
use Rattle.tclv_plain.proofs.array_indices.fitting.Given as goal

-- Those that fit are taken, before those that are still to come.
abbrev pub invariant-loop-text : goal.invariant-loop-text
invariant-loop-text l = l.texts.items ++ filter (matches false (chars l.pattern)) l.text-iterator.rest.items
    ≡ filter (matches false (chars l.pattern)) l.initial.text-iterator.rest.items
