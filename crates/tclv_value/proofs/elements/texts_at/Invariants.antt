use Rattle.std.proofs.Common.{◌≡◌, map, take}
use Rattle.tclv_text.specs.Spans.{span_text}
use Rattle.tclv_value.proofs.elements.texts_at.Given as goal

-- So many elements are read.
abbrev pub invariant-loop-span : goal.invariant-loop-span
invariant-loop-span l = l.found.items ≡ map (span_text l.text) (take l.span-index l.spans)
