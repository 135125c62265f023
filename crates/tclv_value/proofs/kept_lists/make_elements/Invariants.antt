use Rattle.std.proofs.Common.{◌≡◌, ◌≤◌, ◌+◌, length, map, take}
use Rattle.tclv_text.specs.Spans.{span_text}
use Rattle.tclv_value.specs.Kept.{MakesTexts}
use Rattle.tclv_value.proofs.kept_lists.make_elements.Given as goal

-- So many objects are made, and the list has room for the others.
abbrev pub invariant-loop-span : goal.invariant-loop-span
invariant-loop-span l = record {
  made : MakesTexts l.fn.heap.graph (map (span_text l.text) (take l.span-index l.spans)) l.heap.graph l.list.ids;
  room : length l.spans ≤ l.list.room + l.span-index;
  stats : l.heap.stats ≡ l.fn.heap.stats;
}
