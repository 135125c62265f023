use Rattle.std.proofs.Common.{◌≡◌, map, take}
use Rattle.std.specs.Str.{chars}
use Rattle.tclv_text.specs.Texts.{IsText}
use Rattle.tclv_text.specs.Spans.{span_text}
use Rattle.tclv_lists.specs.Joining.{joined}
use Rattle.tclv_lists.proofs.joining.join_spans.Given as goal

-- So many elements are joined.
abbrev pub invariant-loop-i : goal.invariant-loop-i
invariant-loop-i l = record { utf8 : IsText l.joined.items; text : chars l.joined.items ≡ joined (chars l.separator) (map (span_text l.text) (take l.i l.spans)) }
