use Rattle.std.proofs.Common.{◌≡◌, ◌-◌, ◌<◌, ◌≤◌, false, length, drop, map, get_or}
use Rattle.tclv_text.specs.Characters.{is_space}
use Rattle.tclv_text.specs.Spans.{before, piece_of, AreInOrder}
use Rattle.tclv_text.specs.Elements.{pieces}
use Rattle.tclv_text.proofs.lists.split_bytes.Given as goal

abbrev pub invariant-loop-at : goal.invariant-loop-at
invariant-loop-at l = record {
  rest : pieces l.text ≡ before (map (piece_of l.text) l.items.items) (pieces (drop l.at l.text));
  order : AreInOrder 0 l.items.items l.at;
  begins : l.at < length l.text → is_space (get_or l.text l.at 0) ≡ false;
  inside : l.at ≤ length l.text;
}

abbrev pub decreases-loop-at : goal.decreases-loop-at
decreases-loop-at l = length l.text - l.at
