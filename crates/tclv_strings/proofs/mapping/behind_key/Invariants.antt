use Rattle.std.proofs.Common.{◌≡◌, ◌+◌, length, drop}
use Rattle.std.specs.Str.{chars}
use Rattle.tclv_text.specs.Texts.{IsText}
use Rattle.tclv_strings.proofs.MappingLemmas.{is_front}
use Rattle.tclv_strings.proofs.mapping.behind_key.Given as goal

-- A front of the key stands in front of the text, and what is left of both decides.
abbrev pub invariant-loop-k : goal.invariant-loop-k
invariant-loop-k l = record {
  text : IsText l.text_left;
  key : IsText l.key_left;
  front : is_front l.nocase (chars l.key_left) (chars l.text_left) ≡ is_front l.nocase (chars l.key) (chars l.text);
  behind : drop (length (chars l.key_left)) (chars l.text_left) ≡ drop (length (chars l.key)) (chars l.text);
  count : length (chars l.text_left) + length (chars l.key) ≡ length (chars l.text) + length (chars l.key_left);
}

abbrev pub decreases-loop-k : goal.decreases-loop-k
decreases-loop-k l = length l.key_left
