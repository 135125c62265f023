use Rattle.std.proofs.Common.{sym, ap, ◌∙◌}
use Rattle.std.proofs.lemmas.Str.{chars-nil}
use Rattle.std.specs.Str.{chars}
use Rattle.tclv_text.proofs.CursorLemmas.{chars-empty}
use Rattle.tclv_strings.proofs.MakingLemmas.{copies_none, copies_more}
use Rattle.tclv_strings.proofs.FindLemmas.{none_there}
use Rattle.tclv_strings.proofs.making.copies.Goals as goal

pub loop-turn-init : goal.loop-turn-init
loop-turn-init c = c.new-all.ensures ∙ ap chars c.in_ok-with_capacity.ensures.items ∙ chars-nil

pub loop-turn-preserved : goal.loop-turn-preserved
loop-turn-preserved c = copies_more c.loop-turn.all c.push.new.self (chars c.args.text.now) c.loop-turn.turn c.loop-turn.invariant c.in_ok-push.ensures.ok

pub returns-then-is_empty : goal.returns-then-is_empty
returns-then-is_empty c =
    c.new-then-is_empty.ensures ∙ ap chars c.new.ensures.items ∙ chars-nil
    ∙ sym (copies_none c.args.count (chars c.args.text.now) (chars-empty c.args.text.now (none_there _ _ c.is_empty.ensures c.if-is_empty.true)))
