use Rattle.std.proofs.Common.{ap, sym, ◌∙◌}
use Rattle.std.specs.Str.{chars}
use Rattle.std.proofs.lemmas.Str.{chars-nil}
use Rattle.tclv_strings.proofs.MakingLemmas.{backwards_none}
use Rattle.tclv_strings.proofs.making.text_backwards.Goals as goal

pub loop-k-init : goal.loop-k-init
loop-k-init c = c.new-text.ensures ∙ ap chars c.new.ensures.items ∙ chars-nil ∙ sym (backwards_none c.args.characters.now)
