use Rattle.std.proofs.Common.{sym}
use Rattle.std.proofs.lemmas.Bool.{cond-true}
use Rattle.tclv_lists.proofs.JoinLemmas.{appended_text}
use Rattle.tclv_lists.proofs.joining.add_element.Goals as goal

pub returns-then-span : goal.returns-then-span
returns-then-span c = appended_text _ _ _ _ c.requires.1 c.in_ok-extend_from_slice.ensures.items (sym (cond-true _ _ _ c.if-span.true))
