use Rattle.std.proofs.Common.{ap, ◌∙◌}
use Rattle.std.specs.Str.{chars}
use Rattle.tclv_reply.proofs.Laws.{appended_to_none}
use Rattle.tclv_lists.proofs.RemoveLemmas.{unmarked_pushed}
use Rattle.tclv_lists.proofs.changing.push_unmarked.Goals as goal

pub returns-clause-pushed : goal.returns-clause-pushed
returns-clause-pushed c =
    unmarked_pushed c.push_bytes.result c.args.store.now c.push_bytes.new.store _ _ c.args.marked c.if-marked.false
    (ap chars c.as_slice.ensures.value ∙ appended_to_none c.new-element.result.items c.add_element.new.out.items _ c.new-element.ensures.items c.in_ok-add_element.ensures)
    c.push_bytes.ensures.pushed
