use Rattle.tclv_text.proofs.ListCases.{list_is_read, list_by_cases, flaw_is_read, flaw_by_cases}
use Rattle.tclv_text.proofs.laws.lists.lists_are_read.Goals as goal

pub returns : goal.returns
returns c = record { list = list_is_read; list_alone = list_by_cases; flaw = flaw_is_read; flaw_alone = flaw_by_cases }
