use Rattle.std.proofs.Common.{[]}
use Rattle.tclv_value.proofs.ElementLemmas.{nothing_written}
use Rattle.tclv_value.proofs.elements.list_bytes.Goals as goal

pub returns : goal.returns
returns c = c.in_ok-add_elements.ensures [] (nothing_written c.new-list.result.items c.new-list.ensures.items)
