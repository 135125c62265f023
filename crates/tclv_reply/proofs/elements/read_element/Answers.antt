use Rattle.tclv_value.specs.View.{text_at}
use Rattle.tclv_reply.proofs.ListLemmas.{none_added}
use Rattle.tclv_reply.proofs.elements.read_element.Goals as goal

pub returns-else-found-clause-added : goal.returns-else-found-clause-added
returns-else-found-clause-added c = none_added (text_at c.args.store.now c.args.list) c.in_ok-found.found c.args.k c.args.items.now.items c.if-found.false c.in_ok-found.ensures.found
