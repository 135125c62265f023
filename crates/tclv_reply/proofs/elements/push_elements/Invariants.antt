use Rattle.tclv_value.specs.View.{text_at}
use Rattle.tclv_reply.proofs.ListLemmas.{Unrolled}
use Rattle.tclv_reply.proofs.elements.push_elements.Given as goal

abbrev pub invariant-loop-k : goal.invariant-loop-k
invariant-loop-k l = Unrolled (text_at l.fn.store l.list) l.len l.k l.fn.store l.store
