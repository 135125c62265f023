use Rattle.tclv_value.specs.View.{text_at}
use Rattle.tclv_value.specs.Changes.{KeepsTexts}
use Rattle.tclv_reply.proofs.ListLemmas.{FirstOf}
use Rattle.tclv_reply.proofs.elements.read_elements.Given as goal

abbrev pub invariant-loop-k : goal.invariant-loop-k
invariant-loop-k l = record { first : FirstOf (text_at l.fn.store l.list) l.len l.k l.items.items; kept : KeepsTexts l.fn.store l.store }
