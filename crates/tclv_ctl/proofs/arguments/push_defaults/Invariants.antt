use Rattle.tclv_reply.specs.Replies.{Grows}
use Rattle.tclv_ctl.proofs.ArgumentLemmas.{Defaulted}
use Rattle.tclv_ctl.proofs.arguments.push_defaults.Given as goal

abbrev pub invariant-loop-param : goal.invariant-loop-param
invariant-loop-param l = record { grows : Grows l.initial.store l.store; came : Defaulted l.params l.rest l.param-index l.initial.store.stack l.store.stack }
