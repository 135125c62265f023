use Rattle.std.proofs.Common.{subst}
use Rattle.tclv_model.specs.declared.reports.End.TheVariants.{Failed}
use Rattle.tclv_shell.specs.Halts.{seen}
use Rattle.tclv_shell.specs.Run.{Follows, message_only}
use Rattle.tclv_shell.proofs.top_call.refuse.Goals as goal

pub returns-clause-follows : goal.returns-clause-follows
returns-clause-follows g c =
    subst (λ file. Follows (λ w. message_only c.args.kind file Failed) (g.O.Outside.told c.args.out.now) (seen (g.O.Outside.told c.args.out.now) (g.O.Outside.faults c.args.out.now) (g.O.Outside.torn c.args.out.now)) (seen (g.O.Outside.told c.say.new.out) (g.O.Outside.faults c.say.new.out) (g.O.Outside.torn c.say.new.out)) c.say.result)
    c.as_bytes.ensures.value c.say.ensures.follows
