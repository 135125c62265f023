use Rattle.std.proofs.Common.{subst, []}
use Rattle.tclv_shell.specs.Halts.{seen}
use Rattle.tclv_shell.specs.Run.{Follows, with_message}
use Rattle.tclv_shell.proofs.final_messages.say.Goals as goal

pub returns-in-Ok-clause-follows : goal.returns-in-Ok-clause-follows
returns-in-Ok-clause-follows g c =
    subst (λ text. Follows (λ w. with_message [] 0 text c.args.end) (g.O.Outside.told c.args.out.now) (seen (g.O.Outside.told c.args.out.now) (g.O.Outside.faults c.args.out.now) (g.O.Outside.torn c.args.out.now)) (seen (g.O.Outside.told c.say_text.new.out) (g.O.Outside.faults c.say_text.new.out) (g.O.Outside.torn c.say_text.new.out)) c.say_text.result)
    c.in-Ok.ensures c.say_text.ensures.follows
