use Rattle.std.proofs.Common.{subst, refl, []}
use Rattle.tclv_model.specs.declared.reports.End.TheVariants.{Budget}
use Rattle.tclv_model.specs.declared.messages.MessageId.TheVariants.{CommandLimitExceeded}
use Rattle.tclv_model.specs.Message.{text_of}
use Rattle.tclv_shell.specs.Halts.{seen}
use Rattle.tclv_shell.specs.Run.{FollowsBehind, with_message}
use Rattle.tclv_shell.proofs.Joins.{out_of_memory_behind}
use Rattle.tclv_shell.proofs.scripts.say_spent.Goals as goal

pub returns-in-Ok-clause-follows : goal.returns-in-Ok-clause-follows
returns-in-Ok-clause-follows g c =
    subst (λ text. FollowsBehind c.args.done (λ w. with_message [] 0 text Budget) (g.O.Outside.told c.args.out.now) (seen (g.O.Outside.told c.args.out.now) (g.O.Outside.faults c.args.out.now) (g.O.Outside.torn c.args.out.now)) (seen (g.O.Outside.told c.say_behind.new.out) (g.O.Outside.faults c.say_behind.new.out) (g.O.Outside.torn c.say_behind.new.out)) c.say_behind.result)
    c.in-Ok.ensures c.say_behind.ensures.follows

pub returns-in-Err-clause-follows : goal.returns-in-Err-clause-follows
returns-in-Err-clause-follows g c =
    out_of_memory_behind c.args.done (λ w. with_message [] 0 (text_of CommandLimitExceeded [] []) Budget) (g.O.Outside.told c.args.out.now) (seen (g.O.Outside.told c.args.out.now) (g.O.Outside.faults c.args.out.now) (g.O.Outside.torn c.args.out.now)) c.cut_short.result refl c.cut_short.ensures.end c.cut_short.ensures.status c.cut_short.ensures.writes
