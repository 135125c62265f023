use Rattle.std.proofs.Common.{refl, []}
use Rattle.tclv_shell.specs.Halts.{seen}
use Rattle.tclv_shell.specs.Run.{with_message}
use Rattle.tclv_shell.proofs.Joins.{out_of_memory_behind}
use Rattle.tclv_shell.proofs.final_messages.say_behind.Goals as goal

pub returns-then-done-eq18446744073709551615-clause-follows : goal.returns-then-done-eq18446744073709551615-clause-follows
returns-then-done-eq18446744073709551615-clause-follows g c =
    out_of_memory_behind c.args.done (λ w. with_message [] 0 c.args.text.items c.args.end) (g.O.Outside.told c.args.out.now) (seen (g.O.Outside.told c.args.out.now) (g.O.Outside.faults c.args.out.now) (g.O.Outside.torn c.args.out.now)) c.cut_short.result refl c.cut_short.ensures.end c.cut_short.ensures.status c.cut_short.ensures.writes
