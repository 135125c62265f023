use Rattle.std.proofs.Common.{refl, arith}
use Rattle.std.specs.Prelude.{ℕ}
use Rattle.tclv_shell.specs.declared.halts.Halt.TheVariants.{Memory}
use Rattle.tclv_shell.specs.Halts.{seen}
use Rattle.tclv_shell.specs.Lent.{lent}
use Rattle.tclv_shell.specs.Run.{meaning_of_evaluation, start}
use Rattle.tclv_shell.proofs.Plays.{nothing_follows}
use Rattle.tclv_shell.proofs.scripts.run_script.Goals as goal

pub returns-in_default-clause-follows : goal.returns-in_default-clause-follows
returns-in_default-clause-follows g c =
    nothing_follows ℕ (λ w. meaning_of_evaluation c.args.script.now (start (lent c.args.call) w)) Memory (g.O.Outside.told c.args.out.now) (seen (g.O.Outside.told c.args.out.now) (g.O.Outside.faults c.args.out.now) (g.O.Outside.torn c.args.out.now)) (seen (g.O.Outside.told c.args.out.now) (g.O.Outside.faults c.args.out.now) (g.O.Outside.torn c.args.out.now)) c.cut_short.result refl (record { shown = refl; torn = λ o e. omega arith }) refl c.cut_short.ensures.end c.cut_short.ensures.status c.cut_short.ensures.writes
