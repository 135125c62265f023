use Rattle.std.proofs.Common.{refl, arith}
use Rattle.std.specs.Prelude.{ℕ}
use Rattle.tclv_shell.specs.declared.halts.Halt.TheVariants.{Memory}
use Rattle.tclv_shell.specs.Halts.{seen}
use Rattle.tclv_shell.specs.Lent.{lent}
use Rattle.tclv_shell.specs.Run.{meaning_of_script}
use Rattle.tclv_shell.proofs.Plays.{nothing_follows}
use Rattle.tclv_shell.proofs.scripts.run_text.Goals as goal

pub returns-in-Err-clause-follows : goal.returns-in-Err-clause-follows
returns-in-Err-clause-follows g c =
    nothing_follows ℕ (λ w. meaning_of_script (lent c.args.call) c.args.file.now w) Memory (g.O.Outside.told c.args.out.now) (seen (g.O.Outside.told c.args.out.now) (g.O.Outside.faults c.args.out.now) (g.O.Outside.torn c.args.out.now)) (seen (g.O.Outside.told c.args.out.now) (g.O.Outside.faults c.args.out.now) (g.O.Outside.torn c.args.out.now)) c.cut_short.result refl (record { shown = refl; torn = λ o e. omega arith }) refl c.cut_short.ensures.end c.cut_short.ensures.status c.cut_short.ensures.writes
