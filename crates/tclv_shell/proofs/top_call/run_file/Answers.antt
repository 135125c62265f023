use Rattle.std.proofs.Common.{refl, subst}
use Rattle.std.specs.FinMap as map
use Rattle.tclv_shell.specs.declared.script_files.Loaded.{Loaded}
use Rattle.tclv_shell.specs.Halts.{seen}
use Rattle.tclv_shell.specs.Lent.{lent}
use Rattle.tclv_shell.specs.Run.{meaning_of_file}
use Rattle.tclv_shell.specs.Loaded.{Found}
use Rattle.tclv_shell.proofs.FileLemmas.{text_follows}
use Rattle.tclv_shell.proofs.Plays.{nothing_follows}
use Rattle.tclv_shell.proofs.top_call.run_file.Goals as goal

pub returns-in-Ok-Text-clause-follows : goal.returns-in-Ok-Text-clause-follows
returns-in-Ok-Text-clause-follows g c =
    text_follows (lent c.args.call) c.in-Ok-Text.text (g.O.Outside.told c.args.out.now) (g.O.Outside.told c.load.new.out) (seen (g.O.Outside.told c.args.out.now) (g.O.Outside.faults c.args.out.now) (g.O.Outside.torn c.args.out.now)) (seen (g.O.Outside.told c.load.new.out) (g.O.Outside.faults c.load.new.out) (g.O.Outside.torn c.load.new.out)) (seen (g.O.Outside.told c.run_text.new.out) (g.O.Outside.faults c.run_text.new.out) (g.O.Outside.torn c.run_text.new.out)) c.run_text.result refl
    (λ w e. subst (λ l. Found (map.get w.out.files c.args.call.file.now) l) c.in-Ok-Text.field-0-is (c.in-Ok-Text.ensures.gives w e))
    c.in-Ok-Text.ensures.world c.in-Ok-Text.ensures.same c.in-Ok-Text.ensures.cause c.run_text.ensures.follows

pub returns-in-Err-clause-follows : goal.returns-in-Err-clause-follows
returns-in-Err-clause-follows g c =
    nothing_follows Loaded (λ w. meaning_of_file (lent c.args.call) (map.get w.out.files c.args.call.file.now) w) c.in-Err.halt (g.O.Outside.told c.args.out.now) (seen (g.O.Outside.told c.args.out.now) (g.O.Outside.faults c.args.out.now) (g.O.Outside.torn c.args.out.now)) (seen (g.O.Outside.told c.load.new.out) (g.O.Outside.faults c.load.new.out) (g.O.Outside.torn c.load.new.out)) c.cut_short.result refl c.in-Err.ensures.same c.in-Err.ensures.cause c.cut_short.ensures.end c.cut_short.ensures.status c.cut_short.ensures.writes
