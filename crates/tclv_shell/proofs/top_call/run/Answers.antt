use Rattle.std.proofs.Common.{subst}
use Rattle.std.specs.FinMap as finite
use Rattle.std.specs.Prelude.{map, string_bytes}
use Rattle.std.specs.declared.alloc.Global.{Global}
use Rattle.tclv_io.specs.Events.{shown}
use Rattle.tclv_shell.specs.Halts.{seen}
use Rattle.tclv_shell.specs.Lent.{lent}
use Rattle.tclv_shell.specs.Run.{Run, Completes, meaning_of_file, meaning_of_invocation}
use Rattle.tclv_shell.proofs.Completions.{completes}
use Rattle.tclv_shell.proofs.top_call.run.Goals as goal

pub returns-in-Some-clause-complete : goal.returns-in-Some-clause-complete
returns-in-Some-clause-complete g c = λ w e calm.
    subst (λ words. Completes (Run (map (string_bytes {Z = Global}) words) w) w.out (shown (g.O.Outside.told c.run_file.new.out)) c.run_file.result) c.deref.ensures.value
    (subst (λ i. Completes (meaning_of_invocation i w) w.out (shown (g.O.Outside.told c.run_file.new.out)) c.run_file.result) c.in-Some.ensures
    (completes (λ v. meaning_of_file (lent c.in-Some.call) (finite.get v.out.files c.in-Some.call.file.now) v) (g.O.Outside.told c.args.out.now) (seen (g.O.Outside.told c.args.out.now) (g.O.Outside.faults c.args.out.now) (g.O.Outside.torn c.args.out.now)) (seen (g.O.Outside.told c.run_file.new.out) (g.O.Outside.faults c.run_file.new.out) (g.O.Outside.torn c.run_file.new.out)) c.run_file.result c.run_file.ensures.follows w e calm))

pub returns-in-None-clause-complete : goal.returns-in-None-clause-complete
returns-in-None-clause-complete g c = λ w e calm.
    subst (λ words. Completes (Run (map (string_bytes {Z = Global}) words) w) w.out (shown (g.O.Outside.told c.say.new.out)) c.say.result) c.deref.ensures.value
    (subst (λ i. Completes (meaning_of_invocation i w) w.out (shown (g.O.Outside.told c.say.new.out)) c.say.result) c.in-None.ensures
    (completes _ (g.O.Outside.told c.args.out.now) (seen (g.O.Outside.told c.args.out.now) (g.O.Outside.faults c.args.out.now) (g.O.Outside.torn c.args.out.now)) (seen (g.O.Outside.told c.say.new.out) (g.O.Outside.faults c.say.new.out) (g.O.Outside.torn c.say.new.out)) c.say.result c.say.ensures.follows w e calm))
