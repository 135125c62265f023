use Rattle.std.proofs.Common.{◌∙◌, ap, subst, Err, []}
use Rattle.tclv_model.specs.declared.reports.End.TheVariants.{Budget}
use Rattle.tclv_model.specs.declared.messages.MessageId.TheVariants.{CommandLimitExceeded}
use Rattle.tclv_model.specs.Message.{text_of}
use Rattle.tclv_shell.specs.Run.{FollowsBehind, with_message}
use Rattle.tclv_engine.specs.Answers.{outer}
use Rattle.tclv_interp.specs.Interpreters.{state_over, result_of, options_at, writes_of, evaluation, script_at, Evaluates, StopCause}
use Rattle.tclv_shell.specs.Halts.{seen}
use Rattle.tclv_shell.proofs.EvaluationEnds.{code_follows, budget_follows, device_follows, memory_follows}
use Rattle.tclv_shell.proofs.scripts.finish.Goals as goal

pub returns-in-Ok-clause-follows : goal.returns-in-Ok-clause-follows
returns-in-Ok-clause-follows g c =
    code_follows (script_at c.args.interp.now c.args.at) c.args.interp.now c.eval.new.self c.in-Ok.code (g.O.Outside.told c.args.out.now) (g.O.Outside.told c.eval.new.out) (g.O.Outside.torn c.args.out.now) (g.O.Outside.torn c.eval.new.out) (g.O.Outside.faults c.args.out.now) (g.O.Outside.faults c.eval.new.out) (seen (g.O.Outside.told c.end_script.new.out) (g.O.Outside.faults c.end_script.new.out) (g.O.Outside.torn c.end_script.new.out)) c.end_script.result (record { fresh = c.requires.fresh; answer = λ w e. subst (λ r. Evaluates (evaluation (script_at c.args.interp.now c.args.at) (state_over c.args.interp.now w)) w (g.O.Outside.torn c.args.out.now) (writes_of c.args.interp.now) r (result_of c.eval.new.self) (options_at c.eval.new.self) c.eval.new.self.machine (outer (g.O.Outside.told c.eval.new.out) (g.O.Outside.torn c.eval.new.out))) c.in-Ok.is (c.eval.ensures.answer c.requires.running w e); cause = subst (StopCause (g.O.Outside.faults c.args.out.now) (g.O.Outside.faults c.eval.new.out)) c.in-Ok.is c.eval.ensures.cause }) c.end_script.ensures.follows

pub returns-in-Err-Budget-clause-follows : goal.returns-in-Err-Budget-clause-follows
returns-in-Err-Budget-clause-follows g c =
    let is = c.in-Err-Budget.is ∙ ap Err c.in-Err-Budget.field-0-is in
    budget_follows (script_at c.args.interp.now c.args.at) c.args.interp.now c.eval.new.self (g.O.Outside.told c.args.out.now) (g.O.Outside.told c.eval.new.out) (g.O.Outside.torn c.args.out.now) (g.O.Outside.torn c.eval.new.out) (g.O.Outside.faults c.args.out.now) (g.O.Outside.faults c.eval.new.out) (seen (g.O.Outside.told c.say_spent.new.out) (g.O.Outside.faults c.say_spent.new.out) (g.O.Outside.torn c.say_spent.new.out)) c.say_spent.result (record { fresh = c.requires.fresh; answer = λ w e. subst (λ r. Evaluates (evaluation (script_at c.args.interp.now c.args.at) (state_over c.args.interp.now w)) w (g.O.Outside.torn c.args.out.now) (writes_of c.args.interp.now) r (result_of c.eval.new.self) (options_at c.eval.new.self) c.eval.new.self.machine (outer (g.O.Outside.told c.eval.new.out) (g.O.Outside.torn c.eval.new.out))) is (c.eval.ensures.answer c.requires.running w e); cause = subst (StopCause (g.O.Outside.faults c.args.out.now) (g.O.Outside.faults c.eval.new.out)) is c.eval.ensures.cause })
    (subst (λ n. FollowsBehind n (λ u. with_message [] 0 (text_of CommandLimitExceeded [] []) Budget) (g.O.Outside.told c.eval.new.out) (seen (g.O.Outside.told c.eval.new.out) (g.O.Outside.faults c.eval.new.out) (g.O.Outside.torn c.eval.new.out)) (seen (g.O.Outside.told c.say_spent.new.out) (g.O.Outside.faults c.say_spent.new.out) (g.O.Outside.torn c.say_spent.new.out)) c.say_spent.result) c.writes-in-Err-Budget.ensures c.say_spent.ensures.follows)

pub returns-in-Err-Device-clause-follows : goal.returns-in-Err-Device-clause-follows
returns-in-Err-Device-clause-follows g c =
    let is = c.in-Err-Device.is ∙ ap Err c.in-Err-Device.field-0-is in
    device_follows (script_at c.args.interp.now c.args.at) c.args.interp.now c.eval.new.self (g.O.Outside.told c.args.out.now) (g.O.Outside.told c.eval.new.out) (g.O.Outside.torn c.args.out.now) (g.O.Outside.torn c.eval.new.out) (g.O.Outside.faults c.args.out.now) (g.O.Outside.faults c.eval.new.out) c.cut_short.result (record { fresh = c.requires.fresh; answer = λ w e. subst (λ r. Evaluates (evaluation (script_at c.args.interp.now c.args.at) (state_over c.args.interp.now w)) w (g.O.Outside.torn c.args.out.now) (writes_of c.args.interp.now) r (result_of c.eval.new.self) (options_at c.eval.new.self) c.eval.new.self.machine (outer (g.O.Outside.told c.eval.new.out) (g.O.Outside.torn c.eval.new.out))) is (c.eval.ensures.answer c.requires.running w e); cause = subst (StopCause (g.O.Outside.faults c.args.out.now) (g.O.Outside.faults c.eval.new.out)) is c.eval.ensures.cause }) c.cut_short.ensures.end c.cut_short.ensures.status (c.cut_short.ensures.writes ∙ c.writes-in-Err-Device.ensures)

pub returns-in-Err-Memory-clause-follows : goal.returns-in-Err-Memory-clause-follows
returns-in-Err-Memory-clause-follows g c =
    let is = c.in-Err-Memory.is ∙ ap Err c.in-Err-Memory.field-0-is in
    memory_follows (script_at c.args.interp.now c.args.at) c.args.interp.now c.eval.new.self (g.O.Outside.told c.args.out.now) (g.O.Outside.told c.eval.new.out) (g.O.Outside.torn c.args.out.now) (g.O.Outside.torn c.eval.new.out) (g.O.Outside.faults c.args.out.now) (g.O.Outside.faults c.eval.new.out) c.cut_short-in-Err-Memory.result (record { fresh = c.requires.fresh; answer = λ w e. subst (λ r. Evaluates (evaluation (script_at c.args.interp.now c.args.at) (state_over c.args.interp.now w)) w (g.O.Outside.torn c.args.out.now) (writes_of c.args.interp.now) r (result_of c.eval.new.self) (options_at c.eval.new.self) c.eval.new.self.machine (outer (g.O.Outside.told c.eval.new.out) (g.O.Outside.torn c.eval.new.out))) is (c.eval.ensures.answer c.requires.running w e); cause = subst (StopCause (g.O.Outside.faults c.args.out.now) (g.O.Outside.faults c.eval.new.out)) is c.eval.ensures.cause }) c.cut_short-in-Err-Memory.ensures.end c.cut_short-in-Err-Memory.ensures.status (c.cut_short-in-Err-Memory.ensures.writes ∙ c.writes-in-Err-Memory.ensures)
