use Rattle.std.proofs.Common.{rules, refl, sym, subst, ◌≡◌, ◌<◌, List, length, Ok, Err}
use Rattle.std.specs.Prelude.{IfSome}
use Rattle.std.specs.List.{All}
use Rattle.tclv_engine.specs.State.{Text}
use Rattle.tclv_model.specs.declared.data_commands.CmdFault.TheVariants.{Message, WrongArgs}
use Rattle.tclv_value.specs.Stacks.{top}
use Rattle.tclv_reply.specs.Replies as replies
use Rattle.tclv_ctl.specs.Handlers.{IsHandlerInside, IsTryPlanOf, handlers_of}
use Rattle.tclv_engine.proofs.Leaves.{memory_runs}
use Rattle.tclv_engine.proofs.WordLemmas.{same_then}
use Rattle.tclv_control.proofs.ReturnLemmas.{understood, misunderstood, undisturbed, declined_runs}
use Rattle.tclv_control.proofs.TryLemmas.{said_runs}
use Rattle.tclv_control.proofs.try_plans.asked.Goals as goal

pub returns-in-Ok-clause-answer : goal.returns-in-Ok-clause-answer
returns-in-Ok-clause-answer g c here w told =
    let before = c.args.machine.now.values.store in
    let after = c.read_words.new.machine.values.store in
    let row = handlers_of (replies.call_word c.args.n before.stack) (top c.args.n before.stack) in
    let is : c.read_words.result ≡ Ok c.in-Ok.plan = search rules in
    said_runs before.stack row c.in-Ok.plan c.args.machine.now _ w told c.read_words.ensures.same
    (understood row (IsTryPlanOf before.stack) c.args.n before after c.read_words.result c.read_words.ensures.read c.in-Ok.plan is)

pub returns-in-Ok-clause-kept : goal.returns-in-Ok-clause-kept
returns-in-Ok-clause-kept g c =
    let before = c.args.machine.now.values.store in
    let after = c.read_words.new.machine.values.store in
    let row = handlers_of (replies.call_word c.args.n before.stack) (top c.args.n before.stack) in
    let is : c.read_words.result ≡ Ok c.in-Ok.plan = search rules in
    undisturbed row (IsTryPlanOf before.stack) c.args.n before after c.read_words.result c.read_words.ensures.read c.in-Ok.plan is

pub returns-in-Err-NoMemory-clause-answer : goal.returns-in-Err-NoMemory-clause-answer
returns-in-Err-NoMemory-clause-answer g c here w told = memory_runs refl told c.read_words.ensures.same.events

pub returns-in-Err-WrongArgs-clause-answer : goal.returns-in-Err-WrongArgs-clause-answer
returns-in-Err-WrongArgs-clause-answer g c here w told =
    let before = c.args.machine.now.values.store in
    let after = c.read_words.new.machine.values.store in
    let row = handlers_of (replies.call_word c.args.n before.stack) (top c.args.n before.stack) in
    let is : c.read_words.result ≡ Err WrongArgs = search rules in
    declined_runs row c.args.n before after WrongArgs c.refuse.result c.args.machine.now c.refuse.new.self w here told (same_then c.args.machine.now c.read_words.new.machine c.refuse.new.self c.read_words.ensures.same c.refuse.ensures.same)
    (misunderstood row (IsTryPlanOf before.stack) c.args.n before after c.read_words.result c.read_words.ensures.read WrongArgs is) c.refuse.ensures.refuses

pub returns-in-Err-Message-clause-answer : goal.returns-in-Err-Message-clause-answer
returns-in-Err-Message-clause-answer g c here w told =
    let before = c.args.machine.now.values.store in
    let after = c.read_words.new.machine.values.store in
    let row = handlers_of (replies.call_word c.args.n before.stack) (top c.args.n before.stack) in
    let is : c.read_words.result ≡ Err Message = search rules in
    declined_runs row c.args.n before after Message c.refuse-in-Err-Message.result c.args.machine.now c.refuse-in-Err-Message.new.self w here told (same_then c.args.machine.now c.read_words.new.machine c.refuse-in-Err-Message.new.self c.read_words.ensures.same c.refuse-in-Err-Message.ensures.same)
    (misunderstood row (IsTryPlanOf before.stack) c.args.n before after c.read_words.result c.read_words.ensures.read Message is) c.refuse-in-Err-Message.ensures.refuses

pub returns-in-Ok-clause-handlers : goal.returns-in-Ok-clause-handlers
returns-in-Ok-clause-handlers g c =
    let before = c.args.machine.now.values.store in
    let after = c.read_words.new.machine.values.store in
    let row = handlers_of (replies.call_word c.args.n before.stack) (top c.args.n before.stack) in
    let is : c.read_words.result ≡ Ok c.in-Ok.plan = search rules in
    let said = understood row (IsTryPlanOf before.stack) c.args.n before after c.read_words.result c.read_words.ensures.read c.in-Ok.plan is in
    let kept = undisturbed row (IsTryPlanOf before.stack) c.args.n before after c.read_words.result c.read_words.ensures.read c.in-Ok.plan is in
    let P : List Text → Type 0 = λ s. All (IsHandlerInside s) c.in-Ok.plan.handlers.items in
    subst P (sym kept) said.shown.inside

pub returns-in-Ok-clause-finally : goal.returns-in-Ok-clause-finally
returns-in-Ok-clause-finally g c =
    let before = c.args.machine.now.values.store in
    let after = c.read_words.new.machine.values.store in
    let row = handlers_of (replies.call_word c.args.n before.stack) (top c.args.n before.stack) in
    let is : c.read_words.result ≡ Ok c.in-Ok.plan = search rules in
    let said = understood row (IsTryPlanOf before.stack) c.args.n before after c.read_words.result c.read_words.ensures.read c.in-Ok.plan is in
    let kept = undisturbed row (IsTryPlanOf before.stack) c.args.n before after c.read_words.result c.read_words.ensures.read c.in-Ok.plan is in
    let P : List Text → Type 0 = λ s. IfSome c.in-Ok.plan.finally (λ at. at < length s) in
    subst P (sym kept) said.shown.finally_inside
