use Rattle.std.proofs.Common.{rules, refl, ◌≡◌, Ok, Err, ap, sym, arith}
use Rattle.tclv_model.specs.declared.data_commands.CmdFault.TheVariants.{Message, WrongArgs}
use Rattle.tclv_value.specs.Stacks.{top}
use Rattle.tclv_value.specs.Procedures.{Procedure}
use Rattle.tclv_reply.specs.Replies.{call_word}
use Rattle.tclv_ctl.specs.Parameters.{proc_of}
use Rattle.tclv_engine.specs.State.{state_of}
use Rattle.tclv_engine.specs.DataAnswers.{of_answer}
use Rattle.tclv_engine.proofs.Binds.{runs_as}
use Rattle.tclv_engine.proofs.Leaves.{memory_runs, value_runs}
use Rattle.tclv_engine.proofs.WordLemmas.{same_then, top_length}
use Rattle.tclv_interp.proofs.ProcLemmas.{understood, misunderstood, undisturbed, declined_runs, some_words}
use Rattle.tclv_interp.proofs.procedures.asked.Goals as goal

pub returns-in-Ok-clause-answer : goal.returns-in-Ok-clause-answer
returns-in-Ok-clause-answer c here w told =
    let before = c.args.machine.now.values.store in
    let after = c.read_words.new.machine.values.store in
    let row = proc_of (call_word c.args.n before.stack) (top c.args.n before.stack) in
    let is : c.read_words.result ≡ Ok c.in-Ok.def = search rules in
    let h = understood row _ c.args.n before after c.read_words.result c.read_words.ensures.read c.in-Ok.def is in
    runs_as (ap (λ a. of_answer a (state_of c.args.machine.now w)) (sym h.given)) (value_runs c.args.machine.now told c.read_words.ensures.same h.shown)

pub returns-in-Ok-clause-kept : goal.returns-in-Ok-clause-kept
returns-in-Ok-clause-kept c =
    let before = c.args.machine.now.values.store in
    let after = c.read_words.new.machine.values.store in
    let row = proc_of (call_word c.args.n before.stack) (top c.args.n before.stack) in
    let is : c.read_words.result ≡ Ok c.in-Ok.def = search rules in
    undisturbed row _ c.args.n before after c.read_words.result c.read_words.ensures.read c.in-Ok.def is

pub returns-in-Ok-clause-some : goal.returns-in-Ok-clause-some
returns-in-Ok-clause-some c =
    let before = c.args.machine.now.values.store in
    let after = c.read_words.new.machine.values.store in
    let row = proc_of (call_word c.args.n before.stack) (top c.args.n before.stack) in
    let is : c.read_words.result ≡ Ok c.in-Ok.def = search rules in
    let h = understood row _ c.args.n before after c.read_words.result c.read_words.ensures.read c.in-Ok.def is in
    some_words before.stack c.args.n (call_word c.args.n before.stack) _ (omega (arith, c.requires)) (top_length before.stack c.args.n (omega (arith, c.requires))) h.given

pub returns-in-Err-NoMemory-clause-answer : goal.returns-in-Err-NoMemory-clause-answer
returns-in-Err-NoMemory-clause-answer c here w told = memory_runs refl told c.read_words.ensures.same.events

pub returns-in-Err-WrongArgs-clause-answer : goal.returns-in-Err-WrongArgs-clause-answer
returns-in-Err-WrongArgs-clause-answer c here w told =
    let before = c.args.machine.now.values.store in
    let after = c.read_words.new.machine.values.store in
    let row = proc_of (call_word c.args.n before.stack) (top c.args.n before.stack) in
    let is : c.read_words.result ≡ Err WrongArgs = search rules in
    declined_runs row c.args.n before after WrongArgs c.refuse.result c.args.machine.now c.refuse.new.self w here told (same_then c.args.machine.now c.read_words.new.machine c.refuse.new.self c.read_words.ensures.same c.refuse.ensures.same)
    (misunderstood row _ c.args.n before after c.read_words.result c.read_words.ensures.read WrongArgs is) c.refuse.ensures.refuses

pub returns-in-Err-Message-clause-answer : goal.returns-in-Err-Message-clause-answer
returns-in-Err-Message-clause-answer c here w told =
    let before = c.args.machine.now.values.store in
    let after = c.read_words.new.machine.values.store in
    let row = proc_of (call_word c.args.n before.stack) (top c.args.n before.stack) in
    let is : c.read_words.result ≡ Err Message = search rules in
    declined_runs row c.args.n before after Message c.refuse-in-Err-Message.result c.args.machine.now c.refuse-in-Err-Message.new.self w here told (same_then c.args.machine.now c.read_words.new.machine c.refuse-in-Err-Message.new.self c.read_words.ensures.same c.refuse-in-Err-Message.ensures.same)
    (misunderstood row _ c.args.n before after c.read_words.result c.read_words.ensures.read Message is) c.refuse-in-Err-Message.ensures.refuses
