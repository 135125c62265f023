use Rattle.std.proofs.Common.{rules, refl, ◌≡◌, Ok, Err}
use Rattle.tclv_model.specs.declared.data_commands.CmdFault.TheVariants.{Message, WrongArgs}
use Rattle.tclv_value.specs.Stacks.{top}
use Rattle.tclv_ctl.specs.Returns.{IsReturn, return_of}
use Rattle.tclv_engine.proofs.Leaves.{memory_runs}
use Rattle.tclv_engine.proofs.WordLemmas.{same_then}
use Rattle.tclv_control.proofs.ReturnLemmas.{understood, misunderstood, undisturbed, asked_runs, declined_runs}
use Rattle.tclv_control.proofs.return_plans.asked.Goals as goal

pub returns-in-Ok-clause-answer : goal.returns-in-Ok-clause-answer
returns-in-Ok-clause-answer g c here w told =
    let before = c.args.machine.now.values.store in
    let after = c.read_words.new.machine.values.store in
    let row = return_of (top c.args.n before.stack) in
    let is : c.read_words.result ≡ Ok c.in-Ok.ret = search rules in
    asked_runs row c.in-Ok.ret c.args.machine.now _ w told c.read_words.ensures.same
    (understood row IsReturn c.args.n before after c.read_words.result c.read_words.ensures.read c.in-Ok.ret is)

pub returns-in-Ok-clause-kept : goal.returns-in-Ok-clause-kept
returns-in-Ok-clause-kept g c =
    let before = c.args.machine.now.values.store in
    let after = c.read_words.new.machine.values.store in
    let row = return_of (top c.args.n before.stack) in
    let is : c.read_words.result ≡ Ok c.in-Ok.ret = search rules in
    undisturbed row IsReturn c.args.n before after c.read_words.result c.read_words.ensures.read c.in-Ok.ret is

pub returns-in-Err-NoMemory-clause-answer : goal.returns-in-Err-NoMemory-clause-answer
returns-in-Err-NoMemory-clause-answer g c here w told = memory_runs refl told c.read_words.ensures.same.events

pub returns-in-Err-WrongArgs-clause-answer : goal.returns-in-Err-WrongArgs-clause-answer
returns-in-Err-WrongArgs-clause-answer g c here w told =
    let before = c.args.machine.now.values.store in
    let after = c.read_words.new.machine.values.store in
    let row = return_of (top c.args.n before.stack) in
    let is : c.read_words.result ≡ Err WrongArgs = search rules in
    declined_runs row c.args.n before after WrongArgs c.refuse.result c.args.machine.now c.refuse.new.self w here told (same_then c.args.machine.now c.read_words.new.machine c.refuse.new.self c.read_words.ensures.same c.refuse.ensures.same)
    (misunderstood row IsReturn c.args.n before after c.read_words.result c.read_words.ensures.read WrongArgs is) c.refuse.ensures.refuses

pub returns-in-Err-Message-clause-answer : goal.returns-in-Err-Message-clause-answer
returns-in-Err-Message-clause-answer g c here w told =
    let before = c.args.machine.now.values.store in
    let after = c.read_words.new.machine.values.store in
    let row = return_of (top c.args.n before.stack) in
    let is : c.read_words.result ≡ Err Message = search rules in
    declined_runs row c.args.n before after Message c.refuse-in-Err-Message.result c.args.machine.now c.refuse-in-Err-Message.new.self w here told (same_then c.args.machine.now c.read_words.new.machine c.refuse-in-Err-Message.new.self c.read_words.ensures.same c.refuse-in-Err-Message.ensures.same)
    (misunderstood row IsReturn c.args.n before after c.read_words.result c.read_words.ensures.read Message is) c.refuse-in-Err-Message.ensures.refuses
