use Rattle.std.proofs.Common.{rules, refl, ◌≡◌, Ok, Err}
use Rattle.tclv_model.specs.declared.data_commands.CmdFault.TheVariants.{Message, WrongArgs}
use Rattle.tclv_value.specs.Stacks.{top}
use Rattle.tclv_reply.specs.Replies as replies
use Rattle.tclv_ctl.specs.Switching.{row_switch}
use Rattle.tclv_engine.proofs.Leaves.{memory_runs}
use Rattle.tclv_engine.proofs.WordLemmas.{same_then}
use Rattle.tclv_control.proofs.SwitchLemmas.{planned, declined, plan_runs, declined_runs}
use Rattle.tclv_control.proofs.switch_plans.asked.Goals as goal

pub returns-in-Ok-clause-answer : goal.returns-in-Ok-clause-answer
returns-in-Ok-clause-answer g c here w told =
    let before = c.args.machine.now.values.store in
    let after = c.read_words.new.machine.values.store in
    let row = row_switch (replies.call_word c.args.n before.stack) (top c.args.n before.stack) in
    let is : c.read_words.result ≡ Ok c.in-Ok.plan = search rules in
    plan_runs row c.in-Ok.plan before after c.args.machine.now _ w told c.read_words.ensures.same refl
    (planned row c.args.n before after c.read_words.result c.read_words.ensures.plan c.in-Ok.plan is)

pub returns-in-Err-NoMemory-clause-answer : goal.returns-in-Err-NoMemory-clause-answer
returns-in-Err-NoMemory-clause-answer g c here w told = memory_runs refl told c.read_words.ensures.same.events

pub returns-in-Err-WrongArgs-clause-answer : goal.returns-in-Err-WrongArgs-clause-answer
returns-in-Err-WrongArgs-clause-answer g c here w told =
    let before = c.args.machine.now.values.store in
    let after = c.read_words.new.machine.values.store in
    let row = row_switch (replies.call_word c.args.n before.stack) (top c.args.n before.stack) in
    let is : c.read_words.result ≡ Err WrongArgs = search rules in
    declined_runs row c.args.n before after WrongArgs c.refuse.result c.args.machine.now c.refuse.new.self w here told (same_then c.args.machine.now c.read_words.new.machine c.refuse.new.self c.read_words.ensures.same c.refuse.ensures.same)
    (declined row c.args.n before after c.read_words.result c.read_words.ensures.plan WrongArgs is) c.refuse.ensures.refuses

pub returns-in-Err-Message-clause-answer : goal.returns-in-Err-Message-clause-answer
returns-in-Err-Message-clause-answer g c here w told =
    let before = c.args.machine.now.values.store in
    let after = c.read_words.new.machine.values.store in
    let row = row_switch (replies.call_word c.args.n before.stack) (top c.args.n before.stack) in
    let is : c.read_words.result ≡ Err Message = search rules in
    declined_runs row c.args.n before after Message c.refuse-in-Err-Message.result c.args.machine.now c.refuse-in-Err-Message.new.self w here told (same_then c.args.machine.now c.read_words.new.machine c.refuse-in-Err-Message.new.self c.read_words.ensures.same c.refuse-in-Err-Message.ensures.same)
    (declined row c.args.n before after c.read_words.result c.read_words.ensures.plan Message is) c.refuse-in-Err-Message.ensures.refuses
