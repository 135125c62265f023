use Rattle.std.proofs.Common.{rules, refl, ◌≡◌, Ok, Err, ℕ, length}
use Rattle.tclv_reply.specs.Replies as replies
use Rattle.tclv_model.specs.declared.data_commands.CmdFault.TheVariants.{Message}
use Rattle.tclv_model.specs.Values.{list_of}
use Rattle.tclv_value.specs.View.{text_at}
use Rattle.tclv_engine.proofs.Leaves.{memory_runs}
use Rattle.tclv_engine.proofs.ListLemmas.{unread_runs, unread_stack, unread, was_read, counted_runs, given_list, given_len}
use Rattle.tclv_engine.proofs.machine.Machine.list_len.Goals as goal
use Rattle.tclv_engine.proofs.machine.Machine.list_len.Goals.{In-Ok}
use Rattle.tclv_engine.proofs.machine.Machine.list_len.Given.{Over}

read : (g : Over) (c : In-Ok g) → replies.IsGiven (list_of (text_at c.args.self.now.values.store c.args.list)) (λ ts x. x ≡ length ts) c.in-Ok.len
read g c =
    let is : c.list_len.result ≡ Ok c.in-Ok.len = search rules in
    was_read (list_of (text_at c.args.self.now.values.store c.args.list)) _ c.args.self.now.values.store c.list_len.new.self.store c.list_len.result c.list_len.ensures.read c.in-Ok.len is

pub returns-in-Ok-clause-answer : goal.returns-in-Ok-clause-answer
returns-in-Ok-clause-answer g c here w told =
    counted_runs (text_at c.args.self.now.values.store c.args.list) c.in-Ok.len c.args.self.now _ w told (search rules) (read g (goal.at.returns-in-Ok-clause-answer g c).In-Ok)

pub returns-in-Ok-clause-list : goal.returns-in-Ok-clause-list
returns-in-Ok-clause-list g c = let r = read g (goal.at.returns-in-Ok-clause-list g c).In-Ok in given_list (text_at c.args.self.now.values.store c.args.list) r.read r.given

pub returns-in-Ok-clause-len : goal.returns-in-Ok-clause-len
returns-in-Ok-clause-len g c = let r = read g (goal.at.returns-in-Ok-clause-len g c).In-Ok in given_len (text_at c.args.self.now.values.store c.args.list) r.read c.in-Ok.len r.given r.shown

pub returns-in-Err-NoMemory-clause-answer : goal.returns-in-Err-NoMemory-clause-answer
returns-in-Err-NoMemory-clause-answer g c here w told = memory_runs refl told refl

pub returns-in-Err-Message-clause-answer : goal.returns-in-Err-Message-clause-answer
returns-in-Err-Message-clause-answer g c here w told =
    let answer = list_of (text_at c.args.self.now.values.store c.args.list) in
    let is : c.list_len.result ≡ Err Message = search rules in
    unread_runs answer Message c.args.self.now.values.store.stack c.list_len.new.self.store.stack c.refuse-in-Err-Message.result c.args.self.now c.refuse-in-Err-Message.new.self w here told (search rules)
    (unread answer _ c.args.self.now.values.store c.list_len.new.self.store c.list_len.result c.list_len.ensures.read Message is) c.refuse-in-Err-Message.ensures.refuses

pub returns-in-Err-Message-clause-stack : goal.returns-in-Err-Message-clause-stack
returns-in-Err-Message-clause-stack g c =
    let answer = list_of (text_at c.args.self.now.values.store c.args.list) in
    let is : c.list_len.result ≡ Err Message = search rules in
    unread_stack answer Message c.args.self.now.values.store.stack c.list_len.new.self.store.stack ℕ c.refuse-in-Err-Message.result c.refuse-in-Err-Message.new.self.values.store.stack
    (unread answer _ c.args.self.now.values.store c.list_len.new.self.store c.list_len.result c.list_len.ensures.read Message is) c.refuse-in-Err-Message.ensures.refuses
