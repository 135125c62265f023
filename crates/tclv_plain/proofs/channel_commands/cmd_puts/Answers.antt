use Rattle.std.proofs.Common.{rules, ap, ◌∙◌, ◌-◌, [], get_or}
use Rattle.tclv_value.specs.Stacks.{top}
use Rattle.tclv_engine.specs.State.{state_of}
use Rattle.tclv_model.specs.declared.usages.Usage.TheVariants as command
use Rattle.tclv_model.specs.Usages.{usage_of}
use Rattle.tclv_engine.proofs.Binds.{runs_as}
use Rattle.tclv_plain.proofs.PutLemmas.{puts_one, puts_two, puts_three, puts_refused}
use Rattle.tclv_engine.proofs.WordLemmas.{usage_runs, first_of_top}
use Rattle.tclv_plain.proofs.channel_commands.cmd_puts.Goals as goal

pub returns-in-2-clause-answer : goal.returns-in-2-clause-answer
returns-in-2-clause-answer g c w told =
    runs_as (puts_one c.args.machine.now.values.store.stack c.args.n _ (state_of c.args.machine.now w) c.in-2.is c.requires.words (ap (λ l. l - c.args.n) c.height.ensures)) (c.put.ensures.answer w told)

pub returns-in-3-clause-answer : goal.returns-in-3-clause-answer
returns-in-3-clause-answer g c w told =
    runs_as (puts_two c.args.machine.now.values.store.stack c.args.n _ (state_of c.args.machine.now w) c.in-3.is c.requires.words (ap (λ l. l - c.args.n) c.height.ensures)) (c.put_two.ensures.answer w told)

pub returns-in-4-clause-answer : goal.returns-in-4-clause-answer
returns-in-4-clause-answer g c w told =
    runs_as (puts_three c.args.machine.now.values.store.stack c.args.n _ (state_of c.args.machine.now w) c.in-4.is c.requires.words (ap (λ l. l - c.args.n) c.height.ensures)) (c.put_three.ensures.answer w told)

pub returns-in_default-clause-answer : goal.returns-in_default-clause-answer
returns-in_default-clause-answer g c w told =
    let stack = c.args.machine.now.values.store.stack in
    runs_as (puts_refused stack c.args.n (state_of c.args.machine.now w) c.requires.words (λ e. search (rules, e, c.in_default)) (λ e. search (rules, e, c.in_default)) (λ e. search (rules, e, c.in_default)))
    (usage_runs c.args.machine.now (usage_of command.Puts) _ (top c.args.n stack) told c.misused.ensures.same
    (ap (λ l. get_or stack (l - c.args.n) []) c.height.ensures ∙ first_of_top stack c.args.n c.requires.some c.requires.words) c.misused.ensures.raises)

pub returns-in-3-clause-quiet : goal.returns-in-3-clause-quiet
returns-in-3-clause-quiet g c st e =
    c.put_two.ensures.quiet st (ap (λ r. r.events) (puts_two c.args.machine.now.values.store.stack c.args.n _ st c.in-3.is c.requires.words (ap (λ l. l - c.args.n) c.height.ensures)) ∙ e)

pub returns-in-4-clause-quiet : goal.returns-in-4-clause-quiet
returns-in-4-clause-quiet g c st e =
    c.put_three.ensures.quiet st (ap (λ r. r.events) (puts_three c.args.machine.now.values.store.stack c.args.n _ st c.in-4.is c.requires.words (ap (λ l. l - c.args.n) c.height.ensures)) ∙ e)
