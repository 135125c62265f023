use Rattle.std.proofs.Common.{rules, ap, ◌∙◌, ◌-◌, [], get_or}
use Rattle.tclv_value.specs.Stacks.{top}
use Rattle.tclv_engine.specs.State.{state_of}
use Rattle.tclv_model.specs.declared.usages.Usage.TheVariants as command
use Rattle.tclv_model.specs.Usages.{usage_of}
use Rattle.tclv_engine.proofs.Binds.{runs_as}
use Rattle.tclv_engine.proofs.WordLemmas.{usage_runs, first_of_top}
use Rattle.tclv_plain.proofs.ListRowLemmas.{lassign_refused, lassign_assigns}
use Rattle.tclv_plain.proofs.list_commands.cmd_lassign.Goals as goal

pub returns-then-n-eq1-clause-answer : goal.returns-then-n-eq1-clause-answer
returns-then-n-eq1-clause-answer g c here w told =
    let stack = c.args.machine.now.values.store.stack in
    runs_as (lassign_refused stack c.args.n (state_of c.args.machine.now w) (search rules) c.requires.words)
    (usage_runs c.args.machine.now (usage_of command.Lassign) _ (top c.args.n stack) told c.misused.ensures.same
    (ap (λ l. get_or stack (l - c.args.n) []) c.height.ensures ∙ first_of_top stack c.args.n c.requires.some c.requires.words) c.misused.ensures.raises)

pub returns-clause-answer : goal.returns-clause-answer
returns-clause-answer g c here w told =
    runs_as (lassign_assigns c.args.machine.now.values.store.stack c.args.n _ (state_of c.args.machine.now w) c.requires.some (λ e. search (rules, e)) c.requires.words (ap (λ l. l - c.args.n) c.height.ensures))
    (c.assign_elements.ensures.answer here w told)
