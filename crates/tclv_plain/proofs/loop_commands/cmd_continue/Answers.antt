use Rattle.std.proofs.Common.{rules, ap, ◌∙◌, ◌-◌, [], get_or}
use Rattle.tclv_value.specs.Stacks.{top}
use Rattle.tclv_engine.specs.State.{state_of}
use Rattle.tclv_model.specs.declared.outcomes.Code.TheVariants as code
use Rattle.tclv_model.specs.declared.usages.Usage.TheVariants as command
use Rattle.tclv_model.specs.Usages.{usage_of}
use Rattle.tclv_engine.specs.declared.endings.Carried.TheVariants.{Plain}
use Rattle.tclv_engine.specs.declared.endings.Leaving.TheVariants.{Other}
use Rattle.tclv_engine.proofs.Binds.{runs_as}
use Rattle.tclv_engine.proofs.Leaves.{left_empty}
use Rattle.tclv_plain.proofs.LoopRowLemmas.{continue_alone, continue_refused}
use Rattle.tclv_engine.proofs.WordLemmas.{usage_runs, first_of_top}
use Rattle.tclv_plain.proofs.loop_commands.cmd_continue.Goals as goal

pub returns-in-1-clause-answer : goal.returns-in-1-clause-answer
returns-in-1-clause-answer g c here w told =
    runs_as (continue_alone c.args.machine.now.values.store.stack c.args.n (state_of c.args.machine.now w) c.in-1.is c.requires.words)
    (left_empty c.args.machine.now (Other code.Continue Plain) told c.leave.ensures.same c.leave.ensures.leaves)

pub returns-in_default-clause-answer : goal.returns-in_default-clause-answer
returns-in_default-clause-answer g c here w told =
    let stack = c.args.machine.now.values.store.stack in
    runs_as (continue_refused stack c.args.n (state_of c.args.machine.now w) c.requires.words (λ e. search (rules, e, c.in_default)))
    (usage_runs c.args.machine.now (usage_of command.Continue) _ (top c.args.n stack) told c.misused.ensures.same
    (ap (λ l. get_or stack (l - c.args.n) []) c.height.ensures ∙ first_of_top stack c.args.n c.requires.some c.requires.words) c.misused.ensures.raises)
