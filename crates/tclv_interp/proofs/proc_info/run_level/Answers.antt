use Rattle.std.proofs.Common.{rules, ap, ◌∙◌, ◌-◌, [], get_or}
use Rattle.tclv_value.specs.Stacks.{top}
use Rattle.tclv_model.specs.declared.usages.Usage.TheVariants as command
use Rattle.tclv_model.specs.Usages.{usage_of}
use Rattle.tclv_engine.specs.State.{state_of}
use Rattle.tclv_engine.proofs.Binds.{runs_as}
use Rattle.tclv_engine.proofs.WordLemmas.{usage_runs, first_of_top}
use Rattle.tclv_interp.proofs.ProcInfoLemmas.{level_given, level_refused}
use Rattle.tclv_interp.proofs.proc_info.run_level.Goals as goal

pub returns-in-2-clause-answer : goal.returns-in-2-clause-answer
returns-in-2-clause-answer c here w told =
    runs_as (level_given c.args.machine.now.values.store.stack c.args.n _ (state_of c.args.machine.now w) c.requires.words (ap (λ l. l - c.args.n) c.height.ensures) c.in-2.is) (c.info_level.ensures.answer here w told)

pub returns-in_default-clause-answer : goal.returns-in_default-clause-answer
returns-in_default-clause-answer c here w told =
    let stack = c.args.machine.now.values.store.stack in
    runs_as (level_refused c.args.machine.now.values.store.stack c.args.n _ (state_of c.args.machine.now w) c.requires.words (ap (λ l. l - c.args.n) c.height.ensures) (λ e. search (rules, e, c.in_default)))
    (usage_runs c.args.machine.now (usage_of command.InfoLevel) _ (top c.args.n stack) told c.misused.ensures.same
    (ap (λ l. get_or stack (l - c.args.n) []) c.height.ensures ∙ first_of_top stack c.args.n (search rules) c.requires.words) c.misused.ensures.raises)
