use Rattle.std.proofs.Common.{rules, arith, refl, sym, ap, ◌∙◌, ◌-◌, [], length, get_or}
use Rattle.tclv_value.specs.Stacks.{top}
use Rattle.tclv_model.specs.declared.usages.Usage.TheVariants as command
use Rattle.tclv_model.specs.Usages.{usage_of}
use Rattle.tclv_engine.specs.State.{state_of}
use Rattle.tclv_engine.proofs.Binds.{runs_as}
use Rattle.tclv_engine.proofs.WordLemmas.{usage_runs, first_of_top}
use Rattle.tclv_plain.specs.InfoRows.{info_complete, info_exists, info_row}
use Rattle.tclv_plain.proofs.SubcommandLemmas.{one_given, one_refused}
use Rattle.tclv_plain.proofs.info_commands.run_info.Goals as goal

pub returns-then-n-eq3-clause-answer : goal.returns-then-n-eq3-clause-answer
returns-then-n-eq3-clause-answer g c here w told =
    let stack = c.args.machine.now.values.store.stack in
    let st = state_of c.args.machine.now w in
    runs_as
    (one_given command.InfoComplete stack c.args.n _ st c.requires.words (ap (λ l. l - c.args.n) c.height.ensures) info_complete (search (rules, c.if-n-eq3.true))
    ∙ ap (λ k. info_row k (top c.args.n stack) st) (sym c.in-Complete.is))
    (c.info_complete.ensures.answer here w told)

pub returns-else-n-eq3-clause-answer : goal.returns-else-n-eq3-clause-answer
returns-else-n-eq3-clause-answer g c here w told =
    let stack = c.args.machine.now.values.store.stack in
    let st = state_of c.args.machine.now w in
    runs_as
    (one_refused command.InfoComplete stack c.args.n (length stack - c.args.n) st c.requires.words refl info_complete (λ e. search (rules, e, c.if-n-eq3.false))
    ∙ ap (λ k. info_row k (top c.args.n stack) st) (sym c.in-Complete.is))
    (usage_runs c.args.machine.now (usage_of command.InfoComplete) _ (top c.args.n stack) told c.misused.ensures.same
    (ap (λ l. get_or stack (l - c.args.n) []) c.height.ensures ∙ first_of_top stack c.args.n (search (rules, arith)) c.requires.words) c.misused.ensures.raises)

pub returns-then-n-eq3-2-clause-answer : goal.returns-then-n-eq3-2-clause-answer
returns-then-n-eq3-2-clause-answer g c here w told =
    let stack = c.args.machine.now.values.store.stack in
    let st = state_of c.args.machine.now w in
    runs_as
    (one_given command.InfoExists stack c.args.n _ st c.requires.words (ap (λ l. l - c.args.n) c.height.ensures) info_exists (search (rules, c.if-n-eq3-2.true))
    ∙ ap (λ k. info_row k (top c.args.n stack) st) (sym c.in-Exists.is))
    (c.info_exists.ensures.answer here w told)

pub returns-else-n-eq3-2-clause-answer : goal.returns-else-n-eq3-2-clause-answer
returns-else-n-eq3-2-clause-answer g c here w told =
    let stack = c.args.machine.now.values.store.stack in
    let st = state_of c.args.machine.now w in
    runs_as
    (one_refused command.InfoExists stack c.args.n (length stack - c.args.n) st c.requires.words refl info_exists (λ e. search (rules, e, c.if-n-eq3-2.false))
    ∙ ap (λ k. info_row k (top c.args.n stack) st) (sym c.in-Exists.is))
    (usage_runs c.args.machine.now (usage_of command.InfoExists) _ (top c.args.n stack) told c.misused-else-n-eq3-2.ensures.same
    (ap (λ l. get_or stack (l - c.args.n) []) c.height.ensures ∙ first_of_top stack c.args.n (search (rules, arith)) c.requires.words) c.misused-else-n-eq3-2.ensures.raises)
