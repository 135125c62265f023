use Rattle.std.proofs.Common.{rules, arith, sym, ap, ◌≡◌, ◌<◌, ◌∙◌, Some, None}
use Rattle.tclv_value.specs.Stacks.{top}
use Rattle.tclv_engine.specs.State.{state_of}
use Rattle.tclv_engine.specs.Answers.{outer}
use Rattle.tclv_engine.proofs.Binds.{runs_as}
use Rattle.tclv_engine.proofs.Leaves.{memory_runs, from_same}
use Rattle.tclv_interp.specs.ProcInfoRows.{proc_info_in}
use Rattle.tclv_interp.specs.Commands.{wanted_info, wanted_info_by, wanted_proc_info, wanted_plain}
use Rattle.tclv_interp.proofs.ProcInfoLemmas.{info_some}
use Rattle.tclv_plain.specs.declared.plain_commands.PlainCommand.TheVariants as plain_command
use Rattle.tclv_interp.proofs.commands.plan_info.Goals as goal

pub returns-in_err-command-clause-answer : goal.returns-in_err-command-clause-answer
returns-in_err-command-clause-answer g c w told = memory_runs (search rules) told c.proc_info_in.ensures.same.events

pub plan_proc_info-requires-clause-some : goal.plan_proc_info-requires-clause-some
plan_proc_info-requires-clause-some g c = info_some c.args.machine.now.values.store.stack c.args.n _ c.requires.words (sym c.in_ok-command.ensures.found ∙ c.in-Some.is)

pub returns-in-Some-clause-answer : goal.returns-in-Some-clause-answer
returns-in-Some-clause-answer g c w told =
    let old = c.args.machine.now in
    let mid = c.proc_info_in.new.machine in
    let stack = old.values.store.stack in
    from_same old mid (wanted_info (top c.args.n stack)) c.proc_info_in.ensures.same
    (runs_as (ap (λ s. wanted_proc_info c.in-Some.command (top c.args.n s) (state_of mid w)) c.proc_info_in.ensures.stack
    ∙ sym (ap (λ x. wanted_info_by x (top c.args.n stack) (state_of mid w)) (sym c.in_ok-command.ensures.found ∙ c.in-Some.is)))
    (c.plan_proc_info.ensures.answer (outer (g.O.Outside.told c.args.out.now) (g.O.Outside.torn c.args.out.now)) w told))

pub returns-in-None-clause-answer : goal.returns-in-None-clause-answer
returns-in-None-clause-answer g c w told =
    let old = c.args.machine.now in
    let mid = c.proc_info_in.new.machine in
    let stack = old.values.store.stack in
    from_same old mid (wanted_info (top c.args.n stack)) c.proc_info_in.ensures.same
    (runs_as (ap (λ s. wanted_plain plain_command.Info (top c.args.n s) (state_of mid w)) c.proc_info_in.ensures.stack
    ∙ sym (ap (λ x. wanted_info_by x (top c.args.n stack) (state_of mid w)) (sym c.in_ok-command.ensures.found ∙ c.in-None.is)))
    (c.plan_plain.ensures.answer w told))
