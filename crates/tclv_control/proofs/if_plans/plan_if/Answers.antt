use Rattle.std.proofs.Common.{rules, ap, ◌∙◌, ◌-◌, sym}
use Rattle.tclv_engine.specs.State.{state_of}
use Rattle.tclv_engine.proofs.Binds.{runs_as}
use Rattle.tclv_engine.proofs.Leaves.{memory_runs, value_runs}
use Rattle.tclv_control.specs.IfRows.{choice}
use Rattle.tclv_control.specs.IfSteps.{clauses_of}
use Rattle.tclv_control.proofs.IfLemmas.{if_words}
use Rattle.tclv_control.proofs.if_plans.plan_if.Goals as goal

pub returns-in_err-branches-clause-answer : goal.returns-in_err-branches-clause-answer
returns-in_err-branches-clause-answer g c here w told = memory_runs (search rules) told c.in_err-branches.ensures.same.events

pub returns-clause-answer : goal.returns-clause-answer
returns-clause-answer g c here w told =
    let stack = c.args.machine.now.values.store.stack in
    let read = c.in_ok-branches.ensures in
    runs_as (if_words g.row.K.Denot stack c.args.n _ (state_of c.args.machine.now w) c.requires.words (ap (λ l. l - c.args.n) c.height.ensures))
    (value_runs c.args.machine.now told read.same (ap choice (sym read.clauses ∙ ap (λ s. clauses_of s c.in_ok-branches.branches) (sym read.stack))))
