use Rattle.std.proofs.Common.{rules, ap, ◌∙◌, ◌+◌, ◌-◌, List, [], get_or}
use Rattle.tclv_value.specs.Stacks.{top, under}
use Rattle.tclv_lists.specs.Joining.{concatenated}
use Rattle.tclv_engine.specs.State.{Text, state_of}
use Rattle.tclv_engine.specs.Results.{done}
use Rattle.tclv_engine.specs.Links.{level}
use Rattle.tclv_engine.specs.Plans.{AtLevel}
use Rattle.tclv_control.specs.LevelRows.{run_at}
use Rattle.tclv_engine.proofs.Binds.{bind_ok, then_stop, runs_as}
use Rattle.tclv_control.proofs.level_plans.run_inside.Goals as goal

pub returns-in_err-level-clause-answer : goal.returns-in_err-level-clause-answer
returns-in_err-level-clause-answer g c here w told =
    let stack = c.args.machine.now.values.store.stack in
    runs_as (ap (λ h. run_at c.args.hand_on (top c.args.n stack) (level (get_or stack (h - (c.args.n + 1)) []) (state_of c.args.machine.now w))) c.height.ensures)
    (then_stop _ (search rules) (c.in_err-level.ensures.answer here w told))

pub returns-clause-answer : goal.returns-clause-answer
returns-clause-answer g c here w told =
    let stack = c.args.machine.now.values.store.stack in
    runs_as (ap (λ h. run_at c.args.hand_on (top c.args.n stack) (level (get_or stack (h - (c.args.n + 1)) []) (state_of c.args.machine.now w))) c.height.ensures)
    (bind_ok _ (c.in_ok-level.ensures.answer here w told)
    (λ l v e shown. runs_as
    (ap (λ s. done (AtLevel c.in_ok-level.level (concatenated (top c.args.n s)) c.args.hand_on) (state_of c.level_at.new.self v)) c.in_ok-level.ensures.stack
    ∙ ap (λ k. done (AtLevel k (concatenated (top c.args.n c.args.machine.now.values.store.stack)) c.args.hand_on) (state_of c.level_at.new.self v)) shown)
    (c.run_at.ensures.answer here v e)))
