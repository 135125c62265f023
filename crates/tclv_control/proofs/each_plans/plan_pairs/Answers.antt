use Rattle.std.proofs.Common.{rules, refl, ap, ◌≡◌, ◌∙◌, sym, subst, ◌<◌, ◌+◌, ◌-◌, [], List, length, take, arith, length-take}
use Rattle.tclv_value.specs.Stacks.{top, under}
use Rattle.tclv_engine.specs.State.{Text, state_of}
use Rattle.tclv_engine.specs.Answers.{Keeps, last_of}
use Rattle.tclv_engine.specs.EachLoops.{groups_of}
use Rattle.tclv_engine.specs.EachSteps.{groups_at}
use Rattle.tclv_engine.specs.Plans.{Each}
use Rattle.tclv_engine.proofs.Binds.{runs_as, bind_ok, then_stop}
use Rattle.tclv_engine.proofs.Leaves.{done_runs}
use Rattle.tclv_control.proofs.EachLemmas.{pairs_placed, body_placed, keeps_lowest}
use Rattle.tclv_control.proofs.each_plans.plan_pairs.Goals as goal

pub returns-in_err-groups-clause-answer : goal.returns-in_err-groups-clause-answer
returns-in_err-groups-clause-answer g c here w told =
    let stack = c.args.machine.now.values.store.stack in
    let pairs = pairs_placed stack c.args.n (c.height-height.result - c.args.n + 1) (c.height-height.result - 1) c.requires.words c.requires.some (ap (λ l. l - c.args.n + 1) c.height-height.ensures) (ap (λ l. l - 1) c.height-height.ensures) in
    then_stop _ (search rules) (runs_as (ap (λ ws. groups_of c.args.empty [] ws (state_of c.args.machine.now w)) pairs) (c.in_err-groups.ensures.answer here w told))

pub returns-clause-answer : goal.returns-clause-answer
returns-clause-answer g c here w told =
    let stack = c.args.machine.now.values.store.stack in
    let now = c.groups.new.self.values.store.stack in
    let pairs = pairs_placed stack c.args.n (c.height-height.result - c.args.n + 1) (c.height-height.result - 1) c.requires.words c.requires.some (ap (λ l. l - c.args.n + 1) c.height-height.ensures) (ap (λ l. l - 1) c.height-height.ensures) in
    let body = body_placed stack now c.args.n (c.height-height.result - 1) c.requires.words (omega (arith, c.requires.some)) (ap (λ l. l - 1) c.height-height.ensures) c.in_ok-groups.ensures.stack in
    bind_ok _ (runs_as (ap (λ ws. groups_of c.args.empty [] ws (state_of c.args.machine.now w)) pairs) (c.in_ok-groups.ensures.answer here w told))
    (λ gs v e shown. done_runs {new = c.groups.new.self} e refl (ap (λ x. Each x (last_of (top c.args.n stack)) c.args.keep) shown ∙ ap (λ t. Each (groups_at now c.in_ok-groups.groups.items.items) t c.args.keep) body))

pub returns-clause-stack : goal.returns-clause-stack
returns-clause-stack g c =
    let stack = c.args.machine.now.values.store.stack in
    let some = c.requires.some in (
      keeps_lowest stack c.groups.new.self.values.store.stack c.args.n c.in_ok-groups.ensures.stack,
      record {
        groups_in = c.in_ok-groups.ensures.inside;
        body_in = omega (arith, some, c.requires.words, c.height-height.ensures, ap length c.in_ok-groups.ensures.stack);
      },
    )
