use Rattle.std.proofs.Common.{rules, arith, refl, ap, ◌∙◌, ◌-◌, ◌<◌, ◌≡◌, ◌++◌, ◌∷◌, [], get_or, length, length-append}
use Rattle.tclv_engine.specs.State.{state_of}
use Rattle.tclv_engine.specs.Answers.{last_of}
use Rattle.tclv_engine.specs.Plans.{placed}
use Rattle.tclv_engine.specs.Variables.{assign}
use Rattle.tclv_engine.proofs.Binds.{runs_as}
use Rattle.tclv_engine.proofs.Leaves.{memory_runs, from_same}
use Rattle.tclv_engine.proofs.ListLemmas.{list_below}
use Rattle.tclv_engine.proofs.StackLemmas.{last-pushed}
use Rattle.tclv_engine.proofs.WordLemmas.{values_same}
use Rattle.tclv_control.proofs.CatchLemmas.{one_above, kept_over, unseen_runs}
use Rattle.tclv_control.proofs.try_plans.note_over.Goals as goal

pub returns-in_err-push_copy-clause-answer : goal.returns-in_err-push_copy-clause-answer
returns-in_err-push_copy-clause-answer g c here w told = memory_runs (search rules) told refl

pub returns-clause-answer : goal.returns-clause-answer
returns-clause-answer g c here w told =
    let old = c.args.machine.now.values.store.stack in
    let mid = record c.args.machine.now { values = c.push_copy.new.self } in
    let value = placed old c.args.value in
    let pushed = c.in_ok-push_copy.ensures.pushed in
    let within : c.height-name.result - 1 < length old = omega (arith, c.requires.some, c.height-name.ensures) in
    let name : get_or c.push_copy.new.self.store.stack (c.height-name.result - 1) [] ≡ last_of old = list_below old (value ∷ []) c.push_copy.new.self.store.stack (c.height-name.result - 1) pushed within ∙ ap (λ n. get_or old (n - 1) []) c.height-name.ensures in
    from_same c.args.machine.now mid (assign (last_of old) value) (values_same c.args.machine.now c.push_copy.new.self c.in_ok-push_copy.ensures.same)
    (runs_as
    (ap (λ t. assign t (last_of c.push_copy.new.self.store.stack) (state_of mid w)) name ∙ ap (λ v. assign (last_of old) v (state_of mid w)) (last-pushed old c.push_copy.new.self.store.stack value pushed))
    (unseen_runs c.assign_top.result (c.assign_top.ensures.answer here w told)))

pub returns-clause-stack : goal.returns-clause-stack
returns-clause-stack g c =
    let old = c.args.machine.now.values.store.stack in
    kept_over old c.push_copy.new.self.store.stack c.assign_top.result c.assign_top.new.self.values.store.stack (one_above old c.push_copy.new.self.store.stack _ c.in_ok-push_copy.ensures.pushed) c.assign_top.ensures.stack
