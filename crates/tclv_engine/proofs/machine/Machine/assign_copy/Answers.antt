use Rattle.std.proofs.Common.{◌≡◌, ◌++◌, ◌∷◌, rules, ap, ◌∙◌, [], get_or, refl}
use Rattle.tclv_engine.specs.State.{state_of}
use Rattle.tclv_engine.specs.Variables.{assign}
use Rattle.tclv_engine.specs.Answers.{last_of}
use Rattle.tclv_engine.proofs.Binds.{runs_as, answers_as}
use Rattle.tclv_engine.proofs.Leaves.{memory_runs, from_same, then_same}
use Rattle.tclv_engine.proofs.StackLemmas.{over_push, last-pushed, text_below}
use Rattle.tclv_engine.proofs.ListLemmas.{other_show, kept_grown}
use Rattle.tclv_engine.proofs.WordLemmas.{values_same}
use Rattle.tclv_engine.proofs.machine.Machine.assign_copy.Goals as goal

pub returns-in_err-push_copy-clause-answer : goal.returns-in_err-push_copy-clause-answer
returns-in_err-push_copy-clause-answer g c here w told = memory_runs (search rules) told refl

pub returns-in_err-assign_top-clause-answer : goal.returns-in_err-assign_top-clause-answer
returns-in_err-assign_top-clause-answer g c here w told =
    let old = c.args.self.now.values.store.stack in
    let mid = c.push_copy.new.self.store.stack in
    let machine = record c.args.self.now { values = c.push_copy.new.self } in
    let value = get_or old c.args.from [] in
    let pushed : mid ≡ old ++ value ∷ [] = c.in_ok-push_copy.ensures.pushed in
    let st = state_of machine w in
    answers_as (search rules)
    (from_same c.args.self.now machine (assign (get_or old c.args.name []) value) (values_same c.args.self.now c.push_copy.new.self c.in_ok-push_copy.ensures.same)
    (runs_as
    (ap (λ t. assign t (last_of mid) st) (text_below old mid c.args.name (over_push old mid value pushed) c.requires.name) ∙ ap (λ v. assign (get_or old c.args.name []) v st) (last-pushed old mid value pushed))
    (other_show _ (c.in_err-assign_top.ensures.answer here w told))))

pub returns-in_err-assign_top-clause-stack : goal.returns-in_err-assign_top-clause-stack
returns-in_err-assign_top-clause-stack g c =
    kept_grown _ c.in_err-assign_top.field-0.0 (search rules) c.args.self.now.values.store.stack c.push_copy.new.self.store.stack c.assign_top.new.self.values.store.stack _ c.in_ok-push_copy.ensures.pushed c.in_err-assign_top.ensures.stack

pub returns-clause-answer : goal.returns-clause-answer
returns-clause-answer g c here w told =
    let old = c.args.self.now.values.store.stack in
    let mid = c.push_copy.new.self.store.stack in
    let machine = record c.args.self.now { values = c.push_copy.new.self } in
    let value = get_or old c.args.from [] in
    let pushed : mid ≡ old ++ value ∷ [] = c.in_ok-push_copy.ensures.pushed in
    let st = state_of machine w in
    then_same
    (from_same c.args.self.now machine (assign (get_or old c.args.name []) value) (values_same c.args.self.now c.push_copy.new.self c.in_ok-push_copy.ensures.same)
    (runs_as
    (ap (λ t. assign t (last_of mid) st) (text_below old mid c.args.name (over_push old mid value pushed) c.requires.name) ∙ ap (λ v. assign (get_or old c.args.name []) v st) (last-pushed old mid value pushed))
    (c.in_ok-assign_top.ensures.answer here w told)))
    (search rules) (λ a shown. tt)
