use Rattle.std.proofs.Common.{◌≡◌, ◌++◌, ◌∷◌, rules, ap, ◌∙◌, [], get_or, refl}
use Rattle.std.specs.Str.{chars}
use Rattle.tclv_engine.specs.State.{state_of}
use Rattle.tclv_engine.specs.Variables.{assign}
use Rattle.tclv_engine.specs.Answers.{last_of}
use Rattle.tclv_engine.proofs.Binds.{runs_as, answers_as}
use Rattle.tclv_engine.proofs.Leaves.{memory_runs, from_same, then_same}
use Rattle.tclv_engine.proofs.StackLemmas.{over_push, last-pushed, text_below}
use Rattle.tclv_engine.proofs.ListLemmas.{other_show, kept_grown}
use Rattle.tclv_engine.proofs.WordLemmas.{values_same}
use Rattle.tclv_interp.proofs.proc_info.assign_text.Goals as goal

pub returns-in_err-push_text-clause-answer : goal.returns-in_err-push_text-clause-answer
returns-in_err-push_text-clause-answer c here w told = memory_runs (search rules) told refl

pub returns-in_err-assign_top-clause-answer : goal.returns-in_err-assign_top-clause-answer
returns-in_err-assign_top-clause-answer c here w told =
    let old = c.args.machine.now.values.store.stack in
    let mid = c.push_text.new.self.store.stack in
    let machine = record c.args.machine.now { values = c.push_text.new.self } in
    let value = chars c.args.text.now in
    let pushed : mid ≡ old ++ value ∷ [] = c.in_ok-push_text.ensures.pushed in
    let st = state_of machine w in
    answers_as (search rules)
    (from_same c.args.machine.now machine (assign (get_or old c.args.var []) value) (values_same c.args.machine.now c.push_text.new.self c.in_ok-push_text.ensures.same)
    (runs_as
    (ap (λ t. assign t (last_of mid) st) (text_below old mid c.args.var (over_push old mid value pushed) c.requires.place) ∙ ap (λ v. assign (get_or old c.args.var []) v st) (last-pushed old mid value pushed))
    (other_show _ (c.in_err-assign_top.ensures.answer here w told))))

pub returns-in_err-assign_top-clause-stack : goal.returns-in_err-assign_top-clause-stack
returns-in_err-assign_top-clause-stack c =
    kept_grown _ c.in_err-assign_top.field-0.0 (search rules) c.args.machine.now.values.store.stack c.push_text.new.self.store.stack c.assign_top.new.self.values.store.stack _ c.in_ok-push_text.ensures.pushed c.in_err-assign_top.ensures.stack

pub returns-clause-answer : goal.returns-clause-answer
returns-clause-answer c here w told =
    let old = c.args.machine.now.values.store.stack in
    let mid = c.push_text.new.self.store.stack in
    let machine = record c.args.machine.now { values = c.push_text.new.self } in
    let value = chars c.args.text.now in
    let pushed : mid ≡ old ++ value ∷ [] = c.in_ok-push_text.ensures.pushed in
    let st = state_of machine w in
    then_same
    (from_same c.args.machine.now machine (assign (get_or old c.args.var []) value) (values_same c.args.machine.now c.push_text.new.self c.in_ok-push_text.ensures.same)
    (runs_as
    (ap (λ t. assign t (last_of mid) st) (text_below old mid c.args.var (over_push old mid value pushed) c.requires.place) ∙ ap (λ v. assign (get_or old c.args.var []) v st) (last-pushed old mid value pushed))
    (c.in_ok-assign_top.ensures.answer here w told)))
    (search rules) (λ a shown. tt)
