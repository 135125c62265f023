use Rattle.std.proofs.Common.{◌≡◌, ◌+◌, ◌++◌, ◌∙◌, List, ap, sym, subst, drop}
use Rattle.std.specs.Prelude.{IfOk}
use Rattle.tclv_model.specs.Rows.{Answer, Gives, and_then}
use Rattle.tclv_ctl.specs.Switching.{Text, Asked, choice, row_switch, manner_of, IsPlanOf, options, plain, held_clauses}
use Rattle.tclv_ctl.proofs.SwitchLemmas.{pushed_from}
use Rattle.tclv_ctl.proofs.PlanLemmas.{steps_after}
use Rattle.tclv_ctl.proofs.switching.read_words.Goals as goal

pub returns-clause-steps : goal.returns-clause-steps
returns-clause-steps c = λ call.
    let s = c.args.store.now in
    let mid = c.read_options.new.store in
    let asked = c.in_ok-asked.asked in
    let sh = c.in_ok-asked.ensures.steps.gives in
    steps_after (row_switch call (drop c.args.first s.stack)) (choice call (manner_of asked) (drop asked.string mid.stack)) IsPlanOf s mid c.read_behind.new.store c.read_behind.result sh.grows
    (ap (λ (a : Answer Asked). and_then a (λ x. choice call x.0 x.1)) sh.given ∙ ap (λ (x : Asked). choice call x.0 x.1) sh.shown.is) (c.read_behind.ensures.steps call)

pub returns-clause-stack : goal.returns-clause-stack
returns-clause-stack c =
    let s = c.args.store.now.stack in
    let mid = c.read_options.new.store.stack in
    let k = c.in_ok-asked.asked.string in
    let sh = c.in_ok-asked.ensures.steps.gives in
    let held = held_clauses (drop (k + 1) mid) in
    let pushed = pushed_from (options plain (drop c.args.first s)) (manner_of c.in_ok-asked.asked) mid k (sh.given ∙ ap (λ (a : Asked). Gives a) sh.shown.is) in
    subst (λ (t : List Text). IfOk c.read_behind.result (λ _. c.read_behind.new.store.stack ≡ t)) (ap (λ (t : List Text). t ++ held) c.in_ok-asked.ensures.stack ∙ ap (λ (t : List Text). s ++ t) (sym pushed)) c.read_behind.ensures.stack
