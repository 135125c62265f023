use Rattle.std.proofs.Common.{rules, arith, ap, subst, ◌≡◌, ◌∙◌, ◌++◌, ◌∷◌, ◌+◌, ◌-◌, [], List, length, length-append}
use Rattle.tclv_value.specs.Stacks.{top, under}
use Rattle.tclv_reply.specs.Replies as replies
use Rattle.tclv_ctl.specs.Handlers.{handlers_of}
use Rattle.tclv_engine.specs.State.{Text, state_of}
use Rattle.tclv_engine.specs.Answers.{Runs, start}
use Rattle.tclv_engine.specs.DataAnswers.{of_answer}
use Rattle.tclv_engine.proofs.Binds.{runs_as}
use Rattle.tclv_engine.proofs.Leaves.{memory_runs, from_same}
use Rattle.tclv_control.specs.TrySteps.{as_said}
use Rattle.tclv_control.proofs.CatchLemmas.{words_over}
use Rattle.tclv_control.proofs.TryLemmas.{again_call, again_words, again_above}
use Rattle.tclv_control.proofs.try_plans.asked_again.Goals as goal

pub returns-in_err-push_call-clause-answer : goal.returns-in_err-push_call-clause-answer
returns-in_err-push_call-clause-answer g c here w told = memory_runs (search rules) told c.in_err-push_call.ensures.same.events

pub returns-clause-answer : goal.returns-clause-answer
returns-clause-answer g c here w told =
    let old = c.args.machine.now.values.store.stack in
    let mid = c.push_call.new.machine in
    let call = c.args.call.now in
    let words = c.args.words.now in
    let n = c.height.result - c.height-height.result - 1 in
    let whole = old ++ call ∷ words in
    let pushed = c.in_ok-push_call.ensures.pushed in
    let count : n ≡ length words = omega (arith, c.height-height.ensures, c.height.ensures, ap length pushed, length-append old (call ∷ words)) in
    let P : List Text → Type 0 = λ s. Runs (of_answer (handlers_of (replies.call_word n s) (top n s)) (state_of mid w)) (as_said s) (start mid w here.torn) c.asked.result c.asked.new.machine here in
    from_same c.args.machine.now mid (of_answer (handlers_of call words)) c.in_ok-push_call.ensures.same
    (runs_as
    (ap (λ t. of_answer (handlers_of t (top n whole)) (state_of mid w)) (again_call old call words n count) ∙ ap (λ ws. of_answer (handlers_of call ws) (state_of mid w)) (again_words old call words n count))
    (subst P pushed (c.asked.ensures.answer here w told)))

pub returns-clause-stack : goal.returns-clause-stack
returns-clause-stack g c =
    let old = c.args.machine.now.values.store.stack in
    let mid = c.push_call.new.machine.values.store.stack in
    let n = c.height.result - c.height-height.result - 1 in
    let pushed = c.in_ok-push_call.ensures.pushed in
    let count : n ≡ length c.args.words.now = omega (arith, c.height-height.ensures, c.height.ensures, ap length pushed, length-append old (c.args.call.now ∷ c.args.words.now)) in
    words_over old (under n mid) c.asked.result c.asked.new.machine.values.store.stack (again_above old mid c.args.call.now c.args.words.now n count pushed) c.asked.ensures.stack
