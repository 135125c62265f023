use Rattle.std.proofs.Common.{rules, arith, refl, sym, ap, ◌∙◌, ◌-◌, ◌+◌, ◌≡◌, [], get_or, length}
use Rattle.tclv_value.specs.Stacks.{top}
use Rattle.tclv_reply.specs.Replies as replies
use Rattle.tclv_engine.specs.Plans.{Run, placed}
use Rattle.tclv_engine.specs.Usages.{call_word}
use Rattle.tclv_engine.proofs.Leaves.{memory_runs, value_runs}
use Rattle.tclv_engine.proofs.WordLemmas.{same_then, first_of_top}
use Rattle.tclv_control.specs.declared.behind.Behind.TheVariants as behind
use Rattle.tclv_control.proofs.try_plans.plan_body.Goals as goal

pub returns-in_err-call-clause-answer : goal.returns-in_err-call-clause-answer
returns-in_err-call-clause-answer g c here w told = memory_runs (search rules) told c.in_err-call.ensures.same.events

pub returns-in_err-words-clause-answer : goal.returns-in_err-words-clause-answer
returns-in_err-words-clause-answer g c here w told =
    let same = same_then c.args.machine.now c.text_of.new.machine c.words_of.new.machine c.in_ok-call.ensures.same c.in_err-words.ensures.same in
    memory_runs (search rules) told same.events

pub returns-clause-answer : goal.returns-clause-answer
returns-clause-answer g c here w told =
    let stack = c.args.machine.now.values.store.stack in
    let n = c.args.n in
    let same = same_then c.args.machine.now c.text_of.new.machine c.words_of.new.machine c.in_ok-call.ensures.same c.in_ok-words.ensures.same in
    let kept = c.in_ok-words.ensures.stack ∙ c.in_ok-call.ensures.stack in
    let place : c.height.result - n - 1 ≡ length stack - n - 1 = ap (λ l. l - n - 1) c.height.ensures in
    let call : c.in_ok-call.call ≡ replies.call_word n stack = c.in_ok-call.ensures.text ∙ ap (λ i. get_or stack i []) place in
    let words : c.in_ok-words.words ≡ top n stack = c.in_ok-words.ensures.words ∙ ap (top n) c.in_ok-call.ensures.stack in
    let body : placed c.words_of.new.machine.values.store.stack (c.height.result - n) ≡ call_word (top n stack) =
    ap (λ s. placed s (c.height.result - n)) kept ∙ ap (λ l. get_or stack (l - n) []) c.height.ensures ∙ first_of_top stack n c.requires.some (omega (arith, c.requires.words)) in
    value_runs c.args.machine.now told same
    (sym (ap (λ t. Run t (behind.Body c.in_ok-call.call c.in_ok-words.words)) body
    ∙ ap (λ t. Run (call_word (top n stack)) (behind.Body t c.in_ok-words.words)) call
    ∙ ap (λ ws. Run (call_word (top n stack)) (behind.Body (replies.call_word n stack) ws)) words))
