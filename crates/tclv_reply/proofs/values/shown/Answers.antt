use Rattle.std.proofs.Common.{◌≤◌, ◌∙◌, List, ℕ, drop, ap, sym, subst, arith}
use Rattle.std.specs.List.{prefix_len}
use Rattle.tclv_reply.specs.Shown.{begins_shown}
use Rattle.tclv_reply.proofs.ShownLemmas.{p, front_is, step_on, shown_more, shown_end, shown_all}
use Rattle.tclv_reply.proofs.values.shown.Goals as goal

pub returns-then-not-begins_shown-clause-text : goal.returns-then-not-begins_shown-clause-text
returns-then-not-begins_shown-clause-text c =
    let from = c.new-from.result in
    let n = c.loop-count.count in
    c.up_to.ensures.text ∙ front_is from c.loop-count.at _ n c.new-from.ensures.place c.loop-count.invariant.rest c.loop-count.invariant.passed
    ∙ shown_end n _ (omega arith) (subst (λ (t : List ℕ). n ≤ prefix_len p t) c.new-from.ensures.place c.loop-count.invariant.passed)
    (sym (c.if-not-begins_shown.ensures ∙ ap begins_shown (c.loop-count.invariant.rest ∙ ap (drop n) c.new-from.ensures.place)))

pub loop-count-preserved : goal.loop-count-preserved
loop-count-preserved c = record { rest = step_on c.loop-count.at c.skip.new.self c.new-from.result c.loop-count.count c.loop-count.invariant.rest c.skip.ensures; passed = shown_more c.loop-count.count c.new-from.result c.loop-count.invariant.passed (sym (c.if-not-begins_shown.ensures ∙ ap begins_shown c.loop-count.invariant.rest)) }

pub returns-clause-text : goal.returns-clause-text
returns-clause-text c =
    let from = c.new-from.result in
    let n = c.loop-count.count in
    c.up_to-2.ensures.text ∙ front_is from c.loop-count.at _ n c.new-from.ensures.place c.loop-count.invariant.rest c.loop-count.invariant.passed
    ∙ shown_all n _ (omega arith) (subst (λ (t : List ℕ). n ≤ prefix_len p t) c.new-from.ensures.place c.loop-count.invariant.passed)
