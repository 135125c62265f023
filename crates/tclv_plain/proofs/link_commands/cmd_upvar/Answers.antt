use Rattle.std.proofs.Common.{rules, arith, ap, sym, ◌∙◌, ◌+◌, ◌-◌, ◌%◌, ◌≡◌, [], length, drop, get_or, true, false}
use Rattle.std.specs.Prelude.{◌==◌, nat_lt}
use Rattle.std.proofs.lemmas.Bool.{cond-true, cond-false}
use Rattle.tclv_value.specs.Stacks.{top}
use Rattle.tclv_model.specs.declared.usages.Usage.TheVariants as command
use Rattle.tclv_model.specs.Usages.{usage_of}
use Rattle.tclv_engine.specs.State.{state_of}
use Rattle.tclv_engine.proofs.Binds.{runs_as}
use Rattle.tclv_engine.proofs.WordLemmas.{usage_runs, first_of_top, top_length}
use Rattle.tclv_plain.specs.LinkRows.{upvar_inside, upvar_outside}
use Rattle.tclv_plain.proofs.LinkLemmas.{upvar_refused, upvar_links}
use Rattle.tclv_plain.proofs.link_commands.cmd_upvar.Goals as goal

pub returns-then-n-lt3-clause-answer : goal.returns-then-n-lt3-clause-answer
returns-then-n-lt3-clause-answer g c here w told =
    let stack = c.args.machine.now.values.store.stack in
    runs_as (upvar_refused stack c.args.n (state_of c.args.machine.now w) c.requires.some c.requires.words (search (rules, arith, c.if-n-lt3.true)))
    (usage_runs c.args.machine.now (usage_of command.Upvar) _ (top c.args.n stack) told c.misused.ensures.same
    (ap (λ l. get_or stack (l - c.args.n) []) c.height.ensures ∙ first_of_top stack c.args.n c.requires.some c.requires.words) c.misused.ensures.raises)

pub returns-then-n-eq1-clause-answer : goal.returns-then-n-eq1-clause-answer
returns-then-n-eq1-clause-answer g c here w told =
    let stack = c.args.machine.now.values.store.stack in
    let st = state_of c.args.machine.now w in
    let words = top (c.args.n - 1) stack in
    let count : length words ≡ c.args.n - 1 = top_length stack (c.args.n - 1) (omega (arith, c.requires.words)) in
    let first : c.height.result - c.args.n + 2 - 1 ≡ length stack - (c.args.n - 1) = omega (arith, c.requires.some, c.requires.words, c.height.ensures) in
    let odd : (length words % 2 == 1) ≡ true = ap (λ k. k % 2 == 1) count ∙ ap (λ r. r == 1) c.if-n-eq1.true in
    runs_as
    (ap (λ k. upvar_inside (drop k stack) st) first
    ∙ sym (cond-true _ _ _ odd)
    ∙ upvar_links stack c.args.n st c.requires.some c.requires.words (search (rules, arith, c.if-n-lt3.false)))
    (c.upvar_inside.ensures.answer here w told)

pub returns-clause-answer : goal.returns-clause-answer
returns-clause-answer g c here w told =
    let stack = c.args.machine.now.values.store.stack in
    let st = state_of c.args.machine.now w in
    let words = top (c.args.n - 1) stack in
    let count : length words ≡ c.args.n - 1 = top_length stack (c.args.n - 1) (omega (arith, c.requires.words)) in
    let first : c.height.result - c.args.n + 1 ≡ length stack - (c.args.n - 1) = omega (arith, c.requires.some, c.requires.words, c.height.ensures) in
    let even : (length words % 2 == 1) ≡ false = ap (λ k. k % 2 == 1) count ∙ search (rules, c.if-n-eq1.false) in
    runs_as
    (ap (λ k. upvar_outside (drop k stack) st) first
    ∙ sym (cond-false _ _ _ even)
    ∙ upvar_links stack c.args.n st c.requires.some c.requires.words (search (rules, arith, c.if-n-lt3.false)))
    (c.upvar_outside.ensures.answer here w told)
