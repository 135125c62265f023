use Rattle.std.proofs.Common.{rules, arith, ap, sym, ◌≡◌, ◌∙◌, ◌+◌, ◌-◌, ◌<◌, [], ◌∷◌, length, drop, get_or}
use Rattle.std.proofs.lemmas.List.{drop_more}
use Rattle.tclv_engine.specs.State.{state_of}
use Rattle.tclv_engine.proofs.Binds.{runs_as, bind_ok, then_stop}
use Rattle.tclv_plain.specs.LinkRows.{pairs_of, upvar_inside}
use Rattle.tclv_plain.proofs.link_commands.upvar_inside.Goals as goal

pub returns-in_err-level-clause-answer : goal.returns-in_err-level-clause-answer
returns-in_err-level-clause-answer g c here w told =
    let stack = c.args.machine.now.values.store.stack in
    let word = c.args.from - 1 in
    let below : word < length stack = omega (arith, c.requires.level, c.requires.words) in
    runs_as (ap (λ ws. upvar_inside ws (state_of c.args.machine.now w)) (sym (drop_more stack word [] below)))
    (then_stop _ (search rules) (c.in_err-level.ensures.answer here w told))

pub returns-clause-answer : goal.returns-clause-answer
returns-clause-answer g c here w told =
    let stack = c.args.machine.now.values.store.stack in
    let word = c.args.from - 1 in
    let below : word < length stack = omega (arith, c.requires.level, c.requires.words) in
    let next : word + 1 ≡ c.args.from = omega (arith, c.requires.level) in
    runs_as (ap (λ ws. upvar_inside ws (state_of c.args.machine.now w)) (sym (drop_more stack word [] below)))
    (bind_ok _ (c.in_ok-level.ensures.answer here w told)
    (λ l v e shown. runs_as
    (ap (λ s. pairs_of (drop c.args.from s) c.in_ok-level.level (state_of c.level_at.new.self v)) c.in_ok-level.ensures.stack
    ∙ ap (λ k. pairs_of (drop c.args.from stack) k (state_of c.level_at.new.self v)) shown
    ∙ ap (λ k. pairs_of (drop k stack) l (state_of c.level_at.new.self v)) (sym next))
    (c.run_pairs.ensures.answer here v e)))
