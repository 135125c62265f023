use Rattle.std.proofs.Common.{rules, ap, ◌∙◌, drop}
use Rattle.tclv_engine.specs.State.{state_of}
use Rattle.tclv_engine.proofs.Binds.{runs_as, bind_ok, then_stop}
use Rattle.tclv_plain.specs.LinkRows.{pairs_of}
use Rattle.tclv_plain.proofs.link_commands.upvar_outside.Goals as goal

pub returns-in_err-level-clause-answer : goal.returns-in_err-level-clause-answer
returns-in_err-level-clause-answer g c here w told = then_stop _ (search rules) (c.in_err-level.ensures.answer here w told)

pub returns-clause-answer : goal.returns-clause-answer
returns-clause-answer g c here w told =
    let stack = c.args.machine.now.values.store.stack in
    bind_ok _ (c.in_ok-level.ensures.answer here w told)
    (λ l v e shown. runs_as
    (ap (λ s. pairs_of (drop c.args.from s) c.in_ok-level.level (state_of c.outer_level.new.self v)) c.in_ok-level.ensures.stack
    ∙ ap (λ k. pairs_of (drop c.args.from stack) k (state_of c.outer_level.new.self v)) shown)
    (c.run_pairs.ensures.answer here v e))
