use Rattle.std.proofs.Common.{rules, ap, sym, ◌∙◌, ◌-◌, [], length, drop}
use Rattle.std.proofs.lemmas.Bool.{cond-true, cond-false}
use Rattle.tclv_engine.specs.State.{state_of}
use Rattle.tclv_engine.proofs.Binds.{runs_as}
use Rattle.tclv_engine.proofs.DataLemmas.{arguments_are}
use Rattle.tclv_plain.specs.LinkRows.{global_of}
use Rattle.tclv_plain.proofs.link_commands.cmd_global.Goals as goal

pub returns-then-is_local-clause-answer : goal.returns-then-is_local-clause-answer
returns-then-is_local-clause-answer g c here w told =
    let stack = c.args.machine.now.values.store.stack in
    let st = state_of c.args.machine.now w in
    runs_as
    (ap (λ k. global_of (drop (k - (c.args.n - 1)) stack) st) c.height.ensures
    ∙ ap (λ names. global_of names st) (arguments_are stack c.args.n c.requires.some c.requires.words)
    ∙ sym (cond-true _ _ _ (sym c.is_local.ensures ∙ c.if-is_local.true)))
    (c.run_global.ensures.answer here w told)

pub returns-clause-answer : goal.returns-clause-answer
returns-clause-answer g c here w told =
    runs_as (sym (cond-false _ _ _ (sym c.is_local.ensures ∙ c.if-is_local.false))) (c.push_empty.ensures.answer here w told)
