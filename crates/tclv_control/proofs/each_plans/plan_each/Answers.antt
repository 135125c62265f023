use Rattle.std.proofs.Common.{rules, ◌≡◌, sym, ◌∙◌, true, false}
use Rattle.tclv_engine.specs.State.{state_of}
use Rattle.tclv_engine.proofs.Binds.{runs_as}
use Rattle.tclv_control.proofs.EachLemmas.{words_paired, words_unpaired}
use Rattle.tclv_control.proofs.each_plans.plan_each.Goals as goal

pub returns-then-is_paired-clause-answer : goal.returns-then-is_paired-clause-answer
returns-then-is_paired-clause-answer g c here w told =
    let on : c.is_paired.result ≡ true = search (rules, c.if-is_paired.true) in
    runs_as (words_paired g.row.K.Denot c.args.form c.args.empty c.args.keep c.args.machine.now.values.store.stack c.args.n (state_of c.args.machine.now w) c.requires.words (sym c.is_paired.ensures ∙ on))
    (c.plan_pairs.ensures.answer here w told)

pub returns-else-is_paired-clause-answer : goal.returns-else-is_paired-clause-answer
returns-else-is_paired-clause-answer g c here w told =
    let off : c.is_paired.result ≡ false = search (rules, c.if-is_paired.false) in
    runs_as (words_unpaired g.row.K.Denot c.args.form c.args.empty c.args.keep c.args.machine.now.values.store.stack c.args.n (state_of c.args.machine.now w) c.requires.words (sym c.is_paired.ensures ∙ off))
    (c.misused.ensures.answer here w told)
