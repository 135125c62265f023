use Rattle.std.proofs.Common.{ap, ◌∙◌, ◌-◌, drop}
use Rattle.tclv_engine.specs.State.{state_of}
use Rattle.tclv_engine.proofs.Binds.{runs_as}
use Rattle.tclv_engine.proofs.DataLemmas.{arguments_are}
use Rattle.tclv_plain.specs.UnsetRows.{unset_words}
use Rattle.tclv_plain.proofs.unset_commands.cmd_unset.Goals as goal

pub returns-clause-answer : goal.returns-clause-answer
returns-clause-answer g c here w told =
    let stack = c.args.machine.now.values.store.stack in
    let st = state_of c.args.machine.now w in
    runs_as
    (ap (λ k. unset_words (drop (k - (c.args.n - 1)) stack) st) c.height.ensures
    ∙ ap (λ words. unset_words words st) (arguments_are stack c.args.n c.requires.some c.requires.words))
    (c.unset_words.ensures.answer here w told)
