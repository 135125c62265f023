use Rattle.std.proofs.Common.{ap, rules, refl, ◌∙◌, [], get_or}
use Rattle.tclv_parse.specs.Grammar.{fault}
use Rattle.tclv_parse.specs.Complete.{is_complete}
use Rattle.tclv_engine.specs.State.{state_of}
use Rattle.tclv_engine.specs.Results.{ok}
use Rattle.tclv_engine.proofs.Binds.{runs_as}
use Rattle.tclv_engine.proofs.Leaves.{memory_runs, from_same}
use Rattle.tclv_plain.specs.Subcommands.{flag}
use Rattle.tclv_plain.specs.InfoRows.{info_complete}
use Rattle.tclv_plain.proofs.info_commands.info_complete.Goals as goal

pub returns-in_err-make_text-clause-answer : goal.returns-in_err-make_text-clause-answer
returns-in_err-make_text-clause-answer g c here w told = memory_runs (search rules) told refl

pub returns-clause-answer : goal.returns-clause-answer
returns-clause-answer g c here w told =
    let old = c.args.machine.now in
    let mid = record old { values = c.make_text.new.self } in
    from_same old mid (info_complete (get_or old.values.store.stack c.args.script [])) (search rules)
    (runs_as
    (ap (λ b. ok (flag b) (state_of mid w)) (c.is_complete-complete.ensures ∙ ap (λ t. is_complete (fault t)) (c.lend.ensures.text ∙ ap (λ s. get_or s c.args.script []) c.in_ok-make_text.ensures.stack)))
    (c.push_flag.ensures.answer here w told))
