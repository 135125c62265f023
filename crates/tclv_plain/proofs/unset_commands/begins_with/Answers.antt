use Rattle.std.proofs.Common.{rules, ◌∙◌, ap, [], get_or}
use Rattle.tclv_engine.proofs.NameLemmas.{bytes-are}
use Rattle.tclv_plain.proofs.UnsetLemmas.{begins_some}
use Rattle.tclv_plain.proofs.unset_commands.begins_with.Goals as goal

pub returns-then-from-height-clause-answer : goal.returns-then-from-height-clause-answer
returns-then-from-height-clause-answer g c =
    let stack = c.args.machine.now.values.store.stack in
    c.is_word.ensures
    ∙ begins_some c.args.option.now stack c.args.from c.lend.result.now (search rules)
    (bytes-are c.lend.result.now (get_or stack c.args.from []) c.lend.ensures.utf8 (c.lend.ensures.text ∙ ap (λ s. get_or s c.args.from []) c.in_ok-make_text.ensures.stack))
