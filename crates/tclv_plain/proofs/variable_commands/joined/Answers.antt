use Rattle.std.proofs.Common.{ap, ◌∙◌, ◌-◌, [], get_or, ◌++◌, take, drop}
use Rattle.std.specs.Str.{chars}
use Rattle.std.specs.List.{concat}
use Rattle.tclv_engine.specs.Answers.{last_of}
use Rattle.std.proofs.lemmas.Str.{chars-nil}
use Rattle.tclv_plain.proofs.variable_commands.joined.Goals as goal

pub returns-clause-text : goal.returns-clause-text
returns-clause-text g c =
    let stack = c.args.machine.now.values.store.stack in
    let empty = c.new-text.ensures ∙ ap chars c.new.ensures.items ∙ chars-nil in
    let last = c.in_ok-append_place.ensures.text ∙ ap (λ t. t ++ get_or stack (c.height.result - 1) []) empty ∙ ap (λ l. get_or stack (l - 1) []) c.height.ensures in
    c.in_ok-append_places.ensures.text
    ∙ ap (λ t. t ++ concat (take (c.args.to - c.args.from) (drop c.args.from c.append_place.new.machine.values.store.stack))) last
    ∙ ap (λ s. last_of stack ++ concat (take (c.args.to - c.args.from) (drop c.args.from s))) c.in_ok-append_place.ensures.stack
