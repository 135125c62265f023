use Rattle.std.proofs.Common.{ap, ◌∙◌}
use Rattle.std.specs.Str.{chars}
use Rattle.tclv_text.specs.Quotes.{quoted}
use Rattle.tclv_shell.proofs.ArgumentLemmas.{behind_nothing}
use Rattle.tclv_shell.proofs.arguments.element.Goals as goal

pub returns-clause-text : goal.returns-clause-text
returns-clause-text c =
    (behind_nothing c.new-text.result.items c.quote.new.out.items _ c.new-text.ensures.items c.in_ok-quote.ensures.text).1
    ∙ ap (λ a. quoted a c.args.first) (ap chars c.as_bytes.ensures.value)
