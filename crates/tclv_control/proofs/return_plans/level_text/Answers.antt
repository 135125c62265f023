use Rattle.std.proofs.Common.{ap, ◌∙◌, ◌++◌, ◌-◌, length, take}
use Rattle.std.proofs.lemmas.Str.{chars-nil}
use Rattle.std.specs.Str.{chars}
use Rattle.std.specs.Prelude.{pos}
use Rattle.tclv_text.specs.Numbers.{whole_text}
use Rattle.tclv_engine.specs.Answers.{last_of}
use Rattle.tclv_engine.proofs.StackLemmas.{last-pushed, under-push}
use Rattle.tclv_control.proofs.return_plans.level_text.Goals as goal

pub returns-clause-text : goal.returns-clause-text
returns-clause-text g c =
    let mid = c.push_level.new.machine.values.store.stack in
    let empty = c.new-text.ensures ∙ ap chars c.new.ensures.items ∙ chars-nil in
    c.in_ok-take_onto.ensures.text
    ∙ ap (λ t. t ++ last_of mid) empty
    ∙ last-pushed c.args.machine.now.values.store.stack mid (whole_text (pos c.args.level)) c.in_ok-push_level.ensures.pushed

pub returns-clause-stack : goal.returns-clause-stack
returns-clause-stack g c =
    let stack = c.args.machine.now.values.store.stack in
    c.in_ok-take_onto.ensures.stack ∙ ap (λ s. take (length s - 1) s) c.in_ok-push_level.ensures.pushed ∙ under-push stack (whole_text (pos c.args.level))
