use Rattle.std.proofs.Common.{ap, ◌∙◌, string_bytes, Global, false}
use Rattle.std.specs.Str.{chars}
use Rattle.std.proofs.lemmas.Str.{chars-nil}
use Rattle.tclv_text.specs.Quotes.{quoted}
use Rattle.tclv_shell.proofs.ArgumentLemmas.{none_listed, space_is_text, further_more}
use Rattle.tclv_shell.proofs.arguments.list_text.Goals as goal

pub returns-in_default : goal.returns-in_default
returns-in_default c =
    c.new-in_default.ensures ∙ ap chars c.new.ensures.items ∙ chars-nil ∙ none_listed (string_bytes {Z = Global}) c.args.arguments.now c.in_default.len_below

pub push-requires : goal.push-requires
push-requires c = space_is_text

pub loop-argument-preserved : goal.loop-argument-preserved
loop-argument-preserved c =
    further_more (string_bytes {Z = Global}) _ c.loop-argument.argument-index c.argument-item.result c.loop-argument.text c.push.new.self c.push-in-loop-argument.new.self _
    c.loop-argument-test.true c.argument-item.is c.in_ok-push.ensures.ok c.in_ok-push-2.ensures.ok
    (ap chars c.deref.ensures.value ∙ c.in_ok-element-2.ensures.text ∙ ap (λ a. quoted (chars a) false) c.as_str-in-loop-argument.ensures.value)
    ∙ c.loop-argument.invariant
