use Rattle.std.proofs.Common.{◌∙◌, ap}
use Rattle.std.specs.Str.{chars}
use Rattle.std.proofs.lemmas.Str.{chars-nil}
use Rattle.tclv_engine.proofs.VariableLemmas.{named_element}
use Rattle.tclv_engine.proofs.variables.element_name.Goals as goal

pub returns : goal.returns
returns c =
    named_element c.new-name.result c.push.new.self c.push-2.new.self c.push-3.new.self c.push-4.new.self (chars c.args.array.now) (chars c.args.index.now)
    (c.new-name.ensures ∙ ap chars c.new.ensures.items ∙ chars-nil) c.in_ok-push.ensures.ok c.in_ok-push-2.ensures.ok c.in_ok-push-3.ensures.ok c.in_ok-push-4.ensures.ok
