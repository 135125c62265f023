use Rattle.std.proofs.Common.{◌++◌, ◌∙◌, append-nil, sym, ap}
use Rattle.std.specs.Str.{chars}
use Rattle.std.proofs.lemmas.Str.{chars-nil}
use Rattle.tclv_strings.specs.Mapping.{mapped_text}
use Rattle.tclv_strings.proofs.mapping.mapped_text.Goals as goal

pub loop-c-init : goal.loop-c-init
loop-c-init c = record {
  text = c.requires;
  same = ap (λ o. o ++ mapped_text c.args.nocase c.args.mapping.now (chars c.args.text.now)) (c.new-out.ensures ∙ ap chars c.new.ensures.items ∙ chars-nil);
}

pub loop-c-preserved : goal.loop-c-preserved
loop-c-preserved c = record { text = c.in_ok-rest.ensures.utf8; same = c.in_ok-rest.ensures.mapped ∙ c.loop-c.invariant.same }

pub returns : goal.returns
returns c =
    sym (append-nil c.loop-c.out) ∙ sym (ap (λ t. c.loop-c.out ++ mapped_text c.args.nocase c.args.mapping.now t) c.in_default.ensures.first) ∙ c.loop-c.invariant.same
