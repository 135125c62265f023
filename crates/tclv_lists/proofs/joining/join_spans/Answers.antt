use Rattle.std.proofs.Common.{ap, sym, ◌∙◌, subst, arith}
use Rattle.std.specs.Str.{chars}
use Rattle.std.proofs.lemmas.Str.{chars-nil, IsUtf8-nil}
use Rattle.tclv_text.specs.Texts.{IsText}
use Rattle.tclv_text.specs.Spans.{span_text}
use Rattle.tclv_lists.proofs.JoinLemmas.{join_more}
use Rattle.tclv_lists.proofs.joining.join_spans.Goals as goal

pub loop-i-init : goal.loop-i-init
loop-i-init c = record {
  utf8 = subst IsText (sym c.new-joined.ensures.items) (record { utf8 = IsUtf8-nil });
  text = ap chars c.new-joined.ensures.items ∙ chars-nil;
}

pub loop-i-preserved : goal.loop-i-preserved
loop-i-preserved c =
    let p = join_more (span_text c.args.text.now) (chars c.args.separator.now) c.args.spans.now c.loop-i.joined.items c.add_behind.new.out.items c.loop-i.i _ (omega arith) c.loop-i.invariant.utf8 c.loop-i.invariant.text c.in_ok-add_behind.ensures in
    record { utf8 = p.0; text = p.1 }
