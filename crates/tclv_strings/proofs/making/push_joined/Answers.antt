use Rattle.std.proofs.Common.{◌∙◌, sym, ap, arith}
use Rattle.std.proofs.lemmas.Str.{chars-nil}
use Rattle.std.specs.Str.{chars}
use Rattle.tclv_reply.proofs.Laws.{keeps_none, keeps_trans, grows_step}
use Rattle.tclv_strings.proofs.MakingLemmas.{no_text, joined_more}
use Rattle.tclv_strings.proofs.making.push_joined.Goals as goal

pub loop-at-init : goal.loop-at-init
loop-at-init c = record {
  kept = keeps_none c.args.store.now;
  text = c.new-text.ensures ∙ ap chars c.new.ensures.items ∙ chars-nil ∙ sym (no_text c.args.store.now.stack c.args.from);
}

pub loop-at-preserved : goal.loop-at-preserved
loop-at-preserved c =
    let s = c.args.store.now in
    let k = c.loop-at.invariant.kept in
    record {
      kept = keeps_trans s c.loop-at.store c.add_word.new.store k c.in_ok-add_word.ensures.kept;
      text = joined_more s.stack c.loop-at.store.stack c.loop-at.text c.add_word.new.text c.args.from c.loop-at.at k.stack (omega arith) (omega arith) c.loop-at.invariant.text c.in_ok-add_word.ensures.added;
    }

pub returns-clause-grows : goal.returns-clause-grows
returns-clause-grows c = grows_step c.push_bytes.result c.args.store.now c.loop-at.store c.push_bytes.new.store _ c.loop-at.invariant.kept c.push_bytes.ensures.pushed c.push_bytes.ensures.kept
