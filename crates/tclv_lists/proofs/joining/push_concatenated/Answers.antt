use Rattle.std.proofs.Common.{◌∙◌, refl, sym, ap, arith}
use Rattle.std.proofs.lemmas.Str.{chars-nil}
use Rattle.std.specs.Str.{chars}
use Rattle.tclv_lists.specs.Joining.{concatenated}
use Rattle.tclv_reply.proofs.Laws.{keeps_trans, grows_step}
use Rattle.tclv_lists.proofs.JoinLemmas.{no_words_yet, one_more_word}
use Rattle.tclv_lists.proofs.joining.push_concatenated.Goals as goal

pub loop-at-init : goal.loop-at-init
loop-at-init c = record {
  kept = record { stack = refl; cells = refl; stays = λ place there made. made };
  text = c.new-text.ensures ∙ ap chars c.new.ensures.items ∙ chars-nil ∙ ap concatenated (sym (no_words_yet c.args.store.now.stack c.args.from));
}

pub loop-at-preserved : goal.loop-at-preserved
loop-at-preserved c =
    let s = c.args.store.now in
    let k = c.loop-at.invariant.kept in
    record {
      kept = keeps_trans s c.loop-at.store c.add_trimmed.new.store k c.in_ok-add_trimmed.ensures.kept;
      text = one_more_word s.stack c.loop-at.store.stack c.loop-at.text c.add_trimmed.new.text c.args.from c.loop-at.at concatenated k.stack (omega arith) (omega arith) c.loop-at.invariant.text c.in_ok-add_trimmed.ensures.added;
    }

pub returns-clause-grows : goal.returns-clause-grows
returns-clause-grows c = grows_step c.push_bytes.result c.args.store.now c.loop-at.store c.push_bytes.new.store _ c.loop-at.invariant.kept c.push_bytes.ensures.pushed c.push_bytes.ensures.kept
