use Rattle.std.proofs.Common.{◌∙◌, ap, ℕ, List, [], get_or, arith}
use Rattle.std.specs.Str.{chars}
use Rattle.tclv_reply.proofs.Laws.{keeps_trans}
use Rattle.tclv_ctl.proofs.UsageLemmas.{words_more}
use Rattle.tclv_ctl.proofs.arguments.add_words.Goals as goal

pub loop-at-preserved : goal.loop-at-preserved
loop-at-preserved c =
    let s = c.args.store.now in
    let v = c.loop-at.invariant in
    let at = c.loop-at.at in
    record {
      kept = keeps_trans s c.loop-at.store c.copy_of.new.store v.kept c.in_ok-word.ensures.kept;
      added = words_more s.stack c.args.from at c.args.text.now c.loop-at.text c.add_spaced.new.text (chars c.bytes.result.now) (omega arith) (omega (arith, c.requires.within)) v.added c.in_ok-add_spaced.ensures (c.bytes.ensures.text ∙ c.in_ok-word.ensures.text ∙ ap (λ (q : List (List ℕ)). get_or q at []) v.kept.stack);
    }
