use Rattle.std.proofs.Common.{arith}
use Rattle.tclv_text.specs.Spans.{span_text}
use Rattle.tclv_reply.proofs.Laws.{grows_trans}
use Rattle.tclv_lists.proofs.RemoveLemmas.{kept_more}
use Rattle.tclv_lists.proofs.changing.push_kept.Goals as goal

pub loop-i-preserved : goal.loop-i-preserved
loop-i-preserved c =
    let s = c.args.store.now in
    let cur = c.loop-i.store in
    let new = c.push_unmarked.new.store in
    let v = c.loop-i.invariant in
    record {
      grows = grows_trans s cur new v.grows c.in_ok-push_unmarked.ensures.grows;
      pushed = λ ks m. kept_more (span_text c.args.text.now) c.args.spans.now s.stack cur.stack new.stack ks c.args.marks.now c.loop-i.i _ _ (omega arith) m (v.pushed ks m) c.in_ok-push_unmarked.ensures.pushed;
    }
