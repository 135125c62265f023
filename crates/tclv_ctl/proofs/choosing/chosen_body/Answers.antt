use Rattle.std.proofs.Common.{◌∙◌, ap, length, arith}
use Rattle.tclv_ctl.specs.Switching.{plan_manner}
use Rattle.tclv_reply.proofs.Laws.{keeps_trans}
use Rattle.tclv_ctl.proofs.ChoiceLemmas.{goes_on}
use Rattle.tclv_ctl.proofs.choosing.chosen_body.Goals as goal

pub loop-k-preserved : goal.loop-k-preserved
loop-k-preserved c =
    let s = c.args.store.now in
    let plan = c.args.plan.now in
    let v = c.loop-k.invariant in
    let all = c.as_slice-clauses.ensures.value in
    record {
      kept = keeps_trans s c.loop-k.store c.is_chosen.new.store v.kept c.in_ok-is_chosen.ensures.kept;
      came = v.came ∙ goes_on (plan_manner plan) plan.string c.loop-k.k s.stack c.loop-k.store.stack plan.clauses.items c.as_slice-clauses.result.now c.in_ok-is_chosen.field-0 c.in_ok-is_chosen.ensures.says v.kept.stack all (omega (arith, ap length all)) c.if-branch.false;
    }
