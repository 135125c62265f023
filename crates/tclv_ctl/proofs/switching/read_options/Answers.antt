use Rattle.std.proofs.Common.{◌≡◌, ◌+◌, ◌-◌, ◌∙◌, ap, sym, ℕ, drop, length, arith}
use Rattle.tclv_model.specs.Rows.{Gives}
use Rattle.tclv_model.specs.declared.messages.MessageId.TheVariants.{BadOption}
use Rattle.tclv_ctl.specs.declared.switching.AskedPlaces.{AskedPlaces}
use Rattle.tclv_ctl.specs.declared.switching.Leading.TheVariants.{Compare, NoCase, EndOfOptions, Unknown}
use Rattle.tclv_ctl.specs.Switching.{options, manner_of}
use Rattle.tclv_reply.proofs.Laws.{grows_kept, grows_trans, keeps_trans}
use Rattle.tclv_ctl.proofs.SwitchLemmas.{came_to, options_end}
use Rattle.tclv_ctl.proofs.PlanLemmas.{asked_at, refused_at}
use Rattle.tclv_ctl.proofs.switching.read_options.Goals as goal
use Rattle.tclv_ctl.proofs.switching.read_options.Goals.{in-Compare, in-NoCase}

pub returns-in-EndOfOptions-clause-steps : goal.returns-in-EndOfOptions-clause-steps
returns-in-EndOfOptions-clause-steps c =
    let s = c.args.store.now in
    let v = c.loop-at.invariant in
    let m = manner_of c.loop-at.asked in
    asked_at _ s c.leading_at.new.store _ (keeps_trans s c.loop-at.store c.leading_at.new.store v.kept c.in_ok-matching.ensures.kept)
    (came_to s.stack c.loop-at.store.stack m c.args.first c.loop-at.at _ EndOfOptions v.came v.kept.stack c.in_ok-matching.ensures.says c.in-EndOfOptions.is (omega (arith, c.height-at-end.ensures))) (omega (arith, c.height-at-end.ensures))

pub returns-in-Unknown-clause-steps : goal.returns-in-Unknown-clause-steps
returns-in-Unknown-clause-steps c =
    let s = c.args.store.now in
    let v = c.loop-at.invariant in
    let m = manner_of c.loop-at.asked in
    record {
      grows = grows_trans s c.leading_at.new.store c.refuse_on.new.store (grows_kept s c.leading_at.new.store (keeps_trans s c.loop-at.store c.leading_at.new.store v.kept c.in_ok-matching.ensures.kept)) c.refuse_on.ensures.grows;
      gives = tt;
      refuses =
          refused_at _ BadOption s c.leading_at.new.store c.refuse_on.new.store c.loop-at.at c.refuse_on.result (keeps_trans s c.loop-at.store c.leading_at.new.store v.kept c.in_ok-matching.ensures.kept)
          (came_to s.stack c.loop-at.store.stack m c.args.first c.loop-at.at _ Unknown v.came v.kept.stack c.in_ok-matching.ensures.says c.in-Unknown.is (omega (arith, c.height-at-end.ensures))) c.refuse_on.ensures.tells;
    }

pub loop-at-preserved : goal.loop-at-preserved
loop-at-preserved c =
    let s = c.args.store.now in
    let v = c.loop-at.invariant in
    let m = manner_of c.loop-at.asked in
    let at = c.loop-at.at in
    let rest = drop (at + 1) s.stack in
    record {
      kept = keeps_trans s c.loop-at.store c.leading_at.new.store v.kept c.in_ok-matching.ensures.kept;
      came = elim c.match-branch-2.branch [
        | in-Compare w ↦ came_to s.stack c.loop-at.store.stack m c.args.first at _ (Compare w.in-Compare.matching) v.came v.kept.stack c.in_ok-matching.ensures.says w.in-Compare.is (omega (arith, c.height-at-end.ensures)) ∙ ap (λ (a : AskedPlaces). options (manner_of a) rest) (sym w.asked-is)
        | in-NoCase w ↦ came_to s.stack c.loop-at.store.stack m c.args.first at _ NoCase v.came v.kept.stack c.in_ok-matching.ensures.says w.in-NoCase.is (omega (arith, c.height-at-end.ensures)) ∙ ap (λ (a : AskedPlaces). options (manner_of a) rest) (sym w.asked-is)
      ];
    }

pub returns-clause-steps : goal.returns-clause-steps
returns-clause-steps c =
    let s = c.args.store.now in
    let v = c.loop-at.invariant in
    let m = manner_of c.loop-at.asked in
    let at = c.loop-at.at in
    let long : length c.loop-at.store.stack ≡ length s.stack = ap length v.kept.stack in
    let end : at + 2 ≡ length s.stack = omega (arith, c.height-at-end.ensures) in
    let here : at ≡ c.height.result - 2 = omega (arith, c.height.ensures, long) in
    asked_at _ s c.loop-at.store _ v.kept (v.came ∙ options_end m s.stack at end ∙ ap (λ (k : ℕ). Gives (m, drop k s.stack)) here) (omega (arith, c.height.ensures, long))
