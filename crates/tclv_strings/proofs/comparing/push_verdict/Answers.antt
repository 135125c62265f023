use Rattle.std.proofs.Common.{ℕ, List, [], get_or, sym, ap}
use Rattle.tclv_model.specs.Rows.{RowAnswer, Gives}
use Rattle.tclv_strings.specs.Comparing.{verdict_on}
use Rattle.tclv_reply.proofs.Laws.{kept_on, leaves_text}
use Rattle.tclv_strings.proofs.comparing.push_verdict.Goals as goal

pub returns : goal.returns
returns c =
    let old = c.args.store.now in
    let mid = c.make_two.new.store in
    let f : List (List ℕ) → RowAnswer = λ q. Gives (verdict_on c.args.verdict c.args.x (get_or q c.args.one []) (get_or q c.args.other [])) in
    leaves_text _ (kept_on (f old.stack) old mid c.in_ok-make_two.ensures.kept) (sym (ap f c.in_ok-make_two.ensures.kept.stack)) c.in_ok-push_said.ensures.pushed
