use Rattle.std.proofs.Common.{◌∙◌, ℕ, List, [], Bool, get_or, sym, ap, ap₂, rules}
use Rattle.tclv_text.specs.Globs.{matches}
use Rattle.tclv_model.specs.Rows.{RowAnswer, Gives}
use Rattle.tclv_strings.specs.Comparing.{truth_digit}
use Rattle.tclv_reply.proofs.Laws.{kept_on, leaves_text, leaves_out_of_memory, grows_kept, keeps_trans}
use Rattle.tclv_strings.proofs.comparing.push_match.Goals as goal

pub returns : goal.returns
returns c =
    let old = c.args.store.now in
    let mid = c.make_two.new.store in
    let nocase = c.args.nocase in
    let f : List (List ℕ) → RowAnswer = λ q. Gives (truth_digit (matches nocase (get_or q c.args.pattern []) (get_or q c.args.text []))) in
    let fits = c.glob_match-fits.ensures ∙ ap₂ (matches nocase) c.word_at.ensures.text c.word_at-2.ensures.text in
    let answer : Bool → RowAnswer = λ b. Gives (truth_digit b) in
    leaves_text _ (kept_on (f old.stack) old mid c.in_ok-make_two.ensures.kept) (sym (ap answer fits ∙ ap f c.in_ok-make_two.ensures.kept.stack)) c.in_ok-push_truth.ensures.pushed

pub returns-in_err-push_truth : goal.returns-in_err-push_truth
returns-in_err-push_truth c =
    let old = c.args.store.now in
    let mid = c.make_two.new.store in
    let new = c.push_truth.new.store in
    leaves_out_of_memory _ old new c.from_residual-in_err-push_truth.result (search rules) (grows_kept old new (keeps_trans old mid new c.in_ok-make_two.ensures.kept c.in_err-push_truth.ensures.kept))
