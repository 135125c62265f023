use Rattle.std.proofs.Common.{◌∙◌, ℕ, List, [], Bool, get_or, refl, sym, ap, ap₂}
use Rattle.tclv_model.specs.Rows.{RowAnswer, Gives}
use Rattle.tclv_strings.specs.declared.classes.TextClass.{TextClass}
use Rattle.tclv_strings.specs.Classes.{class_read, counts_as, is_answer}
use Rattle.tclv_strings.specs.Comparing.{truth_digit}
use Rattle.tclv_reply.proofs.Laws.{begun, read_on, went_kept, leaves_text}
use Rattle.tclv_strings.proofs.classes.push_is.Goals as goal

pub returns : goal.returns
returns c =
    let s = c.args.store.now in
    let strict = c.args.strict in
    let w = get_or s.stack c.args.class [] in
    let t = get_or s.stack c.args.at [] in
    let g : TextClass → List ℕ → RowAnswer = λ k u. Gives (truth_digit (counts_as strict k u)) in
    let r = read_on (class_read w) (λ k. g k t) (begun (is_answer strict w t) s) (class_read w) refl c.in_ok-named.ensures in
    let went = went_kept r.went c.in_ok-make_word.ensures.kept in
    let answer : Bool → RowAnswer = λ b. Gives (truth_digit b) in
    leaves_text _ went (sym (ap answer c.in_ok-counts.ensures ∙ ap₂ g r.shown (ap (λ (q : List (List ℕ)). get_or q c.args.at []) went.same))) c.in_ok-push_truth.ensures.pushed
