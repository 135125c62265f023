use Rattle.std.proofs.Common.{◌∙◌, ℕ, List, [], Bool, get_or, refl, sym, ap}
use Rattle.tclv_text.specs.Globs.{matches}
use Rattle.tclv_model.specs.Rows.{RowAnswer, Gives, and_then}
use Rattle.tclv_strings.specs.Comparing.{truth_digit, nocase_read}
use Rattle.tclv_reply.proofs.Laws.{begun, read_on, leaves_on}
use Rattle.tclv_strings.proofs.comparing.push_match_with.Goals as goal

pub returns : goal.returns
returns c =
    let s = c.args.store.now in
    let o = c.args.option in
    let row : List (List ℕ) → Bool → RowAnswer = λ q b. Gives (truth_digit (matches b (get_or q c.args.pattern []) (get_or q c.args.text []))) in
    let a = nocase_read (get_or s.stack o []) in
    let r = read_on a (row s.stack) (begun (and_then a (row s.stack)) s) a refl c.in_ok-nocase.ensures in
    let mid = c.read_nocase.new.store.stack in
    let b = c.in_ok-nocase.nocase in
    leaves_on (row mid b) r.went (sym (ap (λ (q : List (List ℕ)). row q b) r.went.same ∙ ap (row s.stack) r.shown)) c.push_match.ensures
