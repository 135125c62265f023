use Rattle.std.proofs.Common.{◌∙◌, ℕ, List, [], Bool, get_or, refl, sym, ap}
use Rattle.tclv_model.specs.Rows.{RowAnswer, and_then}
use Rattle.tclv_strings.specs.Classes.{strict_read, is_answer}
use Rattle.tclv_reply.proofs.Laws.{begun, read_on, leaves_on}
use Rattle.tclv_strings.proofs.classes.push_is_with.Goals as goal

pub returns : goal.returns
returns c =
    let s = c.args.store.now in
    let row : List (List ℕ) → Bool → RowAnswer = λ q b. is_answer b (get_or q c.args.class []) (get_or q c.args.at []) in
    let a = strict_read (get_or s.stack c.args.option []) in
    let r = read_on a (row s.stack) (begun (and_then a (row s.stack)) s) a refl c.in_ok-strict.ensures in
    let mid = c.read_strict.new.store.stack in
    let b = c.in_ok-strict.strict in
    leaves_on (row mid b) r.went (sym (ap (λ (q : List (List ℕ)). row q b) r.went.same ∙ ap (row s.stack) r.shown)) c.push_is.ensures
