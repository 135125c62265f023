use Rattle.std.proofs.Common.{rules, ◌∙◌, ℕ, List, [], get_or, sym, ap}
use Rattle.tclv_model.specs.Rows.{RowAnswer, Gives}
use Rattle.tclv_strings.specs.Folding.{in_case}
use Rattle.tclv_reply.proofs.Laws.{leaves_out_of_memory, grows_kept, keeps_trans, kept_on, leaves_text}
use Rattle.tclv_strings.proofs.folding.push_in_case.Goals as goal

pub returns : goal.returns
returns c =
    let old = c.args.store.now in
    let mid = c.make_word.new.store in
    let f : List ℕ → RowAnswer = λ t. Gives (in_case c.args.case t) in
    let answer : List ℕ → RowAnswer = λ t. Gives t in
    let at : List (List ℕ) → List ℕ = λ q. get_or q c.args.at [] in
    leaves_text _ (kept_on (f (at old.stack)) old mid c.in_ok-make_word.ensures.kept) (sym (ap answer (c.bytes.ensures.text ∙ c.in_ok-changed.ensures) ∙ ap (λ (q : List (List ℕ)). f (at q)) c.in_ok-make_word.ensures.kept.stack)) c.in_ok-push_bytes.ensures.pushed

pub returns-in_err-push_bytes : goal.returns-in_err-push_bytes
returns-in_err-push_bytes c =
    let old = c.args.store.now in
    let mid = c.make_word.new.store in
    let new = c.push_bytes.new.store in
    leaves_out_of_memory _ old new c.from_residual-in_err-push_bytes.result (search rules) (grows_kept old new (keeps_trans old mid new c.in_ok-make_word.ensures.kept c.in_err-push_bytes.ensures.kept))
