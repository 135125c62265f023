use Rattle.std.proofs.Common.{rules, ◌∙◌, ℕ, List, [], get_or, sym, ap}
use Rattle.std.specs.Prelude.{None}
use Rattle.tclv_model.specs.Rows.{RowAnswer, Gives}
use Rattle.tclv_strings.specs.Trimming.{trimmed_at}
use Rattle.tclv_reply.proofs.Laws.{leaves_out_of_memory, grows_kept, keeps_trans, kept_on, leaves_text}
use Rattle.tclv_strings.proofs.trimming.push_trimmed.Goals as goal

pub returns : goal.returns
returns c =
    let old = c.args.store.now in
    let mid = c.copy_of.new.store in
    let f : List ℕ → RowAnswer = λ t. Gives (trimmed_at c.args.ends None t) in
    let answer : List ℕ → RowAnswer = λ t. Gives t in
    let text = c.bytes.ensures.text ∙ c.in_ok-text.ensures.text in
    leaves_text _ (kept_on (f (get_or old.stack c.args.at [])) old mid c.in_ok-text.ensures.kept) (sym (ap answer c.trimmed_at.ensures.text ∙ ap f text)) c.in_ok-push_bytes.ensures.pushed

pub returns-in_err-push_bytes : goal.returns-in_err-push_bytes
returns-in_err-push_bytes c =
    let old = c.args.store.now in
    let mid = c.copy_of.new.store in
    let new = c.push_bytes.new.store in
    leaves_out_of_memory _ old new c.from_residual-in_err-push_bytes.result (search rules) (grows_kept old new (keeps_trans old mid new c.in_ok-text.ensures.kept c.in_err-push_bytes.ensures.kept))
