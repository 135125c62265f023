use Rattle.std.proofs.Common.{rules, ◌∙◌, ℕ, List, [], get_or, sym, ap, ap₂}
use Rattle.std.specs.Prelude.{Some}
use Rattle.tclv_model.specs.Rows.{RowAnswer, Gives}
use Rattle.tclv_strings.specs.Trimming.{trimmed_at}
use Rattle.tclv_reply.proofs.Laws.{leaves_out_of_memory, grows_kept, keeps_trans, kept_on, went_kept, leaves_text}
use Rattle.tclv_strings.proofs.trimming.push_trimmed_of.Goals as goal

pub returns : goal.returns
returns c =
    let old = c.args.store.now in
    let mid = c.copy_of.new.store in
    let f : List ℕ → List ℕ → RowAnswer = λ cs t. Gives (trimmed_at c.args.ends (Some cs) t) in
    let answer : List ℕ → RowAnswer = λ t. Gives t in
    let text = c.bytes.ensures.text ∙ c.in_ok-text.ensures.text in
    let set = c.bytes-2.ensures.text ∙ c.in_ok-characters.ensures.text ∙ ap (λ (q : List (List ℕ)). get_or q c.args.set []) c.in_ok-text.ensures.kept.stack in
    let w = went_kept (kept_on (f (get_or old.stack c.args.set []) (get_or old.stack c.args.at [])) old mid c.in_ok-text.ensures.kept) c.in_ok-characters.ensures.kept in
    leaves_text _ w (sym (ap answer c.trimmed_at.ensures.text ∙ ap₂ f set text)) c.in_ok-push_bytes.ensures.pushed

pub returns-in_err-characters : goal.returns-in_err-characters
returns-in_err-characters c =
    let old = c.args.store.now in
    let mid = c.copy_of.new.store in
    let new = c.copy_of-2.new.store in
    leaves_out_of_memory _ old new c.from_residual-in_err-characters.result (search rules) (grows_kept old new (keeps_trans old mid new c.in_ok-text.ensures.kept c.in_err-characters.ensures.kept))

pub returns-in_err-push_bytes : goal.returns-in_err-push_bytes
returns-in_err-push_bytes c =
    let old = c.args.store.now in
    let mid = c.copy_of.new.store in
    let next = c.copy_of-2.new.store in
    let new = c.push_bytes.new.store in
    let kept = keeps_trans old mid next c.in_ok-text.ensures.kept c.in_ok-characters.ensures.kept in
    leaves_out_of_memory _ old new c.from_residual-in_err-push_bytes.result (search rules) (grows_kept old new (keeps_trans old next new kept c.in_err-push_bytes.ensures.kept))
