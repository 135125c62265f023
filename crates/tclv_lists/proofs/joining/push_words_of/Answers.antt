use Rattle.std.proofs.Common.{List, ℕ, [], ◌∷◌, refl, sym, ap, ◌∙◌}
use Rattle.std.specs.Str.{chars}
use Rattle.tclv_text.specs.Quotes.{list_text}
use Rattle.tclv_model.specs.Rows.{RowAnswer, Gives}
use Rattle.tclv_lists.specs.Joining.{split_parts}
use Rattle.tclv_reply.proofs.Laws.{ascii_points, leaves_after, grows_kept}
use Rattle.tclv_lists.proofs.joining.push_words_of.Goals as goal

pub returns : goal.returns
returns c =
    let old = c.args.store.now in
    let mid = c.copy_word.new.store in
    let between = 32 ∷ 9 ∷ 10 ∷ 13 ∷ [] in
    let f : List ℕ → List ℕ → RowAnswer = λ s t. Gives (list_text (split_parts s t)) in
    let text = c.bytes.ensures.text ∙ c.in_ok-text.ensures.text in
    leaves_after _ _ old mid _ _ (grows_kept old mid c.copy_word.ensures.kept) (sym (ap (λ (s : List ℕ). f s (chars c.bytes.result.now)) (ascii_points between refl) ∙ ap (f between) text)) c.push_split_list.ensures
