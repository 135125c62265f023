use Rattle.std.proofs.Common.{ℕ, List, [], length, get_or, ap, sym, subst, refl, ◌∙◌, arith}
use Rattle.std.specs.Prelude.{IsOk}
use Rattle.tclv_value.specs.declared.places.At.TheVariants.{Stack}
use Rattle.std.specs.Str.{chars}
use Rattle.tclv_text.specs.Elements.{elements}
use Rattle.tclv_model.specs.Rows.{RowAnswer, Gives}
use Rattle.tclv_model.specs.Values.{list_of}
use Rattle.tclv_lists.specs.Joining.{joined, joined_of}
use Rattle.tclv_reply.proofs.Laws.{begun, read_on, went_kept, leaves_text}
use Rattle.tclv_lists.proofs.JoinLemmas.{elements_given}
use Rattle.tclv_lists.proofs.joining.push_joined.Goals as goal

pub joined_text-requires-clause-list_made : goal.joined_text-requires-clause-list_made
joined_text-requires-clause-list_made c =
    let same = c.in_ok-make_word.ensures.kept.stack ∙ c.in_ok-list_len.ensures.kept in
    c.in_ok-make_word-2.ensures.kept.stays (Stack c.args.list) (omega (arith, ap length same, c.requires.list)) c.in_ok-make_word.ensures.made

pub joined_text-requires-clause-elements : goal.joined_text-requires-clause-elements
joined_text-requires-clause-elements c =
    let old = c.args.store.now in
    let l = get_or old.stack c.args.list [] in
    let s = get_or old.stack c.args.separator [] in
    let f : List (List ℕ) → RowAnswer = λ ts. Gives (joined s ts) in
    let r = read_on (list_of l) f (begun (joined_of l s) old) (list_of l) refl c.in_ok-list_len.ensures in
    let w = went_kept (went_kept r.went c.in_ok-make_word.ensures.kept) c.in_ok-make_word-2.ensures.kept in
    subst IsOk (sym (ap (λ (q : List (List ℕ)). elements (get_or q c.args.list [])) w.same ∙ elements_given (elements l) r.value r.given)) refl

pub returns : goal.returns
returns c =
    let old = c.args.store.now in
    let l = get_or old.stack c.args.list [] in
    let s = get_or old.stack c.args.separator [] in
    let f : List (List ℕ) → RowAnswer = λ ts. Gives (joined s ts) in
    let r = read_on (list_of l) f (begun (joined_of l s) old) (list_of l) refl c.in_ok-list_len.ensures in
    let w = went_kept (went_kept r.went c.in_ok-make_word.ensures.kept) c.in_ok-make_word-2.ensures.kept in
    let cur = c.make_word-2.new.store.stack in
    let read = elements_given (elements l) r.value r.given in
    let text = c.in_ok-text.ensures.text r.value (ap (λ (q : List (List ℕ)). elements (get_or q c.args.list [])) w.same ∙ read) ∙ ap (λ (q : List (List ℕ)). joined (get_or q c.args.separator []) r.value) w.same in
    leaves_text _ w (ap Gives (sym text) ∙ ap (λ (t : List ℕ). Gives (chars t)) (sym c.as_slice.ensures.value)) c.in_ok-push_bytes.ensures.pushed
