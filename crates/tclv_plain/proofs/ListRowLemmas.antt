-- The row of `lassign`, by the count of its words.
use Rattle.std.proofs.Common.{◌≡◌, ℕ, ◌+◌, ◌-◌, ◌<◌, ◌≤◌, List, [], ◌∷◌, ◌++◌, length, min, take, drop, get_or, sym, ap, ◌∙◌, refl, arith, length-append}
use Rattle.std.proofs.Math.Seq.{take-append_seam}
use Rattle.tclv_text.specs.Quotes.{list_text}
use Rattle.std.proofs.lemmas.List.{drop_more}
use Rattle.tclv_model.specs.declared.usages.Usage.TheVariants as command
use Rattle.tclv_model.specs.Usages.{usage_of}
use Rattle.tclv_model.specs.Values.{list_of}
use Rattle.tclv_value.specs.Stacks.{top, under}
use Rattle.tclv_engine.specs.State.{Text, State}
use Rattle.tclv_engine.specs.Results.{bind}
use Rattle.tclv_engine.specs.DataAnswers.{of_answer}
use Rattle.tclv_plain.specs.ListRows.{assign_list, row_lassign}
use Rattle.tclv_engine.specs.Usages.{usage}
use Rattle.tclv_engine.proofs.WordLemmas.{top_length}
use Rattle.tclv_engine.proofs.StackLemmas.{top-stacked}
use Rattle.tclv_engine.proofs.ListLemmas.{drop_least}

lassign_one : {W : Type 0} → (words : List Text) (st : (State W)) → length words ≡ 1 → usage (usage_of command.Lassign) words st ≡ row_lassign words st
lassign_one [] st h = refl
lassign_one (a ∷ []) st h = refl
lassign_one (a ∷ b ∷ ws) st h = absurd (omega (arith, h))

pub lassign_refused : {W : Type 0} → (stack : List Text) (n : ℕ) (st : (State W)) → n ≡ 1 → n ≤ length stack → usage (usage_of command.Lassign) (top n stack) st ≡ row_lassign (top n stack) st
lassign_refused stack n st e l = lassign_one (top n stack) st (top_length stack n l ∙ e)

pub lassign_assigns : {W : Type 0} → (stack : List Text) (n base : ℕ) (st : (State W)) → 0 < n → (n ≡ 1 → ⊥) → n ≤ length stack → base ≡ length stack - n →
    bind (of_answer (list_of (get_or stack (base + 1) [])) st) (assign_list (drop (base + 1 + 1) stack)) ≡ row_lassign (top n stack) st
lassign_assigns stack n base st some one l b =
    let many : 2 ≤ n = omega (arith, some, one) in
    sym (ap (λ ws. row_lassign ws st)
    (ap (λ k. drop k stack) (sym b)
    ∙ drop_more stack base [] (omega (arith, b))
    ∙ ap (λ ws. get_or stack base [] ∷ ws) (drop_more stack (base + 1) [] (omega (arith, b)))))

-- the list of the elements that were pushed
pub rest_list : (s s1 s2 ts : List Text) (first from n len : ℕ) → s1 ≡ s ++ drop first ts → first ≡ min len from → len ≡ length ts → n ≡ length s1 - length s → s2 ≡ under n s1 ++ list_text (top n s1) ∷ [] → s2 ≡ s ++ list_text (drop from ts) ∷ []
rest_list s s1 s2 ts first from n len a m l e f =
    let least : first ≡ min from (length ts) = omega (arith, m, l) in
    let short : length s1 - n ≡ length s = omega (arith, e, ap length a, length-append s (drop first ts)) in
    let below : take (length s1 - n) s1 ≡ s = ap (λ k. take k s1) short ∙ ap (take (length s)) a ∙ take-append_seam s (drop first ts) in
    f ∙ ap (λ u. u ++ list_text (top n s1) ∷ []) below
    ∙ ap (λ u. s ++ list_text u ∷ []) (top-stacked s (drop first ts) s1 n a e ∙ ap (λ k. drop k ts) least ∙ drop_least ts from)
