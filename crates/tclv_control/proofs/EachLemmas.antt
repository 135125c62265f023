-- The rows of `foreach` and `lmap`, by the count of their words.
use Rattle.std.proofs.Common.{◌≡◌, ℕ, ◌+◌, ◌-◌, ◌<◌, ◌≤◌, Bool, true, false, if◌then◌else◌, List, [], length, take, drop, get_or, sym, subst, ap, ◌∙◌, arith, length-take}
use Rattle.std.proofs.lemmas.List.{drop-drop, drop-take, get_or-drop}
use Rattle.tclv_model.specs.declared.messages.MessageId.{MessageId}
use Rattle.tclv_model.specs.declared.usages.Usage.{Usage}
use Rattle.tclv_model.specs.Usages.{usage_of}
use Rattle.tclv_value.specs.Stacks.{top, under}
use Rattle.tclv_engine.specs.State.{Text, State}
use Rattle.tclv_engine.specs.Usages.{usage}
use Rattle.tclv_engine.specs.Plans.{Wanted, placed}
use Rattle.tclv_engine.specs.Answers.{Keeps, last_of}
use Rattle.tclv_engine.proofs.WordLemmas.{top_length}
use Rattle.tclv_control.specs.EachRows.{is_paired, pairs_of, each, wanted_each}

-- the words of the pairs, by their places
pub pairs_placed : (stack : List Text) (n from to : ℕ) → n ≤ length stack → 1 < n → from ≡ length stack - n + 1 → to ≡ length stack - 1 → take (to - from) (drop from stack) ≡ pairs_of (top n stack)
pairs_placed stack n from to l two f t =
    let len = top_length stack n l in
    let start : drop from stack ≡ drop 1 (top n stack) = sym (drop-drop 1 (length stack - n) stack ∙ ap (λ i. drop i stack) (omega (arith, f))) in
    let count : length (top n stack) - 1 ≡ 1 + (to - from) = omega (arith, f, t, len, l, two) in
    ap (take (to - from)) start ∙ sym (ap (λ k. drop 1 (take k (top n stack))) count ∙ drop-take 1 (to - from) (top n stack))

-- the word of the body, by its place
pub body_placed : (stack now : List Text) (n at : ℕ) → n ≤ length stack → 0 < n → at ≡ length stack - 1 → now ≡ stack → last_of (top n stack) ≡ placed now at
body_placed stack now n at l some e k =
    let len = top_length stack n l in
    get_or-drop (length stack - n) stack (length (top n stack) - 1) [] ∙ ap (λ i. get_or stack i []) (omega (arith, e, len, l, some)) ∙ ap (λ s. get_or s at []) (sym k)

-- a stack that stands as it was keeps what is below its words
pub keeps_lowest : (stack now : List Text) (n : ℕ) → now ≡ stack → Keeps (under n stack) now
keeps_lowest stack now n e =
    let len : length (under n stack) ≡ length stack - n = omega (arith, length-take (length stack - n) stack) in
    subst (λ s. Keeps (under n stack) s) (sym e) (record { kept = ap (λ k. take k stack) len; some = omega (arith, len) })

-- words that are pairs and a body, and others
module _ {W : Type 0} (K : Type 0) (form : Usage) (empty : MessageId) (keep : Bool) (stack : List Text) (n : ℕ) (st : (State W)) (l : n ≤ length stack) where
  pub words_paired : is_paired n ≡ true → each {K = K} empty keep (top n stack) st ≡ wanted_each form empty keep (top n stack) st
  words_paired h = sym (ap (λ b. if b then each empty keep (top n stack) st else usage (usage_of form) (top n stack) st) (ap is_paired (top_length stack n l) ∙ h))

  pub words_unpaired : is_paired n ≡ false → usage {A = Wanted K} (usage_of form) (top n stack) st ≡ wanted_each form empty keep (top n stack) st
  words_unpaired h = sym (ap (λ b. if b then each empty keep (top n stack) st else usage (usage_of form) (top n stack) st) (ap is_paired (top_length stack n l) ∙ h))
