-- The words of `if`, by their places on the stack.
use Rattle.std.proofs.Common.{◌≡◌, ◌≤◌, ◌<◌, ◌+◌, ◌-◌, ℕ, zero, suc, List, [], ◌∷◌, ◌++◌, length, drop, get_or, map, arith, sym, ap, ◌∙◌, refl, subst, true, false, if◌then◌else◌}
use Rattle.std.specs.Prelude.{codes}
use Rattle.std.specs.Str.{bytes_eq}
use Rattle.std.proofs.lemmas.List.{at_drop_all, drop_more, append_assoc, append-nil, map-append}
use Rattle.tclv_value.specs.Stacks.{top}
use Rattle.tclv_model.specs.declared.messages.MessageId.TheVariants as message
use Rattle.std.specs.List.{All}
use Rattle.tclv_engine.specs.declared.machine.Machine.{Machine}
use Rattle.tclv_engine.specs.declared.plans.Branch.{Branch}
use Rattle.tclv_engine.specs.declared.plans.Branches.{Branches}
use Rattle.tclv_engine.specs.declared.plans.Way.{Way}
use Rattle.tclv_engine.specs.State.{Text, State}
use Rattle.tclv_engine.specs.Results.{done}
use Rattle.tclv_engine.specs.Names.{bytes_of}
use Rattle.tclv_engine.specs.Usages.{call_word}
use Rattle.tclv_engine.specs.Answers.{SameState}
use Rattle.tclv_engine.specs.Plans.{Script, Refused, Nothing, Alternative, Wanted, BranchInside, placed, lead_of, alternative_of}
use Rattle.tclv_engine.proofs.WordLemmas.{top_length}
use Rattle.tclv_control.specs.declared.if_plans.Behind.{Behind}
use Rattle.tclv_control.specs.declared.if_plans.Behind.TheVariants as behind
use Rattle.tclv_control.specs.IfRows.{begins, Sought, Body, Missing, first_body, body_behind, last_body, bare_body, else_body, last_lead, Clauses, only, leads, preceded, behind_body, behind_test, clause, clauses, choice, wanted_if}
use Rattle.tclv_control.specs.IfSteps.{clauses_of, with_left, IsRead}

-- ---- the words behind a place

head_drop : (stack : List Text) (i : ℕ) → call_word (drop i stack) ≡ placed stack i
head_drop [] zero = refl
head_drop [] (suc i) = refl
head_drop (x ∷ xs) zero = refl
head_drop (x ∷ xs) (suc i) = head_drop xs i

tail_drop : (stack : List Text) (i : ℕ) → drop 1 (drop i stack) ≡ drop (i + 1) stack
tail_drop [] zero = refl
tail_drop [] (suc i) = let e : suc i + 1 ≡ suc (i + 1) = omega arith in sym (ap (λ k. drop {A = Text} k []) e)
tail_drop (x ∷ xs) zero = refl
tail_drop (x ∷ xs) (suc i) = let e : suc i + 1 ≡ suc (i + 1) = omega arith in tail_drop xs i ∙ sym (ap (λ k. drop k (x ∷ xs)) e)

pub begins_some : (word : List ℕ) (stack : List Text) (at : ℕ) → at < length stack → bytes_eq (bytes_of (get_or stack at [])) word ≡ begins word (drop at stack)
begins_some word stack at h = sym (ap (begins word) (drop_more stack at [] h))

-- what is asked of the words behind a place, by the first of them and those behind it
split_drop : {A : Type 0} (f : Text → List Text → A) (stack : List Text) (at : ℕ) → f (call_word (drop at stack)) (drop 1 (drop at stack)) ≡ f (placed stack at) (drop (at + 1) stack)
split_drop f stack at = ap (λ x. f x (drop 1 (drop at stack))) (head_drop stack at) ∙ ap (f (placed stack at)) (tail_drop stack at)

-- ---- bodies

module _ (stack : List Text) (at : ℕ) where
  pub first_none : (word : Text) → length stack ≤ at → Missing word ≡ first_body word (drop at stack)
  first_none word h = sym (at_drop_all (first_body word) stack at h)

  pub first_some : (word : Text) → at < length stack → Body (placed stack at) (drop (at + 1) stack) ≡ first_body word (drop at stack)
  first_some word h = sym (ap (first_body word) (drop_more stack at [] h))

  pub behind_then : (test : Text) → begins (codes "then") (drop at stack) ≡ true → first_body (placed stack at) (drop (at + 1) stack) ≡ body_behind test (drop at stack)
  behind_then test h = sym (ap (λ b. if b then first_body (call_word (drop at stack)) (drop 1 (drop at stack)) else first_body test (drop at stack)) h ∙ split_drop first_body stack at)

  pub behind_bare : (test : Text) → begins (codes "then") (drop at stack) ≡ false → first_body test (drop at stack) ≡ body_behind test (drop at stack)
  behind_bare test h = sym (ap (λ b. if b then first_body (call_word (drop at stack)) (drop 1 (drop at stack)) else first_body test (drop at stack)) h)

  pub last_extra : (body : Text) → at < length stack → Refused message.ExtraWordsAfterElse [] ≡ last_body body (drop at stack)
  last_extra body h = sym (ap (last_body body) (drop_more stack at [] h))

  pub last_none : (body : Text) → length stack ≤ at → Script body ≡ last_body body (drop at stack)
  last_none body h = sym (at_drop_all (last_body body) stack at h)

  pub bare_none : length stack ≤ at → Nothing ≡ bare_body (drop at stack)
  bare_none h = sym (at_drop_all bare_body stack at h)

  pub bare_some : at < length stack → last_body (placed stack at) (drop (at + 1) stack) ≡ bare_body (drop at stack)
  bare_some h = sym (ap bare_body (drop_more stack at [] h))

  pub last_else : begins (codes "else") (drop at stack) ≡ true → else_body (first_body (placed stack at) (drop (at + 1) stack)) ≡ last_lead (drop at stack)
  last_else h =
      sym (ap (λ b. if b then else_body (first_body (call_word (drop at stack)) (drop 1 (drop at stack))) else bare_body (drop at stack)) h ∙ split_drop (λ word words. else_body (first_body word words)) stack at)

  pub last_bare : begins (codes "else") (drop at stack) ≡ false → bare_body (drop at stack) ≡ last_lead (drop at stack)
  last_bare h = sym (ap (λ b. if b then else_body (first_body (call_word (drop at stack)) (drop 1 (drop at stack))) else bare_body (drop at stack)) h)

  -- ---- clauses

  pub behind_another : (next : Text → List Text → Clauses) → begins (codes "elseif") (drop at stack) ≡ true → next (placed stack at) (drop (at + 1) stack) ≡ behind_body next (drop at stack)
  behind_another next h = sym (ap (λ b. if b then next (call_word (drop at stack)) (drop 1 (drop at stack)) else only (last_lead (drop at stack))) h ∙ split_drop next stack at)

  pub behind_last : (next : Text → List Text → Clauses) → begins (codes "elseif") (drop at stack) ≡ false → only (last_lead (drop at stack)) ≡ behind_body next (drop at stack)
  behind_last next h = sym (ap (λ b. if b then next (call_word (drop at stack)) (drop 1 (drop at stack)) else only (last_lead (drop at stack))) h)

  pub clause_none : (next : Text → List Text → Clauses) (word : Text) → length stack ≤ at → only (Refused message.NoExpressionAfter word) ≡ clause next word (drop at stack)
  clause_none next word h = sym (at_drop_all (clause next word) stack at h)

  pub clause_some : (next : Text → List Text → Clauses) (word : Text) → at < length stack →
      behind_test next (placed stack at) (body_behind (placed stack at) (drop (at + 1) stack)) ≡ clause next word (drop at stack)
  clause_some next word h = sym (ap (clause next word) (drop_more stack at [] h))

clauses-open : (n : ℕ) (word : Text) (words : List Text) → clauses (suc n) word words ≡ clause (clauses n) word words
unfolding clauses
clauses-open n word words = refl

clauses-end : (word : Text) (words : List Text) → clauses 0 word words ≡ only Nothing
unfolding clauses
clauses-end word words = refl

preceded-more : (xs ys : List Alternative) (c : Clauses) → preceded xs (preceded ys c) ≡ preceded (xs ++ ys) c
preceded-more xs ys c = ap (λ all. record { alternatives = all; last = c.last }) (sym (append_assoc xs ys c.alternatives))

-- the clause behind a word has no test
pub read_none : (stack : List Text) (items : List Branch) (n word : ℕ) → length stack ≤ word + 1 →
    with_left (suc n) stack items (behind.Another word) ≡ preceded (map (alternative_of stack) items) (only (Refused message.NoExpressionAfter (placed stack word)))
read_none stack items n word h = ap (preceded (map (alternative_of stack) items)) (clauses-open n (placed stack word) (drop (word + 1) stack) ∙ sym (clause_none stack (word + 1) (clauses n) (placed stack word) h))

-- The clause behind a word has a test, which is added with what it leads to.
pub read_some : (stack : List Text) (before items : List Branch) (b : Branch) (n word : ℕ) (found : Sought) (left : Clauses) → word + 1 < length stack → b.test ≡ word + 1 → items ≡ before ++ b ∷ [] →
    found ≡ body_behind (placed stack b.test) (drop (b.test + 1) stack) →
    preceded (leads (placed stack b.test) (lead_of stack b.way) ∷ []) left ≡ behind_test (clauses n) (placed stack b.test) found →
    with_left (suc n) stack before (behind.Another word) ≡ preceded (map (alternative_of stack) items) left
read_some stack before items b n word found left h t i f e =
    ap (preceded (map (alternative_of stack) before))
    (clauses-open n (placed stack word) (drop (word + 1) stack)
    ∙ sym (clause_some stack (word + 1) (clauses n) (placed stack word) h)
    ∙ ap (λ k. behind_test (clauses n) (placed stack k) (body_behind (placed stack k) (drop (k + 1) stack))) (sym t)
    ∙ ap (behind_test (clauses n) (placed stack b.test)) (sym f) ∙ sym e)
    ∙ preceded-more (map (alternative_of stack) before) (alternative_of stack b ∷ []) left
    ∙ ap (λ all. preceded all left) (sym (ap (map (alternative_of stack)) i ∙ map-append (alternative_of stack) before (b ∷ [])))

-- ---- all clauses

-- where nothing is left
pub read_last : (stack : List Text) (branches : Branches) (n : ℕ) → clauses_of stack branches ≡ with_left n stack branches.items.items (behind.Last branches.last)
read_last stack branches n = ap (λ all. record { alternatives = all; last = lead_of stack branches.last }) (sym (append-nil (map (alternative_of stack) branches.items.items)))

-- no more clauses are left than words
pub read_end : (stack : List Text) (items : List Branch) (n word : ℕ) (way : Way) → n ≡ 0 → lead_of stack way ≡ Nothing → with_left n stack items (behind.Another word) ≡ with_left n stack items (behind.Last way)
read_end stack items n word way z e =
    ap (preceded (map (alternative_of stack) items)) (ap (λ k. clauses k (placed stack word) (drop (word + 1) stack)) z ∙ clauses-end (placed stack word) (drop (word + 1) stack) ∙ ap only (sym e))

-- the words of a call
pub if_words : {W : Type 0} → (K : Type 0) (stack : List Text) (n at : ℕ) (st : (State W)) → n ≤ length stack → at ≡ length stack - n →
    done {A = Wanted K} (choice (clauses (length stack - at) (placed stack at) (drop (at + 1) stack))) st ≡ wanted_if (top n stack) st
if_words K stack n at st l e =
    let count : length stack - at ≡ length (top n stack) = omega (arith, l, e, top_length stack n l) in
    ap (λ k. done (choice (clauses k (placed stack at) (drop (at + 1) stack))) st) count
    ∙ ap (λ i. done (choice (clauses (length (top n stack)) (placed stack i) (drop (i + 1) stack))) st) e
    ∙ sym (split_drop (λ word words. done (choice (clauses (length (top n stack)) word words)) st) stack (length stack - n))

-- ---- in the loop

-- What the loop over clauses keeps: the clauses that were read are the first of all, and the others stand behind a word that is there.
pub record Reading {W : Type 0} (old now : (Machine W)) (first turn word : ℕ) (items : List Branch) : Type 0 where
  pub stack : now.values.store.stack ≡ old.values.store.stack
  pub same : SameState old now
  pub inside : All (BranchInside old.values.store.stack) items
  pub word_in : word < length old.values.store.stack
  pub whole :
      clauses (length old.values.store.stack - first) (placed old.values.store.stack first) (drop (first + 1) old.values.store.stack)
      ≡ with_left (length old.values.store.stack - turn) old.values.store.stack items (behind.Another word)

pub reading_begin : {W : Type 0} → (old : (Machine W)) (first word : ℕ) (items : List Branch) → first < length old.values.store.stack → word ≡ first → items ≡ [] → Reading old old first first word items
reading_begin old first word items h e n =
    let stack = old.values.store.stack in
    let P : List Branch → Type 0 = λ xs. Reading old old first first word xs in
    subst P (sym n)
    (record {
      stack = refl;
      same = record { variables = record { vars = refl; cells = refl }; own = refl; units = refl; depth = refl; events = refl };
      inside = λ k d l. absurd (omega (arith, l));
      word_in = omega (arith, h, e);
      whole = ap (λ i. with_left (length stack - first) stack [] (behind.Another i)) (sym e);
    })

-- what was read before one clause more, and what behind it
pub reading_on : (stack : List Text) (first turn word : ℕ) (before items : List Branch) (b : Behind) → turn < length stack → IsRead stack word before items b →
    clauses (length stack - first) (placed stack first) (drop (first + 1) stack) ≡ with_left (length stack - turn) stack before (behind.Another word) →
    clauses (length stack - first) (placed stack first) (drop (first + 1) stack) ≡ with_left (length stack - (turn + 1)) stack items b
reading_on stack first turn word before items b h read e =
    let one : length stack - turn ≡ suc (length stack - (turn + 1)) = omega (arith, h) in
    e ∙ ap (λ n. with_left n stack before (behind.Another word)) one ∙ read (length stack - (turn + 1))
