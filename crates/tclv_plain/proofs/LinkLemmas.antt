-- The rows of `global` and `upvar`: names that are linked one by one, and the count of the words.
use Rattle.std.proofs.Common.{◌≡◌, ℕ, ◌+◌, ◌*◌, ◌-◌, ◌%◌, ◌<◌, ◌≤◌, Bool, true, false, List, [], ◌∷◌, length, drop, get_or, sym, ap, ◌∙◌, refl, arith, Result}
use Rattle.std.specs.Prelude.{◌==◌, nat_lt, if◌then◌else◌}
use Rattle.std.proofs.lemmas.List.{drop_more, drop_all}
use Rattle.std.proofs.lemmas.Bool.{cond-true, cond-false}
use Rattle.tclv_vars.specs.declared.places.Root.{Root}
use Rattle.tclv_model.specs.declared.usages.Usage.TheVariants as command
use Rattle.tclv_model.specs.Usages.{usage_of}
use Rattle.tclv_value.specs.Stacks.{top}
use Rattle.tclv_engine.specs.declared.endings.End.{End}
use Rattle.tclv_engine.specs.declared.machine.Machine.{Machine}
use Rattle.tclv_engine.specs.State.{Text, State, state_of}
use Rattle.tclv_engine.specs.Results.{Res, bind, done}
use Rattle.tclv_engine.specs.Answers.{Outer, AtWorld, Runs, start}
use Rattle.tclv_engine.specs.DataAnswers.{arguments}
use Rattle.tclv_engine.specs.Links.{link, link_global}
use Rattle.tclv_engine.specs.ListAssignment.{unseen}
use Rattle.tclv_engine.specs.Usages.{usage}
use Rattle.tclv_engine.proofs.Binds.{runs_as}
use Rattle.tclv_engine.proofs.DataLemmas.{arguments_are}
use Rattle.tclv_engine.proofs.WordLemmas.{top_length}
use Rattle.tclv_plain.specs.LinkRows.{link_globals, link_pairs, upvar_of, row_upvar}

-- ---- one by one

-- What a loop over names keeps: whatever the rest answers, the whole answers.
pub record Links {W : Type 0} (whole rest : State W → Res W (Unit {0})) (old now : Machine W) : Type 0 where
  pub stack : now.values.store.stack ≡ old.values.store.stack
  pub units_left : now.units ≡ old.units
  pub goes : (here : Outer) → AtWorld here (λ w. (r : Result (Unit {0}) End) (after : Machine W) →
      AtWorld here (λ v. Runs (rest (state_of now v)) unseen (start now v here.torn) r after here) →
      Runs (whole (state_of old w)) unseen (start old w here.torn) r after here)

pub links_begin : {W : Type 0} → (whole rest : State W → Res W (Unit {0})) (old : Machine W) → ((st : State W) → rest st ≡ whole st) → Links whole rest old old
links_begin whole rest old e = record {
  stack = refl;
  units_left = refl;
  goes = λ here w told r after k. runs_as (e (state_of old w)) (k w told);
}

-- the next name
pub global_step : {W : Type 0} → (stack now : List Text) (at : ℕ) (st : State W) → at < length stack → now ≡ stack →
    bind (link_global (get_or now at []) st) (λ u s1. link_globals (drop (at + 1) stack) s1) ≡ link_globals (drop at stack) st
unfolding link_globals
global_step stack now at st h e =
    ap (λ s. bind (link_global (get_or s at []) st) (λ u s1. link_globals (drop (at + 1) stack) s1)) e
    ∙ sym (ap (λ names. link_globals names st) (drop_more stack at [] h))

pub global_end : {W : Type 0} → (stack : List Text) (at : ℕ) (st : State W) → length stack ≤ at → done tt st ≡ link_globals (drop at stack) st
unfolding link_globals
global_end stack at st h = sym (ap (λ names. link_globals names st) (drop_all at stack h))

-- the next pair
two-more : (stack : List Text) (at : ℕ) → at + 1 < length stack → drop at stack ≡ get_or stack at [] ∷ get_or stack (at + 1) [] ∷ drop (at + 2) stack
two-more stack at h =
    let next : at + 1 + 1 ≡ at + 2 = omega arith in
    drop_more stack at [] (omega (arith, h))
    ∙ ap (λ ws. get_or stack at [] ∷ ws) (drop_more stack (at + 1) [] h)
    ∙ ap (λ k. get_or stack at [] ∷ get_or stack (at + 1) [] ∷ drop k stack) next

pub pair_step : {W : Type 0} → (from : Root) (stack now : List Text) (first i : ℕ) (st : State W) → first + 2 * i + 1 < length stack → now ≡ stack →
    bind (link from (get_or now (first + 2 * i) []) (get_or now (first + 2 * i + 1) []) st) (λ u s1. link_pairs from (drop (first + 2 * (i + 1)) stack) s1) ≡ link_pairs from (drop (first + 2 * i) stack) st
unfolding link_pairs
pair_step from stack now first i st h e =
    let next : first + 2 * (i + 1) ≡ first + 2 * i + 2 = omega arith in
    ap (λ s. bind (link from (get_or s (first + 2 * i) []) (get_or s (first + 2 * i + 1) []) st) (λ u s1. link_pairs from (drop (first + 2 * (i + 1)) stack) s1)) e
    ∙ ap (λ k. bind (link from (get_or stack (first + 2 * i) []) (get_or stack (first + 2 * i + 1) []) st) (λ u s1. link_pairs from (drop k stack) s1)) next
    ∙ sym (ap (λ words. link_pairs from words st) (two-more stack (first + 2 * i) h))

no-pair : {W : Type 0} → (from : Root) (words : List Text) (st : State W) → length words ≤ 1 → done tt st ≡ link_pairs from words st
unfolding link_pairs
no-pair from [] st h = refl
no-pair from (a ∷ []) st h = refl
no-pair from (a ∷ b ∷ ws) st h = absurd (omega (arith, h))

pub pair_end : {W : Type 0} → (from : Root) (words : List Text) (st : State W) → length words ≤ 1 → done tt st ≡ link_pairs from words st
pair_end from words st h = no-pair from words st h

-- ---- by the count of the words

args-length : (stack : List Text) (n : ℕ) → 0 < n → n ≤ length stack → length (arguments (top n stack)) ≡ n - 1
args-length stack n some l = sym (ap length (arguments_are stack n some l)) ∙ top_length stack (n - 1) (omega (arith, l))

few : (n m : ℕ) (b : Bool) → n ≡ m → nat_lt n 2 ≡ b → nat_lt m 2 ≡ b
few n m b e h = sym (ap (λ k. nat_lt k 2) e) ∙ h

module _ {W : Type 0} (stack : List Text) (n : ℕ) (st : State W) (some : 0 < n) (l : n ≤ length stack) where
  pub upvar_refused : nat_lt (n - 1) 2 ≡ true → usage (usage_of command.Upvar) (top n stack) st ≡ row_upvar (top n stack) st
  upvar_refused h = sym (cond-true _ _ _ (few (n - 1) _ true (sym (args-length stack n some l)) h))

  pub upvar_links : nat_lt (n - 1) 2 ≡ false → upvar_of (top (n - 1) stack) st ≡ row_upvar (top n stack) st
  upvar_links h =
      ap (λ args. upvar_of args st) (arguments_are stack n some l)
      ∙ sym (cond-false _ _ _ (few (n - 1) _ false (sym (args-length stack n some l)) h))
