-- What `array` does with what its words name.
use Rattle.std.proofs.Common.{◌≡◌, ℕ, ◌+◌, ◌*◌, ◌-◌, ◌<◌, ◌≤◌, ◌++◌, true, false, List, [], ◌∷◌, length, take, drop, get_or, sym, ap, ◌∙◌, refl, subst, arith, Option, Some, None, Result, Ok, Err}
use Rattle.std.specs.Result.{result_unwrap_or}
use Rattle.std.proofs.lemmas.List.{append_assoc, drop_more, drop_all, length-append}
use Rattle.std.proofs.Math.Seq.{take-append_seam}
use Rattle.std.proofs.lemmas.Bool.{cond-true, cond-false}
use Rattle.tclv_vars.specs.declared.faults.VarFault.{VarFault}
use Rattle.tclv_vars.specs.declared.faults.VarFault.TheVariants as fault
use Rattle.tclv_vars.specs.Table.{Refuses}
use Rattle.tclv_io.specs.World.{World}
use Rattle.tclv_reply.specs.Names.{naming, element_of}
use Rattle.tclv_engine.specs.Names.{bytes_of}
use Rattle.tclv_engine.specs.declared.endings.End.{End}
use Rattle.tclv_engine.specs.declared.machine.Machine.{Machine}
use Rattle.tclv_engine.specs.Answers.{Outer, AtWorld, Runs, Above, Keeps, Over, PushesOne, PushesWords, last_of, start, stacked}
use Rattle.tclv_engine.specs.Holdings.{Holdings, SameVariables}
use Rattle.tclv_engine.specs.declared.endings.End.TheVariants as end
use Rattle.tclv_engine.specs.State.{Text, State, state_of, variables_in}
use Rattle.tclv_engine.specs.Results.{Res, bind, done}
use Rattle.tclv_engine.specs.Variables.{is_unbuilt, not_built}
use Rattle.tclv_model.specs.declared.usages.Usage.TheVariants as command
use Rattle.tclv_model.specs.Usages.{usage_of}
use Rattle.tclv_value.specs.Stacks.{top}
use Rattle.tclv_engine.specs.Usages.{usage}
use Rattle.tclv_engine.proofs.Binds.{runs_as}
use Rattle.tclv_engine.proofs.StackLemmas.{keeps_all, drop-base, over-one, take-under, under-push}
use Rattle.tclv_engine.proofs.WordLemmas.{top_length}
use Rattle.tclv_plain.specs.declared.array_commands.ArrayCommand.{ArrayCommand}
use Rattle.tclv_plain.specs.Subcommands.{no_subcommand}
use Rattle.tclv_plain.specs.UnsetRows.{cleared}
use Rattle.tclv_plain.specs.ArrayRows.{indices_of, fitting, on_array, settable_by, pair, collect, without_elements, assign_element, assign_pairs, array_command, array_row, array_by, row_array}
use Rattle.tclv_plain.proofs.SubcommandLemmas.{two_first}

-- ---- what a name names

module _ {W A : Type 0} (bs : List ℕ) (name : Text) (next : Result (List Text) VarFault → State W → Res W A) (st : State W) (e : bs ≡ bytes_of name) where
  pub array-unbuilt : is_unbuilt bs ≡ true → not_built st ≡ on_array name next st
  array-unbuilt h = let t : is_unbuilt (bytes_of name) ≡ true = sym (ap is_unbuilt e) ∙ h in sym (cond-true _ _ _ t)

  pub array-built : is_unbuilt bs ≡ false → next (indices_of (variables_in st) (naming bs)) st ≡ on_array name next st
  array-built h =
      let t : is_unbuilt (bytes_of name) ≡ false = sym (ap is_unbuilt e) ∙ h in
      ap (λ b. next (indices_of (variables_in st) (naming b)) st) e ∙ sym (cond-false _ _ _ t)

-- ---- subcommands

array_alone : {W : Type 0} → (words : List Text) (st : State W) → length words ≡ 1 → usage (usage_of command.Array) words st ≡ row_array words st
array_alone [] st h = refl
array_alone (a ∷ []) st h = refl
array_alone (a ∷ b ∷ ws) st h = absurd (omega (arith, h))

pub array_refused : {W : Type 0} → (stack : List Text) (n : ℕ) (st : State W) → n ≡ 1 → n ≤ length stack → usage (usage_of command.Array) (top n stack) st ≡ row_array (top n stack) st
array_refused stack n st e l = array_alone (top n stack) st (top_length stack n l ∙ e)

module _ {W : Type 0} (stack : List Text) (n base : ℕ) (st : State W) (some : 1 < n) (l : n ≤ length stack) (b : base ≡ length stack - n) where
  pub array_given : (c : ArrayCommand) → array_command (bytes_of (get_or stack (base + 1) [])) ≡ Some c → array_row c (top n stack) st ≡ row_array (top n stack) st
  array_given c h =
      let first = two_first stack n base some l b in
      ap (λ ws. array_row c ws st) first
      ∙ sym (ap (λ found. array_by found (get_or stack (base + 1) []) (get_or stack base [] ∷ get_or stack (base + 1) [] ∷ drop (base + 2) stack) st) h)
      ∙ sym (ap (λ ws. row_array ws st) first)

  pub array_unknown : array_command (bytes_of (get_or stack (base + 1) [])) ≡ None → no_subcommand (get_or stack (base + 1) []) st ≡ row_array (top n stack) st
  array_unknown h =
      let first = two_first stack n base some l b in
      sym (ap (λ found. array_by found (get_or stack (base + 1) []) (get_or stack base [] ∷ get_or stack (base + 1) [] ∷ drop (base + 2) stack) st) h)
      ∙ sym (ap (λ ws. row_array ws st) first)

-- ---- indices and values

pub collect_step : {W : Type 0} → (name : Text) (texts is : List Text) (k : ℕ) (i t : Text) (st : State W) → k < length is → get_or is k i ≡ i → t ≡ i →
    bind (pair name t st) (λ more s1. collect name (texts ++ more) (drop (k + 1) is) s1) ≡ collect name texts (drop k is) st
unfolding collect
collect_step name texts is k i t st h e same =
    ap (λ x. bind (pair name x st) (λ more s1. collect name (texts ++ more) (drop (k + 1) is) s1)) (same ∙ sym e)
    ∙ sym (ap (λ js. collect name texts js st) (drop_more is k i h))

pub collect_end : {W : Type 0} → (name : Text) (texts is : List Text) (k : ℕ) (st : State W) → length is ≤ k → done texts st ≡ collect name texts (drop k is) st
unfolding collect
collect_end name texts is k st h = sym (ap (λ js. collect name texts js st) (drop_all k is h))

-- What is pushed so far, before what is still to come: whatever the rest answers, the whole answers.
pub record Collects {W : Type 0} (name : Text) (is : List Text) (count : ℕ) (old now : Machine W) : Type 0 where
  pub stack : Keeps old.values.store.stack now.values.store.stack
  pub units_left : now.units ≡ old.units
  pub goes : (here : Outer) → AtWorld here (λ w. (r : Result (Unit {0}) End) (after : Machine W) →
      AtWorld here (λ v. Runs (collect name (drop (length old.values.store.stack) now.values.store.stack) (drop count is) (state_of now v))
      (stacked old.values.store.stack) (start now v here.torn) r after here) →
      Runs (collect name [] is (state_of old w)) (stacked old.values.store.stack) (start old w here.torn) r after here)

pub collects_begin : {W : Type 0} → (name : Text) (is : List Text) (old : Machine W) → Collects name is 0 old old
collects_begin name is old = record {
  stack = keeps_all old.values.store.stack;
  units_left = refl;
  goes = λ here w told r after k. runs_as (ap (λ texts. collect name texts is (state_of old w)) (drop-base old.values.store.stack)) (k w told);
}

-- ---- elements that are unset

pub elements_step : {W : Type 0} → (name : Text) (is : List Text) (k : ℕ) (i : Text) (st : State W) → k < length is → get_or is k i ≡ i →
    without_elements name (drop (k + 1) is) (cleared (element_of (bytes_of name) (bytes_of i)) st) ≡ without_elements name (drop k is) st
unfolding without_elements
elements_step name is k i st h e =
    ap (λ x. without_elements name (drop (k + 1) is) (cleared (element_of (bytes_of name) (bytes_of x)) st)) (sym e)
    ∙ sym (ap (λ js. without_elements name js st) (drop_more is k i h))

pub elements_end : {W : Type 0} → (name : Text) (is : List Text) (k : ℕ) (st : State W) → length is ≤ k → st ≡ without_elements name (drop k is) st
unfolding without_elements
elements_end name is k st h = sym (ap (λ js. without_elements name js st) (drop_all k is h))

pub record Drops {W : Type 0} (name : Text) (is : List Text) (count : ℕ) (old now : Machine W) : Type 0 where
  pub stack : now.values.store.stack ≡ old.values.store.stack
  pub writes : now.writes ≡ old.writes
  pub units_left : now.units ≡ old.units
  pub state : (w : World) → without_elements name (drop count is) (state_of now w) ≡ without_elements name is (state_of old w)

-- ---- pairs that are set

two-more : (ts : List Text) (at : ℕ) → at + 1 < length ts → drop at ts ≡ get_or ts at [] ∷ get_or ts (at + 1) [] ∷ drop (at + 2) ts
two-more ts at h =
    let next : at + 1 + 1 ≡ at + 2 = omega arith in
    drop_more ts at [] (omega (arith, h))
    ∙ ap (λ ws. get_or ts at [] ∷ ws) (drop_more ts (at + 1) [] h)
    ∙ ap (λ k. get_or ts at [] ∷ get_or ts (at + 1) [] ∷ drop k ts) next

pub pairs_step : {W : Type 0} → (name : Text) (ts : List Text) (i : ℕ) (st : State W) → 2 * i + 1 < length ts →
    bind (assign_element name (get_or ts (2 * i) []) (get_or ts (2 * i + 1) []) st) (λ kept s1. assign_pairs name (drop (2 * (i + 1)) ts) s1) ≡ assign_pairs name (drop (2 * i) ts) st
unfolding assign_pairs
pairs_step name ts i st h =
    let next : 2 * (i + 1) ≡ 2 * i + 2 = omega arith in
    ap (λ k. bind (assign_element name (get_or ts (2 * i) []) (get_or ts (2 * i + 1) []) st) (λ kept s1. assign_pairs name (drop k ts) s1)) next
    ∙ sym (ap (λ us. assign_pairs name us st) (two-more ts (2 * i) h))

pub pairs_end : {W : Type 0} → (name : Text) (texts : List Text) (st : State W) → length texts ≤ 1 → done tt st ≡ assign_pairs name texts st
unfolding assign_pairs
pairs_end name [] st h = refl
pairs_end name (a ∷ []) st h = refl
pairs_end name (a ∷ b ∷ ts) st h = absurd (omega (arith, h))

-- ---- an index and its value on the stack

pub pair_pushed : (s0 s1 s2 s3 : List Text) (i value : Text) → s1 ≡ s0 ++ i ∷ [] → s2 ≡ s1 ++ i ∷ [] → Over 1 (take (length s2 - 1) s2) s3 → last_of s3 ≡ value → s3 ≡ s0 ++ i ∷ value ∷ []
pair_pushed s0 s1 s2 s3 i value a b over last =
    let under : take (length s2 - 1) s2 ≡ s1 = ap (λ s. take (length s - 1) s) b ∙ under-push s1 i in
    over-one (take (length s2 - 1) s2) s3 value over last
    ∙ ap (λ s. s ++ value ∷ []) (under ∙ a)
    ∙ append_assoc s0 (i ∷ []) (value ∷ [])

pub pair_kept : (s0 s1 s2 s3 : List Text) (i : Text) → s1 ≡ s0 ++ i ∷ [] → s2 ≡ s1 ++ i ∷ [] → Over 1 (take (length s2 - 1) s2) s3 → Keeps s0 s3
pair_kept s0 s1 s2 s3 i a b over =
    let all = pair_pushed s0 s1 s2 s3 i (last_of s3) a b over refl in
    record {
      kept = ap (take (length s0)) all ∙ take-append_seam s0 (i ∷ last_of s3 ∷ []);
      some = omega (arith, ap length all, length-append s0 (i ∷ last_of s3 ∷ []));
    }

above_below : (s0 s1 now : List Text) (i : Text) → s1 ≡ s0 ++ i ∷ [] → Above s1 now → Above s0 now
above_below s0 s1 now i a h =
    let below : take (length s0) s1 ≡ s0 = ap (take (length s0)) a ∙ take-append_seam s0 (i ∷ []) in
    let longer : length s1 ≡ length s0 + 1 = omega (arith, ap length a, length-append s0 (i ∷ [])) in
    record { kept = take-under s0 s1 now (omega (arith, longer)) h.kept below; some = omega (arith, longer, h.some) }

above-end : (s0 s1 now : List Text) (i : Text) (e : End) → s1 ≡ s0 ++ i ∷ [] → PushesOne {T = Unit {0}} s1 (Err e) now → PushesWords {T = Unit {0}} s0 (Err e) now
above-end s0 s1 now i (end.Left l) a h = above_below s0 s1 now i a h
above-end s0 s1 now i end.Budget a h = tt
above-end s0 s1 now i (end.Exit n) a h = tt
above-end s0 s1 now i end.Device a h = tt
above-end s0 s1 now i end.Memory a h = tt

-- the element couldn't be read
pub pair_above : (s0 s1 s2 now : List Text) (i : Text) (r : Result (Unit {0}) End) (e : End) → r ≡ Err e → s1 ≡ s0 ++ i ∷ [] → s2 ≡ s1 ++ i ∷ [] →
    PushesOne {T = Unit {0}} (take (length s2 - 1) s2) (Err e) now → PushesWords s0 r now
pair_above s0 s1 s2 now i r e same a b h =
    let under : take (length s2 - 1) s2 ≡ s1 = ap (λ s. take (length s - 1) s) b ∙ under-push s1 i in
    let P : List Text → Type 0 = λ s. PushesOne {T = Unit {0}} s (Err e) now in
    subst (λ x. PushesWords s0 x now) (sym same) (above-end s0 s1 now i e a (subst P under h))

-- ---- states

pub same_on : (old mid new : Holdings) → SameVariables old mid → SameVariables mid new → SameVariables old new
same_on old mid new h k = record { vars = k.vars ∙ h.vars; cells = k.cells ∙ h.cells }

-- a call that goes on where only the tables changed
pub changed_runs : {W A T : Type 0} {shows : A → T → List Text → Type 0} {r : Result T End} {after : Machine W} {now : Outer} {w : World} {torn : ℕ} (old new : Machine W) (m : State W → Res W A) (st : State W) →
    state_of new w ≡ st → new.writes ≡ old.writes → Runs (m (state_of new w)) shows (start new w torn) r after now → Runs (m st) shows (start old w torn) r after now
changed_runs {shows = shows} {r = r} {after = after} {now = now} {w = w} {torn = torn} old new m st h k run =
    let P : State _ → Type 0 = λ s. Runs (m s) shows (start new w torn) r after now in
    let Q : ℕ → Type 0 = λ n. Runs (m st) shows (record { world = w; torn = torn; events = n }) r after now in
    subst Q k (subst P h run)

-- ---- what can't become an array

pub settable_else : {W : Type 0} → (name : Text) (r : Result ℕ VarFault) (st : State W) → (r ≡ Err fault.NotArray → ⊥) → done tt st ≡ settable_by name r st
settable_else name (Ok n) st h = refl
settable_else name (Err fault.NoVariable) st h = refl
settable_else name (Err fault.NoElement) st h = refl
settable_else name (Err fault.IsArray) st h = refl
settable_else name (Err fault.NotArray) st h = absurd (h refl)
settable_else name (Err fault.LinkExists) st h = refl
settable_else name (Err fault.NoLevel) st h = refl
settable_else name (Err fault.NoMemory) st h = refl

-- what is no array has no indices
pub none_found : (r : Result (List Text) VarFault) (f : VarFault) → (f ≡ fault.NoMemory → ⊥) → Refuses r f → result_unwrap_or r [] ≡ []
none_found (Ok ts) fault.NoVariable n h = cc
none_found (Ok ts) fault.NoElement n h = cc
none_found (Ok ts) fault.IsArray n h = cc
none_found (Ok ts) fault.NotArray n h = cc
none_found (Ok ts) fault.LinkExists n h = cc
none_found (Ok ts) fault.NoLevel n h = cc
none_found (Ok ts) fault.NoMemory n h = absurd (n refl)
none_found (Err e) f n h = refl

pub none_fits : (pattern : Option Text) → fitting pattern [] ≡ []
none_fits None = refl
none_fits (Some p) = refl
