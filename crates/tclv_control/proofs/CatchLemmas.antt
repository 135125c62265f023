-- Texts that a `catch` pushes, and what is left of the stack.
use Rattle.std.proofs.Common.{◌≡◌, ℕ, ◌+◌, ◌-◌, ◌<◌, ◌≤◌, List, [], ◌∷◌, ◌++◌, length, take, drop, get_or, sym, ap, ◌∙◌, refl, subst, arith, length-append, Result, Ok, Err, Some, None, Option}
use Rattle.std.proofs.lemmas.List.{append_assoc, append-nil, at_drop_all}
use Rattle.std.proofs.Math.Seq.{take-append_seam}
use Rattle.tclv_text.specs.Quotes.{list_text}
use Rattle.tclv_model.specs.declared.outcomes.Pair.{Pair}
use Rattle.tclv_model.specs.declared.usages.Usage.TheVariants as command
use Rattle.tclv_model.specs.Usages.{usage_of}
use Rattle.tclv_value.specs.Stacks.{top, under}
use Rattle.tclv_engine.specs.declared.endings.End.{End}
use Rattle.tclv_engine.specs.declared.endings.End.TheVariants as end
use Rattle.tclv_engine.specs.declared.endings.Ended.{Ended}
use Rattle.tclv_engine.specs.declared.endings.Ended.TheVariants as ended
use Rattle.tclv_engine.specs.declared.machine.Machine.{Machine}
use Rattle.tclv_engine.specs.State.{Text, State}
use Rattle.tclv_engine.specs.Results.{Res, bind, done}
use Rattle.tclv_engine.specs.Usages.{usage}
use Rattle.tclv_engine.specs.ListAssignment.{unseen}
use Rattle.tclv_engine.specs.Answers.{Outer, Start, Runs, Above, Keeps, KeepsStack, Leaves, PushesWords, last_of}
use Rattle.tclv_engine.specs.Plans.{Wanted, Run, placed, concluded}
use Rattle.tclv_engine.proofs.ListLemmas.{list_below, other_show}
use Rattle.tclv_engine.proofs.StackLemmas.{last-pushed, take-under, top-stacked}
use Rattle.tclv_engine.proofs.Walks.{drops_one}
use Rattle.tclv_engine.proofs.WordLemmas.{top_two, top_three, top_four, top_length}
use Rattle.tclv_control.specs.declared.behind.Behind.{Behind}
use Rattle.tclv_control.specs.declared.behind.Behind.TheVariants as behind
use Rattle.tclv_control.specs.CatchRows.{wanted_catch, note, caught}
use Rattle.tclv_control.specs.CatchSteps.{options_caught}
use Rattle.tclv_control.specs.Outcomes.{option_words}

-- ---- texts one behind another

pub pushed_twice : (stack mid new : List Text) (one two : Text) → mid ≡ stack ++ one ∷ [] → new ≡ mid ++ two ∷ [] → new ≡ stack ++ one ∷ two ∷ []
pushed_twice stack mid new one two m e = e ∙ ap (λ s. s ++ two ∷ []) m ∙ append_assoc stack (one ∷ []) (two ∷ [])

-- a name, and then the text that was on top
pub named_pushed : (stack mid new : List Text) (name : Text) (last : ℕ) → 0 < length stack → last ≡ length stack - 1 → mid ≡ stack ++ name ∷ [] → new ≡ mid ++ get_or mid last [] ∷ [] → new ≡ stack ++ name ∷ last_of stack ∷ []
named_pushed stack mid new name last some l m e =
    let below : get_or mid last [] ≡ last_of stack = list_below stack (name ∷ []) mid last m (omega (arith, l, some)) ∙ ap (λ i. get_or stack i []) l in
    pushed_twice stack mid new name (last_of stack) m (e ∙ ap (λ t. mid ++ t ∷ []) below)

module _ (stack now : List Text) (one two : Text) (e : now ≡ stack ++ one ∷ two ∷ []) where
  two-apart : now ≡ (stack ++ one ∷ []) ++ two ∷ []
  two-apart = e ∙ sym (append_assoc stack (one ∷ []) (two ∷ []))

  pub last_of_two : last_of now ≡ two
  last_of_two = last-pushed (stack ++ one ∷ []) now two two-apart

  pub first_of_two : (at : ℕ) → at ≡ length stack → get_or now at [] ≡ one
  first_of_two at h =
      let within : at < length (stack ++ one ∷ []) = omega (arith, h, length-append stack (one ∷ [])) in
      let last : length (stack ++ one ∷ []) - 1 ≡ at = omega (arith, h, length-append stack (one ∷ [])) in
      list_below (stack ++ one ∷ []) (two ∷ []) now at two-apart within ∙ sym (ap (λ i. get_or (stack ++ one ∷ []) i []) last) ∙ last-pushed stack (stack ++ one ∷ []) one refl

  pub two_above : Keeps stack now
  two_above = record { kept = ap (take (length stack)) e ∙ take-append_seam stack (one ∷ two ∷ []); some = omega (arith, ap length e, length-append stack (one ∷ two ∷ [])) }

  pub length_of_two : length now ≡ length stack + 2
  length_of_two = omega (arith, ap length e, length-append stack (one ∷ two ∷ []))

pub one_above : (stack now : List Text) (text : Text) → now ≡ stack ++ text ∷ [] → Keeps stack now
one_above stack now text e = record { kept = ap (take (length stack)) e ∙ take-append_seam stack (text ∷ []); some = omega (arith, ap length e, length-append stack (text ∷ [])) }

-- ---- what is left over a stack that grew

above-on : (base mid now : List Text) → Keeps base mid → Above mid now → Above base now
above-on base mid now h k = record { kept = take-under base mid now h.some k.kept h.kept; some = omega (arith, h.some, k.some) }

keeps-on : (base mid now : List Text) → Keeps base mid → Keeps mid now → Keeps base now
keeps-on base mid now h k = record { kept = take-under base mid now h.some k.kept h.kept; some = omega (arith, h.some, k.some) }

pub kept_over : {T : Type 0} (base mid : List Text) (r : Result T End) (now : List Text) → Keeps base mid → KeepsStack mid r now → PushesWords base r now
kept_over base mid (Ok t) now h k = subst (λ s. Keeps base s) (sym k) h
kept_over base mid (Err (end.Left l)) now h k = above-on base mid now h k
kept_over base mid (Err end.Budget) now h k = tt
kept_over base mid (Err (end.Exit n)) now h k = tt
kept_over base mid (Err end.Device) now h k = tt
kept_over base mid (Err end.Memory) now h k = tt

pub words_over : {T : Type 0} (base mid : List Text) (r : Result T End) (now : List Text) → Keeps base mid → PushesWords mid r now → PushesWords base r now
words_over base mid (Ok t) now h k = keeps-on base mid now h k
words_over base mid (Err (end.Left l)) now h k = above-on base mid now h k
words_over base mid (Err end.Budget) now h k = tt
words_over base mid (Err (end.Exit n)) now h k = tt
words_over base mid (Err end.Device) now h k = tt
words_over base mid (Err end.Memory) now h k = tt

error-over : {T : Type 0} (P : T → List Text → Type 0) (S : Type 0) (base mid : List Text) (e : End) (now : List Text) → Keeps base mid → PushesWords {T = S} mid (Err e) now → Leaves P base (Err e) now
error-over P S base mid (end.Left l) now h k = above-on base mid now h k
error-over P S base mid end.Budget now h k = tt
error-over P S base mid (end.Exit n) now h k = tt
error-over P S base mid end.Device now h k = tt
error-over P S base mid end.Memory now h k = tt

-- an error over a stack that grew
pub error_over : {T : Type 0} (P : T → List Text → Type 0) (S : Type 0) (base mid : List Text) (e : End) (r : Result T End) (now : List Text) → Keeps base mid → r ≡ Err e → PushesWords {T = S} mid (Err e) now → Leaves P base r now
error_over {T} P S base mid e r now h is k = let Q : Result T End → Type 0 = λ x. Leaves P base x now in subst Q (sym is) (error-over P S base mid e now h k)

-- ---- what shows

pub unseen_runs : {W A T : Type 0} {m : Res W A} {given : A → T → List Text → Type 0} {s : Start} {after : (Machine W)} {now : Outer} (r : Result T End) → Runs m given s r after now → Runs m unseen s r after now
unseen_runs (Ok t) h = record { world = h.world; told = h.told; says = record { value = h.says.value; ends = h.says.ends; shown = tt } }
unseen_runs {m = m} (Err e) h = other_show m h

-- ---- the words of options

-- one pair more was pushed
pub pair_step : (whole cur new : List Text) (ps : List Pair) (k : ℕ) (p : Pair) → k < length ps → get_or ps k p ≡ p → whole ≡ cur ++ option_words (drop k ps) → new ≡ cur ++ p.key ∷ p.value ∷ [] →
    whole ≡ new ++ option_words (drop (k + 1) ps)
pair_step whole cur new ps k p h g w e =
    let rest = option_words (drop (k + 1) ps) in
    w ∙ sym (ap (λ xs. cur ++ option_words xs) (drops_one ps k p h g)) ∙ sym (append_assoc cur (p.key ∷ p.value ∷ []) rest) ∙ sym (ap (λ s. s ++ rest) e)

-- all were pushed
pub pair_end : (whole cur : List Text) (ps : List Pair) (k : ℕ) → length ps ≤ k → whole ≡ cur ++ option_words (drop k ps) → cur ≡ whole
pair_end whole cur ps k h w = sym (w ∙ ap (λ xs. cur ++ option_words xs) (at_drop_all (λ xs. xs) ps k h) ∙ append-nil cur)

-- the list of the texts over a stack, in their place
pub listed_over : (stack mid new words : List Text) (n : ℕ) → mid ≡ stack ++ words → n ≡ length mid - length stack → new ≡ under n mid ++ list_text (top n mid) ∷ [] → new ≡ stack ++ list_text words ∷ []
listed_over stack mid new words n m l e =
    let count : length mid - n ≡ length stack = omega (arith, l, ap length m, length-append stack words) in
    let below : under n mid ≡ stack = ap (λ i. take i mid) count ∙ ap (take (length stack)) m ∙ take-append_seam stack words in
    e ∙ ap (λ s. s ++ list_text (top n mid) ∷ []) below ∙ ap (λ ws. stack ++ list_text ws ∷ []) (top-stacked stack words mid n m l)

pub enough_over : (stack mid words : List Text) (n : ℕ) → mid ≡ stack ++ words → n ≡ length mid - length stack → n ≤ length mid
enough_over stack mid words n m l = omega (arith, l)

-- ---- the row

catch-many : {W : Type 0} (words : List Text) (st : (State W)) → (length words ≡ 2 → ⊥) → (length words ≡ 3 → ⊥) → (length words ≡ 4 → ⊥) →
    usage {A = Wanted Behind} (usage_of command.Catch) words st ≡ wanted_catch words st
catch-many [] st h i j = refl
catch-many (a ∷ []) st h i j = refl
catch-many (a ∷ b ∷ []) st h i j = absurd (h refl)
catch-many (a ∷ b ∷ c ∷ []) st h i j = absurd (i refl)
catch-many (a ∷ b ∷ c ∷ d ∷ []) st h i j = absurd (j refl)
catch-many (a ∷ b ∷ c ∷ d ∷ e ∷ ws) st h i j = refl

module _ {W : Type 0} (stack : List Text) (n : ℕ) (st : (State W)) (l : n ≤ length stack) where
  pub catch_two : (base : ℕ) → n ≡ 2 → base ≡ length stack - n → done (Run (placed stack (base + 1)) (behind.Catch None None)) st ≡ wanted_catch (top n stack) st
  catch_two base e b = ap (λ ws. wanted_catch ws st) (sym (ap (λ k. top k stack) e ∙ top_two stack base (omega (arith, e, l, b))))

  pub catch_three : (base : ℕ) → n ≡ 3 → base ≡ length stack - n → done (Run (placed stack (base + 1)) (behind.Catch (Some (placed stack (base + 2))) None)) st ≡ wanted_catch (top n stack) st
  catch_three base e b = ap (λ ws. wanted_catch ws st) (sym (ap (λ k. top k stack) e ∙ top_three stack base (omega (arith, e, l, b))))

  pub catch_four : (base : ℕ) → n ≡ 4 → base ≡ length stack - n →
      done (Run (placed stack (base + 1)) (behind.Catch (Some (placed stack (base + 2))) (Some (placed stack (base + 3))))) st ≡ wanted_catch (top n stack) st
  catch_four base e b = ap (λ ws. wanted_catch ws st) (sym (ap (λ k. top k stack) e ∙ top_four stack base (omega (arith, e, l, b))))

  pub catch_refused : (n ≡ 2 → ⊥) → (n ≡ 3 → ⊥) → (n ≡ 4 → ⊥) → usage {A = Wanted Behind} (usage_of command.Catch) (top n stack) st ≡ wanted_catch (top n stack) st
  catch_refused h i j =
      let len = sym (top_length stack n l) in
      catch-many (top n stack) st (λ e. h (len ∙ e)) (λ e. i (len ∙ e)) (λ e. j (len ∙ e))

-- how a script ended, as the code has it
pub caught_is : {W : Type 0} (name options : Option Text) (e : Ended) (text : Text) (st : (State W)) →
    bind (note name text st) (λ t s1. options_caught options e s1) ≡ caught name options (concluded e text) st
caught_is name options (ended.Ok kept) text st = refl
caught_is name options (ended.Left l) text st = refl
