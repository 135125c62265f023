-- The words of a command, which are the texts on top of the stack.
use Rattle.std.proofs.Common.{◌≡◌, ℕ, ◌+◌, ◌-◌, ◌<◌, ◌≤◌, List, [], ◌∷◌, length, take, drop, get_or, sym, ap, ◌∙◌, refl, subst, arith, length-drop, length-take, take-take, Result, Ok, Err, Some}
use Rattle.std.proofs.lemmas.List.{drop_more, drop_all}
use Rattle.std.specs.Str.{chars}
use Rattle.tclv_io.specs.World.{World}
use Rattle.tclv_model.specs.declared.messages.MessageId.TheVariants as message
use Rattle.tclv_model.specs.Message.{text_of}
use Rattle.std.specs.Prelude.{slice_index_or, unwrap_or}
use Rattle.std.specs.FinMap.{get}
use Rattle.tclv_model.specs.declared.messages.MessageId.{MessageId}
use Rattle.tclv_value.specs.declared.places.At.{At}
use Rattle.tclv_value.specs.declared.places.At.TheVariants as at
use Rattle.tclv_value.specs.View.{View, text_at}
use Rattle.tclv_value.specs.Stacks.{top, under}
use Rattle.tclv_model.specs.declared.error_codes.ErrorCode.{ErrorCode}
use Rattle.tclv_engine.specs.Holdings.{Holdings, SameVariables}
use Rattle.tclv_model.specs.declared.error_codes.ErrorCode.TheVariants.{WrongArguments}
use Rattle.tclv_engine.specs.declared.endings.End.{End}
use Rattle.tclv_engine.specs.declared.endings.End.TheVariants as end
use Rattle.tclv_engine.specs.declared.endings.Leaving.TheVariants.{Error, Other}
use Rattle.tclv_engine.specs.declared.machine.Machine.{Machine}
use Rattle.tclv_engine.specs.State.{Text, State, state_of}
use Rattle.tclv_engine.specs.Results.{Res, raise}
use Rattle.tclv_model.specs.ErrorCodes.{error_code}
use Rattle.tclv_engine.specs.Usages.{call_word, usage}
use Rattle.tclv_engine.specs.Answers.{Outer, Runs, start, SameState, Raises, Above, Over, PushesOne, PushesResult, Caused}
use Rattle.tclv_engine.proofs.Leaves.{raise_runs, raise_first, same_state}

-- ---- the top texts, one by one

one_word : (stack : List Text) (i : ℕ) → i + 1 ≡ length stack → drop i stack ≡ get_or stack i [] ∷ []
one_word stack i e = drop_more stack i [] (omega (arith, e)) ∙ ap (λ ws. get_or stack i [] ∷ ws) (drop_all (i + 1) stack (omega (arith, e)))

-- one word more in front
word_more : (stack : List Text) (i j : ℕ) (words : List Text) → j ≡ i + 1 → j ≤ length stack → drop j stack ≡ words → drop i stack ≡ get_or stack i [] ∷ words
word_more stack i j words h l e = drop_more stack i [] (omega (arith, h, l)) ∙ ap (λ ws. get_or stack i [] ∷ ws) (ap (λ n. drop n stack) (sym h) ∙ e)

pub top_one : (stack : List Text) (i : ℕ) → i + 1 ≡ length stack → top 1 stack ≡ get_or stack i [] ∷ []
top_one stack i e = let b : length stack - 1 ≡ i = omega (arith, e) in ap (λ n. drop n stack) b ∙ one_word stack i e

pub top_two : (stack : List Text) (i : ℕ) → i + 2 ≡ length stack → top 2 stack ≡ get_or stack i [] ∷ get_or stack (i + 1) [] ∷ []
top_two stack i e =
    let b : length stack - 2 ≡ i = omega (arith, e) in
    ap (λ n. drop n stack) b ∙ word_more stack i (i + 1) _ refl (omega (arith, e)) (one_word stack (i + 1) (omega (arith, e)))

pub top_three : (stack : List Text) (i : ℕ) → i + 3 ≡ length stack → top 3 stack ≡ get_or stack i [] ∷ get_or stack (i + 1) [] ∷ get_or stack (i + 2) [] ∷ []
top_three stack i e =
    let b : length stack - 3 ≡ i = omega (arith, e) in
    ap (λ n. drop n stack) b
    ∙ word_more stack i (i + 1) _ refl (omega (arith, e)) (word_more stack (i + 1) (i + 2) _ (omega arith) (omega (arith, e)) (one_word stack (i + 2) (omega (arith, e))))

pub top_four : (stack : List Text) (i : ℕ) → i + 4 ≡ length stack → top 4 stack ≡ get_or stack i [] ∷ get_or stack (i + 1) [] ∷ get_or stack (i + 2) [] ∷ get_or stack (i + 3) [] ∷ []
top_four stack i e =
    let b : length stack - 4 ≡ i = omega (arith, e) in
    ap (λ n. drop n stack) b
    ∙ word_more stack i (i + 1) _ refl (omega (arith, e))
    (word_more stack (i + 1) (i + 2) _ (omega arith) (omega (arith, e)) (word_more stack (i + 2) (i + 3) _ (omega arith) (omega (arith, e)) (one_word stack (i + 3) (omega (arith, e)))))

pub top_five : (stack : List Text) (i : ℕ) → i + 5 ≡ length stack →
    top 5 stack ≡ get_or stack i [] ∷ get_or stack (i + 1) [] ∷ get_or stack (i + 2) [] ∷ get_or stack (i + 3) [] ∷ get_or stack (i + 4) [] ∷ []
top_five stack i e =
    let b : length stack - 5 ≡ i = omega (arith, e) in
    ap (λ n. drop n stack) b
    ∙ word_more stack i (i + 1) _ refl (omega (arith, e))
    (word_more stack (i + 1) (i + 2) _ (omega arith) (omega (arith, e))
    (word_more stack (i + 2) (i + 3) _ (omega arith) (omega (arith, e)) (word_more stack (i + 3) (i + 4) _ (omega arith) (omega (arith, e)) (one_word stack (i + 4) (omega (arith, e))))))

pub top_length : (stack : List Text) (n : ℕ) → n ≤ length stack → length (top n stack) ≡ n
top_length stack n h = omega (arith, length-drop (length stack - n) stack)

-- the lowest of them is the word of the call
pub first_of_top : (stack : List Text) (n : ℕ) → 0 < n → n ≤ length stack → get_or stack (length stack - n) [] ≡ call_word (top n stack)
first_of_top stack n h k = sym (ap call_word (drop_more stack (length stack - n) [] (omega arith)))

-- ---- words that fit no form

pub usage_runs : {W A T : Type 0} {e : End} {shows : A → T → List Text → Type 0} {new : (Machine W)} {w : World} {here : Outer} (old : (Machine W)) (rest first : Text) (words : List Text) →
    here.told ≡ Some w → SameState old new → first ≡ call_word words →
    Raises (text_of message.WrongArguments first rest) (error_code WrongArguments first) new.values.store.stack e →
    Runs {T = T} (usage rest words (state_of old w)) shows (record { world = w; torn = here.torn; events = old.writes }) (Err e) new here
usage_runs {e = e} {new = new} old rest first words told same h k =
    let P : Text → Type 0 = λ x. Raises (text_of message.WrongArguments x rest) (error_code WrongArguments x) new.values.store.stack e in
    raise_runs old told same (subst P h k)

-- the rest of the usage as the code writes it
pub raises_rest : (first rest rest' : Text) (stack : List Text) (e : End) → rest ≡ rest' →
    Raises (text_of message.WrongArguments first rest) (error_code WrongArguments first) stack e → Raises (text_of message.WrongArguments first rest') (error_code WrongArguments first) stack e
raises_rest first rest rest' stack e h k =
    let P : Text → Type 0 = λ x. Raises (text_of message.WrongArguments first x) (error_code WrongArguments first) stack e in subst P h k

-- an error whose first part is the text of a place
pub raise_at_runs : {W A T : Type 0} {e : End} {shows : A → T → List Text → Type 0} {new : (Machine W)} {w : World} {here : Outer} (old : (Machine W)) (kind : MessageId) (first first' : Text) (errorcode : ErrorCode) →
    here.told ≡ Some w → SameState old new → first ≡ first' →
    Raises (text_of kind first (chars [])) (error_code errorcode first) new.values.store.stack e →
    Runs {T = T} (raise kind first' [] errorcode (state_of old w)) shows (record { world = w; torn = here.torn; events = old.writes }) (Err e) new here
raise_at_runs {e = e} {new = new} old kind first first' errorcode told same h k =
    let P : Text → Type 0 = λ x. Raises (text_of kind x (chars [])) (error_code errorcode x) new.values.store.stack e in
    raise_first old kind kind first' errorcode errorcode told same refl refl (subst P h k)

-- ---- calls after one that changed nothing but the stack

-- the text of a place, where the stack and the cells are the same
pub text_kept : (old new : View) (place : At) → new.stack ≡ old.stack → new.cells ≡ old.cells → text_at new place ≡ text_at old place
text_kept old new (at.Stack i) h k = ap (λ stack. slice_index_or stack i []) h
text_kept old new (at.Cell cell) h k = ap (λ cells. unwrap_or (get cells cell) []) k

pub after_same : {W A T : Type 0} (m : (State W) → Res W A) {shows : A → T → List Text → Type 0} {after : (Machine W)} {r : Result T End} {now : Outer} {w : World} {torn : ℕ} (old mid : (Machine W)) →
    Runs (m (state_of mid w)) shows (start mid w torn) r after now → SameState old mid → Runs (m (state_of old w)) shows (start old w torn) r after now
after_same m {shows} {after} {r} {now} {w} {torn} old mid k h =
    let P : ℕ → (State _) → Type 0 = λ n st. Runs (m st) shows (record { world = w; torn = torn; events = n }) r after now in
    subst (λ n. P n (state_of old w)) h.events (subst (λ st. P mid.writes st) (same_state old mid w h) k)

-- values whose stack alone changed
pub values_same : {W : Type 0} → (old : (Machine W)) (values : Holdings) → SameVariables old.values values → SameState old (record old { values = values })
values_same old values h = record { variables = h; own = refl; units = refl; depth = refl; events = refl }

pub values_then : {W : Type 0} → (old new : (Machine W)) (values : Holdings) → SameVariables old.values values → SameState (record old { values = values }) new → SameState old new
values_then old new values h k = record {
  variables = record { vars = k.variables.vars ∙ h.vars; cells = k.variables.cells ∙ h.cells };
  own = k.own;
  units = k.units;
  depth = k.depth;
  events = k.events;
}

pub same_then : {W : Type 0} → (old mid new : (Machine W)) → SameState old mid → SameState mid new → SameState old new
same_then old mid new h k = record {
  variables = record { vars = k.variables.vars ∙ h.variables.vars; cells = k.variables.cells ∙ h.variables.cells };
  own = k.own ∙ h.own;
  units = k.units ∙ h.units;
  depth = k.depth ∙ h.depth;
  events = k.events ∙ h.events;
}

-- ---- what is left of the stack

under_kept : (n : ℕ) (base now : List Text) → take (length base) now ≡ base → take (length (under n base)) now ≡ under n base
under_kept n base now h =
    let k = length base - n in
    let l : length (take k base) ≡ k = omega (arith, length-take k base) in
    ap (λ m. take m now) l ∙ sym (take-take k (length base) now (omega arith)) ∙ ap (take k) h

above_under : (n : ℕ) (base now : List Text) → Above base now → Above (under n base) now
above_under n base now h = record { kept = under_kept n base now h.kept; some = omega (arith, h.some, length-take (length base - n) base) }

pub over_above : (base now : List Text) → Over 1 base now → Above base now
over_above base now h = record { kept = h.kept; some = omega (arith, h.count_is) }

-- A result over the whole stack is one over what is below the words.
pub result_under : {T : Type 0} (n : ℕ) (base : List Text) (r : Result T End) (now : List Text) → PushesResult base r now → PushesResult (under n base) r now
result_under n base (Ok t) now h = above_under n base now h
result_under n base (Err (end.Left l)) now h = above_under n base now h
result_under n base (Err end.Budget) now h = tt
result_under n base (Err (end.Exit s)) now h = tt
result_under n base (Err end.Device) now h = tt
result_under n base (Err end.Memory) now h = tt

pub one_under : {T : Type 0} (n : ℕ) (base : List Text) (r : Result T End) (now : List Text) → PushesOne base r now → PushesResult (under n base) r now
one_under n base (Ok t) now h = above_under n base now (over_above base now h)
one_under n base (Err (end.Left l)) now h = above_under n base now h
one_under n base (Err end.Budget) now h = tt
one_under n base (Err (end.Exit s)) now h = tt
one_under n base (Err end.Device) now h = tt
one_under n base (Err end.Memory) now h = tt

-- ---- causes

-- an error is no fault of a device
pub raises_caused : (T : Type 0) (text errorcode : Text) (stack : List Text) (e : End) (before now : ℕ) → Raises text errorcode stack e → now ≡ before → Caused {T = T} before now (Err e)
raises_caused T text errorcode stack (end.Left (Error c)) before now h k = k
raises_caused T text errorcode stack (end.Left (Other cd kept)) before now h k = absurd h
raises_caused T text errorcode stack end.Budget before now h k = absurd h
raises_caused T text errorcode stack (end.Exit s) before now h k = absurd h
raises_caused T text errorcode stack end.Device before now h k = absurd h
raises_caused T text errorcode stack end.Memory before now h k = k
