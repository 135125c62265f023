-- What the words of `try` say, and what is done behind its scripts.
use Rattle.std.proofs.Common.{◌≡◌, ℕ, Bool, true, false, if◌then◌else◌, ◌+◌, ◌-◌, ◌<◌, ◌≤◌, List, [], ◌∷◌, ◌++◌, length, length-append, length-take, take, take-take, drop, map, get_or, sym, ap, ◌∙◌, refl, subst, arith, Result, Ok, Err, Some, None, Option}
use Rattle.std.proofs.lemmas.List.{append_assoc, at_drop_all}
use Rattle.std.proofs.Math.Seq.{drop-append_seam, take-append_seam}
use Rattle.std.specs.Option.{option_map}
use Rattle.std.specs.Prelude.{IfOk, codes, slice_get}
use Rattle.std.specs.Str.{bytes_eq}
use Rattle.tclv_text.specs.Quotes.{list_text}
use Rattle.tclv_model.specs.Values.{list_of, list_read}
use Rattle.tclv_ctl.specs.Switching.{given_words}
use Rattle.tclv_engine.proofs.Walks.{drops_one}
use Rattle.tclv_control.specs.Outcomes.{option_words}
use Rattle.tclv_reply.proofs.Laws.{get_some}
use Rattle.tclv_engine.specs.Variables.{assign}
use Rattle.tclv_control.specs.CatchRows.{note}
use Rattle.tclv_io.specs.World.{World}
use Rattle.tclv_model.specs.declared.outcomes.Code.{Code}
use Rattle.tclv_model.specs.declared.outcomes.Code.TheVariants as code
use Rattle.tclv_model.specs.declared.outcomes.Pair.{Pair}
use Rattle.tclv_model.specs.declared.usages.Usage.TheVariants as command
use Rattle.tclv_model.specs.Usages.{usage_of}
use Rattle.tclv_model.specs.Rows.{Answer}
use Rattle.tclv_value.specs.Stacks.{top, under}
use Rattle.tclv_reply.specs.Replies as replies
use Rattle.tclv_ctl.specs.declared.handlers.HandlerPlaces.{HandlerPlaces}
use Rattle.tclv_ctl.specs.declared.handlers.TryPlan.{TryPlan}
use Rattle.tclv_ctl.specs.Handlers.{Handlers, IsTryPlanOf, handlers_of, handler_for, handler_in, text_in}
use Rattle.tclv_engine.specs.declared.endings.Ended.{Ended}
use Rattle.tclv_engine.specs.declared.endings.Ended.TheVariants as ended
use Rattle.tclv_engine.specs.declared.machine.Machine.{Machine}
use Rattle.tclv_engine.specs.State.{Text, State, state_of}
use Rattle.tclv_engine.specs.declared.endings.End.{End}
use Rattle.tclv_engine.specs.declared.endings.End.TheVariants as end
use Rattle.tclv_engine.specs.declared.endings.Leaving.{Leaving}
use Rattle.tclv_engine.specs.ListAssignment.{IsList, listed, unseen}
use Rattle.tclv_engine.specs.Results.{Ending, Res, bind, done}
use Rattle.tclv_engine.specs.Usages.{call_word, usage}
use Rattle.tclv_engine.specs.Answers.{Outer, Start, Runs, Says, Ends, Cut, start, SameState, Above, Keeps, PushesWords, code_of, options_of, last_of}
use Rattle.tclv_engine.specs.DataAnswers.{of_answer, arguments}
use Rattle.tclv_engine.specs.Plans.{Wanted, Run, Conclusion, concluded, placed}
use Rattle.tclv_engine.proofs.Binds.{runs_as, answers_as}
use Rattle.tclv_engine.proofs.Leaves.{value_runs}
use Rattle.tclv_engine.proofs.DataLemmas.{call_is, arguments_are}
use Rattle.tclv_engine.proofs.ListLemmas.{list_below}
use Rattle.tclv_engine.proofs.StackLemmas.{last-pushed, keeps-split}
use Rattle.tclv_engine.proofs.WordLemmas.{top_length}
use Rattle.tclv_control.proofs.EachLemmas.{keeps_lowest}
use Rattle.tclv_control.specs.HandingOn.{hand_on}
use Rattle.tclv_control.specs.declared.behind.Behind.{Behind}
use Rattle.tclv_control.specs.declared.behind.Behind.TheVariants as behind
use Rattle.tclv_control.specs.OutcomeSteps.{code_ended, options_ended}
use Rattle.tclv_control.specs.TryRows.{body_wanted, error_code_of, handled, handled_by, note_both, outcome, settled, settling, unless, wanted_try}
use Rattle.tclv_control.specs.TrySteps.{as_said, planned, left_of, settled_of, settles}

-- ---- the words

pub said_runs : {W : Type 0} {here : Outer} (stack : List Text) (row : Answer Handlers) (plan : TryPlan) (old new : (Machine W)) (w : World) → here.told ≡ Some w → SameState old new →
    replies.IsGiven row (IsTryPlanOf stack) plan → Runs (of_answer row (state_of old w)) (as_said stack) (start old w here.torn) (Ok plan) new here
said_runs stack row plan old new w told same h = runs_as (ap (λ a. of_answer a (state_of old w)) (sym h.given)) (value_runs old told same h.shown)

try-one : {W : Type 0} (words : List Text) (st : (State W)) → length words ≡ 1 → usage {A = Wanted Behind} (usage_of command.Try) words st ≡ wanted_try words st
unfolding bind
try-one [] st h = absurd (omega (arith, h))
try-one (a ∷ []) st h = refl
try-one (a ∷ b ∷ ws) st h = absurd (omega (arith, h))

pub try_refused : {W : Type 0} (stack : List Text) (n : ℕ) (st : (State W)) → n ≤ length stack → n ≡ 1 → usage {A = Wanted Behind} (usage_of command.Try) (top n stack) st ≡ wanted_try (top n stack) st
try_refused stack n st l e = try-one (top n stack) st (top_length stack n l ∙ e)

pub try_row : {W : Type 0} (stack : List Text) (n : ℕ) (st : (State W)) → 0 < n → n ≤ length stack →
    bind (of_answer (handlers_of (replies.call_word (n - 1) stack) (top (n - 1) stack)) st) (λ said s1. body_wanted (replies.call_word (n - 1) stack) (top (n - 1) stack) s1) ≡ wanted_try (top n stack) st
try_row stack n st some l =
    ap (λ call. bind (of_answer (handlers_of call (top (n - 1) stack)) st) (λ said s1. body_wanted call (top (n - 1) stack) s1)) (call_is stack n some l)
    ∙ ap (λ args. bind (of_answer (handlers_of (call_word (top n stack)) args) st) (λ said s1. body_wanted (call_word (top n stack)) args s1)) (arguments_are stack n some l)

-- a plan says what the words say
pub planned_is : {W : Type 0} (said : Handlers) (plan : TryPlan) (stack : List Text) (e : Conclusion) (st : (State W)) → IsTryPlanOf stack said plan → planned stack plan e st ≡ handled_by said e st
planned_is said plan stack e st h =
    ap (λ hs. handled_by (record { handlers = hs; finally = option_map (text_in stack) plan.finally }) e st) h.handlers
    ∙ ap (λ f. handled_by (record { handlers = said.handlers; finally = f }) e st) h.finally

-- ---- how a script ended

pub ended_parts : (e : Ended) (text : Text) → record { code = code_ended e; text = text; options = options_ended e } ≡ concluded e text
ended_parts (ended.Ok kept) text = refl
ended_parts (ended.Left l) text = refl

-- ---- the words, pushed once more

module _ (old : List Text) (call : Text) (words : List Text) (n : ℕ) (l : n ≡ length words) where
  apart : old ++ call ∷ words ≡ (old ++ call ∷ []) ++ words
  apart = sym (append_assoc old (call ∷ []) words)

  pub again_call : replies.call_word n (old ++ call ∷ words) ≡ call
  again_call =
      let whole = old ++ call ∷ words in
      let at : length whole - n - 1 ≡ length old = omega (arith, l, ap length apart, length-append (old ++ call ∷ []) words, length-append old (call ∷ [])) in
      let last : length (old ++ call ∷ []) - 1 ≡ length old = omega (arith, length-append old (call ∷ [])) in
      ap (λ i. get_or whole i []) at
      ∙ list_below (old ++ call ∷ []) words whole (length old) apart (omega (arith, length-append old (call ∷ [])))
      ∙ sym (ap (λ i. get_or (old ++ call ∷ []) i []) last) ∙ last-pushed old (old ++ call ∷ []) call refl

  pub again_words : top n (old ++ call ∷ words) ≡ words
  again_words =
      let whole = old ++ call ∷ words in
      let from : length whole - n ≡ length (old ++ call ∷ []) = omega (arith, l, ap length apart, length-append (old ++ call ∷ []) words) in
      ap (λ k. drop k whole) from ∙ ap (drop (length (old ++ call ∷ []))) apart ∙ drop-append_seam (old ++ call ∷ []) words

-- below the words that were pushed once more, the word of their call stands over what was there
pub again_above : (old now : List Text) (call : Text) (words : List Text) (n : ℕ) → n ≡ length words → now ≡ old ++ call ∷ words → Keeps old (under n now)
again_above old now call words n l e =
    let whole : now ≡ (old ++ call ∷ []) ++ words = e ∙ sym (append_assoc old (call ∷ []) words) in
    let from : length now - n ≡ length (old ++ call ∷ []) = omega (arith, l, ap length whole, length-append (old ++ call ∷ []) words) in
    let below : under n now ≡ old ++ call ∷ [] = ap (λ k. take k now) from ∙ ap (take (length (old ++ call ∷ []))) whole ∙ take-append_seam (old ++ call ∷ []) words in
    record { kept = ap (take (length old)) below ∙ take-append_seam old (call ∷ []); some = omega (arith, ap length below, length-append old (call ∷ [])) }

-- ---- in the end

-- an ok of the last script leaves the outcome before it
pub unless_ok : {W : Type 0} (c c' : Code) (text : Text) (options : List Pair) (e : Conclusion) (st : (State W)) → c ≡ code.Ok → hand_on c' text options st ≡ unless c c' text options e st
unless_ok c c' text options e st h = ap (λ k. unless k c' text options e st) (sym h)

pub unless_other : {W : Type 0} (c c' : Code) (text : Text) (options : List Pair) (e : Conclusion) (st : (State W)) → (c ≡ code.Ok → ⊥) → hand_on e.code e.text e.options st ≡ unless c c' text options e st
unless_other code.Ok c' text options e st h = absurd (h refl)
unless_other code.Error c' text options e st h = refl
unless_other code.Return c' text options e st h = refl
unless_other code.Break c' text options e st h = refl
unless_other code.Continue c' text options e st h = refl
unless_other (code.Other n) c' text options e st h = refl

-- the text on top, by its place
pub last_placed : (stack : List Text) (height : ℕ) → height ≡ length stack → get_or stack (height - 1) [] ≡ last_of stack
last_placed stack height h = ap (λ n. get_or stack (n - 1) []) h

-- the script of the end, which was pushed, and the outcome before it
pub last_wants : (old mid now : List Text) (script : Text) (at : ℕ) (c c' : Code) (text text' : Text) (options options' : List Pair) → at ≡ length old → mid ≡ old → now ≡ mid ++ script ∷ [] →
    c ≡ c' → text ≡ text' → options ≡ options' → Run script (behind.Finally c text options) ≡ Run (get_or now at []) (behind.Finally c' text' options')
last_wants old mid now script at c c' text text' options options' h m e p q r =
    let place : at ≡ length now - 1 = omega (arith, h, ap length m, ap length e, length-append mid (script ∷ [])) in
    ap (λ k. Run script (behind.Finally k text options)) p
    ∙ ap (λ t. Run script (behind.Finally c' t options)) q
    ∙ ap (λ os. Run script (behind.Finally c' text' os)) r
    ∙ sym (ap (λ t. Run t (behind.Finally c' text' options')) (ap (λ i. get_or now i []) place ∙ last-pushed mid now script e))

-- the same, over a stack that is the one of the words
pub planned_over : {W : Type 0} (said : Handlers) (plan : TryPlan) (stack now : List Text) (e : Conclusion) (st : (State W)) → now ≡ stack → IsTryPlanOf stack said plan → planned now plan e st ≡ handled_by said e st
planned_over said plan stack now e st n h = ap (λ s. planned s plan e st) n ∙ planned_is said plan stack e st h

-- below a text that was pushed, all but the text on top before stands
pub popped_over : (old now : List Text) (text : Text) → now ≡ old ++ text ∷ [] → Keeps (under 1 old) (under 1 now)
popped_over old now text e =
    let below : under 1 now ≡ old = ap (λ n. take n now) (omega (arith, ap length e, length-append old (text ∷ []))) ∙ ap (take (length old)) e ∙ take-append_seam old (text ∷ []) in
    let P : List Text → Type 0 = λ s. Keeps (under 1 old) s in
    subst P (sym below) (keeps_lowest old old 1 refl)

-- a call stands over what was there
pub call_above : (old now : List Text) (call : Text) (words : List Text) → now ≡ old ++ call ∷ words → Above old now
call_above old now call words e =
    record { kept = ap (take (length old)) e ∙ take-append_seam old (call ∷ words); some = omega (arith, ap length (e ∙ sym (append_assoc old (call ∷ []) words)), length-append (old ++ call ∷ []) words, length-append old (call ∷ [])) }

-- ---- noting that ended with an outcome of its own

settled-ends : {W : Type 0} (m : Res W Text) (s : Start) (e : Ending Text) (after : (Machine W)) (w : World) (torn : ℕ) → Ends m s e after w torn → Ends (settled m) s (settling e) after w torn
settled-ends m s e after w torn h = record { ending = ap settling h.ending; state = h.state; out = h.out; whole = h.whole; counted = h.counted }

settled-cut : {W : Type 0} (m : Res W Text) (s : Start) (part : ℕ) (after : (Machine W)) (w : World) (torn : ℕ) → Cut m s part after w torn → Cut (settled m) s part after w torn
settled-cut m s part after w torn h = record { first = h.first; rest = h.rest; split = h.split; out = h.out; within = h.within; part_is = h.part_is; counted = h.counted }

settled-says : {W : Type 0} (m : Res W Text) (s : Start) (r : Result (Unit {0}) End) (after : (Machine W)) (w : World) (torn : ℕ) → Says m unseen s r after w torn → Says (settled m) settles s (settled_of r) after w torn
settled-says m s (Ok t) after w torn h = record { value = None; ends = settled-ends m s _ after w torn h.ends; shown = tt }
settled-says m s (Err (end.Left l)) after w torn h = record { value = Some (outcome (code_of l) (last_of after.values.store.stack) (options_of l)); ends = settled-ends m s _ after w torn h; shown = refl }
settled-says m s (Err end.Budget) after w torn h = settled-ends m s _ after w torn h
settled-says m s (Err (end.Exit n)) after w torn h = settled-ends m s _ after w torn h
settled-says m s (Err end.Device) after w torn h = (h.0, settled-cut m s h.0 after w torn h.1)
settled-says m s (Err end.Memory) after w torn h = settled-cut m s 0 after w torn h

pub settled_runs : {W : Type 0} {m : Res W Text} {s : Start} {after : (Machine W)} {now : Outer} (r : Result (Unit {0}) End) (x : Result (Option Leaving) End) → x ≡ settled_of r → Runs m unseen s r after now → Runs (settled m) settles s x after now
settled_runs {m = m} {s = s} {after = after} {now = now} r x is h =
    answers_as is (record { world = h.world; told = h.told; says = settled-says m s r after h.world now.torn h.says })

-- what was left is what shows
pub left_shown : (e : Option Conclusion) (l : Option Leaving) (stack : List Text) → settles e l stack → left_of l (last_of stack) ≡ e
left_shown None None stack h = refl
left_shown None (Some l) stack h = absurd h
left_shown (Some e) None stack h = absurd h
left_shown (Some e) (Some l) stack h = ap (λ x. Some x) (sym h)

-- a refusal is no value
abbrev IsRefusal : {T E : Type 0} → Result T E → Type 0
IsRefusal (Ok t) = ⊥
IsRefusal (Err e) = Unit {0}

not-ok : {T E : Type 0} {t : T} {e : E} → Err e ≡ Ok t → ⊥
not-ok h = subst (λ r. IsRefusal r) h tt

-- noting that settled left texts over what was there, or none
pub settled_keeps : (base : List Text) (r : Result (Unit {0}) End) (now : List Text) (l : Option Leaving) → settled_of r ≡ Ok l → PushesWords base r now → Keeps base now
settled_keeps base (Ok t) now l e h = h
settled_keeps base (Err (end.Left x)) now l e h = record { kept = h.kept; some = omega (arith, h.some) }
settled_keeps base (Err end.Budget) now l e h = absurd (not-ok e)
settled_keeps base (Err (end.Exit n)) now l e h = absurd (not-ok e)
settled_keeps base (Err end.Device) now l e h = absurd (not-ok e)
settled_keeps base (Err end.Memory) now l e h = absurd (not-ok e)

-- a text below what was left
pub kept_text : (base now : List Text) (i : ℕ) → Keeps base now → i < length base → get_or now i [] ≡ get_or base i []
kept_text base now i h l = list_below base (drop (length base) now) now i (keeps-split base now h) l

pub under_keeps : (base now : List Text) → Keeps base now → Keeps (under 1 base) (under 1 now)
under_keeps base now h =
    let len : length (under 1 base) ≡ length base - 1 = omega (arith, length-take (length base - 1) base) in
    record {
      kept = ap (λ n. take n (under 1 now)) len ∙ take-take (length base - 1) (length now - 1) now (omega (arith, h.some)) ∙ sym (take-take (length base - 1) (length base) now (omega arith)) ∙ ap (take (length base - 1)) h.kept;
      some = omega (arith, h.some, length-take (length base - 1) base, length-take (length now - 1) now);
    }

-- the variable of a name of a list, which was pushed, gets the text that was on top
pub noted_at : {W : Type 0} (old now names : List Text) (k last : ℕ) (st : (State W)) → 0 < length old → k < length names → last ≡ length old - 1 → now ≡ old ++ get_or names k [] ∷ [] →
    assign (last_of now) (placed now last) st ≡ note (slice_get names k) (last_of old) st
noted_at old now names k last st some inside l e =
    let within : last < length old = omega (arith, l, some) in
    let value : placed now last ≡ last_of old = list_below old (get_or names k [] ∷ []) now last e within ∙ ap (λ i. get_or old i []) l in
    ap (λ t. assign t (placed now last) st) (last-pushed old now (get_or names k []) e)
    ∙ ap (λ v. assign (get_or names k []) v st) value
    ∙ sym (ap (λ o. note o (last_of old) st) (get_some names k inside))

-- a text that is no list has no words
pub words_listed : (t : Text) → IsList t → given_words (list_of t) ≡ listed t
words_listed t h = ap (λ r. given_words (list_read r)) h

-- nothing is noted where there are no names
pub none_noted : {W : Type 0} (names : List Text) (text : Text) (options : List Pair) (st : (State W)) → names ≡ [] → done (list_text (option_words options)) st ≡ note_both names text options st
unfolding bind
none_noted names text options st h = ap (λ ns. note_both ns text options st) (sym h)

-- ---- the error code among options

pub if_ok-as : {T E : Type 0} (r : Result T E) (x y : T) → IfOk r (λ v. v ≡ x) → x ≡ y → IfOk r (λ v. v ≡ y)
if_ok-as (Ok v) x y h e = h ∙ e
if_ok-as (Err f) x y h e = h

module _ (ps : List Pair) (k : ℕ) (p : Pair) (h : k < length ps) (g : get_or ps k p ≡ p) where
  code-at : (b : Bool) → bytes_eq p.key (codes "-errorcode") ≡ b → error_code_of (drop k ps) ≡ (if b then p.value else error_code_of (drop (k + 1) ps))
  code-at b e = sym (ap error_code_of (drops_one ps k p h g)) ∙ ap (λ x. if x then p.value else error_code_of (drop (k + 1) ps)) e

  pub code_here : bytes_eq p.key (codes "-errorcode") ≡ true → p.value ≡ error_code_of (drop k ps)
  code_here e = sym (code-at true e)

  pub code_next : bytes_eq p.key (codes "-errorcode") ≡ false → error_code_of (drop (k + 1) ps) ≡ error_code_of (drop k ps)
  code_next e = sym (code-at false e)

pub code_none : (ps : List Pair) (k : ℕ) → length ps ≤ k → codes "NONE" ≡ error_code_of (drop k ps)
code_none ps k h = sym (at_drop_all error_code_of ps k h)

-- ---- what a plan says behind the body

pub said_is : {W : Type 0} (s0 s1 s2 : List Text) (plan : TryPlan) (found : Option HandlerPlaces) (finally : Option Text) (c : Code) (options : List Pair) (e : Ended) (text : ℕ) (st : (State W)) →
    s1 ≡ s0 → s2 ≡ s0 → c ≡ code_ended e → options ≡ options_ended e →
    option_map (handler_in s0) found ≡ handler_for c (error_code_of options) (map (handler_in s0) plan.handlers.items) → finally ≡ option_map (placed s1) plan.finally →
    handled (option_map (handler_in s2) found) finally (outcome c (placed s2 text) options) st ≡ planned s0 plan (concluded e (placed s0 text)) st
said_is s0 s1 s2 plan found finally c options e text st a b k o f g =
    let hs = map (handler_in s0) plan.handlers.items in
    let fin = option_map (placed s0) plan.finally in
    ap (λ s. handled (option_map (handler_in s) found) finally (outcome c (placed s text) options) st) b
    ∙ ap (λ x. handled x finally (outcome c (placed s0 text) options) st) f
    ∙ ap (λ x. handled (handler_for c (error_code_of options) hs) x (outcome c (placed s0 text) options) st) (g ∙ ap (λ s. option_map (placed s) plan.finally) a)
    ∙ ap (λ x. handled (handler_for x (error_code_of options) hs) fin (outcome x (placed s0 text) options) st) k
    ∙ ap (λ x. handled (handler_for (code_ended e) (error_code_of x) hs) fin (outcome (code_ended e) (placed s0 text) x) st) o
    ∙ ap (λ x. handled (handler_for x.code (error_code_of x.options) hs) fin x st) (ended_parts e (placed s0 text))
