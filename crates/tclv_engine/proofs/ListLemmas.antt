-- The elements of a list, and variables that get them.
use Rattle.std.proofs.Common.{◌≡◌, ℕ, ◌+◌, ◌-◌, ◌<◌, ◌≤◌, List, [], ◌∷◌, ◌++◌, length, take, drop, get_or, sym, ap, ◌∙◌, refl, subst, arith, length-append, length-drop, length-take, Result, Ok, Err, Some, None, set, zero, suc, min, ⊎_elim}
use Rattle.std.specs.Prelude.{IfOk, IfErr, IsOkAnd, option_to_list, slice_get}
use Rattle.std.specs.Result.{result_unwrap_or}
use Rattle.std.proofs.lemmas.List.{drop_more, take_more, append_assoc, append-nil, drop-drop, drop_all, take_all, get_or-drop, get_or-take, get_or_append_left, length-set}
use Rattle.std.proofs.lemmas.Bool.{cases_lt}
use Rattle.std.proofs.Math.Seq.{take-append_seam}
use Rattle.tclv_io.specs.World.{World}
use Rattle.tclv_model.specs.declared.data_commands.CmdFault.{CmdFault}
use Rattle.tclv_text.specs.Elements.{elements}
use Rattle.tclv_text.specs.Lists.{ListFlaw}
use Rattle.tclv_model.specs.Rows.{Answer, Gives}
use Rattle.tclv_model.specs.Values.{list_of, list_read}
use Rattle.tclv_value.specs.View.{View}
use Rattle.tclv_reply.specs.Replies as replies
use Rattle.tclv_reply.proofs.Laws.{given_read, get_some, get_none}
use Rattle.tclv_engine.specs.declared.endings.End.{End}
use Rattle.tclv_engine.specs.declared.endings.End.TheVariants as end
use Rattle.tclv_engine.specs.declared.machine.Machine.{Machine}
use Rattle.tclv_engine.specs.State.{Text, State, state_of}
use Rattle.tclv_engine.specs.Results.{Res, bind, done}
use Rattle.tclv_engine.specs.Variables.{assign}
use Rattle.tclv_engine.specs.Answers.{Outer, AtWorld, Start, Runs, start, SameState, Leaves, KeepsStack}
use Rattle.tclv_engine.specs.DataAnswers.{of_answer}
use Rattle.tclv_engine.specs.DataSteps.{BecomesError}
use Rattle.tclv_engine.specs.ListAssignment.{listed, IsList, counted, next_of, assign_each, unseen}
use Rattle.tclv_engine.proofs.Binds.{runs_as, bind_stop, bind-done}
use Rattle.tclv_engine.proofs.Leaves.{raise_runs, raises_as, value_runs}
use Rattle.tclv_engine.proofs.StackLemmas.{take-under, last-push, under-push}
use Rattle.tclv_engine.proofs.DataLemmas.{message_below, code_on_top, under_reply}

-- ---- elements

-- a stack that grew before something left it
grown : {S T : Type 0} (P : T → List Text → Type 0) (Q : S → List Text → Type 0) (base mid now more : List Text) (e : End) → mid ≡ base ++ more → Leaves Q mid (Err e) now → Leaves P base (Err e) now
grown P Q base mid now more (end.Left l) g h =
    let longer : length base ≤ length mid = omega (arith, ap length g, length-append base more) in
    record { kept = take-under base mid now longer h.kept (ap (take (length base)) g ∙ take-append_seam base more); some = omega (arith, longer, h.some) }
grown P Q base mid now more end.Budget g h = tt
grown P Q base mid now more (end.Exit n) g h = tt
grown P Q base mid now more end.Device g h = tt
grown P Q base mid now more end.Memory g h = tt

module _ {A : Type 0} (answer : Answer A) (kind : CmdFault) (old mid : List Text) where
  split : (h : replies.IsRefusal answer kind old mid) → mid ≡ (old ++ h.top.between) ++ h.message ∷ h.code ∷ []
  split h = h.top.is ∙ sym (append_assoc old h.top.between (h.message ∷ h.code ∷ []))

  pub has_two : replies.IsRefusal answer kind old mid → 2 ≤ length mid
  has_two h = omega (arith, ap length (split h), length-append (old ++ h.top.between) (h.message ∷ h.code ∷ []))

  pub unread_runs : {W T : Type 0} {shows : A → T → List Text → Type 0} (e : End) (before new : (Machine W)) (w : World) (here : Outer) → here.told ≡ Some w → SameState before new →
      replies.IsRefusal answer kind old mid → BecomesError mid e new.values.store.stack → Runs {T = T} (of_answer answer (state_of before w)) shows (start before w here.torn) (Err e) new here
  unread_runs {T} {shows} e before new w here told same h b =
      runs_as (ap (λ a. of_answer a (state_of before w)) (sym h.refused))
      (raise_runs {A = A} {T = T} {shows = shows} before told same
      (raises_as _ _ _ _ new.values.store.stack e (message_below (old ++ h.top.between) mid h.message h.code (split h)) (code_on_top (old ++ h.top.between) mid h.message h.code (split h)) b.0))

  pub unread_stack : (T : Type 0) (e : End) (now : List Text) → replies.IsRefusal answer kind old mid → BecomesError mid e now → KeepsStack {T = T} old (Err e) now
  unread_stack T e now h b =
      let base = old ++ h.top.between in
      let P : List Text → Type 0 = λ s. KeepsStack {T = Unit {0}} s (Err e) now in
      grown {S = Unit {0}} {T = T} (λ t s. s ≡ old) (λ t s. s ≡ base) old base now h.top.between e refl (subst P (under_reply base mid h.message h.code (split h)) b.1)

-- the refusal of a reading, by its kind
module _ {A T : Type 0} (answer : Answer A) (Shows : A → T → Type 0) (old new : View) (r : Result T CmdFault) (h : replies.Reads answer Shows old new r) where
  pub unread : (kind : CmdFault) → r ≡ Err kind → replies.Refused answer kind old.stack new.stack
  unread kind e = let P : Result T CmdFault → Type 0 = λ x. IfErr x (λ k. replies.Refused answer k old.stack new.stack) in subst P e h.refuses

  pub was_read : (t : T) → r ≡ Ok t → replies.IsGiven answer Shows t
  was_read t e = let P : Result T CmdFault → Type 0 = λ x. IfOk x (λ v. replies.IsGiven answer Shows v) in subst P e h.gives

-- ---- the elements of a list by its place

-- what is known of the elements of a text that is a list
pub list_holds : (t : Text) (P : List Text → Type 0) → IsList t → IsOkAnd (elements t) P → P (listed t)
list_holds t P e h = subst (λ (r : Result (List Text) ListFlaw). IsOkAnd r P) e h

given_listed : (t : Text) (ts : List Text) → list_of t ≡ Gives ts → ts ≡ listed t
given_listed t ts e = sym (ap (λ (r : Result (List Text) ListFlaw). result_unwrap_or r []) (given_read (elements t) ts e))

pub given_list : (t : Text) (ts : List Text) → list_of t ≡ Gives ts → IsList t
given_list t ts e = given_read (elements t) ts e ∙ ap Ok (given_listed t ts e)

pub given_len : (t : Text) (ts : List Text) (len : ℕ) → list_of t ≡ Gives ts → len ≡ length ts → len ≡ length (listed t)
given_len t ts len e h = h ∙ ap length (given_listed t ts e)

-- how many elements a text has
pub counted_runs : {W : Type 0} → {here : Outer} (t : Text) (len : ℕ) (before new : (Machine W)) (w : World) → here.told ≡ Some w → SameState before new →
    replies.IsGiven (list_of t) (λ ts x. x ≡ length ts) len → Runs (of_answer (list_of t) (state_of before w)) (counted t) (start before w here.torn) (Ok len) new here
counted_runs t len before new w told same h =
    runs_as (ap (λ a. of_answer a (state_of before w)) (sym h.given)) (value_runs before told same (given_listed t h.read h.given, h.shown))

-- the elements of a text that is a list, as a computation
pub list_done : {W : Type 0} → (t : Text) (st : (State W)) → IsList t → of_answer (list_of t) st ≡ done (listed t) st
list_done t st e = ap (λ r. of_answer (list_read r) st) e

-- the list at a place of a stack that grew
pub list_below : (base more now : List Text) (i : ℕ) → now ≡ base ++ more → i < length base → get_or now i [] ≡ get_or base i []
list_below base more now i e h = ap (λ s. get_or s i []) e ∙ get_or_append_left base more [] i h

pub list_stays : (t u : Text) → u ≡ t → IsList t → IsList u
list_stays t u e = subst IsList (sym e)

-- the element that was pushed, by the elements of a text that is the same
pub one_pushed : (t u : Text) (cur new : List Text) (k : ℕ) → u ≡ t → k < length (listed t) → new ≡ cur ++ option_to_list (slice_get (listed u) k) → new ≡ cur ++ get_or (listed t) k [] ∷ []
one_pushed t u cur new k e h p = p ∙ ap (λ v. cur ++ option_to_list (slice_get (listed v) k)) e ∙ ap (λ o. cur ++ option_to_list o) (get_some (listed t) k h)

pub none_pushed : (t : Text) (cur new : List Text) (k : ℕ) → length (listed t) ≤ k → new ≡ cur ++ option_to_list (slice_get (listed t) k) → new ≡ cur
none_pushed t cur new k h p = p ∙ ap (λ o. cur ++ option_to_list o) (get_none (listed t) k h) ∙ append-nil cur

take_set : (s : List Text) (i : ℕ) (x : Text) (n : ℕ) → i < n → take n (set s i x) ≡ set (take n s) i x
take_set s i x zero h = absurd (omega (arith, h))
take_set [] i x (suc n) h = refl
take_set (y ∷ ys) zero x (suc n) h = refl
take_set (y ∷ ys) (suc i) x (suc n) h = ap (λ l. y ∷ l) (take_set ys i x n (omega (arith, h)))

set_seam : (base rest : List Text) (x y : Text) (k : ℕ) → k ≡ length base → set (base ++ x ∷ rest) k y ≡ base ++ y ∷ rest
set_seam [] rest x y zero e = refl
set_seam [] rest x y (suc k) e = absurd (omega (arith, e))
set_seam (b ∷ bs) rest x y zero e = absurd (omega (arith, e))
set_seam (b ∷ bs) rest x y (suc k) e = ap (λ l. b ∷ l) (set_seam bs rest x y k (omega (arith, e)))

-- The elements behind the first were pushed over the list, and the first then took the list's place.
pub first_in_place : (base one two new ts : List Text) (t : Text) (k : ℕ) → 0 < length ts → k ≡ length base → one ≡ (base ++ t ∷ []) ++ drop 1 ts → two ≡ one ++ get_or ts 0 [] ∷ []
    → new ≡ set (take (length two - 1) two) k (get_or two (length two - 1) []) → new ≡ base ++ ts
first_in_place base one two new [] t k h n e f g = absurd (omega arith)
first_in_place base one two new (x ∷ xs) t k h n e f g =
    let under_is : take (length two - 1) two ≡ one = ap (λ s. take (length s - 1) s) f ∙ under-push one x in
    let last_is : get_or two (length two - 1) [] ≡ x = ap (λ s. get_or s (length s - 1) []) f ∙ last-push one x in
    g ∙ ap (λ s. set s k (get_or two (length two - 1) [])) under_is ∙ ap (λ y. set one k y) last_is
    ∙ ap (λ s. set s k x) (e ∙ append_assoc base (t ∷ []) xs) ∙ set_seam base xs t x k n

-- the element that was lent, by the elements of a text that is the same
pub element_is : (t u x : Text) (k : ℕ) → u ≡ t → IsList t → k < length (listed t) → IsOkAnd (elements u) (λ ts. Some x ≡ slice_get ts k) → x ≡ get_or (listed t) k []
element_is t u x k e list h is =
    let known : Some x ≡ slice_get (listed u) k = list_holds u (λ ts. Some x ≡ slice_get ts k) (list_stays t u e list) is in
    some_is x (get_or (listed t) k []) (known ∙ ap (λ v. slice_get (listed v) k) e ∙ get_some (listed t) k h)
  where
    some_is : (x y : Text) → Some x ≡ Some y → x ≡ y
    some_is x y e = cc

-- the top text moved to a place below it
pub set_then_under : (old mid new : List Text) (to last : ℕ) → to + 1 < length old → last ≡ length old - 1 → mid ≡ set old to (get_or old last []) → new ≡ take (length mid - 1) mid → new ≡ set (take (length old - 1) old) to (get_or old (length old - 1) [])
set_then_under old mid new to last h l e f =
    let x = get_or old (length old - 1) [] in
    let m : mid ≡ set old to x = e ∙ ap (λ k. set old to (get_or old k [])) l in
    let long : length mid ≡ length old = ap length m ∙ length-set old to x in
    f ∙ ap (λ k. take (k - 1) mid) long ∙ ap (take (length old - 1)) m ∙ take_set old to x (length old - 1) (omega (arith, h))

-- ---- a value more

pub next_at : (values : List Text) (k : ℕ) → next_of (drop k values) ≡ get_or values k []
next_at values k = get_or-drop k values 0 [] ∙ ap (λ i. get_or values i []) (omega arith)

pub drop_next : (values : List Text) (k m : ℕ) → m ≡ k + 1 → drop 1 (drop k values) ≡ drop m values
drop_next values k m e = drop-drop 1 k values ∙ ap (λ i. drop i values) (omega (arith, e))

assign_first : {W : Type 0} → (names values : List Text) (name : Text) (rest : List Text) (st : (State W)) → name ∷ rest ≡ names →
    bind (assign name (next_of values) st) (λ kept s1. assign_each rest (drop 1 values) s1) ≡ assign_each names values st
unfolding assign_each
assign_first names values name rest st e = ap (λ ns. assign_each ns values st) e

-- one name and its value, and those behind
pub assign_step : {W : Type 0} → (names values : List Text) (k m : ℕ) (name value : Text) (st : (State W)) → k < length names → m ≡ k + 1 → name ≡ get_or names k [] → value ≡ get_or values k [] →
    bind (assign name value st) (λ kept s1. assign_each (drop m names) (drop m values) s1) ≡ assign_each (drop k names) (drop k values) st
assign_step names values k m name value st l e n v =
    ap (λ x. bind (assign x value st) (λ kept s1. assign_each (drop m names) (drop m values) s1)) n
    ∙ ap (λ x. bind (assign (get_or names k []) x st) (λ kept s1. assign_each (drop m names) (drop m values) s1)) (v ∙ sym (next_at values k))
    ∙ ap (λ vs. bind (assign (get_or names k []) (next_of (drop k values)) st) (λ kept s1. assign_each (drop m names) vs s1)) (sym (drop_next values k m e))
    ∙ assign_first (drop k names) (drop k values) (get_or names k []) (drop m names) st (ap (λ i. get_or names k [] ∷ drop i names) e ∙ sym (drop_more names k [] l))

pub assign_none : {W : Type 0} → (names values : List Text) (st : (State W)) → names ≡ [] → done tt st ≡ assign_each names values st
unfolding assign_each
assign_none names values st e = ap (λ ns. assign_each ns values st) (sym e)

-- the names between two places of a stack
pub name_between : (stack : List Text) (from to i : ℕ) → from ≤ i → i < to → get_or (take (to - from) (drop from stack)) (i - from) [] ≡ get_or stack i []
name_between stack from to i h l =
    get_or-take (to - from) (drop from stack) (i - from) [] (omega (arith, h, l)) ∙ get_or-drop from stack (i - from) [] ∙ ap (λ k. get_or stack k []) (omega (arith, h))

pub length_between : (stack : List Text) (from to : ℕ) → from ≤ to → to ≤ length stack → length (take (to - from) (drop from stack)) ≡ to - from
length_between stack from to h l = omega (arith, h, l, length-take (to - from) (drop from stack), length-drop from stack)

-- What a loop over names keeps: whatever the rest answers, the whole answers.
pub record Assigns {W : Type 0} (names values : List Text) (old now : (Machine W)) (count : ℕ) : Type 0 where
  pub stack : now.values.store.stack ≡ old.values.store.stack
  pub own : now.own ≡ old.own
  pub units_left : now.units ≡ old.units
  pub goes : (here : Outer) → AtWorld here (λ w. (r : Result (Unit {0}) End) (after : (Machine W)) →
      AtWorld here (λ v. Runs (assign_each (drop count names) (drop count values) (state_of now v)) unseen (start now v here.torn) r after here) →
      Runs (assign_each names values (state_of old w)) unseen (start old w here.torn) r after here)

pub assigns_begin : {W : Type 0} → (names values : List Text) (old : (Machine W)) (count : ℕ) → count ≡ 0 → Assigns names values old old count
assigns_begin names values old count e = record {
  stack = refl;
  own = refl;
  units_left = refl;
  goes = λ here w told r after k. runs_as (ap (λ n. assign_each (drop n names) (drop n values) (state_of old w)) e) (k w told);
}

-- an answer that isn't a value, whatever shows
pub other_show : {W A S T : Type 0} (m : Res W A) {given : A → S → List Text → Type 0} {shows : A → T → List Text → Type 0} {s : Start} {after : (Machine W)} {now : Outer} {e : End} →
    Runs {T = S} m given s (Err e) after now → Runs {T = T} m shows s (Err e) after now
other_show {A} {S} {T} m h = runs_as (bind-done m) (bind_stop {S = S} {T = T} (λ a s. done a s) h)

-- a call that isn't ok, on a stack that had grown
pub kept_grown : (r : Result (Unit {0}) End) (e : End) → r ≡ Err e → (base mid now more : List Text) → mid ≡ base ++ more → KeepsStack {T = Unit {0}} mid (Err e) now → KeepsStack {T = Unit {0}} base r now
kept_grown r e is base mid now more g h =
    let P : Result (Unit {0}) End → Type 0 = λ x. KeepsStack {T = Unit {0}} base x now in
    subst P (sym is) (grown {S = Unit {0}} {T = Unit {0}} (λ t s. s ≡ base) (λ t s. s ≡ mid) base mid now more e g h)

-- ---- lists of the rest

pub drop_least : (values : List Text) (from : ℕ) → drop (min from (length values)) values ≡ drop from values
drop_least values from = ⊎_elim
    (λ (l : from < length values). ap (λ k. drop k values) (omega (arith, l)))
    (λ (g : length values ≤ from). drop_all (min from (length values)) values (omega (arith, g)) ∙ sym (drop_all from values g)) (cases_lt from (length values))

-- texts that were pushed, one by one
pub pushed_more : (base stack now values : List Text) (from i : ℕ) (text : Text) → from ≤ i → i < length values → stack ≡ base ++ take (i - from) (drop from values) → now ≡ stack ++ text ∷ [] → text ≡ get_or values i [] →
    now ≡ base ++ take (i + 1 - from) (drop from values)
pushed_more base stack now values from i text h l e f t =
    let n : i + 1 - from ≡ i - from + 1 = omega arith in
    let at : from + (i - from) ≡ i = omega arith in
    let one : take (i + 1 - from) (drop from values) ≡ take (i - from) (drop from values) ++ get_or values i [] ∷ [] =
    ap (λ k. take k (drop from values)) n
    ∙ take_more (drop from values) (i - from) [] (omega (arith, length-drop from values))
    ∙ ap (λ x. take (i - from) (drop from values) ++ x ∷ []) (get_or-drop from values (i - from) [] ∙ ap (λ k. get_or values k []) at) in
    f ∙ ap (λ s. s ++ text ∷ []) e ∙ append_assoc base (take (i - from) (drop from values)) (text ∷ []) ∙ ap (λ x. base ++ (take (i - from) (drop from values) ++ x ∷ [])) t ∙ ap (λ ts. base ++ ts) (sym one)

pub pushed_none : (base values : List Text) (from : ℕ) → base ≡ base ++ take (from - from) (drop from values)
pushed_none base values from =
    let z : from - from ≡ 0 = omega arith in
    sym (ap (λ k. base ++ take k (drop from values)) z ∙ append-nil base)

pub all_from : (stack : List Text) (from to : ℕ) → to ≡ length stack → take (to - from) (drop from stack) ≡ drop from stack
all_from stack from to e = take_all (to - from) (drop from stack) (omega (arith, e, length-drop from stack))
