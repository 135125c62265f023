-- How answers follow one another along a bind.
use Rattle.std.proofs.Common.{◌≡◌, ℕ, List, [], ◌∷◌, ◌++◌, length, Result, Ok, Err, sym, ◌∙◌, ap, refl, subst, Some, arith, ◌+◌, ◌≤◌}
use Rattle.std.proofs.lemmas.List.{append_assoc, append-nil, length-append}
use Rattle.tclv_io.specs.World.{World, Out}
use Rattle.tclv_io.specs.Events.{Event, Made, Wrote, after_all, apply, partly, next_length}
use Rattle.tclv_model.specs.declared.outcomes.Code.{Code}
use Rattle.tclv_model.specs.declared.outcomes.Pair.{Pair}
use Rattle.tclv_engine.specs.declared.endings.End.{End}
use Rattle.tclv_engine.specs.declared.endings.End.TheVariants as end
use Rattle.tclv_engine.specs.declared.machine.Machine.{Machine}
use Rattle.tclv_engine.specs.State.{Text, State, state_of}
use Rattle.tclv_engine.specs.Results.{Ending, Done, Left, Budget, Exit, Res, ends, done, go_on, bind}
use Rattle.tclv_engine.specs.Answers.{Outer, Start, start, Ends, Cut, Says, Runs, Caused}
use Rattle.tclv_engine.proofs.EventLemmas.{no_part}

-- where the first has a value, the second decides
go_on-done : {W A B : Type 0} (e : Ending A) (st s1 : (State W)) (a : A) (next : A → (State W) → Res W B) →
    e ≡ Done a → st ≡ s1 → go_on e st next ≡ next a s1
go_on-done e st s1 a next h k = ap (λ x. go_on x st next) h ∙ ap (λ s. next a s) k

go_on-left : {W A B : Type 0} (e : Ending A) (st s1 : (State W)) (c : Code) (t : Text) (os : List Pair) (next : A → (State W) → Res W B) →
    e ≡ Left c t os → st ≡ s1 → go_on e st next ≡ ends (Left c t os) s1
go_on-left e st s1 c t os next h k = ap (λ x. go_on x st next) h ∙ ap (λ s. ends (Left c t os) s) k

go_on-budget : {W A B : Type 0} (e : Ending A) (st s1 : (State W)) (next : A → (State W) → Res W B) →
    e ≡ Budget → st ≡ s1 → go_on e st next ≡ ends Budget s1
go_on-budget e st s1 next h k = ap (λ x. go_on x st next) h ∙ ap (λ s. ends Budget s) k

go_on-exit : {W A B : Type 0} (e : Ending A) (st s1 : (State W)) (n : ℕ) (next : A → (State W) → Res W B) →
    e ≡ Exit n → st ≡ s1 → go_on e st next ≡ ends (Exit n) s1
go_on-exit e st s1 n next h k = ap (λ x. go_on x st next) h ∙ ap (λ s. ends (Exit n) s) k

pub after_all-append : (xs ys : List Event) (o : Out) → after_all o (xs ++ ys) ≡ after_all (after_all o xs) ys
after_all-append [] ys o = refl
after_all-append (x ∷ xs) ys o = after_all-append xs ys (apply o x)

-- counts of events add up
counted-append : (xs ys : List Event) (before mid now : ℕ) → mid ≡ before + length xs → now ≡ mid + length ys → now ≡ before + length (xs ++ ys)
counted-append xs ys before mid now h k = omega (arith, length-append xs ys)

ends-bind : {W A B : Type 0} (m : Res W A) (next : A → (State W) → Res W B) (s : Start) (a : A) (s1 after : (Machine W)) (v w : World) (mid torn : ℕ) (e : Ending B) →
    Ends m s (Done a) s1 v mid → Ends (next a (state_of s1 v)) (start s1 v mid) e after w torn → Ends (bind m next) s e after w torn
unfolding bind
ends-bind m next s a s1 after v w mid torn e h k =
    let same = go_on-done m.ending m.after (state_of s1 v) a next h.ending h.state in
    let second : go_on m.ending m.after next ≡ next a (state_of s1 v) = same in
    record {
      ending = ap (λ r. r.ending) same ∙ k.ending;
      state = ap (λ r. r.after) same ∙ k.state;
      out = k.out ∙ ap (λ o. after_all o (next a (state_of s1 v)).events) h.out ∙ ap (λ r. after_all (after_all s.world.out m.events) r.events) (sym same) ∙ sym (after_all-append m.events _ s.world.out);
      whole = k.whole ∙ h.whole;
      counted = counted-append m.events _ s.events s1.writes after.writes h.counted (k.counted ∙ ap (λ r. s1.writes + length r.events) (sym same));
    }

cut-bind : {W A B : Type 0} (m : Res W A) (next : A → (State W) → Res W B) (s : Start) (a : A) (s1 after : (Machine W)) (v w : World) (mid torn part : ℕ) →
    Ends m s (Done a) s1 v mid → Cut (next a (state_of s1 v)) (start s1 v mid) part after w torn → Cut (bind m next) s part after w torn
unfolding bind
cut-bind m next s a s1 after v w mid torn part h k =
    let same = go_on-done m.ending m.after (state_of s1 v) a next h.ending h.state in
    record {
      first = m.events ++ k.first;
      rest = k.rest;
      split = ap (λ r. m.events ++ r.events) same ∙ ap (λ es. m.events ++ es) k.split ∙ sym (append_assoc m.events k.first k.rest);
      out = k.out ∙ ap (λ o. partly part (after_all o k.first) k.rest) h.out ∙ ap (λ o. partly part o k.rest) (sym (after_all-append m.events k.first s.world.out));
      within = k.within;
      part_is = k.part_is ∙ ap (λ n. n + part) h.whole;
      counted = counted-append m.events k.first s.events s1.writes after.writes h.counted k.counted;
    }

ok-says : {W A B T : Type 0} (m : Res W A) (next : A → (State W) → Res W B) (shows : B → T → List Text → Type 0) (s : Start) (a : A) (s1 after : (Machine W)) (v w : World) (mid torn : ℕ) (r : Result T End) →
    Ends m s (Done a) s1 v mid → Says (next a (state_of s1 v)) shows (start s1 v mid) r after w torn → Says (bind m next) shows s r after w torn
ok-says m next shows s a s1 after v w mid torn (Ok b) h k = record { value = k.value; ends = ends-bind m next s a s1 after v w mid torn _ h k.ends; shown = k.shown }
ok-says m next shows s a s1 after v w mid torn (Err (end.Left l)) h k = ends-bind m next s a s1 after v w mid torn _ h k
ok-says m next shows s a s1 after v w mid torn (Err end.Budget) h k = ends-bind m next s a s1 after v w mid torn _ h k
ok-says m next shows s a s1 after v w mid torn (Err (end.Exit n)) h k = ends-bind m next s a s1 after v w mid torn _ h k
ok-says m next shows s a s1 after v w mid torn (Err end.Device) h k = (k.0, cut-bind m next s a s1 after v w mid torn k.0 h k.1)
ok-says m next shows s a s1 after v w mid torn (Err end.Memory) h k = cut-bind m next s a s1 after v w mid torn 0 h k

-- The first has a value: the answer is that of what follows, which starts where the first ended.
pub bind_ok : {W A B S T : Type 0} {m : Res W A} (next : A → (State W) → Res W B) {given : A → S → List Text → Type 0} {shows : B → T → List Text → Type 0} {s : Start} {t : S} {s1 after : (Machine W)} {mid now : Outer} {r : Result T End} →
    Runs m given s (Ok t) s1 mid →
    ((a : A) (v : World) → mid.told ≡ Some v → given a t s1.values.store.stack → Runs (next a (state_of s1 v)) shows (start s1 v mid.torn) r after now) →
    Runs (bind m next) shows s r after now
bind_ok {m = m} next {shows = shows} {s = s} {s1 = s1} {after = after} {mid = mid} {r = r} h k =
    let first = h.says in
    let second = k first.value h.world h.told first.shown in
    record { world = second.world; told = second.told; says = ok-says m next shows s first.value s1 after h.world second.world mid.torn _ r first.ends second.says }

-- the first has no value: it decides
stop-ends : {W A B : Type 0} (m : Res W A) (next : A → (State W) → Res W B) (s : Start) (after : (Machine W)) (w : World) (torn : ℕ) (e : Ending A) (f : Ending B) →
    go_on m.ending m.after next ≡ ends f (state_of after w) → Ends m s e after w torn → Ends (bind m next) s f after w torn
unfolding bind
stop-ends m next s after w torn e f same h = record {
  ending = ap (λ r. r.ending) same;
  state = ap (λ r. r.after) same;
  out = h.out ∙ ap (λ es. after_all s.world.out es) (sym (ap (λ r. m.events ++ r.events) same ∙ append-nil m.events));
  whole = h.whole;
  counted = h.counted ∙ ap (λ es. s.events + length es) (sym (ap (λ r. m.events ++ r.events) same ∙ append-nil m.events));
}

-- so much of what comes next is the same where more comes behind it
partly-append : (o : Out) (es more : List Event) (part : ℕ) → part ≤ next_length es → partly part o (es ++ more) ≡ partly part o es
partly-append o [] more part h = let z : part ≡ 0 = omega arith in rw z (no_part o more)
partly-append o (Made mode name ∷ es) more part h = refl
partly-append o (Wrote target piece ∷ es) more part h = refl

within-append : (es more : List Event) (part : ℕ) → part ≤ next_length es → part ≤ next_length (es ++ more)
within-append [] more part h = omega arith
within-append (Made mode name ∷ es) more part h = h
within-append (Wrote target piece ∷ es) more part h = h

pub answers_as : {W A T : Type 0} {m : Res W A} {shows : A → T → List Text → Type 0} {s : Start} {r r' : Result T End} {after : (Machine W)} {now : Outer} →
    r ≡ r' → Runs m shows s r' after now → Runs m shows s r after now
answers_as {m = m} {shows = shows} {s = s} {after = after} {now = now} e h = let P : Result _ End → Type 0 = λ x. Runs m shows s x after now in subst P (sym e) h

stop-cut : {W A B : Type 0} (m : Res W A) (next : A → (State W) → Res W B) (s : Start) (part : ℕ) (after : (Machine W)) (w : World) (torn : ℕ) →
    Cut m s part after w torn → Cut (bind m next) s part after w torn
unfolding bind
stop-cut m next s part after w torn h =
    let more = (go_on m.ending m.after next).events in
    record {
      first = h.first;
      rest = h.rest ++ more;
      split = ap (λ es. es ++ more) h.split ∙ append_assoc h.first h.rest more;
      out = h.out ∙ sym (partly-append (after_all s.world.out h.first) h.rest more part h.within);
      within = within-append h.rest more part h.within;
      part_is = h.part_is;
      counted = h.counted;
    }

stop-says : {W A B S T : Type 0} (m : Res W A) (next : A → (State W) → Res W B) (given : A → S → List Text → Type 0) (shows : B → T → List Text → Type 0) (s : Start) (after : (Machine W)) (w : World) (torn : ℕ) (e : End) →
    Says {T = S} m given s (Err e) after w torn → Says {T = T} (bind m next) shows s (Err e) after w torn
stop-says m next given shows s after w torn (end.Left l) h = stop-ends m next s after w torn _ _ (go_on-left m.ending m.after (state_of after w) _ _ _ next h.ending h.state) h
stop-says m next given shows s after w torn end.Budget h = stop-ends m next s after w torn _ _ (go_on-budget m.ending m.after (state_of after w) next h.ending h.state) h
stop-says m next given shows s after w torn (end.Exit n) h = stop-ends m next s after w torn _ _ (go_on-exit m.ending m.after (state_of after w) n next h.ending h.state) h
stop-says m next given shows s after w torn end.Device h = (h.0, stop-cut m next s h.0 after w torn h.1)
stop-says m next given shows s after w torn end.Memory h = stop-cut m next s 0 after w torn h

-- The first has no value: its answer is the answer.
pub bind_stop : {W A B S T : Type 0} {m : Res W A} (next : A → (State W) → Res W B) {given : A → S → List Text → Type 0} {shows : B → T → List Text → Type 0} {s : Start} {after : (Machine W)} {now : Outer} {e : End} →
    Runs {T = S} m given s (Err e) after now → Runs {T = T} (bind m next) shows s (Err e) after now
bind_stop {S = S} {T = T} {m = m} next {given = given} {shows = shows} {s = s} {after = after} {now = now} {e = e} h =
    record { world = h.world; told = h.told; says = stop-says {S = S} {T = T} m next given shows s after h.world now.torn e h.says }

-- the same, where the answer is known by an equation
pub then_stop : {W A B S T : Type 0} {m : Res W A} (next : A → (State W) → Res W B) {given : A → S → List Text → Type 0} {shows : B → T → List Text → Type 0} {s : Start} {after : (Machine W)} {now : Outer} {e : End} {r : Result T End} →
    r ≡ Err e → Runs {T = S} m given s (Err e) after now → Runs (bind m next) shows s r after now
then_stop next {shows = shows} {s = s} {after = after} {now = now} same h = answers_as same (bind_stop next h)

-- ---- what computations and answers are the same

pub runs_as : {W A T : Type 0} {m m' : Res W A} {shows : A → T → List Text → Type 0} {s : Start} {r : Result T End} {after : (Machine W)} {now : Outer} →
    m' ≡ m → Runs m' shows s r after now → Runs m shows s r after now
runs_as {shows = shows} {s = s} {r = r} {after = after} {now = now} e h = let P : Res _ _ → Type 0 = λ x. Runs x shows s r after now in subst P e h

-- a call that touches no outside leaves each count as it is
pub calm_caused : {T : Type 0} (r : Result T End) (before now : ℕ) → Caused 0 0 r → now ≡ before → Caused before now r
calm_caused (Ok t) before now c h = h
calm_caused (Err (end.Left l)) before now c h = h
calm_caused (Err end.Budget) before now c h = h
calm_caused (Err (end.Exit n)) before now c h = h
calm_caused (Err end.Device) before now c h = absurd (omega (arith, c.1))
calm_caused (Err end.Memory) before now c h = h

-- ---- a value that is handed on

bind-done-by : {W A : Type 0} (e : Ending A) (st : (State W)) (es : List Event) → bind (record { ending = e; after = st; events = es }) (λ a s. done a s) ≡ record { ending = e; after = st; events = es }
unfolding bind
bind-done-by (Done a) st es = ap (λ x. record { ending = Done a; after = st; events = x }) (append-nil es)
bind-done-by (Left c t os) st es = ap (λ x. record { ending = Left c t os; after = st; events = x }) (append-nil es)
bind-done-by Budget st es = ap (λ x. record { ending = Budget; after = st; events = x }) (append-nil es)
bind-done-by (Exit n) st es = ap (λ x. record { ending = Exit n; after = st; events = x }) (append-nil es)

pub bind-done : {W A : Type 0} (m : Res W A) → bind m (λ a s. done a s) ≡ m
bind-done m = bind-done-by m.ending m.after m.events
