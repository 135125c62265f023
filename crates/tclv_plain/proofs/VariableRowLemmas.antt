-- The rows of `set`, `incr` and `append`, by the count of their words and by what their calls give.
use Rattle.std.proofs.Common.{◌≡◌, ℕ, ◌+◌, ◌-◌, ◌<◌, ◌≤◌, ◌^◌, List, [], ◌∷◌, ◌++◌, length, take, drop, get_or, sym, ap, ◌∙◌, refl, arith, length-drop, take-take, Bool, true, false, cond, ℤ, pos, negsuc, Option, Some, None, Result, Ok, Err, w64, ⊎_elim, subst₂, SFits, to_z, of_z}
use Rattle.std.specs.Prelude.{codes}
use Rattle.std.specs.List.{concat}
use Rattle.std.specs.Str.{chars}
use Rattle.std.specs.Option.{SomeIff}
use Rattle.std.specs.Int.RustNames.{FitsSigned}
use Rattle.std.proofs.lemmas.Bool.{cond-true, cond-false, lt-ltb, le-ltb, cases_lt}
use Rattle.std.proofs.lemmas.Int.{to_z-of_z}
use Rattle.std.proofs.lemmas.List.{append-nil, append_assoc, drop_more, take_more, drop-take, get_or-drop}
use Rattle.std.proofs.lemmas.List.Folds.{concat-append}
use Rattle.tclv_io.specs.World.{World}
use Rattle.tclv_text.specs.Numbers.{whole_text}
use Rattle.tclv_value.specs.Stacks.{top}
use Rattle.tclv_reply.specs.Names.{naming}
use Rattle.tclv_vars.specs.declared.faults.VarFault.{VarFault}
use Rattle.tclv_vars.specs.Table.{Table}
use Rattle.tclv_model.specs.declared.messages.MessageId.TheVariants.{IntegerTooLarge}
use Rattle.tclv_model.specs.declared.error_codes.ErrorCode.TheVariants.{Overflow}
use Rattle.tclv_model.specs.declared.usages.Usage.TheVariants as command
use Rattle.tclv_model.specs.Usages.{usage_of}
use Rattle.tclv_engine.specs.declared.endings.End.{End}
use Rattle.tclv_engine.specs.declared.endings.End.TheVariants as end
use Rattle.tclv_engine.specs.declared.machine.Machine.{Machine}
use Rattle.tclv_engine.specs.State.{Text, State, state_of}
use Rattle.tclv_engine.specs.Results.{Res, bind, done, ok, raise}
use Rattle.tclv_engine.specs.Names.{bytes_of, read_named}
use Rattle.tclv_engine.specs.Variables.{is_unbuilt, variable}
use Rattle.tclv_engine.specs.Usages.{usage}
use Rattle.tclv_engine.specs.Answers.{Outer, Start, start, Runs, SameState, Above, Over, KeepsStack, PushesOne, PushesResult, last_of, on_top, as_result}
use Rattle.tclv_plain.specs.VariableRows.{lacks_value, is_unset, variable_or, assign_result, fits, assign_sum, increase, increase_by, append_all, row_set, row_incr, row_append}
use Rattle.tclv_engine.proofs.Binds.{bind_ok, bind_stop, runs_as}
use Rattle.tclv_engine.proofs.Leaves.{done_runs, from_same}
use Rattle.tclv_engine.proofs.StackLemmas.{last-pushed, pushes_one, text_below}
use Rattle.tclv_engine.proofs.WordLemmas.{top_two, top_three, top_length}

-- ---- sums

fits_true : (z : ℤ) → FitsSigned w64 z → fits z ≡ true
unfolding fits
fits_true (pos n) h = lt-ltb _ _ h.sfits
fits_true (negsuc n) h = lt-ltb _ _ h.sfits

fits_false : (z : ℤ) → (FitsSigned w64 z → ⊥) → fits z ≡ false
unfolding fits
fits_false (pos n) h = ⊎_elim (λ (l : n < 2 ^ 63). absurd (h (record { sfits = l }))) (λ (g : 2 ^ 63 ≤ n). le-ltb _ _ g) (cases_lt n (2 ^ 63))
fits_false (negsuc n) h = ⊎_elim (λ (l : n < 2 ^ 63). absurd (h (record { sfits = l }))) (λ (g : 2 ^ 63 ≤ n). le-ltb _ _ g) (cases_lt n (2 ^ 63))

-- a number, where it is one of 64 bits
abbrev pub sum_of : ℤ → Option ℤ
sum_of z = cond (fits z) (Some z) None

pub sum_is : (o : Option ℤ) (z : ℤ) → SomeIff o (FitsSigned w64 z) z → o ≡ sum_of z
sum_is None z h = sym (cond-false _ _ _ (fits_false z h))
sum_is (Some x) z h = ap Some h.1 ∙ sym (cond-true _ _ _ (fits_true z h.0))

-- a number is what its bits are read as
pub real2 : (P : ℤ → ℤ → Type 0) (a b : ℤ) → SFits w64 a → SFits w64 b → P (to_z w64 (of_z w64 a)) (to_z w64 (of_z w64 b)) → P a b
real2 P a b f g p = subst₂ P (to_z-of_z w64 a f) (to_z-of_z w64 b g) p

sum_some : {W : Type 0} → (b : Bool) (z s : ℤ) (name : Text) (st : (State W)) → cond b (Some z) None ≡ Some s → assign_result name (whole_text s) st ≡ cond b (assign_result name (whole_text z) st) (raise IntegerTooLarge [] [] Overflow st)
sum_some true z s name st e = cc
sum_some false z s name st e = cc

sum_none : {W : Type 0} → (b : Bool) (z : ℤ) (name : Text) (st : (State W)) → cond b (Some z) None ≡ None → raise IntegerTooLarge [] [] Overflow st ≡ cond b (assign_result name (whole_text z) st) (raise IntegerTooLarge [] [] Overflow st)
sum_none true z name st e = cc
sum_none false z name st e = refl

pub sum_fits : {W : Type 0} → (z s : ℤ) (name : Text) (st : (State W)) → sum_of z ≡ Some s → assign_result name (whole_text s) st ≡ assign_sum name z st
sum_fits z s name st e = sum_some (fits z) z s name st e

pub sum_too_large : {W : Type 0} → (z : ℤ) (name : Text) (st : (State W)) → sum_of z ≡ None → raise IntegerTooLarge [] [] Overflow st ≡ assign_sum name z st
sum_too_large z name st e = sum_none (fits z) z name st e

-- ---- variables that may be unset

pub unset_value : {W : Type 0} → (instead name : Text) (st : (State W)) (b : Bool) → b ≡ is_unset name st.tables.vars → b ≡ true → done instead st ≡ variable_or instead name st
unset_value instead name st b e h = sym (cond-true _ _ _ (sym e ∙ h))

pub set_value : {W : Type 0} → (instead name : Text) (st : (State W)) (b : Bool) → b ≡ is_unset name st.tables.vars → b ≡ false → variable name st ≡ variable_or instead name st
set_value instead name st b e h = sym (cond-false _ _ _ (sym e ∙ h))

-- a name that isn't built yet, and another, by what reading it gave
pub unset-unbuilt : (bs : List ℕ) (name : Text) (vars : Table) → bs ≡ bytes_of name → is_unbuilt bs ≡ true → false ≡ is_unset name vars
unset-unbuilt bs name vars e h = sym (cond-true _ _ _ (ap is_unbuilt (sym e) ∙ h))

pub unset-read : (bs : List ℕ) (name : Text) (vars : Table) (r : Result ℕ VarFault) → bs ≡ bytes_of name → is_unbuilt bs ≡ false → read_named vars (naming (bytes_of name)) ≡ r → lacks_value r ≡ is_unset name vars
unset-read bs name vars r e h k = ap lacks_value (sym k) ∙ sym (cond-false _ _ _ (ap is_unbuilt (sym e) ∙ h))

pub zero_written : chars (codes "0") ≡ codes "0"
unfolding chars
zero_written = refl

-- ---- results

ok_by : {W : Type 0} → (m : Res W Text) (s : Start) (r : Result (Unit {0}) End) (after : (Machine W)) (now : Outer) → Runs m on_top s r after now → Runs (bind m ok) as_result s r after now
ok_by m s (Ok t) after now h = bind_ok ok h (λ a v e shown. done_runs e refl (shown, refl))
ok_by m s (Err e) after now h = bind_stop ok h

-- a text on top is the result
pub ok_runs : {W : Type 0} → {m : Res W Text} {s : Start} {r : Result (Unit {0}) End} {after : (Machine W)} {now : Outer} → Runs m on_top s r after now → Runs (bind m ok) as_result s r after now
ok_runs {m = m} {s = s} {r = r} {after = after} {now = now} h = ok_by m s r after now h

-- ---- the stack below a text that was pushed

pub texts_below : (base now : List Text) (i : ℕ) → Over 1 base now → i ≤ length base → take (length base - i) (drop i now) ≡ drop i base
texts_below base now i h l =
    let n : i + (length base - i) ≡ length base = omega arith in
    sym (drop-take i (length base - i) now) ∙ ap (λ k. drop i (take k now)) n ∙ ap (drop i) h.kept

over_pushed : (text : Text) (base now : List Text) → now ≡ base ++ text ∷ [] → Over 1 base now
over_pushed text base now e = pushes_one {T = Unit {0}} text base (Ok tt) now e

above_more : (base mid now : List Text) → Over 1 base mid → Above mid now → Above base now
above_more base mid now h k = record {
  kept = sym (ap (λ s. take (length base) s) (sym k.kept) ∙ take-take (length base) (length mid) now (omega (arith, h.count_is))) ∙ h.kept;
  some = omega (arith, h.count_is, k.some);
}

over_more : (base mid now : List Text) → Over 1 base mid → Over 1 mid now → Above base now
over_more base mid now h k = above_more base mid now h (record { kept = k.kept; some = omega (arith, k.count_is) })

-- a call that keeps the stack, after a text was pushed
pub kept_pushed : (r : Result (Unit {0}) End) (text : Text) (base mid now : List Text) → mid ≡ base ++ text ∷ [] → KeepsStack mid r now → PushesOne base r now
kept_pushed (Ok t) text base mid now e h = over_pushed text base now (h ∙ e)
kept_pushed (Err (end.Left l)) text base mid now e h = above_more base mid now (over_pushed text base mid e) h
kept_pushed (Err end.Budget) text base mid now e h = tt
kept_pushed (Err (end.Exit n)) text base mid now e h = tt
kept_pushed (Err end.Device) text base mid now e h = tt
kept_pushed (Err end.Memory) text base mid now e h = tt

-- a call that pushes one more
pub one_more : (r : Result (Unit {0}) End) (base mid now : List Text) → Over 1 base mid → PushesOne mid r now → PushesResult base r now
one_more (Ok t) base mid now e h = over_more base mid now e h
one_more (Err (end.Left l)) base mid now e h = above_more base mid now e h
one_more (Err end.Budget) base mid now e h = tt
one_more (Err (end.Exit n)) base mid now e h = tt
one_more (Err end.Device) base mid now e h = tt
one_more (Err end.Memory) base mid now e h = tt

-- The variable is set to a text that was pushed.
pub pushed_runs : {W : Type 0} → {r : Result (Unit {0}) End} {after : (Machine W)} {now : Outer} {w : World} {torn : ℕ} (old mid : (Machine W)) (name : ℕ) (value : Text) →
    SameState old mid → name < length old.values.store.stack → mid.values.store.stack ≡ old.values.store.stack ++ value ∷ [] →
    Runs (assign_result (get_or mid.values.store.stack name []) (last_of mid.values.store.stack) (state_of mid w)) as_result (start mid w torn) r after now →
    Runs (assign_result (get_or old.values.store.stack name []) value (state_of old w)) as_result (start old w torn) r after now
pushed_runs {w = w} old mid name value same l e k =
    from_same old mid (assign_result (get_or old.values.store.stack name []) value) same
    (runs_as
    (ap (λ n. assign_result n (last_of mid.values.store.stack) (state_of mid w)) (text_below old.values.store.stack mid.values.store.stack name (over_pushed value old.values.store.stack mid.values.store.stack e) l)
    ∙ ap (λ v. assign_result (get_or old.values.store.stack name []) v (state_of mid w)) (last-pushed old.values.store.stack mid.values.store.stack value e))
    k)

-- ---- joining

pub joined_more : (old text next : Text) (stack : List Text) (from i : ℕ) → from ≤ i → i < length stack →
    text ≡ old ++ concat (take (i - from) (drop from stack)) → next ≡ text ++ get_or stack i [] →
    next ≡ old ++ concat (take (i + 1 - from) (drop from stack))
joined_more old text next stack from i h l e f =
    let before = take (i - from) (drop from stack) in
    let n : i + 1 - from ≡ i - from + 1 = omega arith in
    let at : from + (i - from) ≡ i = omega arith in
    let one : take (i + 1 - from) (drop from stack) ≡ before ++ get_or stack i [] ∷ [] =
    ap (λ k. take k (drop from stack)) n
    ∙ take_more (drop from stack) (i - from) [] (omega (arith, length-drop from stack))
    ∙ ap (λ t. before ++ t ∷ []) (get_or-drop from stack (i - from) [] ∙ ap (λ k. get_or stack k []) at) in
    let more : concat (take (i + 1 - from) (drop from stack)) ≡ concat before ++ get_or stack i [] =
    ap concat one ∙ concat-append before (get_or stack i [] ∷ []) ∙ ap (λ t. concat before ++ t) (append-nil (get_or stack i [])) in
    f ∙ ap (λ t. t ++ get_or stack i []) e ∙ append_assoc old (concat before) (get_or stack i []) ∙ ap (λ t. old ++ t) (sym more)

-- ---- set

set_of : {W : Type 0} → (words words' : List Text) (st : (State W)) → words ≡ words' → row_set words' st ≡ row_set words st
set_of words words' st e = ap (λ ws. row_set ws st) (sym e)

pub set_reads : {W : Type 0} → (stack : List Text) (n base : ℕ) (st : (State W)) → n ≡ 2 → n ≤ length stack → base ≡ length stack - n → bind (variable (get_or stack (base + 1) []) st) ok ≡ row_set (top n stack) st
set_reads stack n base st e h b =
    set_of (top n stack) _ st (ap (λ k. top k stack) e ∙ top_two stack base (omega (arith, e, b)))

pub set_assigns : {W : Type 0} → (stack : List Text) (n base : ℕ) (st : (State W)) → n ≡ 3 → n ≤ length stack → base ≡ length stack - n → assign_result (get_or stack (base + 1) []) (last_of stack) st ≡ row_set (top n stack) st
set_assigns stack n base st e h b =
    let last : length stack - 1 ≡ base + 2 = omega (arith, e, b) in
    ap (λ i. assign_result (get_or stack (base + 1) []) (get_or stack i []) st) last
    ∙ set_of (top n stack) _ st (ap (λ k. top k stack) e ∙ top_three stack base (omega (arith, e, b)))

set_many : {W : Type 0} → (words : List Text) (st : (State W)) → (length words ≡ 2 → ⊥) → (length words ≡ 3 → ⊥) → usage (usage_of command.Set) words st ≡ row_set words st
set_many [] st h k = refl
set_many (a ∷ []) st h k = refl
set_many (a ∷ b ∷ []) st h k = absurd (h refl)
set_many (a ∷ b ∷ c ∷ []) st h k = absurd (k refl)
set_many (a ∷ b ∷ c ∷ d ∷ ws) st h k = refl

pub set_refused : {W : Type 0} → (stack : List Text) (n : ℕ) (st : (State W)) → n ≤ length stack → (n ≡ 2 → ⊥) → (n ≡ 3 → ⊥) → usage (usage_of command.Set) (top n stack) st ≡ row_set (top n stack) st
set_refused stack n st l h k =
    let len = top_length stack n l in
    set_many (top n stack) st (λ e. h (sym len ∙ e)) (λ e. k (sym len ∙ e))

-- ---- incr

incr_of : {W : Type 0} → (words words' : List Text) (st : (State W)) → words ≡ words' → row_incr words' st ≡ row_incr words st
incr_of words words' st e = ap (λ ws. row_incr ws st) (sym e)

pub incr_one : {W : Type 0} → (stack : List Text) (n base : ℕ) (st : (State W)) → n ≡ 2 → n ≤ length stack → base ≡ length stack - n → increase (get_or stack (base + 1) []) (pos 1) st ≡ row_incr (top n stack) st
incr_one stack n base st e h b =
    incr_of (top n stack) _ st (ap (λ k. top k stack) e ∙ top_two stack base (omega (arith, e, b)))

pub incr_by_word : {W : Type 0} → (stack : List Text) (n base : ℕ) (st : (State W)) → n ≡ 3 → n ≤ length stack → base ≡ length stack - n → increase_by (get_or stack (base + 1) []) (get_or stack (base + 2) []) st ≡ row_incr (top n stack) st
incr_by_word stack n base st e h b =
    incr_of (top n stack) _ st (ap (λ k. top k stack) e ∙ top_three stack base (omega (arith, e, b)))

incr_many : {W : Type 0} → (words : List Text) (st : (State W)) → (length words ≡ 2 → ⊥) → (length words ≡ 3 → ⊥) → usage (usage_of command.Incr) words st ≡ row_incr words st
incr_many [] st h k = refl
incr_many (a ∷ []) st h k = refl
incr_many (a ∷ b ∷ []) st h k = absurd (h refl)
incr_many (a ∷ b ∷ c ∷ []) st h k = absurd (k refl)
incr_many (a ∷ b ∷ c ∷ d ∷ ws) st h k = refl

pub incr_refused : {W : Type 0} → (stack : List Text) (n : ℕ) (st : (State W)) → n ≤ length stack → (n ≡ 2 → ⊥) → (n ≡ 3 → ⊥) → usage (usage_of command.Incr) (top n stack) st ≡ row_incr (top n stack) st
incr_refused stack n st l h k =
    let len = top_length stack n l in
    incr_many (top n stack) st (λ e. h (sym len ∙ e)) (λ e. k (sym len ∙ e))

-- ---- append

append_of : {W : Type 0} → (words words' : List Text) (st : (State W)) → words ≡ words' → row_append words' st ≡ row_append words st
append_of words words' st e = ap (λ ws. row_append ws st) (sym e)

pub append_reads : {W : Type 0} → (stack : List Text) (n base : ℕ) (st : (State W)) → n ≡ 2 → n ≤ length stack → base ≡ length stack - n → bind (variable (get_or stack (base + 1) []) st) ok ≡ row_append (top n stack) st
append_reads stack n base st e h b =
    append_of (top n stack) _ st (ap (λ k. top k stack) e ∙ top_two stack base (omega (arith, e, b)))

append_some : {W : Type 0} → (word name : Text) (values : List Text) (st : (State W)) → 0 < length values → append_all name values st ≡ row_append (word ∷ name ∷ values) st
append_some word name [] st h = absurd (omega (arith, h))
append_some word name (value ∷ values) st h = refl

pub append_values : {W : Type 0} → (stack : List Text) (n base : ℕ) (st : (State W)) → 0 < n → (n ≡ 1 → ⊥) → (n ≡ 2 → ⊥) → n ≤ length stack → base ≡ length stack - n →
    append_all (get_or stack (base + 1) []) (drop (base + 1 + 1) stack) st ≡ row_append (top n stack) st
append_values stack n base st some one two l b =
    let many : 3 ≤ n = omega (arith, one, two) in
    append_some (get_or stack base []) (get_or stack (base + 1) []) (drop (base + 1 + 1) stack) st (omega (arith, b, length-drop (base + 1 + 1) stack))
    ∙ append_of (top n stack) _ st
    (ap (λ k. drop k stack) (sym b)
    ∙ drop_more stack base [] (omega (arith, b))
    ∙ ap (λ ws. get_or stack base [] ∷ ws) (drop_more stack (base + 1) [] (omega (arith, b))))

append_one : {W : Type 0} → (words : List Text) (st : (State W)) → length words ≡ 1 → usage (usage_of command.Append) words st ≡ row_append words st
append_one [] st h = refl
append_one (a ∷ []) st h = refl
append_one (a ∷ b ∷ ws) st h = absurd (omega (arith, h))

pub append_refused : {W : Type 0} → (stack : List Text) (n : ℕ) (st : (State W)) → n ≡ 1 → n ≤ length stack → usage (usage_of command.Append) (top n stack) st ≡ row_append (top n stack) st
append_refused stack n st e l = append_one (top n stack) st (top_length stack n l ∙ e)
