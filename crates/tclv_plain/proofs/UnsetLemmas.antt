-- Variables that are unset one by one, and the words before their names.
use Rattle.std.proofs.Common.{◌≡◌, ℕ, ◌+◌, ◌<◌, ◌≤◌, Bool, true, false, List, [], length, drop, get_or, sym, ap, ◌∙◌, refl, arith, ⊎_elim, Result, Ok, Err}
use Rattle.std.specs.Str.{bytes_eq}
use Rattle.std.proofs.lemmas.List.{drop_more, drop_all}
use Rattle.std.proofs.lemmas.Bool.{cond-true, cond-false, cases_lt}
use Rattle.std.specs.Ordering.{nat_cmp}
use Rattle.std.specs.FinMap.{FinMap}
use Rattle.tclv_vars.specs.declared.parts.Content.{Content}
use Rattle.tclv_vars.specs.declared.places.Place.TheVariants as place
use Rattle.tclv_vars.specs.declared.faults.VarFault.{VarFault}
use Rattle.tclv_vars.specs.Table.{Table}
use Rattle.tclv_vars.specs.Unset.{is_held, unset, unset_at, left_at, left_unset}
use Rattle.tclv_io.specs.World.{World}
use Rattle.tclv_model.specs.declared.error_codes.ErrorCode.TheVariants.{NoCode}
use Rattle.tclv_reply.specs.Names.{Naming, naming}
use Rattle.tclv_engine.specs.declared.machine.Machine.{Machine}
use Rattle.tclv_engine.specs.Holdings.{Holdings, SameVariables}
use Rattle.tclv_engine.specs.Names.{bytes_of}
use Rattle.tclv_engine.specs.State.{Text, State, state_of, variables_in}
use Rattle.tclv_engine.specs.Results.{bind, done, raise}
use Rattle.tclv_engine.specs.Variables.{is_unbuilt, not_built}
use Rattle.tclv_plain.specs.UnsetRows.{held_named, cleared, unsetting_message, unset_found, unset_variable, unset_each, begins_with, without_first, behind}

-- ---- one by one

pub unset_step : {W : Type 0} → (complains : Bool) (stack now : List Text) (at : ℕ) (st : State W) → at < length stack → now ≡ stack →
    bind (unset_variable complains (get_or now at []) st) (λ u s1. unset_each complains (drop (at + 1) stack) s1) ≡ unset_each complains (drop at stack) st
unfolding unset_each
unset_step complains stack now at st h e =
    ap (λ s. bind (unset_variable complains (get_or s at []) st) (λ u s1. unset_each complains (drop (at + 1) stack) s1)) e
    ∙ sym (ap (λ names. unset_each complains names st) (drop_more stack at [] h))

pub unset_end : {W : Type 0} → (complains : Bool) (stack : List Text) (at : ℕ) (st : State W) → length stack ≤ at → done tt st ≡ unset_each complains (drop at stack) st
unfolding unset_each
unset_end complains stack at st h = sym (ap (λ names. unset_each complains names st) (drop_all at stack h))

-- ---- one variable

module _ {W : Type 0} (complains : Bool) (bs : List ℕ) (name : Text) (st : State W) (e : bs ≡ bytes_of name) where
  pub unset-unbuilt : is_unbuilt bs ≡ true → not_built st ≡ unset_variable complains name st
  unset-unbuilt h = let t : is_unbuilt (bytes_of name) ≡ true = sym (ap is_unbuilt e) ∙ h in sym (cond-true _ _ _ t)

  pub unset-found : is_unbuilt bs ≡ false → unset_found complains name (naming bs) (held_named (variables_in st) (naming bs)) st ≡ unset_variable complains name st
  unset-found h =
      let t : is_unbuilt (bytes_of name) ≡ false = sym (ap is_unbuilt e) ∙ h in
      ap (λ b. unset_found complains name (naming b) (held_named (variables_in st) (naming b)) st) e ∙ sym (cond-false _ _ _ t)

-- by what was found
pub found_held : {W : Type 0} → (complains : Bool) (name : Text) (n : Naming) (r : Result ℕ VarFault) (st : State W) → is_held r ≡ Ok tt → done tt (cleared n st) ≡ unset_found complains name n r st
found_held complains name n (Ok cell) st h = refl
found_held complains name n (Err f) st h = cc

pub found_none : {W : Type 0} → (complains : Bool) (name : Text) (n : Naming) (r : Result ℕ VarFault) (f : VarFault) (st : State W) → is_held r ≡ Err f → complains ≡ true →
    raise (unsetting_message f) name [] NoCode st ≡ unset_found complains name n r st
found_none true name n (Ok cell) f st h k = cc
found_none true name n (Err g) f st h k = let same : g ≡ f = cc in ap (λ x. raise (unsetting_message x) name [] NoCode st) (sym same)
found_none false name n r f st h k = cc

pub found_silent : {W : Type 0} → (complains : Bool) (name : Text) (n : Naming) (r : Result ℕ VarFault) (f : VarFault) (st : State W) → is_held r ≡ Err f → complains ≡ false →
    done tt st ≡ unset_found complains name n r st
found_silent false name n (Ok cell) f st h k = cc
found_silent false name n (Err g) f st h k = refl
found_silent true name n r f st h k = cc

-- where nothing was found, nothing changed
unset-none : (t : Table) (r : Result ℕ VarFault) (f : VarFault) → is_held r ≡ Err f → unset_at t r ≡ t
unset-none t (Ok cell) f h = cc
unset-none t (Err g) f h = refl

left-none : {X : Type 0} → (m : FinMap nat_cmp X) (cs : FinMap nat_cmp Content) (r : Result ℕ VarFault) (f : VarFault) → is_held r ≡ Err f → left_at m cs r ≡ m
left-none m cs (Ok cell) f h = cc
left-none m cs (Err g) f h = refl

pub none_changed : (old new : Holdings) (n : Naming) (f : VarFault) → is_held (held_named old.vars n) ≡ Err f → new.vars ≡ unset old.vars place.Frame n.name n.index →
    new.store.cells ≡ left_unset old.store.cells old.vars place.Frame n.name n.index → SameVariables old new
none_changed old new n f h v c = record {
  vars = v ∙ unset-none old.vars (held_named old.vars n) f h;
  cells = c ∙ left-none old.store.cells old.vars.contents (held_named old.vars n) f h;
}

-- the state where what is named so was unset
pub cleared_state : {W : Type 0} → (old : Machine W) (values : Holdings) (n : Naming) (w : World) → values.vars ≡ unset old.values.vars place.Frame n.name n.index →
    values.store.cells ≡ left_unset old.values.store.cells old.values.vars place.Frame n.name n.index → state_of (record old { values = values }) w ≡ cleared n (state_of old w)
cleared_state old values n w h k = rw (h, k)

-- ---- options

pub begins_some : (option : List ℕ) (stack : List Text) (from : ℕ) (bs : List ℕ) → from < length stack → bs ≡ bytes_of (get_or stack from []) → bytes_eq bs option ≡ begins_with option (drop from stack)
begins_some option stack from bs h e = ap (λ b. bytes_eq b option) e ∙ sym (ap (begins_with option) (drop_more stack from [] h))

pub begins_none : (option : List ℕ) (stack : List Text) (from : ℕ) → length stack ≤ from → false ≡ begins_with option (drop from stack)
begins_none option stack from h = sym (ap (begins_with option) (drop_all from stack h))

pub option_within : (option : List ℕ) (stack : List Text) (from : ℕ) (is : Bool) → is ≡ begins_with option (drop from stack) → is ≡ true → from + 1 ≤ length stack
option_within option stack from is e h =
    ⊎_elim (λ (l : from < length stack). omega (arith, l)) (λ (g : length stack ≤ from). let none = begins_none option stack from g in cc) (cases_lt from (length stack))

pub behind_some : (option : List ℕ) (stack : List Text) (from : ℕ) (is : Bool) → is ≡ begins_with option (drop from stack) → is ≡ true → drop (from + 1) stack ≡ behind option (drop from stack)
behind_some option stack from is e h =
    let more = drop_more stack from [] (omega (arith, option_within option stack from is e h)) in
    let first : begins_with option (drop from stack) ≡ true = sym e ∙ h in
    sym (ap (λ b. without_first b (drop from stack)) first ∙ ap (without_first true) more)

pub behind_none : (option : List ℕ) (stack : List Text) (from : ℕ) (is : Bool) → is ≡ begins_with option (drop from stack) → is ≡ false → drop from stack ≡ behind option (drop from stack)
behind_none option stack from is e h =
    let first : begins_with option (drop from stack) ≡ false = sym e ∙ h in
    sym (ap (λ b. without_first b (drop from stack)) first)

pub behind_end : (option : List ℕ) (stack : List Text) (from : ℕ) → length stack ≤ from → drop from stack ≡ behind option (drop from stack)
behind_end option stack from h = behind_none option stack from false (begins_none option stack from h) refl
