-- A second name of a variable, by the forms of both names and by what the tables answer.
use Rattle.std.proofs.Common.{◌≡◌, ℕ, zero, suc, ◌-◌, ◌≤◌, List, [], ◌∷◌, length, drop, Option, ap, ◌∙◌, sym, refl, arith, true, false, Result, Ok, Err, None, Some}
use Rattle.std.specs.Prelude.{codes}
use Rattle.std.specs.Str.{chars}
use Rattle.std.proofs.lemmas.Bool.{cond-true, cond-false, eqb-true, lt-ltb, le-ltb}
use Rattle.std.proofs.lemmas.Str.{chars-nil, IsUtf8-drop, IsCharBoundary-after_ascii}
use Rattle.tclv_text.specs.Texts.{IsText}
use Rattle.tclv_io.specs.World.{World}
use Rattle.tclv_vars.specs.declared.places.Root.{Root}
use Rattle.tclv_vars.specs.declared.places.Root.TheVariants.{Space}
use Rattle.tclv_vars.specs.declared.faults.VarFault.{VarFault}
use Rattle.tclv_vars.specs.declared.faults.VarFault.TheVariants as fault
use Rattle.tclv_vars.specs.Table.{Table, Refuses}
use Rattle.tclv_model.specs.Message.{text_of}
use Rattle.tclv_model.specs.ErrorCodes.{error_code}
use Rattle.tclv_model.specs.declared.messages.MessageId.TheVariants as message
use Rattle.tclv_model.specs.declared.error_codes.ErrorCode.TheVariants.{NoCode}
use Rattle.tclv_engine.specs.declared.endings.End.{End}
use Rattle.tclv_engine.specs.declared.machine.Machine.{Machine}
use Rattle.tclv_engine.specs.Holdings.{Holdings}
use Rattle.tclv_engine.specs.State.{Text, State, state_of, variables_in, texts_in, with_variables}
use Rattle.tclv_engine.specs.Results.{done, raise}
use Rattle.tclv_reply.specs.Names.{is_element, is_qualified, naming}
use Rattle.tclv_engine.specs.Names.{bytes_of, link_named}
use Rattle.tclv_engine.specs.Variables.{is_unbuilt, not_built}
use Rattle.tclv_engine.specs.ListAssignment.{unseen}
use Rattle.tclv_engine.specs.Links.{link, link_global, link_plain, link_made, linking_message, linking_name, RefusesLinking, current_level, is_marked, level_named, level, level_or_bad, outer_level}
use Rattle.tclv_engine.specs.Answers.{Outer, Runs, SameState, Raises}
use Rattle.tclv_engine.proofs.Binds.{runs_as}
use Rattle.tclv_engine.proofs.Leaves.{raise_runs, raises_as, memory_runs}

-- ---- the forms of the names

module _ {W : Type 0} (from : Root) (other local : Text) (st : State W) where
  pub link-unbuilt : is_unbuilt (bytes_of other) ≡ true → not_built st ≡ link_plain from other local st
  link-unbuilt h = sym (cond-true _ _ _ h)

  pub link-built : (r : Result Table VarFault) → is_unbuilt (bytes_of other) ≡ false → link_named (variables_in st) (bytes_of local) from (naming (bytes_of other)) ≡ r →
      link_made other local r st ≡ link_plain from other local st
  link-built r h k = ap (λ x. link_made other local x st) (sym k) ∙ sym (cond-false _ _ _ h)

  pub link-element : (bs : List ℕ) → bs ≡ bytes_of local → is_element bs ≡ true → raise message.VariableNameIsElement local [] NoCode st ≡ link from other local st
  link-element bs e h = let t : is_element (bytes_of local) ≡ true = sym (ap is_element e) ∙ h in rw t

module _ {W : Type 0} (name : Text) (bs : List ℕ) (st : State W) (e : bs ≡ bytes_of name) where
  pub global-element : is_element bs ≡ true → raise message.VariableNameIsElement name [] NoCode st ≡ link_global name st
  global-element h = let t : is_element (bytes_of name) ≡ true = sym (ap is_element e) ∙ h in sym (cond-true _ _ _ t)

  pub global-plain : is_element bs ≡ false → link_plain (Space 0) name name st ≡ link_global name st
  global-plain h = let t : is_element (bytes_of name) ≡ false = sym (ap is_element e) ∙ h in sym (cond-false _ _ _ t)

module _ {W : Type 0} (from : Root) (other local : Text) (bs cs : List ℕ) (st : State W) (e : bs ≡ bytes_of local) (h : is_element bs ≡ false) (f : cs ≡ bytes_of local) where
  pub link-qualified : is_qualified cs ≡ true → raise message.VariableNameIsQualified local [] NoCode st ≡ link from other local st
  link-qualified k =
      let t : is_element (bytes_of local) ≡ false = sym (ap is_element e) ∙ h in
      let u : is_qualified (bytes_of local) ≡ true = sym (ap is_qualified f) ∙ k in
      rw (t, u)

  pub link-simple : is_qualified cs ≡ false → link_plain from other local st ≡ link from other local st
  link-simple k =
      let t : is_element (bytes_of local) ≡ false = sym (ap is_element e) ∙ h in
      let u : is_qualified (bytes_of local) ≡ false = sym (ap is_qualified f) ∙ k in
      rw (t, u)

-- ---- what the tables answer

-- the texts stay, and these are the variables
pub linked_state : {W : Type 0} → (old : Machine W) (values : Holdings) (w : World) → values.store ≡ old.values.store →
    state_of (record old { values = values }) w ≡ with_variables values.vars (texts_in (state_of old w)) (state_of old w)
linked_state old values w h = ap (λ s. with_variables values.vars s.cells (state_of old w)) h

module _ {W : Type 0} (old new : Machine W) (w : World) (here : Outer) (from : Root) (other local : Text) where
  refused-by : (f : VarFault) (e : End) → here.told ≡ Some w → SameState old new → is_unbuilt (bytes_of other) ≡ false →
      link_named old.values.vars (bytes_of local) from (naming (bytes_of other)) ≡ Err f →
      Raises (text_of (linking_message f) (linking_name f other local) []) (error_code NoCode (linking_name f other local)) new.values.store.stack e →
      Runs {T = Unit {0}} (link_plain from other local (state_of old w)) unseen (record { world = w; torn = here.torn; events = old.writes }) (Err e) new here
  refused-by f e told same u r h = runs_as (link-built from other local (state_of old w) (Err f) u r) (raise_runs old told same h)

  -- the refusal of a link, or want of memory
  pub unlinked_runs : (f : VarFault) (e : End) → here.told ≡ Some w → SameState old new → is_unbuilt (bytes_of other) ≡ false →
      Refuses (link_named old.values.vars (bytes_of local) from (naming (bytes_of other))) f → RefusesLinking f other local new.values.store.stack e →
      Runs {T = Unit {0}} (link_plain from other local (state_of old w)) unseen (record { world = w; torn = here.torn; events = old.writes }) (Err e) new here
  unlinked_runs fault.NoVariable e told same u r h = refused-by fault.NoVariable e told same u r h
  unlinked_runs fault.NoElement e told same u r h = refused-by fault.NoElement e told same u r h
  unlinked_runs fault.IsArray e told same u r h = refused-by fault.IsArray e told same u r h
  unlinked_runs fault.NotArray e told same u r h = refused-by fault.NotArray e told same u r h
  unlinked_runs fault.LinkExists e told same u r h = refused-by fault.LinkExists e told same u r h
  unlinked_runs fault.NoLevel e told same u r h = refused-by fault.NoLevel e told same u r h
  unlinked_runs fault.NoMemory e told same u r h = memory_runs (ap (λ x. Err x) h) told same.events

-- ---- levels

positive : (n : ℕ) → (n ≡ 0 → ⊥) → 1 ≤ n
positive zero h = absurd (h refl)
positive (suc n) h = omega arith

-- what stands behind `#` in a word
pub marked_text : (word : List ℕ) → IsText word → is_marked word ≡ true → IsText (drop 1 word)
marked_text [] t h = cc
marked_text (c ∷ cs) t h =
    let mark : c ≡ 35 = eqb-true c 35 h in
    record { utf8 = IsUtf8-drop (c ∷ cs) 1 t.utf8 (IsCharBoundary-after_ascii (c ∷ cs) 0 t.utf8 (omega arith) (omega (arith, mark))) }

pub marked_some : (word : List ℕ) → is_marked word ≡ true → 1 ≤ length word
marked_some [] h = cc
marked_some (c ∷ cs) h = omega arith

-- the level that a word names, by what was found
pub level_found : {W : Type 0} → (word : Text) (bs : List ℕ) (n : ℕ) (o : Option ℕ) (st : State W) → bs ≡ bytes_of word → n ≡ current_level st → o ≡ level_named n bs →
    level_or_bad word o st ≡ level word st
level_found word bs n o st b e h = ap (λ x. level_or_bad word x st) (h ∙ ap (λ k. level_named k bs) e ∙ ap (level_named (current_level st)) b)

module _ {W : Type 0} (st : State W) (n : ℕ) (e : n ≡ current_level st) where
  pub no_caller : n ≡ 0 → raise message.BadLevel (codes "1") [] NoCode st ≡ outer_level st
  no_caller h = ap (λ o. level_or_bad (codes "1") o st) (sym (cond-true _ _ _ (lt-ltb (current_level st) 1 (omega (arith, e, h)))))

  pub caller_level : (n ≡ 0 → ⊥) → done (n - 1) st ≡ outer_level st
  caller_level h =
      ap (λ k. done (k - 1) st) e
      ∙ ap (λ o. level_or_bad (codes "1") o st) (sym (cond-false _ _ _ (le-ltb (current_level st) 1 (positive (current_level st) (λ z. h (e ∙ z))))))

one-text : chars (codes "1") ≡ codes "1"
unfolding chars
one-text = refl

-- the error that there is no caller
pub bad_one : (stack : List Text) (x : End) → Raises (text_of message.BadLevel (chars (codes "1")) (chars [])) (error_code NoCode (chars (codes "1"))) stack x →
    Raises (text_of message.BadLevel (codes "1") []) (error_code NoCode (codes "1")) stack x
bad_one stack x h =
    raises_as _ _ _ _ stack x (ap (λ t. text_of message.BadLevel t (chars [])) one-text ∙ ap (text_of message.BadLevel (codes "1")) chars-nil) (ap (error_code NoCode) one-text) h
