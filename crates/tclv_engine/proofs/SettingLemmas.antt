-- A variable that is set to a text that was pushed.
use Rattle.std.proofs.Common.{◌≡◌, ◌-◌, ℕ, List, [], ◌∷◌, ◌++◌, length, Ok, sym, ap, ◌∙◌, refl, false}
use Rattle.std.specs.FinMap.{insert}
use Rattle.std.specs.Str.{chars}
use Rattle.tclv_text.specs.Texts.{IsText}
use Rattle.tclv_value.specs.View.{View, HasPlace, text_at}
use Rattle.tclv_value.specs.declared.places.At.{At}
use Rattle.tclv_value.specs.declared.places.At.TheVariants as at
use Rattle.tclv_reply.specs.Names.{naming}
use Rattle.tclv_engine.specs.Holdings.{Holdings, SameVariables, Assigned, Sets}
use Rattle.tclv_engine.specs.Names.{bytes_of, write_named}
use Rattle.std.specs.Prelude.{slice_index_or, unwrap_or, OnOk, Result, Err}
use Rattle.std.specs.FinMap.{get}
use Rattle.std.proofs.lemmas.List.{get_or_push, get_or_append_left}
use Rattle.tclv_io.specs.World.{World}
use Rattle.tclv_engine.specs.declared.machine.Machine.{Machine}
use Rattle.tclv_engine.specs.State.{Text, state_of, with_variables}
use Rattle.tclv_engine.specs.Variables.{assign, is_unbuilt}
use Rattle.tclv_engine.proofs.NameLemmas.{bytes-are}
use Rattle.tclv_engine.proofs.StackLemmas.{last-pushed}
use Rattle.tclv_engine.proofs.VariableLemmas.{assign-write}

pub on-ok : {T E A B : Type 0} (r : Result T E) → (A → B) → OnOk r A → OnOk r B
on-ok (Ok t) f h = f h
on-ok (Err e) f h = h

-- a place keeps its text where another is pushed
pub pushed-place : (old mid : View) (name : At) (t : Text) → HasPlace old name → mid.stack ≡ old.stack ++ t ∷ [] → mid.cells ≡ old.cells → text_at mid name ≡ text_at old name
pushed-place old mid (at.Stack i) t within h k = ap (λ s. slice_index_or s i []) h ∙ get_or_append_left old.stack (t ∷ []) [] i within
pushed-place old mid (at.Cell cell) t within h k = ap (λ cells. unwrap_or (get cells cell) []) k

-- writing what a place names is the same where the place keeps its text and the variables stay
pub write-same : (old mid : Holdings) (name : At) → text_at mid.store name ≡ text_at old.store name → SameVariables old mid →
    write_named mid.vars (naming (bytes_of (text_at mid.store name))) ≡ write_named old.vars (naming (bytes_of (text_at old.store name)))
write-same old mid name e same =
    ap (λ v. write_named v (naming (bytes_of (text_at mid.store name)))) same.vars ∙ ap (λ t. write_named old.vars (naming (bytes_of t))) e

pub sets : (old mid new : Holdings) (name : At) (value : Text) (cell : ℕ) → HasPlace old.store name → mid.store.stack ≡ old.store.stack ++ value ∷ [] → SameVariables old mid →
    Assigned mid new (naming (bytes_of (text_at mid.store name))) cell → Sets old new (naming (bytes_of (text_at old.store name))) value
sets old mid new name value cell within pushed same h = record {
  spot = record { cell = cell; fresh = h.fresh; after = new.vars };
  wrote = ap (λ v. write_named v (naming (bytes_of (text_at old.store name)))) (sym same.vars)
      ∙ ap (λ t. write_named mid.vars (naming (bytes_of t))) (sym (pushed-place old.store mid.store name value within pushed same.cells)) ∙ h.wrote;
  vars = refl;
  cells = h.cells ∙ ap (λ c. insert c cell (text_at mid.store (at.Stack (length mid.store.stack - 1)))) same.cells
      ∙ ap (λ t. insert old.store.cells cell t) (last-pushed old.store.stack mid.store.stack value pushed);
}

pub sets_named : (old mid made new : Holdings) (bs t value : Text) → SameVariables old mid → Sets mid made (naming (bytes_of t)) value → bytes_of t ≡ bs → SameVariables made new → Sets old new (naming bs) value
sets_named old mid made new bs t value same h e behind = record {
  spot = h.spot;
  wrote = ap (λ v. write_named v (naming bs)) (sym same.vars) ∙ ap (λ b. write_named mid.vars (naming b)) (sym e) ∙ h.wrote;
  vars = behind.vars ∙ h.vars;
  cells = behind.cells ∙ h.cells ∙ ap (λ c. insert c h.spot.cell value) same.cells;
}

-- the bytes of a name that was pushed
pub pushed-name : (stack now : List Text) (bs : List ℕ) (n : ℕ) → IsText bs → n ≡ length stack → now ≡ stack ++ chars bs ∷ [] → bytes_of (slice_index_or now n []) ≡ bs
pushed-name stack now bs n u e h = sym (bytes-are bs (slice_index_or now n []) u (sym (ap (λ s. slice_index_or s n []) h ∙ get_or_push stack (chars bs) [] n (sym e))))

-- the state where a global variable was set
pub set-state : {W : Type 0} → (old new : (Machine W)) (w : World) (bs value : Text) → IsText bs → is_unbuilt bs ≡ false → Sets old.values new.values (naming bs) value →
    new.own ≡ old.own → new.units ≡ old.units → new.depth ≡ old.depth → new.writes ≡ old.writes → state_of new w ≡ (assign (chars bs) value (state_of old w)).after
set-state old new w bs value u plain h own units depth writes =
    let named : bs ≡ bytes_of (chars bs) = bytes-are bs (chars bs) u refl in
    let written = assign-write bs (chars bs) value (state_of old w) (Ok h.spot) named plain h.wrote in
    let same : state_of new w ≡ with_variables h.spot.after (insert old.values.store.cells h.spot.cell value) (state_of old w) = rw (h.vars, h.cells, own, units, depth, writes) in
    same ∙ ap (λ r. r.after) written
