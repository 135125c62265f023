-- The tables and the texts, where cells are cleared.
use Rattle.std.proofs.Common.{◌≡◌, ◌≢◌, ℕ, ◌+◌, ◌-◌, ◌<◌, Bool, true, false, cond, not, ◌||◌, is_some, List, [], ◌∷◌, length, Option, None, Some, refl, sym, ap, ◌∙◌, nat_eq}
use Rattle.std.specs.Prelude.{Result, Ok, Err}
use Rattle.std.specs.Ordering.{nat_cmp}
use Rattle.std.specs.Cmp.{unsigned_ties}
use Rattle.std.specs.List.{list_any}
use Rattle.std.specs.FinMap.{get, nat_cmp-IsAntisymmetric}
use Rattle.tclv_names.specs.Keyed.{Text, Named, Numbers, values_of}
use Rattle.tclv_vars.specs.declared.parts.Slot.{Slot}
use Rattle.tclv_vars.specs.declared.parts.Content.{Content}
use Rattle.tclv_vars.specs.declared.parts.Content.TheVariants.{Plain, Array}
use Rattle.tclv_vars.specs.declared.places.Home.{Home}
use Rattle.tclv_vars.specs.declared.places.Home.TheVariants.{Local, Of}
use Rattle.tclv_vars.specs.declared.faults.VarFault.{VarFault}
use Rattle.tclv_vars.specs.Scoping.{popped, last_names, slot_of}
use Rattle.tclv_vars.specs.Table.{Table, at_scopes, holds_value}
use Rattle.tclv_vars.specs.Clearing.{elements, without, is_among, freed, gone, without_names, Apart, ended, Tied}
use Rattle.tclv_vars.specs.Unset.{unset_at, left_at}
use Rattle.tclv_vars.specs.Sound.{Sound}
use Rattle.tclv_vars.proofs.EntryLemmas.{any_agrees}
use Rattle.tclv_vars.proofs.ScopeLemmas.{tied, none_some, frame_taken, IsNested-popped}
use Rattle.tclv_vars.proofs.SoundLemmas.{Sound-names}
use Rattle.tclv_vars.proofs.ClearLemmas.{get-without, get-without_names}

-- cells may go, and none may come
pub Sound-fewer : (t : Table) (cs : Numbers Content) → ((a : ℕ) (x : Content) → get cs a ≡ Some x → get t.contents a ≡ Some x) → Sound t → Sound (record t { contents = cs })
Sound-fewer t cs sub sound = record {
  nested = sound.nested;
  named = sound.named;
  given = λ c x at. sound.given c x (sub c x at);
  inside = λ a es i e at h. sound.inside a es i e (sub a (Array es) at) h;
  texts = λ a es i e at h. sound.texts a es i e (sub a (Array es) at) h;
  distinct = sound.distinct;
  apart = λ k m s a es i e at p c d. sound.apart k m s a es i e at p (sub a (Array es) c) d;
}

none_true : (xs : List ℕ) → list_any (λ _. false) xs ≡ false
none_true [] = refl
none_true (x ∷ xs) = none_true xs

different : (a b : ℕ) → a ≢ b → nat_eq a b ≡ false
different a b ne = elim (nat_eq a b) as (λ t. nat_eq a b ≡ t → t ≡ false) [
  | true ↦ λ e. absurd (ne (nat_cmp-IsAntisymmetric a b (tied (nat_cmp a b) (sym (unsigned_ties a b) ∙ e))))
  | false ↦ λ e. refl
] refl

-- no cell of the names of a place is cleared twice
pub Sound-Apart : (t : Table) (here : Home) (ns : Named Slot) → ((n : Text) (s : Slot) → get ns n ≡ Some s → slot_of t.scopes here n ≡ Some s) → Sound t → Apart t.contents ns
Sound-Apart t here ns there sound n k s o at bt p q ne =
    ap (λ b. b || list_any (nat_eq o.cell) (elements (get t.contents s.cell))) (different o.cell s.cell (λ e. sound.distinct here n k s o (there n s at) (there k o bt) p q ne (sym e)))
    ∙ elim (get t.contents s.cell) as (λ c. get t.contents s.cell ≡ c → list_any (nat_eq o.cell) (elements c) ≡ false) [
      | None ↦ λ e. refl
      | Some c ↦ λ e. elim c as (λ c. get t.contents s.cell ≡ Some c → list_any (nat_eq o.cell) (elements (Some c)) ≡ false) [
        | Plain ↦ λ f. refl
        | Array es ↦ λ f. any_agrees (nat_eq o.cell) (λ _. false) es (λ i x g. different o.cell x (λ d. sound.apart here k o s.cell es i x (there k o bt) q f g d)) ∙ none_true (values_of es)
      ] e
    ] refl

pub Apart-last : (t : Table) → Sound t → Apart t.contents (last_names t.scopes)
Apart-last t = Sound-Apart t (Local (length t.scopes.frames - 1)) (last_names t.scopes) (λ n s at. at)

kept_some : {A : Type 0} (b : Bool) (o : Option A) (x : A) → cond b o None ≡ Some x → o ≡ Some x
kept_some true o x h = h
kept_some false o x h = none_some h

pub Sound-ended : (t : Table) → t.scopes.current + 1 ≡ length t.scopes.frames → 0 < t.scopes.current → Sound t → Sound (ended t)
Sound-ended t last inner sound = Sound-fewer (at_scopes t (popped t.scopes)) _ (λ a x h. kept_some (not (gone t.contents (last_names t.scopes) a)) (get t.contents a) x (sym (get-without_names t.contents t.contents (last_names t.scopes) a) ∙ h))
    (Sound-names t (popped t.scopes) (IsNested-popped t.scopes last inner sound.nested) by sound)
  where
    by : (k : Home) (m : Text) (o : Slot) → slot_of (popped t.scopes) k m ≡ Some o → slot_of t.scopes k m ≡ Some o
    by (Of n) m o h = h
    by (Local j) m o h = frame_taken t.scopes.frames (length t.scopes.frames - 1) j m o h

-- a variable that is unset keeps the tables sound
pub Sound-unset : (t : Table) (r : Result ℕ VarFault) → Sound t → Sound (unset_at t r)
Sound-unset t (Err e) sound = sound
Sound-unset t (Ok c) sound = Sound-fewer t (without t.contents (freed t.contents c)) (λ a x h. kept_some (not (is_among (freed t.contents c) a)) (get t.contents a) x (sym (get-without t.contents (freed t.contents c) a) ∙ h)) sound

tied_kept : {X : Type 0} (b : Bool) (o : Option X) (x : Option Content) → is_some o ≡ holds_value x → is_some (cond b o None) ≡ holds_value (cond b x None)
tied_kept true o x e = e
tied_kept false o x e = refl

pub Tied-names : {X : Type 0} (t now : Table) (texts left : Numbers X) (ns : Named Slot) → now.contents ≡ without_names t.contents t.contents ns → left ≡ without_names texts t.contents ns → Tied t texts → Tied now left
Tied-names t now texts left ns e f tie c =
    ap (λ m. is_some (get m c)) f ∙ ap is_some (get-without_names texts t.contents ns c)
    ∙ tied_kept (not (gone t.contents ns c)) (get texts c) (get t.contents c) (tie c)
    ∙ ap holds_value (sym (get-without_names t.contents t.contents ns c)) ∙ ap (λ (m : Numbers Content). holds_value (get m c)) (sym e)

pub Tied-unset : {X : Type 0} (t now : Table) (texts left : Numbers X) (r : Result ℕ VarFault) → now ≡ unset_at t r → left ≡ left_at texts t.contents r → Tied t texts → Tied now left
Tied-unset t now texts left (Err e) f g tie c = ap (λ m. is_some (get m c)) g ∙ tie c ∙ ap (λ (u : Table). holds_value (get u.contents c)) (sym f)
Tied-unset t now texts left (Ok k) f g tie c =
    let cs = freed t.contents k in
    ap (λ m. is_some (get m c)) g ∙ ap is_some (get-without texts cs c)
    ∙ tied_kept (not (is_among cs c)) (get texts c) (get t.contents c) (tie c)
    ∙ ap holds_value (sym (get-without t.contents cs c)) ∙ ap (λ (u : Table). holds_value (get u.contents c)) (sym f)
