-- Objects that are kept as numbers.
use Rattle.std.proofs.Common.{◌≡◌, ℕ, ◌<◌, ℤ, inl, inr, List, [], set, length, Option, Some, None, Ok, IsSome, is_some, refl, sym, ap, subst, ◌∙◌, arith}
use Rattle.std.specs.Prelude.{IfSome}
use Rattle.std.proofs.lemmas.Bool.{cases_eq}
use Rattle.std.proofs.lemmas.List.{get_or-set_same, get_or-set_other, get_or_past}
use Rattle.tclv_text.specs.Numbers.{whole}
use Rattle.tclv_heap.specs.declared.ids.Object.{Object}
use Rattle.tclv_heap.specs.Graph.{at, text_in, form_parts}
use Rattle.tclv_heap.specs.Dying.{Releases}
use Rattle.tclv_heap.specs.Stands.{stands, stands_in, said, said_by, HasForm}
use Rattle.tclv_value.specs.Forms.{form_table}
use Rattle.tclv_value.specs.Places.{text_of, made_of, TextsStay}
use Rattle.tclv_value.specs.declared.forms.Form.{Form}
use Rattle.tclv_value.specs.declared.forms.Form.TheVariants.{Whole}
use Rattle.tclv_value.proofs.ViewLemmas.{G}
use Rattle.tclv_value.proofs.GraphLemmas.{by_slot, no_object}

said_text : (slot : Option (Object Form)) (texts : ℕ → List ℕ) (s : List ℕ) → text_in slot ≡ Some s → said form_table slot texts ≡ s
said_text None texts s is = absurd (cc)
said_text (Some n) texts s is = ap (λ x. said_by form_table x n.form texts) is

-- an object stands for its text, where that is made
pub text_said : (g : G) (o : ℕ) (s : List ℕ) → text_in (at g o) ≡ Some s → text_of g o ≡ s
unfolding stands stands_in
text_said g o s is = said_text (at g o) _ s is

-- an object that is kept as a number is that number
pub form_number : (g : G) (o : ℕ) (n : ℤ) → HasForm form_table g o (Whole n) → whole (text_of g o) ≡ Ok n
form_number g o n h = by_text (text_in (at g o)) refl
  where
    by_text : (text : Option (List ℕ)) → text_in (at g o) ≡ text → whole (text_of g o) ≡ Ok n
    by_text None is = let spelled = h.spells is in ap whole spelled.1 ∙ form_table.fits_spelled (Whole n) [] spelled.0
    by_text (Some s) is = ap whole (text_said g o s is) ∙ h.fits s is

pub kept_number : (g : G) (o : ℕ) (f : Form) (r : Option ℤ) → HasForm form_table g o f → IfSome r (λ n. f ≡ Whole n) → IfSome r (λ n. whole (text_of g o) ≡ Ok n)
kept_number g o f None has is = is
kept_number g o f (Some n) has is = form_number g o n (subst (HasForm form_table g o) is has)

-- an object gets a form, and the parts of its old one are released
pub reformed_texts : (g h : G) (id : ℕ) (form : Form) (depth : ℕ) → IsSome (text_in (at g id)) → ((n : Object Form) → at g id ≡ Some n → Releases form_table.parts (set g id (Some (record n { form = Some form; depth = depth }))) (form_parts form_table.parts n.form) h) → TextsStay g h
reformed_texts g h id form depth made releases o there was =
    by_slot _ (at g id) (λ e. absurd (no_text (at g id) e made))
    (λ n e.
    let within : id < length g = there_within g id n e in
    by_slot _ (at h o) (λ none. absurd (no_object h o none there))
    (λ x is.
    let k = (releases n e).kept o x is in
    let same_x : made_of h o ≡ is_some (text_in (at (set g id (Some (record n { form = Some form; depth = depth }))) o)) = ap (λ s. is_some (text_in s)) is ∙ ap is_some k.2.text ∙ sym (ap (λ s. is_some (text_in s)) k.1) in
    same_x
    ∙ elim (cases_eq o id) [
      | inl same_o ↦
          ap (λ y. is_some (text_in (at (set g id (Some (record n { form = Some form; depth = depth }))) y))) same_o
          ∙ ap (λ s. is_some (text_in s)) (get_or-set_same g id (Some (record n { form = Some form; depth = depth })) None within) ∙ ap (λ s. is_some (text_in s)) (sym e)
          ∙ ap (made_of g) (sym same_o) ∙ was
      | inr ne ↦ ap (λ s. is_some (text_in s)) (get_or-set_other g id o (Some (record n { form = Some form; depth = depth })) None ne) ∙ was
    ]))
  where
    no_text : (slot : Option (Object Form)) → slot ≡ None → IsSome (text_in slot) → ⊥
    no_text slot none some = let e : is_some (text_in slot) ≡ is_some (text_in {F = Form} None) = ap (λ s. is_some (text_in s)) none in cc

    there_within : (g : G) (o : ℕ) (n : Object Form) → at g o ≡ Some n → o < length g
    there_within g o n is = grind (arith, get_or_past)
