-- From what a call answers to what is said of it.
use Rattle.std.proofs.Common.{◌≡◌, ℕ, ◌<◌, List, [], ◌∷◌, ◌++◌, length, true, false, refl, get_or, Option, Some, None, is_some, Result, Ok, Err, inl, inr, sym, ap, ◌∙◌, Bor}
use Rattle.std.proofs.lemmas.Bool.{cases_lt}
use Rattle.std.proofs.lemmas.Option.{slice_get_past, slice_get-get_or}
use Rattle.std.specs.Prelude.{IfSome, IfNone, OnOk, OnErr, IsOkAnd, IsTrue, ◌↔◌, slice_get, option_to_list}
use Rattle.std.proofs.lemmas.List.{append-nil}
use Rattle.std.specs.Str.{chars}
use Rattle.tclv_text.specs.Texts.{IsText}
use Rattle.tclv_heap.specs.Graph.{Graph, at, text_in}
use Rattle.tclv_heap.specs.Stands.{HasText}
use Rattle.tclv_value.specs.Forms.{form_table}
use Rattle.tclv_value.specs.Places.{text_of, made_of}
use Rattle.tclv_value.specs.declared.forms.Form.{Form}

module _ (g : Graph Form) (o : ℕ) where
  -- the text that is lent
  pub lent_text : (r : Option (Bor (List ℕ))) (t : List ℕ) → text_of g o ≡ t → IfSome r (λ text. IsText text.now × HasText form_table g o (chars text.now)) → IfSome r (λ text. IsText text.now × (chars text.now ≡ t))
  lent_text None t is h = h
  lent_text (Some text) t is h = (h.0, sym h.1.said ∙ is)

  -- it is lent where it is made
  pub lent_made : (r : Option (Bor (List ℕ))) → IfSome r (λ text. IsText text.now × HasText form_table g o (chars text.now)) → IfNone r (text_in (at g o) ≡ None) → is_some r ≡ made_of g o
  lent_made None some none = sym (ap is_some none)
  lent_made (Some text) some none = sym (ap is_some some.1.text)

pub on_ok : {T E : Type 0} {P Q : Type 0} (r : Result T E) → (P → Q) → OnOk r P → OnOk r Q
on_ok (Ok x) f h = f h
on_ok (Err e) f h = h

pub on_err : {T E : Type 0} {P Q : Type 0} (r : Result T E) → (P → Q) → OnErr r P → OnErr r Q
on_err (Ok x) f h = h
on_err (Err e) f h = f h

pub ok_and : {T E : Type 0} (r : Result T E) (P Q : T → Type 0) → ((x : T) → P x → Q x) → IsOkAnd r P → IsOkAnd r Q
ok_and (Ok x) P Q f h = f x h
ok_and (Err e) P Q f h = h

-- there is an element at a place, or none
pub found_within : {X : Type 0} (xs : List X) (k : ℕ) (x : X) → Some x ≡ slice_get xs k → k < length xs
found_within xs k x is = elim (cases_lt k (length xs)) [
  | inl within ↦ within
  | inr past ↦ absurd (let e : Some x ≡ None = is ∙ slice_get_past xs k past in cc)
]

pub none_past : {X : Type 0} (xs : List X) (k : ℕ) (d : X) → None ≡ slice_get xs k → k < length xs → ⊥
none_past xs k d is within = let e : None ≡ Some (get_or xs k d) = is ∙ slice_get-get_or xs k d within in cc

-- an element that was found and pushed, or none
module _ {E : Type 0} (r : Result (List (List ℕ)) E) (k : ℕ) (now stack : List (List ℕ)) where
  pub element_found : (t : List ℕ) → IsOkAnd r (λ ts. Some t ≡ slice_get ts k) → IsOkAnd r (λ ts. IsTrue true ↔ (k < length ts))
  element_found t = ok_and r (λ ts. Some t ≡ slice_get ts k) (λ ts. IsTrue true ↔ (k < length ts)) (λ ts is. (λ _. found_within ts k t is, λ _. refl))

  pub element_pushed : (t : List ℕ) → now ≡ stack ++ t ∷ [] → IsOkAnd r (λ ts. Some t ≡ slice_get ts k) → IsOkAnd r (λ ts. now ≡ stack ++ option_to_list (slice_get ts k))
  element_pushed t pushed = ok_and r (λ ts. Some t ≡ slice_get ts k) (λ ts. now ≡ stack ++ option_to_list (slice_get ts k)) (λ ts is. pushed ∙ ap (λ x. stack ++ option_to_list x) is)

  pub element_missing : IsOkAnd r (λ ts. None ≡ slice_get ts k) → IsOkAnd r (λ ts. IsTrue false ↔ (k < length ts))
  element_missing = ok_and r (λ ts. None ≡ slice_get ts k) (λ ts. IsTrue false ↔ (k < length ts)) (λ ts is. (λ no. absurd (cc), λ within. absurd (none_past ts k [] is within)))

  pub nothing_pushed : now ≡ stack → IsOkAnd r (λ ts. None ≡ slice_get ts k) → IsOkAnd r (λ ts. now ≡ stack ++ option_to_list (slice_get ts k))
  nothing_pushed same = ok_and r (λ ts. None ≡ slice_get ts k) (λ ts. now ≡ stack ++ option_to_list (slice_get ts k)) (λ ts is. same ∙ sym (append-nil stack) ∙ ap (λ x. stack ++ option_to_list x) is)
