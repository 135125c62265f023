-- An element of the list of a place, pushed as it is.
use Rattle.std.proofs.Common.{◌≡◌, ℕ, ◌<◌, inl, inr, List, [], ◌∷◌, ◌++◌, map, length, get_or, Option, Some, None, IsSome, refl, sym, ap, subst, ◌∙◌}
use Rattle.std.specs.Prelude.{slice_get}
use Rattle.std.specs.Option.{unwrap_or}
use Rattle.std.proofs.lemmas.Bool.{cases_eq}
use Rattle.std.proofs.Math.ListN.{get_or-append}
use Rattle.std.proofs.lemmas.Option.{slice_get-get_or}
use Rattle.std.proofs.lemmas.List.{get_or_push, length-map}
use Rattle.std.specs.FinMap.{get}
use Rattle.tclv_text.specs.declared.counters.Stats.{Stats}
use Rattle.tclv_heap.specs.declared.ids.Object.{Object}
use Rattle.tclv_heap.specs.Graph.{at, form_in, counted_up, Updates}
use Rattle.tclv_value.specs.Changes.{KeepsTexts}
use Rattle.tclv_value.specs.Kept.{list_in, list_at}
use Rattle.tclv_value.specs.ListObjects.{IsListAt, SharesElement, KeepsPlaces}
use Rattle.tclv_value.specs.Places.{text_of, view_of, HasId, id_at}
use Rattle.tclv_value.specs.View.{View, id_of}
use Rattle.tclv_value.specs.declared.forms.Form.{Form}
use Rattle.tclv_value.specs.declared.places.At.{At}
use Rattle.tclv_value.specs.declared.places.At.TheVariants.{Stack, Cell}
use Rattle.tclv_value.proofs.AnswerLemmas.{none_past}
use Rattle.tclv_value.proofs.GraphLemmas.{by_slot, no_object}
use Rattle.tclv_value.proofs.ViewLemmas.{G, id_of_is}

pub by_list : (P : Type 0) (list : Option (List ℕ)) → IsSome list → ((xs : List ℕ) → list ≡ Some xs → P) → P
by_list P None is f = absurd (cc)
by_list P (Some xs) is f = f xs refl

-- one more holder leaves each list as it was
pub shared_list : (g h : G) (e : ℕ) → IsSome (at g e) → ((n : Object Form) → at g e ≡ Some n → Updates g h e (Some (counted_up n 1))) → (o : ℕ) → IsSome (list_at g o) → list_at h o ≡ list_at g o
shared_list g h e there shared o is =
    by_slot _ (at g e) (λ none. absurd (no_object g e none there))
    (λ n at_e. elim (cases_eq o e) [
      | inl same ↦ ap (λ s. list_in (form_in s)) (ap (at h) same ∙ (shared n at_e).changed) ∙ sym (ap (λ s. list_in (form_in s)) (ap (at g) same ∙ at_e))
      | inr ne ↦ ap (λ s. list_in (form_in s)) ((shared n at_e).others o ne)
    ])

module _ (g : G) (st : Stats) (ids : List ℕ) (es : List (ℕ × ℕ)) (place : At) (k : ℕ) (list : IsListAt (view_of g st ids es) place) where
  list_here : IsSome (list_at g (id_at ids es place))
  list_here = subst (λ o. IsSome (list_at g o)) (id_of_is g st ids es place) list

  pushed_id : (e : ℕ) (p : At) → HasId ids es p → id_at (ids ++ e ∷ []) es p ≡ id_at ids es p
  pushed_id e (Stack i) is = get_or-append ids (e ∷ []) 0 i is
  pushed_id e (Cell c) is = refl

  shares_pushed : (h : G) (e : ℕ) → HasId ids es place → ((xs : List ℕ) → list_at g (id_at ids es place) ≡ Some xs → Some e ≡ slice_get xs k) → list_at h (id_at ids es place) ≡ list_at g (id_at ids es place) → SharesElement (view_of g st ids es) place k (view_of h st (ids ++ e ∷ []) es)
  unfolding SharesElement
  shares_pushed h e has found same =
      by_list _ (list_at g (id_at ids es place)) list_here
      (λ xs is.
      let here = id_of_is h st (ids ++ e ∷ []) es place ∙ pushed_id e place has in
      let element : Some e ≡ slice_get xs k = found xs is in (
        xs,
        ap (list_at h) here ∙ same ∙ is,
        here ∙ sym (id_of_is g st ids es place),
        λ within. get_or_push ids e 0 (length (map (text_of g) ids)) (sym (length-map ids (text_of g))) ∙ element_is xs e element within,
        λ _. (ap (list_at g) (id_of_is g st ids es place) ∙ is, refl),
      ))
    where
      element_is : (xs : List ℕ) (e : ℕ) → Some e ≡ slice_get xs k → k < length xs → e ≡ get_or xs k 0
      element_is xs e is within = let both : Some e ≡ Some (get_or xs k 0) = is ∙ slice_get-get_or xs k 0 within in cc

  shares_nothing : ((xs : List ℕ) → list_at g (id_at ids es place) ≡ Some xs → None ≡ slice_get xs k) → SharesElement (view_of g st ids es) place k (view_of g st ids es)
  unfolding SharesElement
  shares_nothing missing =
      by_list _ (list_at g (id_at ids es place)) list_here
      (λ xs is. (
        xs,
        ap (list_at g) (id_of_is g st ids es place) ∙ is,
        refl,
        λ within. absurd (none_past xs k 0 (missing xs is) within),
        λ _. (ap (list_at g) (id_of_is g st ids es place) ∙ is, refl),
      ))

-- the element was found and pushed
pub shares_found : (g h : G) {st st2 : Stats} (ids : List ℕ) (es : List (ℕ × ℕ)) (place : At) (k e : ℕ) (v : View) → view_of g st ids es ≡ v → IsListAt v place → HasId ids es place → ((xs : List ℕ) → list_at g (id_at ids es place) ≡ Some xs → Some e ≡ slice_get xs k) → list_at h (id_at ids es place) ≡ list_at g (id_at ids es place) → st2 ≡ st → SharesElement v place k (view_of h st2 (ids ++ e ∷ []) es)
shares_found g h {st} {st2} ids es place k e v view list has found same stats =
    subst (λ x. SharesElement v place k (view_of h x (ids ++ e ∷ []) es)) (sym stats)
    (subst (λ w. SharesElement w place k (view_of h st (ids ++ e ∷ []) es)) view (shares_pushed g st ids es place k (subst (λ w. IsListAt w place) (sym view) list) h e has found same))

-- there is no such element
pub shares_none : (g : G) {st : Stats} (ids : List ℕ) (es : List (ℕ × ℕ)) (place : At) (k : ℕ) (v : View) → view_of g st ids es ≡ v → IsListAt v place → ((xs : List ℕ) → list_at g (id_at ids es place) ≡ Some xs → None ≡ slice_get xs k) → SharesElement v place k v
shares_none g {st} ids es place k v view list missing =
    subst (λ w. SharesElement w place k w) view (shares_nothing g st ids es place k (subst (λ w. IsListAt w place) (sym view) list) missing)

-- the same object stands behind a place
pub same_place : (old new : View) → KeepsPlaces old new → (place : At) → id_of new place ≡ id_of old place
same_place old new keeps (Stack i) = ap (λ xs. get_or xs i 0) keeps.stack
same_place old new keeps (Cell c) = ap (λ m. unwrap_or (get m c) 0) keeps.cells

-- the list was read before
pub shares_through : (old mid new : View) (place : At) (k : ℕ) → KeepsPlaces old mid → KeepsTexts old mid → (IsListAt old place → mid ≡ old) → IsListAt mid place → SharesElement mid place k new → SharesElement old place k new
unfolding SharesElement
shares_through old mid new place k places texts unread list shares = (
  shares.0,
  shares.1,
  shares.2 ∙ same_place old mid places place,
  λ within. ap (λ xs. id_of new (Stack (length xs))) (sym texts.stack) ∙ shares.3 within,
  λ was.
      let e = unread was in
      let rest = shares.4 list in
      (ap (λ (w : View). list_at w.graph (id_of w place)) (sym e) ∙ rest.0, rest.1 ∙ ap (λ (w : View). w.stats) e),
)
