-- The list of a place gets the top of the stack as its last element, in place.
use Rattle.std.proofs.Common.{◌≡◌, ◌≢◌, ℕ, ◌+◌, ◌-◌, ◌<◌, List, [], ◌∷◌, ◌++◌, map, length, get_or, drop, Some, Ok, IsSome, is_some, refl, sym, ap, subst, ◌∙◌, arith}
use Rattle.std.specs.Prelude.{IsOkAnd}
use Rattle.std.proofs.Math.ListN.{get_or-append}
use Rattle.std.proofs.lemmas.List.{get_or_push, length_push, map_push}
use Rattle.tclv_text.specs.declared.counters.Stats.{Stats}
use Rattle.tclv_text.specs.Elements.{elements}
use Rattle.tclv_text.specs.Quotes.{list_text}
use Rattle.tclv_heap.specs.Graph.{at, occurs, count_in, text_in}
use Rattle.tclv_heap.specs.Stands.{deepest, depth_of}
use Rattle.tclv_value.specs.Appending.{CanAppend, Appended}
use Rattle.tclv_value.specs.Changes.{IsUnder, Puts}
use Rattle.tclv_value.specs.Forms.{form_table}
use Rattle.tclv_value.specs.Kept.{list_at}
use Rattle.tclv_value.specs.ListObjects.{IsListAt, IsAloneAt, depth_at}
use Rattle.tclv_value.specs.Places.{text_of, made_of, view_of, places, IsPlaced, HasId, id_at}
use Rattle.tclv_value.specs.Stacks.{top}
use Rattle.tclv_value.specs.View.{View, HasPlace, text_at, id_of}
use Rattle.tclv_value.specs.declared.places.At.{At}
use Rattle.tclv_value.specs.declared.places.At.TheVariants.{Stack, Cell}
use Rattle.tclv_value.proofs.AppendLemmas.{counted}
use Rattle.tclv_value.proofs.ElementLemmas.{known_elements}
use Rattle.tclv_value.proofs.GraphLemmas.{pop_splits}
use Rattle.tclv_value.proofs.HolderLemmas.{occurs-cons, Holders_same}
use Rattle.tclv_value.proofs.PlaceLemmas.{PutsAt, puts_view, two_places}
use Rattle.tclv_value.proofs.ViewLemmas.{G, has_id, id_listed, id_of_is, text_is, same_view}

drop_front : (xs ys : List (List ℕ)) → drop (length xs) (xs ++ ys) ≡ ys
drop_front [] ys = refl
drop_front (x ∷ xs) ys = drop_front xs ys

-- the top of a stack that ends with this object
pub top_text : (f : ℕ → List ℕ) (ids2 : List ℕ) (value : ℕ) (stack : List (List ℕ)) → stack ≡ map f (ids2 ++ value ∷ []) → top 1 stack ≡ f value ∷ []
top_text f ids2 value stack is =
    let stack_is : stack ≡ map f ids2 ++ f value ∷ [] = is ∙ map_push f ids2 value in
    let len : length stack - 1 ≡ length (map f ids2) = omega (arith, ap length stack_is, length_push (map f ids2) (f value)) in
    ap (λ n. drop n stack) len ∙ ap (drop (length (map f ids2))) stack_is ∙ drop_front (map f ids2) (f value ∷ [])

module _ (g : G) {st : Stats} (ids ids2 : List ℕ) (es : List (ℕ × ℕ)) (value id : ℕ) (place : At) (v : View) (view : view_of g st ids es ≡ v) (ends : ids ≡ ids2 ++ value ∷ []) (placed : IsPlaced g ids es) (id_is : id ≡ id_at ids es place) (room : IsUnder v 1 place) (list : IsListAt v place) (shallow : depth_at v (Stack (length v.stack - 1)) < deepest) where
  pub len : length ids ≡ length ids2 + 1
  len = ap length ends ∙ length_push ids2 value

  pub has2_in : (p : At) → IsUnder v 1 p → HasId ids2 es p
  has2_in (Stack i) is = omega (arith, is, same_view g ids es v view, len)
  has2_in (Cell c) is = has_id g st ids es (Cell c) (subst (λ w. HasPlace w (Cell c)) (sym view) is.1)

  pub has2 : HasId ids2 es place
  has2 = has2_in place room

  pub same_id : (p : At) → HasId ids2 es p → (id_at ids2 es p ≡ id_at ids es p) × HasId ids es p
  same_id (Stack i) is = (sym (get_or-append ids2 (value ∷ []) 0 i is) ∙ ap (λ xs. get_or xs i 0) (sym ends), omega (arith, is, len))
  same_id (Cell c) is = (refl, is)

  pub id_view : id_of v place ≡ id
  id_view = ap (λ w. id_of w place) (sym view) ∙ id_of_is g st ids es place ∙ sym id_is

  pub graph_is : v.graph ≡ g
  graph_is = ap (λ (x : View). x.graph) (sym view)

  pub value_view : id_of v (Stack (length v.stack - 1)) ≡ value
  value_view =
      ap (λ (x : View). get_or x.stack_ids (length v.stack - 1) 0) (sym view) ∙ ap (λ xs. get_or xs (length v.stack - 1) 0) ends
      ∙ get_or_push ids2 value 0 (length v.stack - 1) (omega (arith, same_view g ids es v view, len))

  pub at_view : at v.graph (id_of v place) ≡ at g id
  at_view = ap (λ (x : G). at x (id_of v place)) graph_is ∙ ap (at g) id_view

  pub splits : (x : ℕ) → occurs x (places ids es) ≡ occurs x (value ∷ places ids2 es)
  splits x = ap (λ xs. occurs x (places xs es)) ends ∙ pop_splits ids2 es value x

  pub list_here : IsSome (list_at g id)
  list_here = subst (λ o. IsSome (list_at g o)) id_view (subst (λ (x : G). IsSome (list_at x (id_of v place))) graph_is list)

  pub shallow_here : depth_of (at g value) < deepest
  shallow_here = subst (λ d. d < deepest) (ap (λ (x : G). depth_of (at x (id_of v (Stack (length v.stack - 1))))) graph_is ∙ ap (λ o. depth_of (at g o)) value_view) shallow

  pub top_is : top 1 v.stack ≡ text_of g value ∷ []
  top_is = top_text (text_of g) ids2 value v.stack (ap (λ (x : View). x.stack) (sym view) ∙ ap (map (text_of g)) ends)

  pub text_here : text_at v place ≡ text_of g id
  text_here = ap (λ w. text_at w place) (sym view) ∙ text_is g st ids es place (same_id place has2).1 ∙ ap (text_of g) (sym id_is)

  module _ (alone : IsAloneAt v place) where
    pub can : CanAppend g id value
    can = record {
      list = list_here;
      alone = sym (ap count_in at_view) ∙ alone;
      out = places ids2 es;
      holders = Holders_same form_table.parts g (places ids es) (value ∷ places ids2 es) splits placed.holders;
      listed = subst (λ o. 0 < occurs o (places ids2 es)) ((same_id place has2).0 ∙ sym id_is) (id_listed ids2 es place has2);
      shallow = shallow_here;
      sound = placed.sound;
      closed = placed.closed;
    }

    module _ (h : G) (app : Appended g id value h) (elems : (xs : List ℕ) → list_at g id ≡ Some xs → elements (text_of g id) ≡ Ok (map (text_of g) xs)) where
      pub placed2 : IsPlaced h ids2 es
      unfolding can
      placed2 = record {
        sound = app.sound;
        closed = app.closed;
        holders = app.passes (places ids2 es) can.holders;
      }

      -- no other place has the object
      sole : (p : At) → p ≢ place → HasId ids2 es p → id_at ids2 es p ≢ id
      unfolding can
      sole p ne is e =
          omega (arith, two_places ids2 es p place id ne is has2 e ((same_id place has2).0 ∙ sym id_is), counted g id value can, occurs-cons id value (places ids2 es))

      says : text_of h id ≡ list_text (map (text_of g) app.elements ++ top 1 v.stack)
      says = app.says ∙ ap list_text (map_push (text_of g) app.elements value ∙ ap (λ xs. map (text_of g) app.elements ++ xs) (sym top_is))

      puts : PutsAt g h ids ids2 es es 1 place (list_text (map (text_of g) app.elements ++ top 1 v.stack))
      puts = record {
        len = sym len;
        cells = λ c. refl;
        there = has2;
        says = ap (text_of h) ((same_id place has2).0 ∙ sym id_is) ∙ says;
        texts = λ p ne is.
            let s = same_id p is in
            app.texts (id_at ids2 es p) (sole p ne is) (placed.holders.there _ (subst (λ o. 0 < occurs o (places ids es)) (sym s.0) (id_listed ids es p s.1))) ∙ ap (text_of g) s.0;
        made = λ p ne is was. ap (λ s. is_some (text_in s)) (app.others (id_at ids2 es p) (sole p ne is)) ∙ ap (made_of g) (same_id p is).0 ∙ was;
      }

      pub appended_view : (st2 : Stats) → IsOkAnd (elements (text_at v place)) (λ ts. Puts v 1 place (list_text (ts ++ top 1 v.stack)) (view_of h st2 ids2 es))
      appended_view st2 =
          known_elements (elements (text_at v place)) _ (map (text_of g) app.elements) (ap elements text_here ∙ elems app.elements app.was) (puts_view g h ids ids2 es es 1 _ v view st2 place puts)

      pub appended_list : (xs : List ℕ) → list_at v.graph (id_of v place) ≡ Some xs → list_at h (id_of v place) ≡ Some (xs ++ id_of v (Stack (length v.stack - 1)) ∷ [])
      appended_list xs is =
          let here : list_at g id ≡ Some xs = sym (ap (λ (x : G). list_at x (id_of v place)) graph_is ∙ ap (list_at g) id_view) ∙ is in
          let same_xs : app.elements ≡ xs = (let e : Some app.elements ≡ Some xs = sym app.was ∙ here in cc) in
          ap (list_at h) id_view ∙ app.list ∙ ap (λ ys. Some (ys ++ value ∷ [])) same_xs ∙ ap (λ o. Some (xs ++ o ∷ [])) (sym value_view)

      pub same_object : id_at ids2 es place ≡ id_of v place
      same_object = (same_id place has2).0 ∙ sym id_is ∙ sym id_view
