-- The list of a place gets a value at a place of its own, in place or in a copy. The stack stays as high as it is.
use Rattle.std.proofs.Common.{◌≡◌, ◌≢◌, ℕ, ◌+◌, ◌-◌, ◌<◌, List, [], ◌∷◌, length, get_or, Some, None, Ok, Err, Result, IsSome, refl, sym, ap, subst, ◌∙◌, arith}
use Rattle.std.specs.Prelude.{IsOkAnd, IsTrue, OnOk, OnErr}
use Rattle.tclv_text.specs.declared.counters.Stats.{Stats}
use Rattle.tclv_text.specs.Elements.{elements}
use Rattle.tclv_text.specs.Quotes.{list_text}
use Rattle.tclv_heap.specs.Graph.{at, occurs, count_in, held, HasOutside}
use Rattle.tclv_heap.specs.Dying.{Releases}
use Rattle.tclv_heap.specs.Holders.{Holders, Passes}
use Rattle.tclv_heap.specs.Stands.{Keeps, deepest, depth_of}
use Rattle.tclv_value.specs.Changes.{IsUnder, Puts}
use Rattle.tclv_value.specs.Forms.{form_table, parts_of}
use Rattle.tclv_value.specs.Kept.{list_in, list_at, IsOutside}
use Rattle.tclv_value.specs.ListObjects.{IsListAt, IsAloneAt, depth_at}
use Rattle.tclv_value.specs.Paths.{put_at}
use Rattle.tclv_value.specs.Places.{text_of, made_of, view_of, places, IsPlaced, HasId, id_at, PutsId}
use Rattle.tclv_value.specs.Setting.{CanChange, ListChanged, MakesList, LetsGo}
use Rattle.tclv_value.specs.View.{View, HasPlace, text_at, id_of}
use Rattle.tclv_value.specs.declared.places.At.{At}
use Rattle.tclv_value.specs.declared.places.At.TheVariants.{Stack, Cell}
use Rattle.tclv_value.proofs.AnswerLemmas.{ok_and}
use Rattle.tclv_value.proofs.GraphLemmas.{by_slot, no_object}
use Rattle.tclv_value.proofs.HolderLemmas.{occurs-cons, same_self, Holders_same, Holders_outside}
use Rattle.tclv_value.proofs.PlaceLemmas.{PutsAt, puts_view, two_places}
use Rattle.tclv_value.proofs.SetChangeLemmas.{lets_one}
use Rattle.tclv_value.proofs.ViewLemmas.{G, has_id, id_listed, id_of_is, text_is, same_view}

-- some text of a list that was read
pub some_text : {E : Type 0} (r : Result (List (List ℕ)) E) (P : List ℕ → Type 0) (f : List (List ℕ) → List ℕ) → IsOkAnd r (λ ts. P (f ts)) → (t : List ℕ) × P t
some_text (Ok ts) P f known = (f ts, known)
some_text (Err e) P f known = absurd known

-- what holds after an answer and after a refusal
pub by_result : {T E : Type 0} {P Q X : Type 0} (r : Result T E) → OnOk r P → OnErr r Q → (P → X) → (Q → X) → X
by_result (Ok x) ok err f h = f ok
by_result (Err e) ok err f h = h err

-- there is a text above a place that a call names
pub filled_at : (g : G) {st : Stats} (ids : List ℕ) (es : List (ℕ × ℕ)) (place : At) (v : View) → view_of g st ids es ≡ v → IsUnder v 1 place → 0 < length ids
filled_at g ids es (Stack i) v view is = omega (arith, is, same_view g ids es v view)
filled_at g ids es (Cell c) v view is = omega (arith, is.0, same_view g ids es v view)

-- a place below the top text
not_top : (v : View) (place : At) → IsUnder v 1 place → place ≢ Stack (length v.stack - 1)
not_top v (Stack i) is e = omega (arith, is, ap number e)
  where
    number : At → ℕ
    number (Stack k) = k
    number (Cell k) = 0
not_top v (Cell c) is e = absurd (cc)

module _ (g : G) {st : Stats} (ids : List ℕ) (es : List (ℕ × ℕ)) (value id : ℕ) (place : At) (v : View) (view : view_of g st ids es ≡ v) (placed : IsPlaced g ids es) (id_is : id ≡ id_at ids es place) (value_is : value ≡ get_or ids (length ids - 1) 0) (room : IsUnder v 1 place) where
  len : length v.stack ≡ length ids
  len = same_view g ids es v view

  pub has : HasId ids es place
  has = by_place place room
    where
      by_place : (p : At) → IsUnder v 1 p → HasId ids es p
      by_place (Stack i) is = omega (arith, is, len)
      by_place (Cell c) is = has_id g st ids es (Cell c) (subst (λ w. HasPlace w (Cell c)) (sym view) is.1)

  filled : 0 < length ids
  filled = omega (arith, len, some_place place room)
    where
      some_place : (p : At) → IsUnder v 1 p → 0 < length v.stack
      some_place (Stack i) is = omega (arith, is)
      some_place (Cell c) is = omega (arith, is.0)

  has_top : HasId ids es (Stack (length v.stack - 1))
  has_top = omega (arith, len, filled)

  top_id : id_at ids es (Stack (length v.stack - 1)) ≡ value
  top_id = ap (λ n. get_or ids (n - 1) 0) len ∙ sym value_is

  pub listed_id : 0 < occurs id (places ids es)
  listed_id = subst (λ o. 0 < occurs o (places ids es)) (sym id_is) (id_listed ids es place has)

  pub listed_value : 0 < occurs value (places ids es)
  listed_value = subst (λ o. 0 < occurs o (places ids es)) top_id (id_listed ids es (Stack (length v.stack - 1)) has_top)

  pub outside_value : IsOutside g value
  outside_value = record { ids = places ids es; holders = placed.holders; listed = listed_value }

  pub id_view : id_of v place ≡ id
  id_view = ap (λ w. id_of w place) (sym view) ∙ id_of_is g st ids es place ∙ sym id_is

  pub graph_is : v.graph ≡ g
  graph_is = ap (λ (x : View). x.graph) (sym view)

  pub value_view : id_of v (Stack (length v.stack - 1)) ≡ value
  value_view = ap (λ w. id_of w (Stack (length v.stack - 1))) (sym view) ∙ top_id

  pub list_here : IsListAt v place → IsSome (list_at g id)
  list_here list = subst (λ o. IsSome (list_at g o)) id_view (subst (λ (x : G). IsSome (list_at x (id_of v place))) graph_is list)

  alone_here : IsAloneAt v place → count_in (at g id) ≡ 1
  alone_here alone = sym (ap (λ (x : G). count_in (at x (id_of v place))) graph_is ∙ ap (λ o. count_in (at g o)) id_view) ∙ alone

  pub shallow_here : depth_at v (Stack (length v.stack - 1)) < deepest → depth_of (at g value) < deepest
  shallow_here shallow = subst (λ d. d < deepest) (ap (λ (x : G). depth_of (at x (id_of v (Stack (length v.stack - 1))))) graph_is ∙ ap (λ o. depth_of (at g o)) value_view) shallow

  pub text_here : text_at v place ≡ text_of g id
  text_here = ap (λ w. text_at w place) (sym view) ∙ text_is g st ids es place has ∙ ap (text_of g) (sym id_is)

  pub value_text : text_at v (Stack (length v.stack - 1)) ≡ text_of g value
  value_text = ap (λ w. text_at w (Stack (length v.stack - 1))) (sym view) ∙ text_is g st ids es (Stack (length v.stack - 1)) has_top ∙ ap (text_of g) top_id

  pub within_here : (P : List (List ℕ) → Type 0) → IsOkAnd (elements (text_at v place)) P → IsOkAnd (elements (text_of g id)) P
  within_here P within = subst (λ t. IsOkAnd (elements t) P) text_here within

  -- what is put, as the view has it
  known_put : (k : ℕ) (w : View) (P : List ℕ → Type 0) → ((t : List ℕ) → P t → Puts v 0 place t w) → IsOkAnd (elements (text_of g id)) (λ ts. P (list_text (put_at ts k (text_of g value)))) → IsOkAnd (elements (text_at v place)) (λ ts. Puts v 0 place (list_text (put_at ts k (text_at v (Stack (length v.stack - 1))))) w)
  known_put k w P puts known =
      subst (λ t. IsOkAnd (elements t) (λ ts. Puts v 0 place (list_text (put_at ts k (text_at v (Stack (length v.stack - 1))))) w)) (sym text_here)
      (ok_and (elements (text_of g id)) (λ ts. P (list_text (put_at ts k (text_of g value)))) (λ ts. Puts v 0 place (list_text (put_at ts k (text_at v (Stack (length v.stack - 1))))) w)
      (λ ts p. subst (λ t. Puts v 0 place (list_text (put_at ts k t)) w) (sym value_text) (puts _ p)) known)

  -- in place
  module _ (alone : IsAloneAt v place) where
    counted : held parts_of g id + occurs id (places ids es) ≡ 1
    counted = by_slot _ (at g id) (λ e. absurd (no_object g id e (placed.holders.there id listed_id))) (λ n e.
        let one : n.count ≡ 1 = sym (ap count_in e) ∙ alone_here alone in
        sym (placed.holders.counted id n e (λ s. omega (arith, one, s))) ∙ one)

    -- no other place has the object
    pub sole : (p : At) → p ≢ place → HasId ids es p → id_at ids es p ≢ id
    sole p ne is e = omega (arith, counted, two_places ids es p place id ne is has e (sym id_is))

    pub apart_here : value ≢ id
    apart_here e = sole (Stack (length v.stack - 1)) (λ x. not_top v place room (sym x)) has_top (top_id ∙ e)

    pub can_change : IsListAt v place → depth_at v (Stack (length v.stack - 1)) < deepest → CanChange g id value
    can_change list shallow = record {
      list = list_here list;
      alone = alone_here alone;
      apart = λ e. sole (Stack (length v.stack - 1)) (λ x. not_top v place room (sym x)) has_top (top_id ∙ e);
      out = places ids es;
      holders = placed.holders;
      listed = listed_id;
      valued = listed_value;
      shallow = shallow_here shallow;
      sound = placed.sound;
      closed = placed.closed;
    }

    module _ (h : G) (t : List ℕ) (changes : ListChanged g id t h) where
      pub placed_in : IsPlaced h ids es
      placed_in = record { sound = changes.sound; closed = changes.closed; holders = changes.passes (places ids es) placed.holders listed_id }

      there_in : (p : At) → HasId ids es p → IsSome (at g (id_at ids es p)) × IsSome (at h (id_at ids es p))
      there_in p is = let i = id_listed ids es p is in (placed.holders.there _ i, placed_in.holders.there _ i)

      puts_in : PutsAt g h ids ids es es 0 place t
      puts_in = record {
        len = omega arith;
        cells = λ c. refl;
        there = has;
        says = ap (text_of h) (sym id_is) ∙ changes.says;
        texts = λ p ne is. let i = there_in p is in changes.texts _ (sole p ne is) i.0 i.1;
        made = λ p ne is was. let i = there_in p is in changes.made _ (sole p ne is) i.0 i.1 ∙ was;
      }

      pub view_in : (st2 : Stats) → Puts v 0 place t (view_of h st2 ids es)
      view_in st2 = puts_view g h ids ids es es 0 t v view st2 place puts_in

      pub listed_in : (st2 : Stats) → IsListAt (view_of h st2 ids es) place
      listed_in st2 = subst (λ o. IsSome (list_at h o)) (id_is ∙ sym (id_of_is h st2 ids es place)) changes.list

    pub known_in : (h : G) (st2 : Stats) (k : ℕ) → IsOkAnd (elements (text_of g id)) (λ ts. ListChanged g id (list_text (put_at ts k (text_of g value))) h) → IsOkAnd (elements (text_at v place)) (λ ts. Puts v 0 place (list_text (put_at ts k (text_at v (Stack (length v.stack - 1))))) (view_of h st2 ids es))
    known_in h st2 k known = known_put k (view_of h st2 ids es) (λ t. ListChanged g id t h) (λ t changes. view_in h t changes st2) known

    pub same_in : (h : G) (st2 : Stats) → id_of (view_of h st2 ids es) place ≡ id_of v place
    same_in h st2 = id_of_is h st2 ids es place ∙ sym id_is ∙ sym id_view

  -- in a copy
  module _ (h : G) (copy : ℕ) (t : List ℕ) (makes : MakesList g h copy t) (ids3 : List ℕ) (es3 : List (ℕ × ℕ)) (old : ℕ) (puts_id : PutsId ids es place copy ids3 es3 old) where
    held_h : Holders form_table.parts h (old ∷ places ids3 es3)
    held_h = Holders_same form_table.parts h (copy ∷ places ids es) (old ∷ places ids3 es3)
        (λ x. omega (arith, puts_id.holders x, occurs-cons x copy (places ids es), occurs-cons x old (places ids3 es3))) (makes.passes (places ids es) placed.holders)

    pub old_outside : HasOutside form_table.parts h old 1
    old_outside = Holders_outside form_table.parts h (old ∷ places ids3 es3) old held_h (omega (arith, occurs-cons old old (places ids3 es3), same_self old))

    module _ (m : G) (released : Releases form_table.parts h (old ∷ []) m) (passes : Passes form_table.parts h (old ∷ []) m []) (keeps : Keeps form_table h m) where
      lets : LetsGo h (Some old) m
      lets = lets_one h m old released passes keeps

      pub placed_copy : IsPlaced m ids3 es3
      placed_copy = record { sound = keeps.sound; closed = keeps.closed (makes.keeps.closed placed.closed); holders = passes (places ids3 es3) held_h }

      has_before : (p : At) → HasId ids3 es3 p → HasId ids es p
      has_before (Stack i) is = omega (arith, is, puts_id.len)
      has_before (Cell c) is = sym (puts_id.cells c) ∙ is

      copy_m : IsSome (at m copy)
      copy_m = placed_copy.holders.there copy (subst (λ x. 0 < occurs x (places ids3 es3)) puts_id.here (id_listed ids3 es3 place puts_id.there))

      -- the object of another place
      module _ (p : At) (ne : p ≢ place) (is : HasId ids3 es3 p) where
        same_o : id_at ids3 es3 p ≡ id_at ids es p
        same_o = puts_id.others p ne

        o_g : IsSome (at g (id_at ids es p))
        o_g = placed.holders.there _ (id_listed ids es p (has_before p is))

        o_m : IsSome (at m (id_at ids es p))
        o_m = placed_copy.holders.there _ (subst (λ x. 0 < occurs x (places ids3 es3)) same_o (id_listed ids3 es3 p is))

        o_h : IsSome (at h (id_at ids es p))
        o_h = lets.there _ o_m

        other_text : text_of m (id_at ids3 es3 p) ≡ text_of g (id_at ids es p)
        other_text = ap (text_of m) same_o ∙ keeps.says _ o_h o_m ∙ makes.keeps.says _ o_g o_h

        other_made : IsTrue (made_of g (id_at ids es p)) → IsTrue (made_of m (id_at ids3 es3 p))
        other_made was = ap (made_of m) same_o ∙ lets.made _ o_m ∙ makes.texts _ o_h was

      puts_copy : PutsAt g m ids ids3 es es3 0 place t
      puts_copy = record {
        len = omega (arith, puts_id.len);
        cells = puts_id.cells;
        there = puts_id.there;
        says = ap (text_of m) puts_id.here ∙ keeps.says copy (lets.there copy copy_m) copy_m ∙ makes.says;
        texts = λ p ne is. other_text p ne is;
        made = λ p ne is was. other_made p ne is was;
      }

      pub view_copy : (st2 : Stats) → Puts v 0 place t (view_of m st2 ids3 es3)
      view_copy st2 = puts_view g m ids ids3 es es3 0 t v view st2 place puts_copy

      copy_view : (st2 : Stats) → id_of (view_of m st2 ids3 es3) place ≡ copy
      copy_view st2 = id_of_is m st2 ids3 es3 place ∙ puts_id.here

      pub listed_copy : (st2 : Stats) → IsListAt (view_of m st2 ids3 es3) place
      listed_copy st2 = subst (λ o. IsSome (list_at m o)) (sym (copy_view st2)) (subst IsSome (sym (ap list_in (lets.forms copy copy_m))) makes.list)

      pub another_copy : (st2 : Stats) → id_of (view_of m st2 ids3 es3) place ≡ id_of v place → ⊥
      another_copy st2 e = no_object g copy makes.fresh (subst (λ o. IsSome (at g o)) (sym (sym (copy_view st2) ∙ e ∙ id_view)) (placed.holders.there id listed_id))

      pub fresh_copy : (st2 : Stats) → at v.graph (id_of (view_of m st2 ids3 es3) place) ≡ None
      fresh_copy st2 = ap (λ (x : G). at x (id_of (view_of m st2 ids3 es3) place)) graph_is ∙ ap (at g) (copy_view st2) ∙ makes.fresh

  pub known_copy : (h : G) (copy k : ℕ) (ids3 : List ℕ) (es3 : List (ℕ × ℕ)) (old : ℕ) → PutsId ids es place copy ids3 es3 old → (m : G) → Releases form_table.parts h (old ∷ []) m → Passes form_table.parts h (old ∷ []) m [] → Keeps form_table h m → (st2 : Stats) → IsOkAnd (elements (text_of g id)) (λ ts. MakesList g h copy (list_text (put_at ts k (text_of g value)))) → IsOkAnd (elements (text_at v place)) (λ ts. Puts v 0 place (list_text (put_at ts k (text_at v (Stack (length v.stack - 1))))) (view_of m st2 ids3 es3))
  known_copy h copy k ids3 es3 old puts_id m released passes keeps st2 known = known_put k (view_of m st2 ids3 es3) (λ t. MakesList g h copy t) (λ t makes. view_copy h copy t makes ids3 es3 old puts_id m released passes keeps st2) known
