-- In the list of a place elements give way to the top of the stack.
use Rattle.std.proofs.Common.{◌≡◌, ◌≢◌, ℕ, ◌+◌, ◌-◌, ◌<◌, ◌≤◌, List, [], ◌∷◌, ◌++◌, map, length, get_or, take, drop, Option, Some, None, Ok, Err, Result, IsSome, is_some, refl, sym, ap, subst, ◌∙◌, arith}
use Rattle.std.specs.Prelude.{IsOkAnd}
use Rattle.std.specs.Result.{ForOk}
use Rattle.std.specs.Map.{values_of}
use Rattle.std.proofs.lemmas.List.{take-append-drop, length-drop, length-map, length-take-le, get_or-take, get_or-drop, map-append, take-map, drop-map}
use Rattle.tclv_text.specs.declared.counters.Stats.{Stats}
use Rattle.tclv_text.specs.Elements.{elements}
use Rattle.tclv_text.specs.Quotes.{list_text}
use Rattle.tclv_forms.specs.Lists.{spliced}
use Rattle.tclv_heap.specs.Graph.{at, occurs, count_in, form_in, form_parts, parts_at, HasOutside}
use Rattle.tclv_heap.specs.Dying.{Releases}
use Rattle.tclv_heap.specs.Holders.{Holders, Passes}
use Rattle.tclv_heap.specs.Stands.{Keeps, deepest, depth_of}
use Rattle.tclv_value.specs.Appending.{CopiesList}
use Rattle.tclv_value.specs.Changes.{IsUnder, Puts}
use Rattle.tclv_value.specs.Forms.{form_table}
use Rattle.tclv_value.specs.Kept.{list_in, list_at, HasList}
use Rattle.tclv_value.specs.Lists.{replaced}
use Rattle.tclv_value.specs.ListObjects.{IsListAt, IsAloneAt, IsShallow, depth_at}
use Rattle.tclv_value.specs.Places.{text_of, made_of, view_of, places, IsPlaced, HasId, id_at, PutsId}
use Rattle.tclv_value.specs.Replacing.{CanReplace, Replaced}
use Rattle.tclv_value.specs.Stacks.{top}
use Rattle.tclv_value.specs.View.{View, HasPlace, text_at, id_of}
use Rattle.tclv_value.specs.declared.forms.Form.{Form}
use Rattle.tclv_value.specs.declared.places.At.{At}
use Rattle.tclv_value.specs.declared.places.At.TheVariants.{Stack, Cell}
use Rattle.tclv_value.proofs.AppendLemmas.{list_parts}
use Rattle.tclv_value.proofs.ElementLemmas.{known_elements}
use Rattle.tclv_value.proofs.GraphLemmas.{by_slot, no_object, still_released}
use Rattle.tclv_value.proofs.HolderLemmas.{occurs-append, occurs-cons, same_self, map_agree, Holders_same, Holders_outside}
use Rattle.tclv_value.proofs.ListPlaceLemmas.{occurs_index}
use Rattle.tclv_value.proofs.PlaceLemmas.{PutsAt, puts_view, two_places}
use Rattle.tclv_value.proofs.ReplaceLemmas.{counted}
use Rattle.tclv_value.proofs.ViewLemmas.{G, has_id, id_listed, id_of_is, text_is, same_view}

-- the texts where elements give way
pub spliced_texts : (f : ℕ → List ℕ) (ids : List ℕ) (from to : ℕ) (values : List ℕ) → map f (spliced ids from to values) ≡ replaced (map f ids) from to (map f values)
spliced_texts f ids from to values =
    map-append f (take from ids ++ values) (drop to ids)
    ∙ ap (λ xs. xs ++ map f (drop to ids)) (map-append f (take from ids) values)
    ∙ ap (λ xs. xs ++ map f values ++ map f (drop to ids)) (sym (take-map f from ids))
    ∙ ap (λ xs. take from (map f ids) ++ map f values ++ xs) (sym (drop-map f to ids))

-- a place of the text is one of the list
pub within_ids : {E : Type 0} (r : Result (List (List ℕ)) E) (f : ℕ → List ℕ) (xs : List ℕ) (to : ℕ) → ForOk r (λ ts. to ≤ length ts) → r ≡ Ok (map f xs) → to ≤ length xs
within_ids (Ok ts) f xs to within is = let same : ts ≡ map f xs = cc in omega (arith, within, ap length same, length-map xs f)
within_ids (Err e) f xs to within is = absurd (cc)

pub within_list : (g : G) (o : ℕ) (f : Form) (xs : List ℕ) → HasList g o f xs → (to : ℕ) → ForOk (elements (text_of g o)) (λ ts. to ≤ length ts) → (ys : List ℕ) → list_at g o ≡ Some ys → to ≤ length ys
within_list g o f xs has to within ys is =
    let same : xs ≡ ys = (let e : Some xs ≡ Some ys = sym has.list ∙ sym (ap list_in has.form) ∙ is in cc) in
    subst (λ zs. to ≤ length zs) same (within_ids _ (text_of g) xs to within has.elements)

-- what is known before: a place whose object is kept as a list, below the top n texts, which are less than 50 deep
pub record Site (g : G) (st : Stats) (ids : List ℕ) (es : List (ℕ × ℕ)) (id n : ℕ) (place : At) (v : View) : Type 0 where
  pub view : view_of g st ids es ≡ v
  pub placed : IsPlaced g ids es
  pub id_is : id ≡ id_at ids es place
  pub room : IsUnder v n place
  pub list : IsListAt v place
  pub shallow : IsShallow n v

module _ (g : G) (st : Stats) (ids : List ℕ) (es : List (ℕ × ℕ)) (id n : ℕ) (place : At) (v : View) (site : Site g st ids es id n place v) where
  abbrev low : List ℕ
  low = take (length ids - n) ids

  abbrev values : List ℕ
  values = drop (length ids - n) ids

  stack_len : length v.stack ≡ length ids
  stack_len = same_view g ids es v site.view

  pub within : n ≤ length ids
  within = by_place place site.room
    where
      by_place : (p : At) → IsUnder v n p → n ≤ length ids
      by_place (Stack i) is = omega (arith, is, stack_len)
      by_place (Cell c) is = omega (arith, is.0, stack_len)

  low_len : length low ≡ length ids - n
  low_len = length-take-le (length ids - n) ids (omega arith)

  pub has_low : (p : At) → IsUnder v n p → HasId low es p
  has_low (Stack i) is = omega (arith, is, stack_len, low_len)
  has_low (Cell c) is = has_id g st ids es (Cell c) (subst (λ w. HasPlace w (Cell c)) (sym site.view) is.1)

  pub has_place_low : HasId low es place
  has_place_low = has_low place site.room

  pub same_id : (p : At) → HasId low es p → (id_at low es p ≡ id_at ids es p) × HasId ids es p
  same_id (Stack i) is = (get_or-take (length ids - n) ids i 0 (omega (arith, is, low_len)), omega (arith, is, low_len))
  same_id (Cell c) is = (refl, is)

  pub id_view : id_of v place ≡ id
  id_view = ap (λ w. id_of w place) (sym site.view) ∙ id_of_is g st ids es place ∙ sym site.id_is

  graph_is : v.graph ≡ g
  graph_is = ap (λ (x : View). x.graph) (sym site.view)

  at_view : at v.graph (id_of v place) ≡ at g id
  at_view = ap (λ (x : G). at x (id_of v place)) graph_is ∙ ap (at g) id_view

  pub splits : (x : ℕ) → occurs x (places ids es) ≡ occurs x (values ++ places low es)
  splits x =
      omega (
        arith,
        occurs-append x ids (values_of es),
        ap (occurs x) (take-append-drop (length ids - n) ids),
        occurs-append x low values,
        occurs-append x values (places low es),
        occurs-append x low (values_of es),
      )

  pub list_here : IsSome (list_at g id)
  list_here = subst (λ o. IsSome (list_at g o)) id_view (subst (λ (x : G). IsSome (list_at x (id_of v place))) graph_is site.list)

  pub shallow_here : (p : ℕ) → 0 < occurs p values → depth_of (at g p) < deepest
  shallow_here p i =
      let found = occurs_index p values i in
      let k : ℕ = found.0 in
      let inside : k < n = omega (arith, found.1, length-drop (length ids - n) ids, within) in
      let ids_are : v.stack_ids ≡ ids = ap (λ (x : View). x.stack_ids) (sym site.view) in
      let here : id_of v (Stack (length v.stack - n + k)) ≡ p =
      ap (λ xs. get_or xs (length v.stack - n + k) 0) ids_are ∙ ap (λ m. get_or ids (m - n + k) 0) stack_len ∙ sym (get_or-drop (length ids - n) ids k 0) ∙ found.2 in
      let same_depth : depth_at v (Stack (length v.stack - n + k)) ≡ depth_of (at g p) =
      ap (λ (x : G). depth_of (at x (id_of v (Stack (length v.stack - n + k))))) graph_is ∙ ap (λ o. depth_of (at g o)) here in
      omega (arith, site.shallow k inside, same_depth)

  pub top_is : top n v.stack ≡ map (text_of g) values
  top_is =
      ap (λ (x : View). drop (length v.stack - n) x.stack) (sym site.view) ∙ ap (λ k. drop (k - n) (map (text_of g) ids)) stack_len ∙ drop-map (text_of g) (length ids - n) ids

  pub text_here : text_at v place ≡ text_of g id
  text_here = ap (λ w. text_at w place) (sym site.view) ∙ text_is g st ids es place (same_id place has_place_low).1 ∙ ap (text_of g) (sym site.id_is)

  there_g : (o : ℕ) → 0 < occurs o (places ids es) → IsSome (at g o)
  there_g o i = site.placed.holders.there o i

  pub values_there : (p : ℕ) → 0 < occurs p values → IsSome (at g p)
  values_there p i = there_g p (omega (arith, i, splits p, occurs-append p values (places low es)))

  ids_top : top n v.stack_ids ≡ values
  ids_top = ap (λ (x : View). top n x.stack_ids) (sym site.view)

  known_list : (xs : List ℕ) → list_at v.graph (id_of v place) ≡ Some xs → list_at g id ≡ Some xs
  known_list xs is = sym (ap (λ (x : G). list_at x (id_of v place)) graph_is ∙ ap (list_at g) id_view) ∙ is

  pub text_within : (to : ℕ) → ForOk (elements (text_at v place)) (λ ts. to ≤ length ts) → ForOk (elements (text_of g id)) (λ ts. to ≤ length ts)
  text_within to within = subst (λ t. ForOk (elements t) (λ ts. to ≤ length ts)) text_here within

  -- in place
  module _ (alone : IsAloneAt v place) where
    pub can : CanReplace g id values
    can = record {
      list = list_here;
      alone = sym (ap count_in at_view) ∙ alone;
      out = places low es;
      holders = Holders_same form_table.parts g (places ids es) (values ++ places low es) splits site.placed.holders;
      listed = subst (λ o. 0 < occurs o (places low es)) ((same_id place has_place_low).0 ∙ sym site.id_is) (id_listed low es place has_place_low);
      shallow = shallow_here;
      sound = site.placed.sound;
      closed = site.placed.closed;
    }

    module _ (h : G) (from to : ℕ) (done : Replaced g id from to values h) (elems : (xs : List ℕ) → list_at g id ≡ Some xs → elements (text_of g id) ≡ Ok (map (text_of g) xs)) where
      pub placed2 : IsPlaced h low es
      unfolding can
      placed2 = record { sound = done.sound; closed = done.closed; holders = done.passes (places low es) can.holders }

      -- no other place has the object
      sole : (p : At) → p ≢ place → HasId low es p → id_at low es p ≢ id
      unfolding can
      sole p ne is e =
          omega (arith, two_places low es p place id ne is has_place_low e ((same_id place has_place_low).0 ∙ sym site.id_is), counted g id values can, occurs-append id values (places low es))

      there_h : (p : At) → HasId low es p → IsSome (at h (id_at low es p))
      there_h p is = placed2.holders.there _ (id_listed low es p is)

      says : text_of h id ≡ list_text (replaced (map (text_of g) done.elements) from to (top n v.stack))
      says = done.says ∙ ap list_text (spliced_texts (text_of g) done.elements from to values ∙ ap (replaced (map (text_of g) done.elements) from to) (sym top_is))

      puts : PutsAt g h ids low es es n place (list_text (replaced (map (text_of g) done.elements) from to (top n v.stack)))
      puts = record {
        len = omega (arith, low_len, within);
        cells = λ c. refl;
        there = has_place_low;
        says = ap (text_of h) ((same_id place has_place_low).0 ∙ sym site.id_is) ∙ says;
        texts = λ p ne is. done.texts (id_at low es p) (sole p ne is) (there_h p is) ∙ ap (text_of g) (same_id p is).0;
        made = λ p ne is was. done.made (id_at low es p) (sole p ne is) (there_h p is) ∙ ap (made_of g) (same_id p is).0 ∙ was;
      }

      pub replaced_view : (st2 : Stats) → IsOkAnd (elements (text_at v place)) (λ ts. Puts v n place (list_text (replaced ts from to (top n v.stack))) (view_of h st2 low es))
      replaced_view st2 =
          known_elements (elements (text_at v place)) _ (map (text_of g) done.elements) (ap elements text_here ∙ elems done.elements done.was) (puts_view g h ids low es es n _ v site.view st2 place puts)

      pub same_object : (st2 : Stats) → id_of (view_of h st2 low es) place ≡ id_of v place
      same_object st2 = id_of_is h st2 low es place ∙ (same_id place has_place_low).0 ∙ sym site.id_is ∙ sym id_view

      pub replaced_list : (st2 : Stats) (xs : List ℕ) → list_at v.graph (id_of v place) ≡ Some xs → list_at h (id_of (view_of h st2 low es) place) ≡ Some (spliced xs from to (top n v.stack_ids))
      replaced_list st2 xs is =
          let same_xs : done.elements ≡ xs = (let e : Some done.elements ≡ Some xs = sym done.was ∙ known_list xs is in cc) in
          ap (list_at h) (same_object st2 ∙ id_view) ∙ done.list ∙ ap (λ ys. Some (spliced ys from to values)) same_xs ∙ ap (λ ys. Some (spliced xs from to ys)) (sym ids_top)

      pub listed2 : (st2 : Stats) → IsListAt (view_of h st2 low es) place
      listed2 st2 = ap (λ o. is_some (list_at h o)) (same_object st2 ∙ id_view) ∙ ap is_some done.list

  pub copied_stats : (xs : List ℕ) → list_at v.graph (id_of v place) ≡ Some xs → length (parts_at form_table.parts g id) ≡ length xs
  copied_stats xs is = by_form (form_in (at g id)) (known_list xs is)
    where
      by_form : (f : Option Form) → list_in f ≡ Some xs → length (form_parts form_table.parts f) ≡ length xs
      by_form None e = absurd (cc)
      by_form (Some f) e = ap length (list_parts f xs e)

  -- in a copy
  module _ (h : G) (copy : ℕ) (copies : CopiesList g id h copy) where
    held_h : Holders form_table.parts h (values ++ (copy ∷ places low es))
    held_h = Holders_same form_table.parts h (copy ∷ places ids es) (values ++ (copy ∷ places low es))
        (λ x. omega (arith, splits x, occurs-cons x copy (places ids es), occurs-append x values (copy ∷ places low es), occurs-cons x copy (places low es), occurs-append x values (places low es)))
        (copies.passes (places ids es) site.placed.holders)

    pub can_copy : CanReplace h copy values
    can_copy = record {
      list = subst IsSome (sym copies.list) list_here;
      alone = copies.alone;
      out = copy ∷ places low es;
      holders = held_h;
      listed = omega (arith, occurs-cons copy copy (places low es), same_self copy);
      shallow = λ p i. subst (λ d. d < deepest) (sym (copies.depths p (values_there p i))) (shallow_here p i);
      sound = copies.keeps.sound;
      closed = copies.keeps.closed site.placed.closed;
    }

    pub copy_within : (f : Form) (xs : List ℕ) → HasList g id f xs → (to : ℕ) → ForOk (elements (text_at v place)) (λ ts. to ≤ length ts) → (ys : List ℕ) → list_at h copy ≡ Some ys → to ≤ length ys
    copy_within f xs has to within ys is = within_list g id f xs has to (text_within to within) ys (sym copies.list ∙ is)

    module _ (k : G) (from to : ℕ) (done : Replaced h copy from to values k) (ids3 : List ℕ) (es3 : List (ℕ × ℕ)) (old : ℕ) (puts_id : PutsId low es place copy ids3 es3 old) where
      held_k : Holders form_table.parts k (old ∷ places ids3 es3)
      held_k = Holders_same form_table.parts k (copy ∷ places low es) (old ∷ places ids3 es3)
          (λ x. omega (arith, puts_id.holders x, occurs-cons x copy (places low es), occurs-cons x old (places ids3 es3))) (done.passes (copy ∷ places low es) held_h)

      pub old_outside : HasOutside form_table.parts k old 1
      old_outside = Holders_outside form_table.parts k (old ∷ places ids3 es3) old held_k (omega (arith, occurs-cons old old (places ids3 es3), same_self old))

      module _ (m : G) (released : Releases form_table.parts k (old ∷ []) m) (passes : Passes form_table.parts k (old ∷ []) m []) (keeps : Keeps form_table k m) where
        pub placed3 : IsPlaced m ids3 es3
        placed3 = record { sound = keeps.sound; closed = keeps.closed done.closed; holders = passes (places ids3 es3) held_k }

        has_old : (p : At) → HasId ids3 es3 p → HasId low es p
        has_old (Stack i) is = omega (arith, is, puts_id.len)
        has_old (Cell c) is = sym (puts_id.cells c) ∙ is

        there_m : (o : ℕ) → IsSome (at m o) → IsSome (at k o)
        there_m o is = by_slot _ (at m o) (λ e. absurd (no_object m o e is)) (λ n e. ap is_some (released.kept o n e).1)

        -- the object of another place
        module _ (p : At) (ne : p ≢ place) (is : HasId ids3 es3 p) where
          same_o : id_at ids3 es3 p ≡ id_at ids es p
          same_o = puts_id.others p ne ∙ (same_id p (has_old p is)).0

          o_g : IsSome (at g (id_at ids es p))
          o_g = there_g _ (id_listed ids es p (same_id p (has_old p is)).1)

          o_other : id_at ids es p ≢ copy
          o_other e = no_object g copy copies.fresh (subst (λ x. IsSome (at g x)) e o_g)

          o_m : IsSome (at m (id_at ids es p))
          o_m = placed3.holders.there _ (subst (λ x. 0 < occurs x (places ids3 es3)) same_o (id_listed ids3 es3 p is))

          o_h : IsSome (at h (id_at ids es p))
          o_h = copies.there _ o_g

          o_k : IsSome (at k (id_at ids es p))
          o_k = there_m _ o_m

          other_text : text_of m (id_at ids3 es3 p) ≡ text_of g (id_at ids es p)
          other_text = ap (text_of m) same_o ∙ keeps.says _ o_k o_m ∙ done.texts _ o_other o_k ∙ copies.keeps.says _ o_g o_h

          other_made : made_of m (id_at ids3 es3 p) ≡ made_of g (id_at ids es p)
          other_made = ap (made_of m) same_o ∙ (still_released k m (old ∷ []) released keeps).made _ o_k o_m ∙ done.made _ o_other o_k ∙ copies.made _ o_g

        copy_m : IsSome (at m copy)
        copy_m = placed3.holders.there copy (subst (λ x. 0 < occurs x (places ids3 es3)) puts_id.here (id_listed ids3 es3 place puts_id.there))

        pub copied_list : list_at m copy ≡ Some (spliced done.elements from to values)
        copied_list = by_slot _ (at m copy) (λ e. absurd (no_object m copy e copy_m)) (λ n e.
            let r = released.kept copy n e in
            ap (λ s. list_in (form_in s)) e ∙ ap list_in r.2.form ∙ sym (ap (λ s. list_in (form_in s)) r.1) ∙ done.list)

        pub copied_listed : (st2 : Stats) → IsListAt (view_of m st2 ids3 es3) place
        copied_listed st2 = ap (λ o. is_some (list_at m o)) (id_of_is m st2 ids3 es3 place ∙ puts_id.here) ∙ ap is_some copied_list

        pub copied_elements : (st2 : Stats) (xs : List ℕ) → list_at v.graph (id_of v place) ≡ Some xs → list_at m (id_of (view_of m st2 ids3 es3) place) ≡ Some (spliced xs from to (top n v.stack_ids))
        copied_elements st2 xs is =
            let same_elements : done.elements ≡ xs = (let e : Some done.elements ≡ Some xs = sym done.was ∙ copies.list ∙ known_list xs is in cc) in
            ap (list_at m) (id_of_is m st2 ids3 es3 place ∙ puts_id.here) ∙ copied_list ∙ ap (λ ys. Some (spliced ys from to values)) same_elements ∙ ap (λ ys. Some (spliced xs from to ys)) (sym ids_top)

        pub copied_new : (st2 : Stats) → at v.graph (id_of (view_of m st2 ids3 es3) place) ≡ at g copy
        copied_new st2 = ap (λ (x : G). at x (id_of (view_of m st2 ids3 es3) place)) graph_is ∙ ap (at g) (id_of_is m st2 ids3 es3 place ∙ puts_id.here)

        module _ (f : Form) (xs : List ℕ) (has : HasList g id f xs) where
          same_xs : done.elements ≡ xs
          same_xs = let e : Some done.elements ≡ Some xs = sym done.was ∙ copies.list ∙ ap list_in has.form ∙ has.list in cc

          in_h : (p : ℕ) → IsSome (at g p) → text_of h p ≡ text_of g p
          in_h p is = copies.keeps.says p is (copies.there p is)

          copy_says : text_of m copy ≡ list_text (replaced (map (text_of g) xs) from to (top n v.stack))
          copy_says =
              keeps.says copy (there_m copy copy_m) copy_m ∙ done.says ∙ ap (λ ys. list_text (map (text_of h) (spliced ys from to values))) same_xs
              ∙ ap list_text (spliced_texts (text_of h) xs from to values)
              ∙ ap (λ ys. list_text (replaced ys from to (map (text_of h) values))) (map_agree (text_of h) (text_of g) xs (λ p i. in_h p (has.there p i)))
              ∙ ap (λ ys. list_text (replaced (map (text_of g) xs) from to ys)) (map_agree (text_of h) (text_of g) values (λ p i. in_h p (values_there p i)) ∙ sym top_is)

          copy_puts : PutsAt g m ids ids3 es es3 n place (list_text (replaced (map (text_of g) xs) from to (top n v.stack)))
          copy_puts = record {
            len = omega (arith, puts_id.len, low_len, within);
            cells = puts_id.cells;
            there = puts_id.there;
            says = ap (text_of m) puts_id.here ∙ copy_says;
            texts = λ p ne is. other_text p ne is;
            made = λ p ne is was. other_made p ne is ∙ was;
          }

          pub copied_view : (st2 : Stats) → IsOkAnd (elements (text_at v place)) (λ ts. Puts v n place (list_text (replaced ts from to (top n v.stack))) (view_of m st2 ids3 es3))
          copied_view st2 = known_elements (elements (text_at v place)) _ (map (text_of g) xs) (ap elements text_here ∙ has.elements) (puts_view g m ids ids3 es es3 n _ v site.view st2 place copy_puts)
