-- A way of places through lists in lists: what is on it, and the step from an object to the next.
use Rattle.std.proofs.Common.{◌≡◌, ◌≢◌, ℕ, zero, suc, ◌+◌, ◌-◌, ◌<◌, ◌≤◌, max, inl, inr, List, [], ◌∷◌, ◌++◌, map, length, take, drop, get_or, set, Option, Some, None, Ok, Err, Result, true, false, IsSome, is_some, refl, sym, ap, subst, ◌∙◌, arith}
use Rattle.std.specs.Prelude.{IfOk, IfSome, slice_get, nat_le, if◌then◌else◌, ℤ, pos, negsuc}
use Rattle.std.specs.Option.{unwrap_or}
use Rattle.std.proofs.lemmas.Bool.{cases_eq}
use Rattle.std.proofs.lemmas.List.{length-map, get_or-map, take_all}
use Rattle.std.proofs.lemmas.Option.{slice_get-get_or}
use Rattle.tclv_text.specs.declared.indices.IndexFault.{IndexFault}
use Rattle.tclv_text.specs.Elements.{elements}
use Rattle.tclv_text.specs.Indices.{index}
use Rattle.tclv_text.specs.Quotes.{list_text}
use Rattle.tclv_forms.specs.Lists.{Items}
use Rattle.tclv_heap.specs.Graph.{at, occurs, count_in, form_in, text_in, depth_in, holds, held}
use Rattle.tclv_heap.specs.Holders.{Holders}
use Rattle.tclv_heap.specs.Stands.{IsSound, depth_of}
use Rattle.tclv_value.specs.Forms.{form_table, parts_of}
use Rattle.tclv_value.specs.Kept.{list_in, list_at, IsAbove}
use Rattle.tclv_value.specs.Paths.{PathFlaw, and_then, list_or, place_or, step, put_at, set_path}
use Rattle.tclv_value.specs.Places.{text_of}
use Rattle.tclv_value.specs.Setting.{CanSwap, Swaps, CanChange, ListChanged, HasRoomAt, text_with}
use Rattle.tclv_value.specs.Ways.{ids_at, IsUnshared, Opens, text_along, CanGo, IsUntouched, Goes, LeavesOthers}
use Rattle.tclv_value.specs.Ways.Opens.{ends, goes}
use Rattle.tclv_value.specs.declared.forms.Form.TheVariants as form
use Rattle.tclv_value.proofs.AnswerLemmas.{found_within}
use Rattle.tclv_value.proofs.AppendLemmas.{own_depth}
use Rattle.tclv_value.proofs.GraphLemmas.{by_slot, no_object}
use Rattle.tclv_value.proofs.HolderLemmas.{occurs-append, occurs-cons, occurs_at, same_self, map_agree}
use Rattle.tclv_value.proofs.LeadLemmas.{holds_le_held}
use Rattle.tclv_value.proofs.SetChangeLemmas.{form_ids, parts_in, known_list}
use Rattle.tclv_value.proofs.SetLemmas.{put_within}
use Rattle.tclv_value.proofs.ViewLemmas.{G}

-- what stands at a place
pub got : (xs : List ℕ) (k p : ℕ) → slice_get xs k ≡ Some p → get_or xs k 0 ≡ p
got xs k p is = let e : Some (get_or xs k 0) ≡ Some p = sym (slice_get-get_or xs k 0 (found_within xs k p (sym is))) ∙ is in cc

pub got_in : (xs : List ℕ) (k p : ℕ) → slice_get xs k ≡ Some p → 0 < occurs p xs
got_in xs k p is = occurs_at xs k p (found_within xs k p (sym is)) (got xs k p is)

-- a part is held
pub held_part : (g : G) (o p : ℕ) (ids : List ℕ) → list_at g o ≡ Some ids → 0 < occurs p ids → 0 < held parts_of g p
held_part g o p ids list i =
    let here : holds parts_of p (at g o) ≡ occurs p ids =
    by_slot _ (at g o) (λ e. absurd (let e2 : None ≡ Some ids = sym (ap (λ s. list_in (form_in s)) e) ∙ list in cc))
    (λ n e. ap (holds parts_of p) e ∙ ap (occurs p) (form_ids n.form ids (sym (ap (λ s. list_in (form_in s)) e) ∙ list))) in
    omega (arith, here, i, holds_le_held g o p)

-- how often an object with one holder alone is held
pub one_holder : (g : G) (out : List ℕ) (o : ℕ) → Holders parts_of g out → IsSome (at g o) → count_in (at g o) ≡ 1 → held parts_of g o + occurs o out ≡ 1
one_holder g out o holders there alone =
    by_slot _ (at g o) (λ e. absurd (no_object g o e there)) (λ n e.
    let one : n.count ≡ 1 = sym (ap count_in e) ∙ alone in
    sym (holders.counted o n e (λ s. omega (arith, one, s))) ∙ one)

-- functions that agree but for one of the elements, which stands there once
pub map_one : {X : Type 0} (f h : ℕ → X) (ids : List ℕ) (k part : ℕ) → slice_get ids k ≡ Some part → occurs part ids ≤ 1 → ((p : ℕ) → 0 < occurs p ids → p ≢ part → f p ≡ h p) → map f ids ≡ set (map h ids) k (f part)
map_one f h [] k part is once agree = absurd (cc)
map_one f h (p ∷ ps) zero part is once agree =
    let first : p ≡ part = cc in
    let rest = map_agree f h ps (λ q i. agree q (omega (arith, i, occurs-cons q p ps)) (λ e. omega (arith, i, once, occurs-cons part p ps, same_self part, ap (λ y. occurs y ps) e, ap (λ y. occurs y (y ∷ [])) first, ap (λ y. occurs part (y ∷ ps)) first, occurs-cons part part ps))) in
    cc
map_one f h (p ∷ ps) (suc k) part is once agree =
    let in_rest : 0 < occurs part ps = got_in ps k part is in
    let ne : p ≢ part = (λ e. omega (arith, once, in_rest, occurs-cons part part ps, same_self part, ap (λ y. occurs part (y ∷ ps)) e)) in
    let first : f p ≡ h p = agree p (omega (arith, occurs-cons p p ps, same_self p)) ne in
    let rest = map_one f h ps k part is (omega (arith, once, occurs-cons part p ps)) (λ q i nq. agree q (omega (arith, i, occurs-cons q p ps)) nq) in
    cc

-- the first step of a way that goes on
pub record Going (g : G) (next : Option Items) (value high id k part : ℕ) (ks : List ℕ) : Type 0 where
  pub here : IsUnshared g high id k
  pub more : 1 < high
  pub is : slice_get (ids_at g id) k ≡ Some part
  pub rest : Opens g next value (high - 1) part ks

going : {g : G} {next : Option Items} {value high id : ℕ} {places : List ℕ} → Opens g next value high id places → (length places ≡ 1 → ⊥) → (part : ℕ) × Going g next value high id (get_or places 0 0) part (drop 1 places)
going (ends here low room) more = absurd (more refl)
going (goes {part = p} here more is rest) _ = (p, record { here = here; more = more; is = is; rest = rest })

pub record Ending (g : G) (next : Option Items) (value high id k : ℕ) : Type 0 where
  pub here : IsUnshared g high id k
  pub low : depth_of (at g value) < high
  pub room : (list : Items) → form_in (at g id) ≡ Some (form.List list) → HasRoomAt k next list

none_left : {g : G} {next : Option Items} {value high id : ℕ} {ks : List ℕ} → Opens g next value high id ks → 0 < length ks
none_left (ends here low room) = omega arith
none_left (goes here more is rest) = omega arith

pub ending : {g : G} {next : Option Items} {value high id : ℕ} {places : List ℕ} → Opens g next value high id places → length places ≡ 1 → Ending g next value high id (get_or places 0 0)
ending (ends here low room) one = record { here = here; low = low; room = room }
ending (goes here more is rest) one = absurd (omega (arith, one, none_left rest))

-- where a way goes on
module _ {g : G} {next : Option Items} {value high id : ℕ} {places : List ℕ} (opens : Opens g next value high id places) (more : length places ≡ 1 → ⊥) (ids : List ℕ) (was : list_at g id ≡ Some ids) where
  ids_here : ids_at g id ≡ ids
  ids_here = ap (λ r. unwrap_or r []) was

  pub going_within : get_or places 0 0 < length ids
  going_within =
      let w = going opens more in
      found_within ids (get_or places 0 0) w.0 (sym (ap (λ xs. slice_get xs (get_or places 0 0)) (sym ids_here) ∙ w.1.is))

  pub going_to : (p : ℕ) → p ≡ get_or ids (get_or places 0 0) 0 → Going g next value high id (get_or places 0 0) p (drop 1 places)
  going_to p is =
      let w = going opens more in
      let same : p ≡ w.0 = is ∙ got ids (get_or places 0 0) w.0 (ap (λ xs. slice_get xs (get_or places 0 0)) (sym ids_here) ∙ w.1.is) in
      subst (λ q. Going g next value high id (get_or places 0 0) q (drop 1 places)) (sym same) w.1

-- all places but the first
pub rest_places : (xs : List ℕ) → take (length xs - 1) (drop 1 xs) ≡ drop 1 xs
rest_places [] = refl
rest_places (x ∷ xs) = take_all (length (x ∷ xs) - 1) xs (omega arith)

pub rest_there : (P : ℕ → Type 0) (xs : List ℕ) → ((k d : ℕ) → k < length xs → P (get_or xs k d)) → (k d : ℕ) → k < length (take (length xs - 1) (drop 1 xs)) → P (get_or (take (length xs - 1) (drop 1 xs)) k d)
rest_there P xs all k d = subst (λ ys. k < length ys → P (get_or ys k d)) (sym (rest_places xs)) (behind xs all)
  where
    behind : (ys : List ℕ) → ((n e : ℕ) → n < length ys → P (get_or ys n e)) → k < length (drop 1 ys) → P (get_or (drop 1 ys) k d)
    behind [] every within = absurd (omega (arith, within))
    behind (y ∷ ys) every within = every (suc k) d (omega (arith, within))

pub rest_some : (xs : List ℕ) → 0 < length xs → (length xs ≡ 1 → ⊥) → 0 < length (take (length xs - 1) (drop 1 xs))
rest_some [] some more = absurd (omega (arith, some))
rest_some (x ∷ []) some more = absurd (more refl)
rest_some (x ∷ y ∷ ys) some more = subst (λ zs. 0 < length zs) (sym (rest_places (x ∷ y ∷ ys))) (omega arith)

pub filled : {g : G} {next : Option Items} {value high id : ℕ} {places : List ℕ} → Opens g next value high id places → 0 < length places
filled opens = none_left opens

pub places_one : (places : List ℕ) → length places ≡ 1 → places ≡ get_or places 0 0 ∷ []
places_one [] is = absurd (omega (arith, is))
places_one (k ∷ []) is = refl
places_one (k ∷ j ∷ ks) is = absurd (omega (arith, is))

pub places_more : (places : List ℕ) → 0 < length places → places ≡ get_or places 0 0 ∷ drop 1 places
places_more [] is = absurd (omega (arith, is))
places_more (k ∷ ks) is = refl

-- the same way where one object changed that is not on it
module _ (g a : G) (id : ℕ) (sound : IsSound form_table g) (free : held parts_of g id ≡ 0) (others : (x : ℕ) → x ≢ id → at a x ≡ at g x) (texts : (x : ℕ) → x ≢ id → IsSome (at g x) → text_of a x ≡ text_of g x) where
  part_apart : (o p : ℕ) → IsSome (list_at g o) → 0 < occurs p (ids_at g o) → p ≢ id
  part_apart o p list i e = omega (arith, free, held_part g o p (ids_at g o) (known_list g o list) i, ap (held parts_of g) e)

  ids_same : (o : ℕ) → o ≢ id → ids_at a o ≡ ids_at g o
  ids_same o ne = ap (λ s. unwrap_or (list_in (form_in s)) []) (others o ne)

  texts_same : (o : ℕ) → o ≢ id → IsSome (list_at g o) → map (text_of a) (ids_at a o) ≡ map (text_of g) (ids_at g o)
  texts_same o ne list =
      ap (map (text_of a)) (ids_same o ne)
      ∙ map_agree (text_of a) (text_of g) (ids_at g o) (λ p i. texts p (part_apart o p list i) (parts_in g o p (ids_at g o) sound (known_list g o list) i))

  unshared_same : {high : ℕ} (o k : ℕ) → o ≢ id → IsUnshared g high o k → IsUnshared a high o k
  unshared_same o k ne here = record {
    list = subst (λ s. IsSome (list_in (form_in s))) (sym (others o ne)) here.list;
    alone = ap count_in (others o ne) ∙ here.alone;
    deep = omega (arith, here.deep, ap depth_in (others o ne));
    within = omega (arith, here.within, ap length (ids_same o ne));
  }

  pub opens_same : {next : Option Items} {value high o : ℕ} {ks : List ℕ} → value ≢ id → o ≢ id → Opens g next value high o ks → Opens a next value high o ks
  opens_same {value = value} apart ne (ends {id = o} {k = k} here low room) =
      ends (unshared_same o k ne here) (omega (arith, low, ap depth_of (others value apart))) (λ list is. room list (sym (ap form_in (others o ne)) ∙ is))
  opens_same apart ne (goes {id = o} {k = k} {part = p} here more is rest) =
      goes (unshared_same o k ne here) more (ap (λ xs. slice_get xs k) (ids_same o ne) ∙ is) (opens_same apart (part_apart o p here.list (got_in (ids_at g o) k p is)) rest)

  pub along_same : {next : Option Items} {value high o : ℕ} {ks : List ℕ} (x : List ℕ) → o ≢ id → Opens g next value high o ks → text_along a o ks x ≡ text_along g o ks x
  along_same x ne (ends {id = o} {k = k} here low room) = ap (λ ts. list_text (put_at ts k x)) (texts_same o ne here.list)
  along_same x ne (goes {id = o} {k = k} {part = p} {ks = ks} here more is rest) =
      let next_a : get_or (ids_at a o) k 0 ≡ p = ap (λ xs. get_or xs k 0) (ids_same o ne) ∙ got (ids_at g o) k p is in
      let next_g : get_or (ids_at g o) k 0 ≡ p = got (ids_at g o) k p is in
      ap (λ ts. list_text (put_at ts k (text_along a (get_or (ids_at a o) k 0) ks x))) (texts_same o ne here.list)
      ∙ ap (λ q. list_text (put_at (map (text_of g) (ids_at g o)) k (text_along a q ks x))) next_a
      ∙ ap (λ t. list_text (put_at (map (text_of g) (ids_at g o)) k t)) (along_same x (part_apart o p here.list (got_in (ids_at g o) k p is)) rest)
      ∙ ap (λ q. list_text (put_at (map (text_of g) (ids_at g o)) k (text_along g q ks x))) (sym next_g)

-- the end of a way
module _ (g : G) (next : Option Items) (id value high k : ℕ) (places : List ℕ) (can : CanGo g next id value high places) (end : Ending g next value high id k) (low : high ≤ 50) where
  pub can_change : CanChange g id value
  can_change = record {
    list = end.here.list;
    alone = end.here.alone;
    apart = can.apart;
    out = can.out;
    holders = can.holders;
    listed = can.listed;
    valued = can.valued;
    shallow = omega (arith, end.low, low);
    sound = can.sound;
    closed = can.closed;
  }

  pub end_within : (ids : List ℕ) → list_at g id ≡ Some ids → k ≤ length ids
  end_within ids is = omega (arith, end.here.within, ap (λ r. length (unwrap_or r [])) is)

  pub ended : (d : G) → ListChanged g id (text_with g id k value) d → LeavesOthers g id value d → Goes g id value high (text_along g id (k ∷ []) (text_of g value)) d
  ended d changes around = record {
    list = changes.list;
    says = changes.says;
    deep = omega (arith, around.deep, end.here.deep, end.low);
    passes = changes.passes;
    others = λ out h listed valued x i ne.
        let was = h.there x i in
        let is = (changes.passes out h listed).there x i in
        record {
          text = changes.texts x ne was is;
          made = changes.made x ne was is;
          form = around.forms x ne is;
          depth = around.depths x ne is;
          alone = λ nv one. around.alone x ne nv is one;
        };
    sound = changes.sound;
    closed = changes.closed;
  }

pub first_here : {g : G} {next : Option Items} {value high id : ℕ} {ks : List ℕ} → Opens g next value high id ks → IsSome (list_at g id) × (count_in (at g id) ≡ 1)
first_here (ends here low room) = (here.list, here.alone)
first_here (goes here more is rest) = (here.list, here.alone)

pub can_empty : (g : G) (next : Option Items) (id value high : ℕ) (places none : List ℕ) → CanGo g next id value high places → none ≡ [] → CanSwap g id none
can_empty g next id value high places none can empty =
    let first = first_here can.opens in
    record {
      list = first.0;
      alone = first.1;
      out = can.out;
      holders = subst (λ xs. Holders parts_of g (xs ++ can.out)) (sym empty) can.holders;
      listed = can.listed;
      sound = can.sound;
      closed = can.closed;
    }

-- the list is taken out whole
module _ (g : G) (next : Option Items) (id value high k part : ℕ) (ks places : List ℕ) (can : CanGo g next id value high places) (low : high ≤ 50) (w : Going g next value high id k part ks) (none : List ℕ) (empty : none ≡ []) where
  id_in : IsSome (at g id)
  id_in = can.holders.there id can.listed

  free : held parts_of g id ≡ 0
  free = omega (arith, one_holder g can.out id can.holders id_in w.here.alone, can.listed)

  module _ (a : G) (list : Items) (first : Swaps g id none 1 a list.ids) (was : form_in (at g id) ≡ Some (form.List list)) where
    ids_is : ids_at g id ≡ list.ids
    ids_is = ap (λ r. unwrap_or r []) first.was

    pub at_part : slice_get list.ids k ≡ Some part
    at_part = ap (λ xs. slice_get xs k) (sym ids_is) ∙ w.is

    pub within_list : k < length list.ids
    within_list = found_within list.ids k part (sym at_part)

    part_in : 0 < occurs part list.ids
    part_in = got_in list.ids k part at_part

    no_part : (p : ℕ) → 0 < occurs p list.ids → p ≢ id
    no_part p i = part_apart g a id can.sound free first.others first.texts id p w.here.list (subst (λ xs. 0 < occurs p xs) (sym ids_is) i)

    part_ne : part ≢ id
    part_ne = no_part part part_in

    held_a : (out : List ℕ) → Holders parts_of g out → Holders parts_of a (list.ids ++ out)
    held_a out h = first.passes out (subst (λ xs. Holders parts_of g (xs ++ out)) (sym empty) h)

    part_a : IsSome (at a part)
    part_a = (held_a can.out can.holders).there part (omega (arith, part_in, occurs-append part list.ids can.out))

    part_one : (out : List ℕ) → Holders parts_of g out → held parts_of a part + occurs part (list.ids ++ out) ≡ 1
    part_one out h = one_holder a (list.ids ++ out) part (held_a out h) part_a (ap count_in (first.others part part_ne) ∙ (first_here w.rest).1)

    not_out : (out : List ℕ) → Holders parts_of g out → (x : ℕ) → 0 < occurs x out → x ≢ part
    not_out out h x i e = omega (arith, part_one out h, occurs-append part list.ids out, part_in, i, ap (λ y. occurs y out) e)

    in_all : (out : List ℕ) (x : ℕ) → 0 < occurs x out → 0 < occurs x (list.ids ++ out)
    in_all out x i = omega (arith, i, occurs-append x list.ids out)

    part_all : (out : List ℕ) → 0 < occurs part (list.ids ++ out)
    part_all out = omega (arith, part_in, occurs-append part list.ids out)

    pub can_part : CanGo a next part value (high - 1) ks
    can_part = record {
      opens = opens_same g a id can.sound free first.others first.texts can.apart part_ne w.rest;
      apart = not_out can.out can.holders value can.valued;
      out = list.ids ++ can.out;
      holders = held_a can.out can.holders;
      listed = part_all can.out;
      valued = in_all can.out value can.valued;
      sound = first.sound;
      closed = first.closed;
    }

    module _ (b : G) (goes_on : Goes a part value (high - 1) (text_along a part ks (text_of a value)) b) where
      untouched : (out : List ℕ) → Holders parts_of g out → 0 < occurs value out → (x : ℕ) → 0 < occurs x (list.ids ++ out) → x ≢ part → IsUntouched a value b x
      untouched out h valued x i ne = goes_on.others (list.ids ++ out) (held_a out h) (part_all out) (in_all out value valued) x i ne

      parent : IsUntouched a value b id
      parent = untouched can.out can.holders can.valued id (in_all can.out id can.listed) (not_out can.out can.holders id can.listed)

      held_b : (out : List ℕ) → Holders parts_of g out → Holders parts_of b (list.ids ++ out)
      held_b out h = goes_on.passes (list.ids ++ out) (held_a out h) (part_all out)

      list_b : list_at b id ≡ Some none
      list_b = ap list_in parent.form ∙ first.list

      pub can_back : CanSwap b id list.ids
      can_back = record {
        list = ap is_some list_b;
        alone = parent.alone (λ e. can.apart (sym e)) first.alone;
        out = can.out;
        holders = held_b can.out can.holders;
        listed = can.listed;
        sound = goes_on.sound;
        closed = goes_on.closed;
      }

      other_part : (p : ℕ) → 0 < occurs p list.ids → p ≢ part → IsUntouched a value b p
      other_part p i ne = untouched can.out can.holders can.valued p (omega (arith, i, occurs-append p list.ids can.out)) ne

      pub part_b : IsSome (at b part)
      part_b = (held_b can.out can.holders).there part (part_all can.out)

      pub above_back : (depth : ℕ) → depth ≡ max (depth_in (at g id)) (depth_of (at b part) + 1) → IsAbove b list.ids depth
      above_back depth is =
          let own = own_depth g id (form.List list) can.sound was in
          record {
            low = omega (arith, is);
            high = omega (arith, is, own.high, goes_on.deep, low, w.more);
            above = λ p i. elim (cases_eq p part) [
              | inl e ↦ omega (arith, is, ap (λ y. depth_of (at b y)) e)
              | inr ne ↦ omega (arith, is, (other_part p i ne).depth, ap depth_of (first.others p (no_part p i)), own.above p i)
            ];
          }

      module _ (d : G) (depth : ℕ) (is : depth ≡ max (depth_in (at g id)) (depth_of (at b part) + 1)) (left : List ℕ) (second : Swaps b id list.ids depth d left) where
        left_none : left ≡ []
        left_none = let e : Some left ≡ Some none = sym second.was ∙ list_b in let e2 : left ≡ none = cc in e2 ∙ empty

        value_in : IsSome (at g value)
        value_in = can.holders.there value can.valued

        there_g : (p : ℕ) → 0 < occurs p list.ids → IsSome (at g p)
        there_g p i = parts_in g id p list.ids can.sound first.was i

        element_text : (p : ℕ) → 0 < occurs p list.ids → p ≢ part → text_of b p ≡ text_of g p
        element_text p i ne = (other_part p i ne).text ∙ first.texts p (no_part p i) (there_g p i)

        part_text : text_of b part ≡ text_along g part ks (text_of g value)
        part_text =
            goes_on.says ∙ along_same g a id can.sound free first.others first.texts (text_of a value) part_ne w.rest
            ∙ ap (text_along g part ks) (first.texts value can.apart value_in)

        once : occurs part list.ids ≤ 1
        once = omega (arith, part_one can.out can.holders, occurs-append part list.ids can.out)

        all_texts : map (text_of b) list.ids ≡ put_at (map (text_of g) (ids_at g id)) k (text_along g (get_or (ids_at g id) k 0) ks (text_of g value))
        all_texts =
            map_one (text_of b) (text_of g) list.ids k part at_part once element_text
            ∙ sym (put_within (map (text_of g) list.ids) k (text_of b part) (omega (arith, within_list, length-map list.ids (text_of g))))
            ∙ ap (λ xs. put_at (map (text_of g) xs) k (text_of b part)) (sym ids_is)
            ∙ ap (put_at (map (text_of g) (ids_at g id)) k) (part_text ∙ ap (λ q. text_along g q ks (text_of g value)) (sym (got (ids_at g id) k part w.is)))

        pub gone_on : Goes g id value high (text_along g id (k ∷ ks) (text_of g value)) d
        gone_on = record {
          list = ap is_some second.list;
          says = second.says ∙ ap list_text all_texts;
          deep = omega (arith, second.deep, is, w.here.deep, goes_on.deep, w.more);
          passes = λ out h listed. subst (λ xs. Holders parts_of d (xs ++ out)) left_none (second.passes out (held_b out h));
          others = λ out h listed valued x i ne.
              let u = untouched out h valued x (in_all out x i) (not_out out h x i) in
              let there_b = (held_b out h).there x (in_all out x i) in
              record {
                text = second.texts x ne there_b ∙ u.text ∙ first.texts x ne (h.there x i);
                made = ap (λ s. is_some (text_in s)) (second.others x ne) ∙ u.made ∙ ap (λ s. is_some (text_in s)) (first.others x ne);
                form = ap form_in (second.others x ne) ∙ u.form ∙ ap form_in (first.others x ne);
                depth = ap depth_of (second.others x ne) ∙ u.depth ∙ ap depth_of (first.others x ne);
                alone = λ nv one. ap count_in (second.others x ne) ∙ u.alone nv (ap count_in (first.others x ne) ∙ one);
              };
          sound = second.sound;
          closed = second.closed;
        }

-- a place that an index names, whatever the level
place_any : (level n : ℕ) (r : Result ℤ IndexFault) (k : ℕ) → place_or 0 n r ≡ Ok k → place_or level n r ≡ Ok k
place_any level n (Ok (pos m)) k is =
    elim (nat_le m n) as (λ b. (if b then Ok m else Err (PathFlaw.NoPlace 0)) ≡ Ok k → (if b then Ok m else Err (PathFlaw.NoPlace level)) ≡ Ok k) [
      | true ↦ λ e. let same : m ≡ k = cc in ap Ok same
      | false ↦ λ e. absurd (cc)
    ] is
place_any level n (Ok (negsuc m)) k is = absurd (cc)
place_any level n (Err why) k is = absurd (cc)

pub step_known : (level : ℕ) (t i : List ℕ) (ts : List (List ℕ)) (k : ℕ) → elements t ≡ Ok ts → place_or 0 (length ts) (index i (length ts)) ≡ Ok k → step level t i ≡ Ok (ts, k)
step_known level t i ts k read place =
    ap (λ r. and_then (list_or t r) (λ us. and_then (place_or level (length us) (index i (length us))) (λ n. Ok (us, n)))) read
    ∙ ap (λ r. and_then r (λ n. Ok (ts, n))) (place_any level (length ts) (index i (length ts)) k place)

-- the texts on a way
module _ (g : G) (id i k : ℕ) (known : (level : ℕ) → step level (text_of g id) (text_of g i) ≡ Ok (map (text_of g) (ids_at g id), k)) where
  pub one_way : (level : ℕ) (x : List ℕ) → set_path level (text_of g id) (text_of g i ∷ []) x ≡ Ok (text_along g id (k ∷ []) x)
  one_way level x = ap (λ r. and_then r (λ (ts, n). and_then (set_path (level + 1) (get_or ts n []) [] x) (λ y. Ok (list_text (put_at ts n y))))) (known level)

  pub more_way : (part : ℕ) (ks : List ℕ) (path : List (List ℕ)) → slice_get (ids_at g id) k ≡ Some part → ((level : ℕ) (x : List ℕ) → set_path level (text_of g part) path x ≡ Ok (text_along g part ks x)) → (level : ℕ) (x : List ℕ) → set_path level (text_of g id) (text_of g i ∷ path) x ≡ Ok (text_along g id (k ∷ ks) x)
  more_way part ks path is rest level x =
      let ts = map (text_of g) (ids_at g id) in
      let next : get_or ts k [] ≡ text_of g part = get_or-map (text_of g) (ids_at g id) k 0 [] (found_within (ids_at g id) k part (sym is)) ∙ ap (text_of g) (got (ids_at g id) k part is) in
      ap (λ r. and_then r (λ (us, n). and_then (set_path (level + 1) (get_or us n []) path x) (λ y. Ok (list_text (put_at us n y))))) (known level)
      ∙ ap (λ t. and_then (set_path (level + 1) t path x) (λ y. Ok (list_text (put_at ts k y)))) next
      ∙ ap (λ r. and_then r (λ y. Ok (list_text (put_at ts k y)))) (rest (level + 1) x)
      ∙ ap (λ q. Ok (list_text (put_at ts k (text_along g q ks x)))) (sym (got (ids_at g id) k part is))

-- what was found
pub if_found : {T E : Type 0} {P Q : T → Type 0} (r : Result (Option T) E) → ((x : T) → P x → Q x) → IfOk r (λ found. IfSome found P) → IfOk r (λ found. IfSome found Q)
if_found (Ok None) f h = tt
if_found (Ok (Some x)) f h = f x h
if_found (Err e) f h = tt

pub some_is : {T : Type 0} (P : T → Type 0) (o : Option T) (x : T) → o ≡ Some x → IfSome o P → P x
some_is P None x is h = absurd (cc)
some_is P (Some y) x is h = subst P (let e : y ≡ x = cc in e) h

-- the last place of a way, and one before others
module _ (g : G) (value high id i k : ℕ) (indices : List ℕ) (here : IsUnshared g high id k) (known : (level : ℕ) → step level (text_of g id) (text_of g i) ≡ Ok (map (text_of g) (ids_at g id), k)) where
  pub end_way : (d : ℕ) → length indices ≡ 1 → i ≡ get_or indices 0 d → (next : Option Items) (places : List ℕ) → places ≡ k ∷ [] → depth_of (at g value) < high → ((list : Items) → form_in (at g id) ≡ Some (form.List list) → HasRoomAt k next list)
      → Opens g next value high id places × ((level : ℕ) (x : List ℕ) → set_path level (text_of g id) (map (text_of g) indices) x ≡ Ok (text_along g id places x))
  end_way d one is next places places_is low room = (
    subst (Opens g next value high id) (sym places_is) (ends here low room),
    λ level x. subst (λ ks. set_path level (text_of g id) (map (text_of g) indices) x ≡ Ok (text_along g id ks x)) (sym places_is)
        (subst (λ path. set_path level (text_of g id) path x ≡ Ok (text_along g id (k ∷ []) x)) (sym (path_one indices one is)) (one_way g id i k known level x)),
  )
    where
      path_one : (xs : List ℕ) → length xs ≡ 1 → i ≡ get_or xs 0 d → map (text_of g) xs ≡ text_of g i ∷ []
      path_one [] o e = absurd (omega (arith, o))
      path_one (y ∷ []) o e = ap (λ z. text_of g z ∷ []) (sym e)
      path_one (y ∷ z ∷ ys) o e = absurd (omega (arith, o))

  pub next_way : (d : ℕ) → 0 < length indices → i ≡ get_or indices 0 d → 1 < high → (part : ℕ) → ((ids : List ℕ) → list_at g id ≡ Some ids → Some part ≡ slice_get ids k) → (next next2 : Option Items) (ks places : List ℕ) → places ≡ k ∷ ks → next2 ≡ next
      → Opens g next value (high - 1) part ks × ((level : ℕ) (x : List ℕ) → set_path level (text_of g part) (map (text_of g) (take (length indices - 1) (drop 1 indices))) x ≡ Ok (text_along g part ks x))
      → Opens g next2 value high id places × ((level : ℕ) (x : List ℕ) → set_path level (text_of g id) (map (text_of g) indices) x ≡ Ok (text_along g id places x))
  next_way d some is more part found next next2 ks places places_is same rest =
      let at_k : slice_get (ids_at g id) k ≡ Some part = sym (found (ids_at g id) (known_list g id here.list)) in
      let path : map (text_of g) indices ≡ text_of g i ∷ map (text_of g) (take (length indices - 1) (drop 1 indices)) = path_more indices some is in (
        subst (λ n. Opens g n value high id places) (sym same) (subst (Opens g next value high id) (sym places_is) (goes here more at_k rest.0)),
        λ level x. subst (λ ns. set_path level (text_of g id) (map (text_of g) indices) x ≡ Ok (text_along g id ns x)) (sym places_is)
            (subst (λ p. set_path level (text_of g id) p x ≡ Ok (text_along g id (k ∷ ks) x)) (sym path) (more_way g id i k known part ks (map (text_of g) (take (length indices - 1) (drop 1 indices))) at_k rest.1 level x)),
      )
    where
      path_more : (xs : List ℕ) → 0 < length xs → i ≡ get_or xs 0 d → map (text_of g) xs ≡ text_of g i ∷ map (text_of g) (take (length xs - 1) (drop 1 xs))
      path_more [] o e = absurd (omega (arith, o))
      path_more (y ∷ ys) o e = ap (λ z. text_of g z ∷ map (text_of g) ys) (sym e) ∙ ap (λ zs. text_of g i ∷ map (text_of g) zs) (sym (rest_places (y ∷ ys)))
