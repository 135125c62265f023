-- A list object that gets one more element in place.
use Rattle.std.proofs.Common.{◌≡◌, ◌≢◌, ℕ, ◌+◌, ◌<◌, max, inl, inr, List, [], ◌∷◌, ◌++◌, map, Some, None, IsSome, refl, sym, ap, subst, ◌∙◌, arith}
use Rattle.std.proofs.lemmas.Bool.{cases_eq, cases_lt}
use Rattle.tclv_text.specs.Quotes.{list_text}
use Rattle.tclv_forms.specs.Lists.{Items}
use Rattle.tclv_heap.specs.declared.ids.Object.{Object}
use Rattle.tclv_heap.specs.Graph.{at, occurs, same, form_in, depth_in, count_in, holds, held, Updates, Takes, Leads}
use Rattle.tclv_heap.specs.Holders.{Holders, Passes}
use Rattle.tclv_heap.specs.Open.{IsOpen, IsClosedBut, IsUntold, IsBelow, SaysSameBelow}
use Rattle.tclv_heap.specs.Stands.{depth_of, FitsDepth, IsSound, IsClosed}
use Rattle.tclv_value.specs.Appending.{CanAppend, Appended}
use Rattle.tclv_value.specs.Forms.{form_table, parts_of}
use Rattle.tclv_value.specs.Kept.{list_in, list_at}
use Rattle.tclv_value.specs.Places.{text_of}
use Rattle.tclv_value.specs.declared.forms.Form.{Form}
use Rattle.tclv_value.specs.declared.forms.Form.TheVariants as form
use Rattle.tclv_value.proofs.ViewLemmas.{G}
use Rattle.tclv_value.proofs.HolderLemmas.{occurs-append, occurs-cons, same_self, map_agree, Holders_same}
use Rattle.tclv_value.proofs.GraphLemmas.{by_slot, no_object}
use Rattle.tclv_value.proofs.LeadLemmas.{holds_le_held, leads_to_free}

abbrev pub bare : Object Form → Object Form
bare n = record n { text = None; form = None; depth = 0 }

-- the parts of a list form
pub list_parts : (f : Form) (ids : List ℕ) → list_in (Some f) ≡ Some ids → parts_of f ≡ ids
list_parts (form.Whole n) ids is = absurd (cc)
list_parts (form.List items) ids is = cc

pub list_of_parts : (f : Form) → IsSome (list_in (Some f)) → list_in (Some f) ≡ Some (parts_of f)
list_of_parts (form.Whole n) is = absurd (cc)
list_of_parts (form.List items) is = refl

-- a form's depth, as soundness has it
pub own_depth : (g : G) (id : ℕ) (f : Form) → IsSound form_table g → form_in (at g id) ≡ Some f → FitsDepth form_table g f (depth_in (at g id))
own_depth g id f sound is = by_slot _ (at g id) (λ e. absurd (let e2 : None ≡ Some f = sym (ap form_in e) ∙ is in cc)) (λ n e.
    let form_n : n.form ≡ Some f = sym (ap form_in e) ∙ is in
    let range = sound.spoken.shallow id n f e form_n in
    record {
      low = omega (arith, range.0, ap depth_in e);
      high = omega (arith, range.1, ap depth_in e);
      above = λ p i. omega (arith, sound.spoken.above id n f p e form_n i, ap depth_in e);
    })

module _ (g : G) (id value : ℕ) (can : CanAppend g id value) where
  pub id_there : IsSome (at g id)
  id_there = can.holders.there id (omega (arith, occurs-cons id value can.out, can.listed))

  pub value_there : IsSome (at g value)
  value_there = can.holders.there value (omega (arith, occurs-cons value value can.out, same_self value))

  with_object : (P : Type 0) → ((n : Object Form) → at g id ≡ Some n → P) → P
  with_object P f = by_slot P (at g id) (λ e. absurd (no_object g id e id_there)) f

  pub counted : held parts_of g id + occurs id (value ∷ can.out) ≡ 1
  counted = with_object _ (λ n e.
      let one : n.count ≡ 1 = sym (ap count_in e) ∙ can.alone in
      sym (can.holders.counted id n e (λ s. omega (arith, one, s))) ∙ one)

  pub free : held parts_of g id ≡ 0
  free = omega (arith, counted, occurs-cons id value can.out, can.listed)

  pub other : value ≢ id
  other e = omega (arith, counted, occurs-cons id value can.out, can.listed, ap (same id) e, same_self id)

  pub untold : IsUntold parts_of g id
  untold x ne leads = absurd (ne (leads_to_free g x id free leads))

  -- once the form is out
  module _ (m : G) (f : Form) (is_f : form_in (at g id) ≡ Some f) (taken : (n : Object Form) → at g id ≡ Some n → Updates g m id (Some (bare n))) (passes : Passes parts_of g [] m (parts_of f)) (says : SaysSameBelow form_table id g m) where
    holders_m : Holders parts_of m (parts_of f ++ (value ∷ can.out))
    holders_m = passes (value ∷ can.out) can.holders

    pub changed : (n : Object Form) → at g id ≡ Some n → at m id ≡ Some (bare n)
    changed n e = (taken n e).changed

    pub others_m : (x : ℕ) → x ≢ id → at m x ≡ at g x
    others_m x ne = with_object _ (λ n e. (taken n e).others x ne)

    pub opened : IsOpen (at m id)
    opened = with_object _ (λ n e. subst IsOpen (sym (changed n e)) (refl, refl))

    counted_m : held parts_of m id + occurs id (parts_of f ++ (value ∷ can.out)) ≡ 1
    counted_m = with_object _ (λ n e.
        let one : n.count ≡ 1 = sym (ap count_in e) ∙ can.alone in
        sym (holders_m.counted id (bare n) (changed n e) (λ s. omega (arith, one, s))) ∙ one)

    free_m : held parts_of m id ≡ 0
    free_m = omega (arith, counted_m, occurs-append id (parts_of f) (value ∷ can.out), occurs-cons id value can.out, can.listed)

    no_part : (p : ℕ) → 0 < occurs p (parts_of f) → p ≢ id
    no_part p i e = omega (arith, counted_m, occurs-append id (parts_of f) (value ∷ can.out), occurs-cons id value can.out, can.listed, ap (λ x. occurs x (parts_of f)) e)

    pub untold_m : IsUntold parts_of m id
    untold_m x ne leads = absurd (ne (leads_to_free m x id free_m leads))

    pub below_m : (depth : ℕ) → IsBelow parts_of m id depth
    below_m depth x n e h = absurd (omega (arith, h, holds_le_held m x id, ap (holds parts_of id) e, free_m))

    -- the next list
    module _ (items : Items) (grows : items.ids ≡ parts_of f ++ value ∷ []) where
      in_list : (p : ℕ) → occurs p items.ids ≡ occurs p (parts_of f) + occurs p (value ∷ [])
      in_list p = ap (occurs p) grows ∙ occurs-append p (parts_of f) (value ∷ [])

      listed_other : (p : ℕ) → 0 < occurs p items.ids → p ≢ id
      listed_other p i = elim (cases_lt 0 (occurs p (parts_of f))) [
        | inl some ↦ no_part p some
        | inr none ↦ elim (cases_eq p value) [
          | inl e ↦ λ same. other (sym e ∙ same)
          | inr ne ↦ absurd (omega (arith, i, none, in_list p, occurs-cons p value [], same_no p value ne))
        ]
      ]
        where
          same_no : (x y : ℕ) → x ≢ y → occurs x (y ∷ []) ≡ 0
          same_no x y ne = grind arith

      held_m : Holders parts_of m (items.ids ++ can.out)
      held_m = Holders_same parts_of m (parts_of f ++ (value ∷ can.out)) (items.ids ++ can.out)
          (λ x. omega (arith, in_list x, occurs-append x (parts_of f) (value ∷ can.out), occurs-append x items.ids can.out, occurs-cons x value can.out, occurs-cons x value [])) holders_m

      pub takes_m : Takes parts_of m items.ids
      takes_m p some = record {
        there = held_m.there p (omega (arith, some, occurs-append p items.ids can.out));
        outside = λ n is loose. omega (arith, held_m.counted p n is loose, occurs-append p items.ids can.out);
      }

      pub apart_m : (p : ℕ) → 0 < occurs p items.ids → Leads parts_of m p id → ⊥
      apart_m p i leads = listed_other p i (leads_to_free m p id free_m leads)

      pub depth_m : (own : FitsDepth form_table g f (depth_in (at g id))) → FitsDepth form_table m (form.List items) (max (depth_in (at g id)) (depth_of (at g value) + 1))
      depth_m own = record {
        low = omega (arith, own.low);
        high = omega (arith, own.high, can.shallow);
        above = λ p i.
            let same = ap depth_of (others_m p (listed_other p i)) in
            elim (cases_lt 0 (occurs p (parts_of f))) [
              | inl some ↦ omega (arith, same, own.above p some)
              | inr none ↦ elim (cases_eq p value) [
                | inl e ↦ omega (arith, same, ap (λ x. depth_of (at g x)) e)
                | inr ne ↦ absurd (omega (arith, i, none, in_list p, occurs-cons p value [], same_no2 p value ne))
              ]
            ];
      }
        where
          same_no2 : (x y : ℕ) → x ≢ y → occurs x (y ∷ []) ≡ 0
          same_no2 x y ne = grind arith

      -- once the next form is in
      module _ (h : G) (depth : ℕ) (put : (n : Object Form) → at m id ≡ Some n → Updates m h id (Some (record n { form = Some (form.List items); depth = depth }))) (stands : text_of h id ≡ list_text (map (text_of m) items.ids)) (says2 : SaysSameBelow form_table id m h) (passes2 : Passes parts_of m items.ids h []) (sound : IsSound form_table h) (closed : IsClosedBut m id → IsClosed h) (closed_m : IsClosedBut m id) where
        text_m : (x : ℕ) → x ≢ id → IsSome (at g x) → text_of m x ≡ text_of g x
        text_m x ne there = says x (λ leads. ne (leads_to_free g x id free leads)) there

        pub appended : (ids : List ℕ) → list_at g id ≡ Some ids → Appended g id value h
        appended ids list =
            let of_f : parts_of f ≡ ids = list_parts f ids (sym (ap list_in is_f) ∙ list) in
            let all : items.ids ≡ ids ++ value ∷ [] = grows ∙ ap (λ xs. xs ++ value ∷ []) of_f in
            record {
              elements = ids;
              was = list;
              list = with_object _ (λ n e. ap (λ s. list_in (form_in s)) (put (bare n) (changed n e)).changed ∙ ap Some all);
              says =
                  stands
                  ∙ ap list_text (map_agree (text_of m) (text_of g) items.ids (λ p i. text_m p (listed_other p i) (subst IsSome (others_m p (listed_other p i)) (takes_m p i).there)))
                  ∙ ap (λ xs. list_text (map (text_of g) xs)) all;
              others = λ x ne. with_object _ (λ n e. (put (bare n) (changed n e)).others x ne) ∙ others_m x ne;
              texts = λ x ne there. says2 x (λ leads. ne (leads_to_free m x id free_m leads)) (subst IsSome (sym (others_m x ne)) there) ∙ text_m x ne there;
              passes = λ r before.
                  let mid = passes (value ∷ r) before in
                  passes2 r (Holders_same parts_of m (parts_of f ++ (value ∷ r)) (items.ids ++ r) (λ x. omega (arith, in_list x, occurs-append x (parts_of f) (value ∷ r), occurs-append x items.ids r, occurs-cons x value r, occurs-cons x value [])) mid);
              sound = sound;
              closed = closed closed_m;
            }
