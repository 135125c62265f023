-- A list object whose list gives way to another one, in place.
use Rattle.std.proofs.Common.{◌≡◌, ◌≢◌, ℕ, ◌+◌, ◌<◌, List, [], ◌++◌, map, Some, None, IsSome, sym, ap, subst, ◌∙◌, arith}
use Rattle.tclv_text.specs.Quotes.{list_text}
use Rattle.tclv_forms.specs.Lists.{Items}
use Rattle.tclv_heap.specs.declared.ids.Object.{Object}
use Rattle.tclv_heap.specs.Graph.{at, occurs, form_in, depth_in, count_in, holds, held, Updates, Takes, Leads}
use Rattle.tclv_heap.specs.Holders.{Holders, Passes}
use Rattle.tclv_heap.specs.Open.{IsClosedBut, IsUntold, IsBelow, SaysSameBelow}
use Rattle.tclv_heap.specs.Stands.{depth_of, FitsDepth, IsSound, IsClosed}
use Rattle.tclv_value.specs.Forms.{form_table, parts_of}
use Rattle.tclv_value.specs.Kept.{list_in, list_at, IsAbove}
use Rattle.tclv_value.specs.Places.{text_of}
use Rattle.tclv_value.specs.Setting.{CanSwap, Swaps}
use Rattle.tclv_value.specs.declared.forms.Form.{Form}
use Rattle.tclv_value.specs.declared.forms.Form.TheVariants as form
use Rattle.tclv_value.proofs.ViewLemmas.{G}
use Rattle.tclv_value.proofs.HolderLemmas.{occurs-append, map_agree, Holders_same}
use Rattle.tclv_value.proofs.GraphLemmas.{by_slot, no_object}
use Rattle.tclv_value.proofs.LeadLemmas.{holds_le_held, leads_to_free}

abbrev bare : Object Form → Object Form
bare n = record n { text = None; form = None; depth = 0 }

module _ (g : G) (id : ℕ) (items : Items) (can : CanSwap g id items.ids) where
  pub id_there : IsSome (at g id)
  id_there = can.holders.there id (omega (arith, occurs-append id items.ids can.out, can.listed))

  with_object : (P : Type 0) → ((n : Object Form) → at g id ≡ Some n → P) → P
  with_object P f = by_slot P (at g id) (λ e. absurd (no_object g id e id_there)) f

  counted : held parts_of g id + occurs id (items.ids ++ can.out) ≡ 1
  counted = with_object _ (λ n e.
      let one : n.count ≡ 1 = sym (ap count_in e) ∙ can.alone in
      sym (can.holders.counted id n e (λ s. omega (arith, one, s))) ∙ one)

  free : held parts_of g id ≡ 0
  free = omega (arith, counted, occurs-append id items.ids can.out, can.listed)

  pub not_in : (p : ℕ) → 0 < occurs p items.ids → p ≢ id
  not_in p i e = omega (arith, counted, occurs-append id items.ids can.out, can.listed, ap (λ x. occurs x items.ids) e)

  pub untold : IsUntold parts_of g id
  untold x ne leads = absurd (ne (leads_to_free g x id free leads))

  -- once the form is out
  module _ (m : G) (f : Form) (taken : (n : Object Form) → at g id ≡ Some n → Updates g m id (Some (bare n))) (passes : Passes parts_of g [] m (parts_of f)) (says : SaysSameBelow form_table id g m) where
    holders_m : Holders parts_of m (parts_of f ++ (items.ids ++ can.out))
    holders_m = passes (items.ids ++ can.out) can.holders

    changed : (n : Object Form) → at g id ≡ Some n → at m id ≡ Some (bare n)
    changed n e = (taken n e).changed

    others_m : (x : ℕ) → x ≢ id → at m x ≡ at g x
    others_m x ne = with_object _ (λ n e. (taken n e).others x ne)

    counted_m : held parts_of m id + occurs id (parts_of f ++ (items.ids ++ can.out)) ≡ 1
    counted_m = with_object _ (λ n e.
        let one : n.count ≡ 1 = sym (ap count_in e) ∙ can.alone in
        sym (holders_m.counted id (bare n) (changed n e) (λ s. omega (arith, one, s))) ∙ one)

    free_m : held parts_of m id ≡ 0
    free_m = omega (arith, counted_m, occurs-append id (parts_of f) (items.ids ++ can.out), occurs-append id items.ids can.out, can.listed)

    pub untold_m : IsUntold parts_of m id
    untold_m x ne leads = absurd (ne (leads_to_free m x id free_m leads))

    pub below_m : (depth : ℕ) → IsBelow parts_of m id depth
    below_m depth x n e h = absurd (omega (arith, h, holds_le_held m x id, ap (holds parts_of id) e, free_m))

    held_m : Holders parts_of m (items.ids ++ (parts_of f ++ can.out))
    held_m = Holders_same parts_of m (parts_of f ++ (items.ids ++ can.out)) (items.ids ++ (parts_of f ++ can.out))
        (λ x. omega (arith, occurs-append x (parts_of f) (items.ids ++ can.out), occurs-append x items.ids can.out, occurs-append x items.ids (parts_of f ++ can.out), occurs-append x (parts_of f) can.out)) holders_m

    pub takes_m : Takes parts_of m items.ids
    takes_m p some = record {
      there = held_m.there p (omega (arith, some, occurs-append p items.ids (parts_of f ++ can.out)));
      outside = λ n is loose. omega (arith, held_m.counted p n is loose, occurs-append p items.ids (parts_of f ++ can.out));
    }

    pub apart_m : (p : ℕ) → 0 < occurs p items.ids → Leads parts_of m p id → ⊥
    apart_m p i leads = not_in p i (leads_to_free m p id free_m leads)

    pub depth_m : (depth : ℕ) → IsAbove g items.ids depth → FitsDepth form_table m (form.List items) depth
    depth_m depth fits = record {
      low = fits.low;
      high = fits.high;
      above = λ p i. subst (λ d. d < depth) (sym (ap depth_of (others_m p (not_in p i)))) (fits.above p i);
    }

    -- once the next form is in
    module _ (h : G) (depth : ℕ) (put : (n : Object Form) → at m id ≡ Some n → Updates m h id (Some (record n { form = Some (form.List items); depth = depth }))) (stands : text_of h id ≡ list_text (map (text_of m) items.ids)) (says2 : SaysSameBelow form_table id m h) (passes2 : Passes parts_of m items.ids h []) (sound : IsSound form_table h) (closed : IsClosedBut m id → IsClosed h) (closed_m : IsClosedBut m id) where
      text_m : (x : ℕ) → x ≢ id → IsSome (at g x) → text_of m x ≡ text_of g x
      text_m x ne there = says x (λ leads. ne (leads_to_free g x id free leads)) there

      new_slot : (n : Object Form) → at g id ≡ Some n → at h id ≡ Some (record (bare n) { form = Some (form.List items); depth = depth })
      new_slot n e = (put (bare n) (changed n e)).changed

      pub swapped : (gone : List ℕ) → list_at g id ≡ Some gone → parts_of f ≡ gone → Swaps g id items.ids depth h gone
      swapped gone list of_f = record {
        was = list;
        list = with_object _ (λ n e. ap (λ s. list_in (form_in s)) (new_slot n e));
        says = stands ∙ ap list_text (map_agree (text_of m) (text_of g) items.ids (λ p i. text_m p (not_in p i) (subst IsSome (others_m p (not_in p i)) (takes_m p i).there)));
        deep = with_object _ (λ n e. ap depth_of (new_slot n e));
        own = with_object _ (λ n e. ap depth_in (new_slot n e));
        alone = with_object _ (λ n e. ap count_in (new_slot n e) ∙ sym (ap count_in e) ∙ can.alone);
        others = λ x ne. with_object _ (λ n e. (put (bare n) (changed n e)).others x ne) ∙ others_m x ne;
        texts = λ x ne there. says2 x (λ leads. ne (leads_to_free m x id free_m leads)) (subst IsSome (sym (others_m x ne)) there) ∙ text_m x ne there;
        passes = λ r before.
            let mid = passes (items.ids ++ r) before in
            let ready = Holders_same parts_of m (parts_of f ++ (items.ids ++ r)) (items.ids ++ (gone ++ r))
            (λ x. omega (arith, occurs-append x (parts_of f) (items.ids ++ r), occurs-append x items.ids r, occurs-append x items.ids (gone ++ r), occurs-append x gone r, ap (occurs x) of_f)) mid in
            passes2 (gone ++ r) ready;
        sound = sound;
        closed = closed closed_m;
      }
