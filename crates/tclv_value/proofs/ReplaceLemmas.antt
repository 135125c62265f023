-- A list object in which elements give way to other values, in place.
use Rattle.std.proofs.Common.{◌≡◌, ◌≢◌, ℕ, ◌+◌, ◌-◌, ◌<◌, ◌≤◌, max, inl, inr, List, [], ◌∷◌, ◌++◌, map, length, take, drop, get_or, Some, IsSome, is_some, refl, sym, ap, subst, ◌∙◌, arith}
use Rattle.std.proofs.lemmas.Bool.{cases_eq, cases_lt}
use Rattle.std.proofs.lemmas.List.{take-append-drop, take_all, drop_all, drop-drop, length-take, append-nil, length-drop, length-take-le, get_or-take, get_or-drop}
use Rattle.tclv_text.specs.Quotes.{list_text}
use Rattle.tclv_forms.specs.Lists.{Items, spliced, between}
use Rattle.tclv_heap.specs.declared.ids.Object.{Object}
use Rattle.tclv_heap.specs.Graph.{at, occurs, text_in, form_in, depth_in, count_in, holds, held, Updates, Takes, HasOutside, Leads}
use Rattle.tclv_heap.specs.Dying.{Releases}
use Rattle.tclv_heap.specs.Holders.{Holders, Passes}
use Rattle.tclv_heap.specs.Open.{IsOpen, IsClosedBut, IsUntold, IsBelow, SaysSameBelow}
use Rattle.tclv_heap.specs.Stands.{Keeps, depth_of, FitsDepth, IsSound, IsClosed}
use Rattle.tclv_value.specs.Forms.{form_table, parts_of}
use Rattle.tclv_value.specs.Kept.{list_in, list_at, IsAbove}
use Rattle.tclv_value.specs.Places.{text_of}
use Rattle.tclv_value.specs.Replacing.{CanReplace, Loses, Replaced}
use Rattle.tclv_value.specs.declared.forms.Form.{Form}
use Rattle.tclv_value.specs.declared.forms.Form.TheVariants as form
use Rattle.tclv_value.proofs.ViewLemmas.{G}
use Rattle.tclv_value.proofs.HolderLemmas.{occurs-append, occurs-cons, same_self, map_agree, Holders_same, Holders_outside}
use Rattle.tclv_value.proofs.KeptLemmas.{Keeps_then, next_first}
use Rattle.tclv_value.proofs.GraphLemmas.{by_slot, no_object}
use Rattle.tclv_value.proofs.LeadLemmas.{holds_le_held, leads_to_free}
use Rattle.tclv_value.proofs.AppendLemmas.{bare, list_of_parts}

-- what stays and what goes, together
pub spliced_moves : (x : ℕ) (ids : List ℕ) (from to : ℕ) (values : List ℕ) → from ≤ to → occurs x (spliced ids from to values) + occurs x (between ids from to) ≡ occurs x ids + occurs x values
spliced_moves x ids from to values order =
    let rest : drop (to - from) (drop from ids) ≡ drop to ids = drop-drop (to - from) from ids ∙ ap (λ k. drop k ids) (omega (arith, order)) in
    omega (
      arith,
      occurs-append x (take from ids ++ values) (drop to ids),
      occurs-append x (take from ids) values,
      ap (occurs x) (take-append-drop from ids),
      occurs-append x (take from ids) (drop from ids),
      ap (occurs x) (take-append-drop (to - from) (drop from ids)),
      occurs-append x (take (to - from) (drop from ids)) (drop (to - from) (drop from ids)),
      ap (occurs x) rest,
    )

-- behind the last element
pub spliced_end : (ids : List ℕ) (from to : ℕ) (values : List ℕ) → length ids ≤ from → from ≤ to → spliced ids from to values ≡ ids ++ values
spliced_end ids from to values past order =
    ap (λ xs. xs ++ values ++ drop to ids) (take_all from ids past) ∙ ap (λ xs. ids ++ values ++ xs) (drop_all to ids (omega (arith, past, order))) ∙ append-nil (ids ++ values)

pub between_end : (ids : List ℕ) (from to : ℕ) → length ids ≤ from → between ids from to ≡ []
between_end ids from to past = ap (take (to - from)) (drop_all from ids past) ∙ take_all (to - from) [] (omega arith)

-- what stays and what goes of a form that is a list
pub exchange_moves : (f : Form) (from to : ℕ) (values next : List ℕ) → IsSome (list_in (Some f)) → from ≤ to → ((ids : List ℕ) → list_in (Some f) ≡ Some ids → next ≡ spliced ids from to values) → (x : ℕ) → occurs x next + occurs x (between (parts_of f) from to) ≡ occurs x (parts_of f) + occurs x values
exchange_moves f from to values next is order list x =
    ap (λ ys. occurs x ys + occurs x (between (parts_of f) from to)) (list (parts_of f) (list_of_parts f is)) ∙ spliced_moves x (parts_of f) from to values order

-- once the next form is in
pub record Changed (old : G) (id : ℕ) (values next gone : List ℕ) (new : G) : Type 0 where
  pub list : list_at new id ≡ Some next
  pub says : text_of new id ≡ list_text (map (text_of old) next)
  pub others : (x : ℕ) → x ≢ id → at new x ≡ at old x
  pub texts : (x : ℕ) → x ≢ id → IsSome (at old x) → text_of new x ≡ text_of old x
  pub passes : Passes form_table.parts old values new gone
  pub sound : IsSound form_table new
  pub closed : IsClosed new

module _ (g : G) (id : ℕ) (values : List ℕ) (can : CanReplace g id values) where
  pub id_there : IsSome (at g id)
  id_there = can.holders.there id (omega (arith, occurs-append id values can.out, can.listed))

  pub value_there : (p : ℕ) → 0 < occurs p values → IsSome (at g p)
  value_there p i = can.holders.there p (omega (arith, occurs-append p values can.out, i))

  with_object : (P : Type 0) → ((n : Object Form) → at g id ≡ Some n → P) → P
  with_object P f = by_slot P (at g id) (λ e. absurd (no_object g id e id_there)) f

  pub counted : held parts_of g id + occurs id (values ++ can.out) ≡ 1
  counted = with_object _ (λ n e.
      let one : n.count ≡ 1 = sym (ap count_in e) ∙ can.alone in
      sym (can.holders.counted id n e (λ s. omega (arith, one, s))) ∙ one)

  pub free : held parts_of g id ≡ 0
  free = omega (arith, counted, occurs-append id values can.out, can.listed)

  pub untold : IsUntold parts_of g id
  untold x ne leads = absurd (ne (leads_to_free g x id free leads))

  -- once the form is out
  module _ (m : G) (f : Form) (is_f : form_in (at g id) ≡ Some f) (taken : (n : Object Form) → at g id ≡ Some n → Updates g m id (Some (bare n))) (passes : Passes parts_of g [] m (parts_of f)) (says : SaysSameBelow form_table id g m) where
    holders_m : Holders parts_of m (parts_of f ++ (values ++ can.out))
    holders_m = passes (values ++ can.out) can.holders

    pub changed : (n : Object Form) → at g id ≡ Some n → at m id ≡ Some (bare n)
    changed n e = (taken n e).changed

    pub others_m : (x : ℕ) → x ≢ id → at m x ≡ at g x
    others_m x ne = with_object _ (λ n e. (taken n e).others x ne)

    pub opened : IsOpen (at m id)
    opened = with_object _ (λ n e. subst IsOpen (sym (changed n e)) (refl, refl))

    counted_m : held parts_of m id + occurs id (parts_of f ++ (values ++ can.out)) ≡ 1
    counted_m = with_object _ (λ n e.
        let one : n.count ≡ 1 = sym (ap count_in e) ∙ can.alone in
        sym (holders_m.counted id (bare n) (changed n e) (λ s. omega (arith, one, s))) ∙ one)

    free_m : held parts_of m id ≡ 0
    free_m = omega (arith, counted_m, occurs-append id (parts_of f) (values ++ can.out), occurs-append id values can.out, can.listed)

    pub untold_m : IsUntold parts_of m id
    untold_m x ne leads = absurd (ne (leads_to_free m x id free_m leads))

    pub below_m : (depth : ℕ) → IsBelow parts_of m id depth
    below_m depth x n e h = absurd (omega (arith, h, holds_le_held m x id, ap (holds parts_of id) e, free_m))

    -- the next list, and what goes
    module _ (items : Items) (gone : List ℕ) (moves : (x : ℕ) → occurs x items.ids + occurs x gone ≡ occurs x (parts_of f) + occurs x values) where
      listed_other : (p : ℕ) → 0 < occurs p items.ids → p ≢ id
      listed_other p i e =
          let here : 0 < occurs id items.ids = subst (λ x. 0 < occurs x items.ids) e i in
          omega (arith, here, moves id, counted_m, occurs-append id (parts_of f) (values ++ can.out), occurs-append id values can.out, can.listed)

      held_m : Holders parts_of m (items.ids ++ (gone ++ can.out))
      held_m = Holders_same parts_of m (parts_of f ++ (values ++ can.out)) (items.ids ++ (gone ++ can.out))
          (λ x. omega (arith, moves x, occurs-append x (parts_of f) (values ++ can.out), occurs-append x values can.out, occurs-append x items.ids (gone ++ can.out), occurs-append x gone can.out)) holders_m

      pub takes_m : Takes parts_of m items.ids
      takes_m p some = record {
        there = held_m.there p (omega (arith, some, occurs-append p items.ids (gone ++ can.out)));
        outside = λ n is loose. omega (arith, held_m.counted p n is loose, occurs-append p items.ids (gone ++ can.out));
      }

      pub apart_m : (p : ℕ) → 0 < occurs p items.ids → Leads parts_of m p id → ⊥
      apart_m p i leads = listed_other p i (leads_to_free m p id free_m leads)

      pub depth_m : FitsDepth form_table g f (depth_in (at g id)) → (above : ℕ) → IsAbove g values above → FitsDepth form_table m (form.List items) (max (depth_in (at g id)) above)
      depth_m own above is = record {
        low = omega (arith, own.low);
        high = omega (arith, own.high, is.high);
        above = λ p i.
            let same = ap depth_of (others_m p (listed_other p i)) in
            elim (cases_lt 0 (occurs p (parts_of f))) [
              | inl some ↦ omega (arith, same, own.above p some)
              | inr none ↦ omega (arith, same, is.above p (omega (arith, i, none, moves p)))
            ];
      }

      -- once the next form is in
      module _ (h : G) (depth : ℕ) (put : (n : Object Form) → at m id ≡ Some n → Updates m h id (Some (record n { form = Some (form.List items); depth = depth }))) (stands : text_of h id ≡ list_text (map (text_of m) items.ids)) (says2 : SaysSameBelow form_table id m h) (passes2 : Passes parts_of m items.ids h []) (sound : IsSound form_table h) (closed : IsClosedBut m id → IsClosed h) (closed_m : IsClosedBut m id) where
        text_m : (x : ℕ) → x ≢ id → IsSome (at g x) → text_of m x ≡ text_of g x
        text_m x ne there = says x (λ leads. ne (leads_to_free g x id free leads)) there

        pub changed_list : Changed g id values items.ids gone h
        changed_list = record {
          list = with_object _ (λ n e. ap (λ s. list_in (form_in s)) (put (bare n) (changed n e)).changed);
          says = stands ∙ ap list_text (map_agree (text_of m) (text_of g) items.ids (λ p i. text_m p (listed_other p i) (subst IsSome (others_m p (listed_other p i)) (takes_m p i).there)));
          others = λ x ne. with_object _ (λ n e. (put (bare n) (changed n e)).others x ne) ∙ others_m x ne;
          texts = λ x ne there. says2 x (λ leads. ne (leads_to_free m x id free_m leads)) (subst IsSome (sym (others_m x ne)) there) ∙ text_m x ne there;
          passes = λ r before.
              let mid = passes (values ++ r) before in
              passes2 (gone ++ r) (Holders_same parts_of m (parts_of f ++ (values ++ r)) (items.ids ++ (gone ++ r)) (λ x. omega (arith, moves x, occurs-append x (parts_of f) (values ++ r), occurs-append x values r, occurs-append x items.ids (gone ++ r), occurs-append x gone r)) mid);
          sound = sound;
          closed = closed closed_m;
        }

        pub gone_held : (gone2 : List ℕ) → gone2 ≡ gone → Holders form_table.parts h (gone2 ++ can.out)
        gone_held gone2 same = subst (λ xs. Holders form_table.parts h (xs ++ can.out)) (sym same) (changed_list.passes can.out can.holders)

  -- once what goes is gone
  module _ (h : G) (from to : ℕ) (elements : List ℕ) (was : list_at g id ≡ Some elements) (changed : Changed g id values (spliced elements from to values) (between elements from to) h) (k : G) (lost : Loses h (between elements from to) k) where
    id_k : IsSome (at k id)
    id_k = (lost.passes can.out (changed.passes can.out can.holders)).there id can.listed

    id_h : IsSome (at h id)
    id_h = lost.there id id_k

    was_there : (x : ℕ) → IsSome (at k x) → x ≢ id → IsSome (at g x)
    was_there x is ne = subst IsSome (changed.others x ne) (lost.there x is)

    pub replaced : Replaced g id from to values k
    replaced = record {
      elements = elements;
      was = was;
      list = ap list_in (lost.form id id_k) ∙ changed.list;
      says = lost.keeps.says id id_h id_k ∙ changed.says;
      there = λ x is. elim (cases_eq x id) [
        | inl e ↦ subst (λ y. IsSome (at g y)) (sym e) id_there
        | inr ne ↦ was_there x is ne
      ];
      texts = λ x ne is. lost.keeps.says x (lost.there x is) is ∙ changed.texts x ne (was_there x is ne);
      made = λ x ne is. ap is_some (lost.text x is) ∙ ap (λ s. is_some (text_in s)) (changed.others x ne);
      passes = λ r before. lost.passes r (changed.passes r before);
      sound = lost.keeps.sound;
      closed = lost.keeps.closed changed.closed;
    }

-- nothing goes
pub Loses_none : (g : G) → IsSound form_table g → Loses g [] g
Loses_none g sound = record {
  passes = λ ids h. h;
  keeps = record { sound = sound; says = λ o was is. refl; closed = λ closed. closed };
  there = λ o is. is;
  text = λ o is. refl;
  form = λ o is. refl;
}

-- one more goes
pub Loses_more : (a b c : G) (ids more : List ℕ) (p : ℕ) → more ≡ ids ++ p ∷ [] → Loses a ids b → Releases form_table.parts b (p ∷ []) c → Passes form_table.parts b (p ∷ []) c [] → Keeps form_table b c → Loses a more c
Loses_more a b c ids more p grows first released passes keeps = record {
  passes = λ r holders. passes r (first.passes (p ∷ r) (Holders_same form_table.parts a (more ++ r) (ids ++ p ∷ r) (next_first ids r more p grows) holders));
  keeps = Keeps_then a b c (λ o was is. there o is) first.keeps keeps;
  there = λ o is. first.there o (there o is);
  text = λ o is. same o is ∙ first.text o (there o is);
  form = λ o is. same_form o is ∙ first.form o (there o is);
}
  where
    there : (o : ℕ) → IsSome (at c o) → IsSome (at b o)
    there o is = by_slot _ (at c o) (λ e. absurd (no_object c o e is)) (λ n e. ap is_some (released.kept o n e).1)

    same : (o : ℕ) → IsSome (at c o) → text_in (at c o) ≡ text_in (at b o)
    same o is = by_slot _ (at c o) (λ e. absurd (no_object c o e is)) (λ n e. let k = released.kept o n e in ap text_in e ∙ k.2.text ∙ sym (ap text_in k.1))

    same_form : (o : ℕ) → IsSome (at c o) → form_in (at c o) ≡ form_in (at b o)
    same_form o is = by_slot _ (at c o) (λ e. absurd (no_object c o e is)) (λ n e. let k = released.kept o n e in ap form_in e ∙ k.2.form ∙ sym (ap form_in k.1))

-- the next one may be released
pub next_to_go : (a b : G) (ids r done rest : List ℕ) (p : ℕ) → ids ≡ done ++ p ∷ rest → Holders form_table.parts a (ids ++ r) → Loses a done b → HasOutside form_table.parts b p 1
next_to_go a b ids r done rest p splits holders lost =
    let here : Holders form_table.parts b (p ∷ (rest ++ r)) =
    lost.passes (p ∷ (rest ++ r)) (Holders_same form_table.parts a (ids ++ r) (done ++ p ∷ (rest ++ r))
    (λ x. omega (arith, ap (λ ys. occurs x (ys ++ r)) splits, occurs-append x (done ++ p ∷ rest) r, occurs-append x done (p ∷ rest), occurs-cons x p rest, occurs-append x done (p ∷ (rest ++ r)), occurs-cons x p (rest ++ r), occurs-append x rest r)) holders) in
    Holders_outside form_table.parts b (p ∷ (rest ++ r)) p here (omega (arith, occurs-cons p p (rest ++ r), same_self p))

-- an element between two places
pub between_at : (ids : List ℕ) (from to k : ℕ) → k < to - from → to ≤ length ids → (k < length (between ids from to)) × (get_or (between ids from to) k 0 ≡ get_or ids (from + k) 0)
between_at ids from to k within inside = (
  omega (arith, within, inside, length-take-le (to - from) (drop from ids) (omega (arith, length-drop from ids, inside)), length-drop from ids),
  get_or-take (to - from) (drop from ids) k 0 within ∙ get_or-drop from ids k 0 ∙ ap (λ j. get_or ids j 0) (omega arith),
)

pub between_all : (ids : List ℕ) (from to k : ℕ) → to - from ≤ k → take k (between ids from to) ≡ between ids from to
between_all ids from to k past = take_all k (between ids from to) (omega (arith, past, length-take (to - from) (drop from ids)))
