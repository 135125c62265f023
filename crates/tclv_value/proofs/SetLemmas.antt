-- A list object where one element is set: the old list is taken out, changed, and put back.
use Rattle.std.proofs.Common.{◌≡◌, ℕ, zero, suc, ◌+◌, ◌<◌, ◌≤◌, max, inl, inr, List, [], ◌∷◌, ◌++◌, map, length, take, drop, get_or, set, cond, eqb, Some, IsSome, is_some, refl, sym, ap, subst, ◌∙◌, arith}
use Rattle.std.specs.Prelude.{slice_get}
use Rattle.std.specs.Option.{option_to_list}
use Rattle.std.proofs.lemmas.Bool.{cases_eq, cases_lt}
use Rattle.std.proofs.lemmas.List.{set_split, take_all, map-append, take-map, drop-map}
use Rattle.std.proofs.lemmas.List.Sums.{sum_by-set}
use Rattle.std.proofs.lemmas.Option.{slice_get-get_or, slice_get_past}
use Rattle.tclv_text.specs.Quotes.{list_text}
use Rattle.tclv_forms.specs.Lists.{Items}
use Rattle.tclv_heap.specs.Graph.{at, occurs, same, form_in, depth_in}
use Rattle.tclv_heap.specs.Holders.{Holders}
use Rattle.tclv_heap.specs.Stands.{depth_of}
use Rattle.tclv_value.specs.Appending.{CanAppend}
use Rattle.tclv_value.specs.Forms.{form_table}
use Rattle.tclv_value.specs.Kept.{IsAbove}
use Rattle.tclv_value.specs.Paths.{put_at}
use Rattle.tclv_value.specs.Places.{text_of}
use Rattle.tclv_value.specs.Setting.{CanSwap, Swaps, SetsElement}
use Rattle.tclv_value.specs.declared.forms.Form.TheVariants as form
use Rattle.tclv_value.proofs.AppendLemmas.{own_depth}
use Rattle.tclv_value.proofs.HolderLemmas.{occurs-append, occurs-cons, same_other, map_agree, Holders_same}
use Rattle.tclv_value.proofs.SwapLemmas.{not_in}
use Rattle.tclv_value.proofs.ViewLemmas.{G}

drop_none : {X : Type 0} (n : ℕ) (xs : List X) → length xs ≤ n → drop n xs ≡ []
drop_none zero [] h = refl
drop_none zero (x ∷ xs) h = absurd (omega arith)
drop_none (suc n) [] h = refl
drop_none (suc n) (x ∷ xs) h = drop_none n xs (omega arith)

-- the list with a value at a place
pub put_within : {X : Type 0} (xs : List X) (k : ℕ) (x : X) → k < length xs → put_at xs k x ≡ set xs k x
put_within xs k x within =
    let next : k + 1 ≡ suc k = omega arith in
    ap (λ n. take k xs ++ x ∷ drop n xs) next ∙ sym (set_split xs k x within)

pub put_past : {X : Type 0} (xs : List X) (k : ℕ) (x : X) → length xs ≤ k → put_at xs k x ≡ xs ++ x ∷ []
put_past xs k x past = ap (λ ys. ys ++ x ∷ drop (k + 1) xs) (take_all k xs past) ∙ ap (λ ys. xs ++ x ∷ ys) (drop_none (k + 1) xs (omega arith))

pub map_put : {X Y : Type 0} (f : X → Y) (xs : List X) (k : ℕ) (x : X) → map f (put_at xs k x) ≡ put_at (map f xs) k (f x)
map_put f xs k x = map-append f (take k xs) (x ∷ drop (k + 1) xs) ∙ ap (λ ys. ys ++ f x ∷ map f (drop (k + 1) xs)) (sym (take-map f k xs)) ∙ ap (λ ys. take k (map f xs) ++ f x ∷ ys) (sym (drop-map f (k + 1) xs))

pub put_count : (o : ℕ) (xs : List ℕ) (k x : ℕ) → occurs o (put_at xs k x) + occurs o (option_to_list (slice_get xs k)) ≡ occurs o xs + same o x
put_count o xs k x = elim (cases_lt k (length xs)) [
  | inl within ↦
      omega (
        arith,
        ap (occurs o) (put_within xs k x within),
        ap (λ r. occurs o (option_to_list r)) (slice_get-get_or xs k 0 within),
        occurs-cons o (get_or xs k 0) [],
        sum_by-set (λ y. cond (eqb o y) 1 0) xs k x 0 within,
      )
  | inr past ↦
      omega (
        arith,
        ap (occurs o) (put_past xs k x past),
        ap (λ r. occurs o (option_to_list r)) (slice_get_past xs k past),
        occurs-append o xs (x ∷ []),
        occurs-cons o x [],
      )
]

-- the object may be emptied
pub can_empty : (g : G) (id value : ℕ) (ids : List ℕ) → CanAppend g id value → ids ≡ [] → CanSwap g id ids
can_empty g id value ids can none = record {
  list = can.list;
  alone = can.alone;
  out = value ∷ can.out;
  holders = subst (λ xs. Holders form_table.parts g (xs ++ (value ∷ can.out))) (sym none) can.holders;
  listed = omega (arith, occurs-cons id value can.out, can.listed);
  sound = can.sound;
  closed = can.closed;
}

pub above_none : (g : G) (ids : List ℕ) → ids ≡ [] → IsAbove g ids 1
above_none g ids none = record { low = omega arith; high = omega arith; above = λ p i. absurd (omega (arith, i, ap (occurs p) none)) }

module _ (g m : G) (id place value : ℕ) (can : CanAppend g id value) (none : List ℕ) (empty : none ≡ []) (old : Items) (first : Swaps g id none 1 m old.ids) (items : Items) (put : items.ids ≡ put_at old.ids place value) where
  in_new : (x : ℕ) → occurs x items.ids + occurs x (option_to_list (slice_get old.ids place)) ≡ occurs x old.ids + same x value
  in_new x = ap (λ ys. occurs x ys + occurs x (option_to_list (slice_get old.ids place))) put ∙ put_count x old.ids place value

  held_then : (r : List ℕ) → Holders form_table.parts g (value ∷ r) → Holders form_table.parts m (items.ids ++ (option_to_list (slice_get old.ids place) ++ r))
  held_then r before =
      Holders_same form_table.parts m (old.ids ++ (value ∷ r)) (items.ids ++ (option_to_list (slice_get old.ids place) ++ r))
      (λ x. omega (arith, in_new x, occurs-append x old.ids (value ∷ r), occurs-cons x value r, occurs-append x items.ids (option_to_list (slice_get old.ids place) ++ r), occurs-append x (option_to_list (slice_get old.ids place)) r))
      (first.passes (value ∷ r) (subst (λ xs. Holders form_table.parts g (xs ++ (value ∷ r))) (sym empty) before))

  pub can_then : CanSwap m id items.ids
  can_then = record {
    list = ap is_some first.list;
    alone = first.alone;
    out = option_to_list (slice_get old.ids place) ++ can.out;
    holders = held_then can.out can.holders;
    listed = omega (arith, occurs-append id (option_to_list (slice_get old.ids place)) can.out, can.listed);
    sound = first.sound;
    closed = first.closed;
  }

  pub above_then : form_in (at g id) ≡ Some (form.List old) → IsAbove m items.ids (max (depth_in (at g id)) (depth_of (at g value) + 1))
  above_then is =
      let own = own_depth g id (form.List old) can.sound is in
      record {
        low = omega (arith, own.low);
        high = omega (arith, own.high, can.shallow);
        above = λ p i.
            let slot = ap depth_of (first.others p (not_in m id items can_then p i)) in
            elim (cases_lt 0 (occurs p old.ids)) [
              | inl some ↦ omega (arith, slot, own.above p some)
              | inr few ↦ elim (cases_eq p value) [
                | inl e ↦ omega (arith, slot, ap (λ x. depth_of (at g x)) e)
                | inr ne ↦ absurd (omega (arith, i, few, in_new p, same_other p value ne))
              ]
            ];
      }

  pub set_done : (h : G) (depth : ℕ) (left : List ℕ) → Swaps m id items.ids depth h left → SetsElement g id place value h (slice_get old.ids place)
  set_done h depth left second =
      let rest : left ≡ [] = (let e : Some left ≡ Some none = sym second.was ∙ first.list in let e2 : left ≡ none = cc in e2 ∙ empty) in
      record {
        elements = old.ids;
        was = first.was;
        leaves = refl;
        list = second.list ∙ ap Some put;
        says =
            second.says
            ∙ ap list_text (map_agree (text_of m) (text_of g) items.ids (λ p i. let ne = not_in m id items can_then p i in first.texts p ne (subst IsSome (first.others p ne) (can_then.holders.there p (omega (arith, i, occurs-append p items.ids can_then.out))))))
            ∙ ap (λ xs. list_text (map (text_of g) xs)) put ∙ ap list_text (map_put (text_of g) old.ids place value);
        alone = second.alone;
        others = λ x ne. second.others x ne ∙ first.others x ne;
        texts = λ x ne there. second.texts x ne (subst IsSome (sym (first.others x ne)) there) ∙ first.texts x ne there;
        passes = λ r before.
            subst (λ xs. Holders form_table.parts h (xs ++ (option_to_list (slice_get old.ids place) ++ r))) rest (second.passes (option_to_list (slice_get old.ids place) ++ r) (held_then r before));
        sound = second.sound;
        closed = second.closed;
      }
