-- The top of the stack becomes a list of its objects.
use Rattle.std.proofs.Common.{◌≡◌, ℕ, suc, ◌+◌, ◌-◌, ◌<◌, ◌≤◌, inl, inr, List, [], ◌∷◌, ◌++◌, map, length, get_or, take, drop, IsSome, refl, sym, ap, subst, ◌∙◌, arith}
use Rattle.std.specs.Prelude.{IsTrue}
use Rattle.std.specs.Map.{values_of}
use Rattle.std.proofs.Math.ListN.{get_or-append}
use Rattle.std.proofs.lemmas.Bool.{cases_eq}
use Rattle.std.proofs.lemmas.List.{get_or_push, length-drop, get_or-drop, take_all, map_push, length_push, length-take-le, take-map, drop-map, get_or-take, take-append-drop}
use Rattle.tclv_text.specs.declared.counters.Stats.{Stats}
use Rattle.tclv_text.specs.Quotes.{list_text}
use Rattle.tclv_heap.specs.declared.ids.Object.{Object}
use Rattle.tclv_heap.specs.Graph.{at, occurs, Adds, Takes}
use Rattle.tclv_heap.specs.Holders.{Holders, Passes}
use Rattle.tclv_heap.specs.Stands.{Keeps, deepest, depth_of}
use Rattle.tclv_value.specs.Changes.{IsUnder, Gathers}
use Rattle.tclv_value.specs.Forms.{form_table}
use Rattle.tclv_value.specs.Places.{text_of, made_of, view_of, places, IsPlaced, HasId, id_at}
use Rattle.tclv_value.specs.Stacks.{top, under}
use Rattle.tclv_value.specs.View.{View, HasPlace, IsMade, id_of}
use Rattle.tclv_value.specs.ListObjects.{IsShallow, depth_at}
use Rattle.tclv_value.specs.declared.forms.Form.{Form}
use Rattle.tclv_value.specs.declared.places.At.{At}
use Rattle.tclv_value.specs.declared.places.At.TheVariants.{Stack, Cell}
use Rattle.tclv_value.proofs.GraphLemmas.{still_adds}
use Rattle.tclv_value.proofs.HolderLemmas.{occurs-append, occurs-cons, same_other, map_agree, Holders_same}
use Rattle.tclv_value.proofs.ViewLemmas.{G, Shift, cells_text, has_id, id_listed, made_is, same_view}

module _ (g : G) {st : Stats} (ids : List ℕ) (es : List (ℕ × ℕ)) (n : ℕ) (v : View) (view : view_of g st ids es ≡ v) (within : n ≤ length v.stack) (placed : IsPlaced g ids es) where
  split : (x : ℕ) → occurs x ids ≡ occurs x (take (length ids - n) ids) + occurs x (drop (length ids - n) ids)
  split x = ap (occurs x) (sym (take-append-drop (length ids - n) ids)) ∙ occurs-append x (take (length ids - n) ids) (drop (length ids - n) ids)

  pub list_there : (p : ℕ) → 0 < occurs p (drop (length ids - n) ids) → IsSome (at g p)
  list_there p i = placed.holders.there p (omega (arith, i, split p, occurs-append p ids (values_of es)))

  held : Holders form_table.parts g (drop (length ids - n) ids ++ (take (length ids - n) ids ++ values_of es))
  held = Holders_same form_table.parts g (places ids es) (drop (length ids - n) ids ++ (take (length ids - n) ids ++ values_of es))
      (λ x. omega (arith, split x, occurs-append x ids (values_of es), occurs-append x (drop (length ids - n) ids) (take (length ids - n) ids ++ values_of es), occurs-append x (take (length ids - n) ids) (values_of es))) placed.holders

  pub list_takes : Takes form_table.parts g (drop (length ids - n) ids)
  list_takes p some = record {
    there = list_there p some;
    outside = λ m is loose. omega (arith, held.counted p m is loose, occurs-append p (drop (length ids - n) ids) (take (length ids - n) ids ++ values_of es));
  }

  module _ (h : G) (id : ℕ) (object : Object Form) (adds : Adds form_table.parts g id object h) (passes : Passes form_table.parts g (drop (length ids - n) ids) h (id ∷ [])) (keeps : Keeps form_table g h) where
    pub list_placed : IsPlaced h (take (length ids - n) ids ++ id ∷ []) es
    list_placed = record {
      sound = keeps.sound;
      closed = keeps.closed placed.closed;
      holders = Holders_same form_table.parts h (id ∷ (take (length ids - n) ids ++ values_of es)) (places (take (length ids - n) ids ++ id ∷ []) es)
          (λ x. omega (arith, occurs-cons x id (take (length ids - n) ids ++ values_of es), occurs-append x (take (length ids - n) ids) (values_of es), occurs-append x (take (length ids - n) ids ++ id ∷ []) (values_of es), occurs-append x (take (length ids - n) ids) (id ∷ []), occurs-cons x id []))
          (passes (take (length ids - n) ids ++ values_of es) held);
    }

    shift : Shift g ids es h (take (length ids - n) ids ++ id ∷ []) es
    shift = record { before = placed; after = list_placed; still = still_adds g h id object adds keeps }

    in_new : (p : ℕ) → 0 < occurs p (take (length ids - n) ids) → 0 < occurs p (places (take (length ids - n) ids ++ id ∷ []) es)
    in_new p i = omega (arith, i, occurs-append p (take (length ids - n) ids ++ id ∷ []) (values_of es), occurs-append p (take (length ids - n) ids) (id ∷ []))

    same_len : length v.stack ≡ length ids
    same_len = same_view g ids es v view

    stack_is : v.stack ≡ map (text_of g) ids
    stack_is = ap (λ (x : View). x.stack) (sym view)

    below : map (text_of h) (take (length ids - n) ids) ≡ under n v.stack
    below =
        map_agree (text_of h) (text_of g) (take (length ids - n) ids) (λ p i. shift.still.says p (placed.holders.there p (omega (arith, i, split p, occurs-append p ids (values_of es)))) (list_placed.holders.there p (in_new p i)))
        ∙ sym (take-map (text_of g) (length ids - n) ids) ∙ ap (take (length ids - n)) (sym stack_is) ∙ ap (λ k. take (k - n) v.stack) (sym same_len)

    top_is : map (text_of g) (drop (length ids - n) ids) ≡ top n v.stack
    top_is = sym (drop-map (text_of g) (length ids - n) ids) ∙ ap (drop (length ids - n)) (sym stack_is) ∙ ap (λ k. drop (k - n) v.stack) (sym same_len)

    under_id : (p : At) → IsUnder v n p → HasId (take (length ids - n) ids ++ id ∷ []) es p × HasId ids es p × (id_at (take (length ids - n) ids ++ id ∷ []) es p ≡ id_at ids es p)
    under_id (Stack i) is =
        let inside : i < length (take (length ids - n) ids) = omega (arith, is, same_len, length-take-le (length ids - n) ids (omega arith)) in (
          omega (arith, inside, length_push (take (length ids - n) ids) id),
          omega (arith, is, same_len),
          get_or-append (take (length ids - n) ids) (id ∷ []) 0 i inside ∙ get_or-take (length ids - n) ids i 0 (omega (arith, is, same_len)),
        )
    under_id (Cell c) is = let there = has_id g st ids es (Cell c) (subst (λ w. HasPlace w (Cell c)) (sym view) is.1) in (there, there, refl)

    pub list_gathers : (st2 : Stats) → text_of h id ≡ list_text (map (text_of g) (drop (length ids - n) ids)) → Gathers v n (list_text (top n v.stack)) (view_of h st2 (take (length ids - n) ids ++ id ∷ []) es)
    list_gathers st2 says = record {
      stack = map_push (text_of h) (take (length ids - n) ids) id ∙ ap (λ xs. xs ++ text_of h id ∷ []) below ∙ ap (λ t. under n v.stack ++ t ∷ []) (says ∙ ap list_text top_is);
      cells = cells_text g ids es h (take (length ids - n) ids ++ id ∷ []) es shift (λ p i. omega (arith, i, occurs-append p ids (values_of es))) ∙ ap (λ (x : View). x.cells) view;
      stays = λ p is made.
          let u = under_id p is in
          let was : IsTrue (made_of g (id_at ids es p)) = sym (made_is g st ids es p u.1) ∙ subst (λ w. IsMade w p) (sym view) made in
          let old_there = placed.holders.there (id_at ids es p) (id_listed ids es p u.1) in
          let new_there = list_placed.holders.there (id_at ids es p) (subst (λ o. 0 < occurs o (places (take (length ids - n) ids ++ id ∷ []) es)) u.2 (id_listed (take (length ids - n) ids ++ id ∷ []) es p u.0)) in
          made_is h st2 (take (length ids - n) ids ++ id ∷ []) es p u.0 ∙ ap (made_of h) u.2 ∙ shift.still.made (id_at ids es p) old_there new_there ∙ was;
    }

-- the slice from a place to the end
pub slice_end : (xs : List ℕ) (k : ℕ) → take (length xs - k) (drop k xs) ≡ drop k xs
slice_end xs k = take_all (length xs - k) (drop k xs) (omega (arith, length-drop k xs))

-- where an object stands in a list
pub occurs_index : (p : ℕ) (ids : List ℕ) → 0 < occurs p ids → (k : ℕ) × (k < length ids) × (get_or ids k 0 ≡ p)
occurs_index p [] i = absurd (omega (arith, i))
occurs_index p (q ∷ ids) i = elim (cases_eq p q) [
  | inl e ↦ (0, omega arith, sym e)
  | inr ne ↦ let rest = occurs_index p ids (omega (arith, i, occurs-cons p q ids, same_other p q ne)) in (suc (rest.0), omega (arith, rest.1), rest.2)
]

-- none of the top n is 50 deep
pub not_shallow : (g : G) {st : Stats} (ids : List ℕ) (es : List (ℕ × ℕ)) (n : ℕ) (v : View) → view_of g st ids es ≡ v → n ≤ length v.stack → (p : ℕ) → 0 < occurs p (drop (length ids - n) ids) → deepest ≤ depth_of (at g p) → IsShallow n v → ⊥
not_shallow g {st} ids es n v view within p i deep shallow =
    let found = occurs_index p (drop (length ids - n) ids) i in
    let k : ℕ = found.0 in
    let len : length v.stack ≡ length ids = same_view g ids es v view in
    let inside : k < n = omega (arith, found.1, length-drop (length ids - n) ids, within, len) in
    let ids_are : v.stack_ids ≡ ids = ap (λ (x : View). x.stack_ids) (sym view) in
    let here : id_of v (Stack (length v.stack - n + k)) ≡ p =
    ap (λ xs. get_or xs (length v.stack - n + k) 0) ids_are ∙ ap (λ m. get_or ids (m - n + k) 0) len ∙ sym (get_or-drop (length ids - n) ids k 0) ∙ found.2 in
    let same_depth : depth_at v (Stack (length v.stack - n + k)) ≡ depth_of (at g p) =
    ap (λ (x : G). depth_of (at x (id_of v (Stack (length v.stack - n + k))))) (ap (λ (x : View). x.graph) (sym view)) ∙ ap (λ o. depth_of (at g o)) here in
    omega (arith, shallow k inside, same_depth, deep)

-- the object that was pushed in place of the top n
pub pushed_at : (ids : List ℕ) (n id len : ℕ) → len ≡ length ids → n ≤ len → get_or (take (length ids - n) ids ++ id ∷ []) (len - n) 0 ≡ id
pushed_at ids n id len same within = get_or_push (take (length ids - n) ids) id 0 (len - n) (omega (arith, same, length-take-le (length ids - n) ids (omega arith)))
