-- The list of a place gets the top of the stack as its last element, in a copy.
use Rattle.std.proofs.Common.{◌≡◌, ◌≢◌, ℕ, ◌-◌, ◌<◌, List, [], ◌∷◌, ◌++◌, map, length, Option, Some, Ok, IsSome, is_some, sym, ap, subst, ◌∙◌, arith}
use Rattle.std.specs.Prelude.{IsOkAnd}
use Rattle.std.proofs.lemmas.List.{map_push}
use Rattle.tclv_text.specs.declared.counters.Stats.{Stats}
use Rattle.tclv_text.specs.Elements.{elements}
use Rattle.tclv_text.specs.Quotes.{list_text}
use Rattle.tclv_forms.specs.Lists.{Items}
use Rattle.tclv_heap.specs.declared.ids.Object.{Object}
use Rattle.tclv_heap.specs.Table.{Alike}
use Rattle.tclv_heap.specs.Graph.{at, occurs, text_in, form_in, count_in, counted_up, form_parts, HasOutside}
use Rattle.tclv_heap.specs.Dying.{Releases}
use Rattle.tclv_heap.specs.Holders.{Holders, Passes}
use Rattle.tclv_heap.specs.Stands.{Keeps, Copies, Duplicates, deepest, depth_of}
use Rattle.tclv_heap.specs.Stands.Copies.{plain, spelt, unspelt}
use Rattle.tclv_value.specs.Appending.{CanAppend, CopiesList, Appended}
use Rattle.tclv_value.specs.Changes.{IsUnder, Puts}
use Rattle.tclv_value.specs.Forms.{form_table}
use Rattle.tclv_value.specs.Kept.{list_in, list_at, HasList}
use Rattle.tclv_value.specs.ListObjects.{IsListAt, depth_at}
use Rattle.tclv_value.specs.Places.{text_of, made_of, view_of, places, IsPlaced, HasId, id_at, PutsId}
use Rattle.tclv_value.specs.Stacks.{top}
use Rattle.tclv_value.specs.View.{View, text_at}
use Rattle.tclv_value.specs.declared.forms.Form.{Form}
use Rattle.tclv_value.specs.declared.forms.Form.TheVariants as form
use Rattle.tclv_value.specs.declared.places.At.{At}
use Rattle.tclv_value.specs.declared.places.At.TheVariants.{Stack, Cell}
use Rattle.tclv_value.proofs.AppendPlaceLemmas.{len, same_id, splits, list_here, shallow_here, top_is, text_here}
use Rattle.tclv_value.proofs.ElementLemmas.{known_elements}
use Rattle.tclv_value.proofs.GraphLemmas.{by_slot, no_object, still_released}
use Rattle.tclv_value.proofs.HolderLemmas.{occurs-cons, same_self, map_agree, Holders_same, Holders_outside}
use Rattle.tclv_value.proofs.PlaceLemmas.{PutsAt, puts_view}
use Rattle.tclv_value.proofs.ViewLemmas.{G, id_listed}

-- a duplicate of a list is a list of the same objects
pub alike_list : (items : Items) (d : Form) → Alike form_table (form.List items) d → list_in (Some d) ≡ Some items.ids
alike_list items (form.List more) k = ap Some k.parts
alike_list items (form.Whole n) k =
    let same : list_text [] ≡ list_text ([] ∷ []) = sym (k.spelled []) ∙ k.spelled ([] ∷ []) in
    let two : Ok [] ≡ Ok ([] ∷ []) = sym (form_table.fits_spelled (form.List items) [] tt) ∙ ap elements same ∙ form_table.fits_spelled (form.List items) ([] ∷ []) tt in
    absurd (cc)

copied_form : (n : Object Form) (text : Option (List ℕ)) (f : Option Form) → Copies form_table n text f → IsSome (list_in n.form) → list_in f ≡ list_in n.form
copied_form n text f (plain a b c) is = ap list_in (b ∙ sym a)
copied_form n text f (spelt {f = form.Whole m} {d = d} a b k s c) is = absurd (let e = ap list_in a in cc)
copied_form n text f (spelt {f = form.List items} {d = d} a b k s c) is = ap list_in b ∙ alike_list items d k ∙ sym (ap list_in a)
copied_form n text f (unspelt {f = form.Whole m} {d = d} a b k s c) is = absurd (let e = ap list_in a in cc)
copied_form n text f (unspelt {f = form.List items} {d = d} a b k s c) is = ap list_in b ∙ alike_list items d k ∙ sym (ap list_in a)

-- what a duplicate of a list object leaves
pub copies_list : (g h : G) (id copy : ℕ) (m : Object Form) → IsSome (list_at g id) → Duplicates form_table g id copy m h → Passes form_table.parts g [] h (copy ∷ []) → Keeps form_table g h → CopiesList g id h copy
copies_list g h id copy m list d passes keeps =
    let kept : (P : Type 0) (o : ℕ) → IsSome (at g o) → ((n : Object Form) → at g o ≡ Some n → at h o ≡ Some (counted_up n (occurs o (form_parts form_table.parts m.form))) → P) → P =
    λ P o there f. by_slot P (at g o) (λ e. absurd (no_object g o e there)) (λ n e. f n e (d.shared.kept o n e)) in
    record {
      fresh = d.shared.fresh;
      list = by_slot _ (at g id) (λ e. absurd (let e2 = ap (λ s. list_in (form_in s)) e in cc))
          (λ n e. ap (λ s. list_in (form_in s)) d.shared.changed ∙ copied_form n m.text m.form (d.copies n e).0 (subst IsSome (ap (λ s. list_in (form_in s)) e) list) ∙ sym (ap (λ s. list_in (form_in s)) e));
      alone = ap count_in d.shared.changed ∙ d.count;
      there = λ o there. kept _ o there (λ n e now. ap is_some now);
      depths = λ o there. kept _ o there (λ n e now. ap depth_of now ∙ sym (ap depth_of e));
      made = λ o there. kept _ o there (λ n e now. ap (λ s. is_some (text_in s)) now ∙ sym (ap (λ s. is_some (text_in s)) e));
      passes = passes;
      keeps = keeps;
    }

pub copy_outside : (g h : G) (id copy : ℕ) (m : Object Form) → Duplicates form_table g id copy m h → HasOutside form_table.parts h copy 1
copy_outside g h id copy m d = record {
  there = ap is_some d.shared.changed;
  outside = λ n is loose.
      let e : m ≡ n = (let e2 : Some m ≡ Some n = sym d.shared.changed ∙ is in cc) in
      omega (arith, d.free, d.count, ap (λ (x : Object Form). x.count) e);
}

module _ (g : G) {st : Stats} (ids ids2 : List ℕ) (es : List (ℕ × ℕ)) (value id : ℕ) (place : At) (v : View) (view : view_of g st ids es ≡ v) (ends : ids ≡ ids2 ++ value ∷ []) (placed : IsPlaced g ids es) (id_is : id ≡ id_at ids es place) (room : IsUnder v 1 place) (list : IsListAt v place) (shallow : depth_at v (Stack (length v.stack - 1)) < deepest) (h : G) (copy : ℕ) (copies : CopiesList g id h copy) where
  there_g : (o : ℕ) → 0 < occurs o (places ids es) → IsSome (at g o)
  there_g o i = placed.holders.there o i

  value_in : 0 < occurs value (places ids es)
  value_in = omega (arith, splits g ids ids2 es value id place v view ends placed id_is room list shallow value, occurs-cons value value (places ids2 es), same_self value)

  held_h : Holders form_table.parts h (value ∷ copy ∷ places ids2 es)
  held_h = Holders_same form_table.parts h (copy ∷ places ids es) (value ∷ copy ∷ places ids2 es)
      (λ x. omega (arith, splits g ids ids2 es value id place v view ends placed id_is room list shallow x, occurs-cons x copy (places ids es), occurs-cons x value (copy ∷ places ids2 es), occurs-cons x copy (places ids2 es), occurs-cons x value (places ids2 es)))
      (copies.passes (places ids es) placed.holders)

  pub can_copy : CanAppend h copy value
  can_copy = record {
    list = subst IsSome (sym copies.list) (list_here g ids ids2 es value id place v view ends placed id_is room list shallow);
    alone = copies.alone;
    out = copy ∷ places ids2 es;
    holders = held_h;
    listed = omega (arith, occurs-cons copy copy (places ids2 es), same_self copy);
    shallow = subst (λ d. d < deepest) (sym (copies.depths value (there_g value value_in))) (shallow_here g ids ids2 es value id place v view ends placed id_is room list shallow);
    sound = copies.keeps.sound;
    closed = copies.keeps.closed placed.closed;
  }

  module _ (k : G) (app : Appended h copy value k) (ids3 : List ℕ) (es3 : List (ℕ × ℕ)) (old : ℕ) (puts_id : PutsId ids2 es place copy ids3 es3 old) where
    held_k : Holders form_table.parts k (old ∷ places ids3 es3)
    held_k = Holders_same form_table.parts k (copy ∷ places ids2 es) (old ∷ places ids3 es3)
        (λ x. omega (arith, puts_id.holders x, occurs-cons x copy (places ids2 es), occurs-cons x old (places ids3 es3))) (app.passes (copy ∷ places ids2 es) held_h)

    pub old_outside : HasOutside form_table.parts k old 1
    old_outside = Holders_outside form_table.parts k (old ∷ places ids3 es3) old held_k (omega (arith, occurs-cons old old (places ids3 es3), same_self old))

    module _ (m : G) (released : Releases form_table.parts k (old ∷ []) m) (passes : Passes form_table.parts k (old ∷ []) m []) (keeps : Keeps form_table k m) where
      pub placed3 : IsPlaced m ids3 es3
      placed3 = record { sound = keeps.sound; closed = keeps.closed app.closed; holders = passes (places ids3 es3) held_k }

      has_old : (p : At) → HasId ids3 es3 p → HasId ids2 es p
      has_old (Stack i) is = omega (arith, is, puts_id.len)
      has_old (Cell c) is = sym (puts_id.cells c) ∙ is

      -- the object of another place
      module _ (p : At) (ne : p ≢ place) (is : HasId ids3 es3 p) where
        o : ℕ
        o = id_at ids es p

        same_o : id_at ids3 es3 p ≡ id_at ids es p
        same_o = puts_id.others p ne ∙ (same_id g ids ids2 es value id place v view ends placed id_is room list shallow p (has_old p is)).0

        o_g : IsSome (at g (id_at ids es p))
        o_g = there_g _ (id_listed ids es p (same_id g ids ids2 es value id place v view ends placed id_is room list shallow p (has_old p is)).1)

        o_other : id_at ids es p ≢ copy
        o_other e = no_object g copy copies.fresh (subst (λ x. IsSome (at g x)) e o_g)

        o_m : IsSome (at m (id_at ids es p))
        o_m = placed3.holders.there _ (subst (λ x. 0 < occurs x (places ids3 es3)) same_o (id_listed ids3 es3 p is))

        o_h : IsSome (at h (id_at ids es p))
        o_h = copies.there _ o_g

        o_k : IsSome (at k (id_at ids es p))
        o_k = subst IsSome (sym (app.others _ o_other)) o_h

        other_text : text_of m (id_at ids3 es3 p) ≡ text_of g (id_at ids es p)
        other_text = ap (text_of m) same_o ∙ keeps.says _ o_k o_m ∙ app.texts _ o_other o_h ∙ copies.keeps.says _ o_g o_h

        other_made : made_of m (id_at ids3 es3 p) ≡ made_of g (id_at ids es p)
        other_made = ap (made_of m) same_o ∙ (still_released k m (old ∷ []) released keeps).made _ o_k o_m ∙ ap (λ s. is_some (text_in s)) (app.others _ o_other) ∙ copies.made _ o_g

      copy_m : IsSome (at m copy)
      copy_m = placed3.holders.there copy (subst (λ x. 0 < occurs x (places ids3 es3)) puts_id.here (id_listed ids3 es3 place puts_id.there))

      copy_k : IsSome (at k copy)
      copy_k = held_k.there copy (omega (arith, puts_id.holders copy, occurs-cons copy old (places ids3 es3), same_self copy))

      pub copied_list : list_at m copy ≡ Some (app.elements ++ value ∷ [])
      copied_list = by_slot _ (at m copy) (λ e. absurd (no_object m copy e copy_m)) (λ n e.
          let r = released.kept copy n e in
          ap (λ s. list_in (form_in s)) e ∙ ap list_in r.2.form ∙ sym (ap (λ s. list_in (form_in s)) r.1) ∙ app.list)

      module _ (f : Form) (xs : List ℕ) (has : HasList g id f xs) where
        same_xs : app.elements ≡ xs
        same_xs = let e : Some app.elements ≡ Some xs = sym app.was ∙ copies.list ∙ ap list_in has.form ∙ has.list in cc

        says : text_of m copy ≡ list_text (map (text_of g) xs ++ top 1 v.stack)
        says =
            keeps.says copy copy_k copy_m ∙ app.says ∙ ap (λ ys. list_text (map (text_of h) (ys ++ value ∷ []))) same_xs
            ∙ ap list_text (map_push (text_of h) xs value ∙ ap (λ ys. ys ++ text_of h value ∷ []) (map_agree (text_of h) (text_of g) xs (λ p i. copies.keeps.says p (has.there p i) (copies.there p (has.there p i))))
            ∙ ap (λ t. map (text_of g) xs ++ t ∷ []) (copies.keeps.says value (there_g value value_in) (copies.there value (there_g value value_in)))
            ∙ ap (λ ys. map (text_of g) xs ++ ys) (sym (top_is g ids ids2 es value id place v view ends placed id_is room list shallow)))

        puts : PutsAt g m ids ids3 es es3 1 place (list_text (map (text_of g) xs ++ top 1 v.stack))
        puts = record {
          len = omega (arith, puts_id.len, len g ids ids2 es value id place v view ends placed id_is room list shallow);
          cells = puts_id.cells;
          there = puts_id.there;
          says = ap (text_of m) puts_id.here ∙ says;
          texts = λ p ne is. other_text p ne is;
          made = λ p ne is was. other_made p ne is ∙ was;
        }

        pub copied_view : (st2 : Stats) → IsOkAnd (elements (text_at v place)) (λ ts. Puts v 1 place (list_text (ts ++ top 1 v.stack)) (view_of m st2 ids3 es3))
        copied_view st2 = known_elements (elements (text_at v place)) _ (map (text_of g) xs) (ap elements (text_here g ids ids2 es value id place v view ends placed id_is room list shallow) ∙ has.elements) (puts_view g m ids ids3 es es3 1 _ v view st2 place puts)
