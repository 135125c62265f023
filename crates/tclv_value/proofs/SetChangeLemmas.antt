-- A list object where one element is set: the value gets a holder more, and the element that was there loses one.
use Rattle.std.proofs.Common.{◌≡◌, ◌≢◌, ℕ, ◌<◌, ◌+◌, max, inl, inr, List, [], ◌∷◌, ◌++◌, map, length, Option, Some, None, Ok, IsSome, is_some, refl, sym, ap, subst, ◌∙◌, arith}
use Rattle.std.specs.Prelude.{IfSome, IsOkAnd}
use Rattle.std.proofs.lemmas.List.{length-map}
use Rattle.tclv_text.specs.Elements.{elements}
use Rattle.std.specs.Option.{option_to_list, unwrap_or}
use Rattle.std.proofs.lemmas.Bool.{cases_eq}
use Rattle.tclv_text.specs.Quotes.{list_text}
use Rattle.tclv_heap.specs.declared.ids.Object.{Object}
use Rattle.tclv_heap.specs.Graph.{at, occurs, holds, form_parts, form_in, text_in, count_in, depth_in, counted_up, Updates, HasOutside}
use Rattle.tclv_heap.specs.Dying.{Releases}
use Rattle.tclv_heap.specs.Holders.{Holders, Passes}
use Rattle.tclv_heap.specs.Stands.{Keeps, IsClosed, IsSound, depth_of, depth_for}
use Rattle.tclv_value.specs.Appending.{CanAppend, CopiesList}
use Rattle.tclv_value.specs.Forms.{form_table, parts_of}
use Rattle.tclv_value.specs.Kept.{list_in, list_at, IsOutside}
use Rattle.tclv_value.specs.Paths.{put_at}
use Rattle.tclv_value.specs.Places.{text_of}
use Rattle.tclv_value.specs.Setting.{CanChange, ListChanged, MakesList, LetsGo, SetsElement, text_with}
use Rattle.tclv_value.specs.Ways.{LeavesOthers}
use Rattle.tclv_value.specs.declared.forms.Form.{Form}
use Rattle.tclv_value.specs.declared.forms.Form.TheVariants as form
use Rattle.tclv_value.proofs.LeadLemmas.{holds_le_held}
use Rattle.tclv_value.proofs.GraphLemmas.{by_slot, no_object, still_shared, still_released}
use Rattle.tclv_value.proofs.HolderLemmas.{occurs-cons, same_self, map_agree, Holders_outside}
use Rattle.tclv_value.proofs.KeptLemmas.{Keeps_same, made_there}
use Rattle.tclv_value.proofs.ViewLemmas.{G}

-- nothing is let go
pub lets_none : (g : G) → IsSound form_table g → LetsGo g None g
lets_none g sound = record {
  passes = λ ids h. h;
  keeps = Keeps_same g sound;
  there = λ o is. is;
  forms = λ o is. refl;
  made = λ o is. refl;
  depths = λ o is. refl;
  alone = λ o is one. one;
}

pub lets_one : (g h : G) (p : ℕ) → Releases form_table.parts g (p ∷ []) h → Passes form_table.parts g (p ∷ []) h [] → Keeps form_table g h → LetsGo g (Some p) h
lets_one g h p released passes keeps =
    let was : (o : ℕ) → IsSome (at h o) → IsSome (at g o) = λ o is. by_slot _ (at h o) (λ e. absurd (no_object h o e is)) (λ n e. ap is_some (released.kept o n e).1) in
    record {
      passes = passes;
      keeps = keeps;
      there = was;
      forms = λ o is. by_slot _ (at h o) (λ e. absurd (no_object h o e is)) (λ n e. let k = released.kept o n e in ap form_in e ∙ k.2.form ∙ sym (ap form_in k.1));
      made = λ o is. (still_released g h (p ∷ []) released keeps).made o (was o is) is;
      depths = λ o is. by_slot _ (at h o) (λ e. absurd (no_object h o e is)) (λ n e. let k = released.kept o n e in ap depth_of e ∙ ap (λ t. depth_for t n.depth) k.2.text ∙ ap (depth_for k.0.text) k.2.depth ∙ sym (ap depth_of k.1));
      alone = λ o is one. by_slot _ (at h o) (λ e. absurd (no_object h o e is)) (λ n e.
          let k = released.kept o n e in
          omega (arith, ap count_in e, k.2.lower, ap count_in k.1, one, (keeps.sound.sound.counts o n e).0));
    }

-- the elements of a list are there
pub form_ids : (f : Option Form) (ids : List ℕ) → list_in f ≡ Some ids → form_parts parts_of f ≡ ids
form_ids None ids is = absurd (cc)
form_ids (Some (form.Whole n)) ids is = absurd (cc)
form_ids (Some (form.List items)) ids is = cc

pub parts_in : (g : G) (id p : ℕ) (ids : List ℕ) → IsSound form_table g → list_at g id ≡ Some ids → 0 < occurs p ids → IsSome (at g p)
parts_in g id p ids sound list i =
    by_slot _ (at g p)
    (λ none.
    let no = sound.sound.there p none in
    let here : holds parts_of p (at g id) ≡ occurs p ids =
    by_slot _ (at g id) (λ e. absurd (let e2 : None ≡ Some ids = sym (ap (λ s. list_in (form_in s)) e) ∙ list in cc)) (λ n e. ap (holds parts_of p) e ∙ ap (occurs p) (form_ids n.form ids (sym (ap (λ s. list_in (form_in s)) e) ∙ list))) in
    absurd (omega (arith, no, here, i, holds_le_held g id p)))
    (λ n e. ap is_some e)

-- what a list object with these elements becomes
pub ok_text : (g : G) (id k value : ℕ) (P : List ℕ → Type 0) (ids : List ℕ) → list_at g id ≡ Some ids → elements (text_of g id) ≡ Ok (map (text_of g) ids) → P (text_with g id k value) → IsOkAnd (elements (text_of g id)) (λ ts. P (list_text (put_at ts k (text_of g value))))
ok_text g id k value P ids list read p =
    subst (λ r. IsOkAnd r (λ ts. P (list_text (put_at ts k (text_of g value))))) (sym read)
    (subst P (ap (λ r. list_text (put_at (map (text_of g) (unwrap_or r [])) k (text_of g value))) list) p)

pub within_ids : (g : G) (t : List ℕ) (ids : List ℕ) (P : ℕ → Type 0) → elements t ≡ Ok (map (text_of g) ids) → IsOkAnd (elements t) (λ ts. P (length ts)) → P (length ids)
within_ids g t ids P read within = subst P (length-map ids (text_of g)) (subst (λ r. IsOkAnd r (λ ts. P (length ts))) read within)

pub known_list : (g : G) (id : ℕ) → IsSome (list_at g id) → list_at g id ≡ Some (unwrap_or (list_at g id) [])
known_list g id is = by_list (list_at g id) is
  where
    by_list : (x : Option (List ℕ)) → IsSome x → x ≡ Some (unwrap_or x [])
    by_list None has = absurd (cc)
    by_list (Some ids) has = refl

-- one more holder
module _ (g h : G) (id : ℕ) (there : IsSome (at g id)) (shared : (n : Object Form) → at g id ≡ Some n → Updates g h id (Some (counted_up n 1))) where
  shared_other : (o : ℕ) → o ≢ id → at h o ≡ at g o
  shared_other o ne = by_slot _ (at g id) (λ e. absurd (no_object g id e there)) (λ n e. (shared n e).others o ne)

  shared_form : (o : ℕ) → form_in (at h o) ≡ form_in (at g o)
  shared_form o = elim (cases_eq o id) [
    | inl e ↦ ap (λ x. form_in (at h x)) e ∙ by_slot _ (at g id) (λ none. absurd (no_object g id none there)) (λ n is. ap form_in (shared n is).changed ∙ sym (ap form_in is)) ∙ sym (ap (λ x. form_in (at g x)) e)
    | inr ne ↦ ap form_in (shared_other o ne)
  ]

  shared_depth : (o : ℕ) → depth_of (at h o) ≡ depth_of (at g o)
  shared_depth o = elim (cases_eq o id) [
    | inl e ↦ ap (λ x. depth_of (at h x)) e ∙ by_slot _ (at g id) (λ none. absurd (no_object g id none there)) (λ n is. ap depth_of (shared n is).changed ∙ sym (ap depth_of is)) ∙ sym (ap (λ x. depth_of (at g x)) e)
    | inr ne ↦ ap depth_of (shared_other o ne)
  ]

  shared_there : (o : ℕ) → IsSome (at g o) → IsSome (at h o)
  shared_there o is = elim (cases_eq o id) [
    | inl e ↦ subst (λ x. IsSome (at h x)) (sym e) (by_slot _ (at g id) (λ none. absurd (no_object g id none there)) (λ n is. ap is_some (shared n is).changed))
    | inr ne ↦ subst IsSome (sym (shared_other o ne)) is
  ]

-- the value's holder, the list, and the element that was there
module _ (g a : G) (id place value : ℕ) (can : CanChange g id value) (shared : (n : Object Form) → at g value ≡ Some n → Updates g a value (Some (counted_up n 1))) (given : Passes form_table.parts g [] a (value ∷ [])) (keeps_a : Keeps form_table g a) where
  value_in : IsSome (at g value)
  value_in = can.holders.there value can.valued

  id_in : IsSome (at g id)
  id_in = can.holders.there id can.listed

  list_same : (o : ℕ) → list_at a o ≡ list_at g o
  list_same o = ap list_in (shared_form g a value value_in shared o)

  pub form_same : form_in (at a id) ≡ form_in (at g id)
  form_same = shared_form g a value value_in shared id

  pub list_id : list_at a id ≡ list_at g id
  list_id = list_same id

  pub can_append : CanAppend a id value
  can_append = record {
    list = subst IsSome (sym (list_same id)) can.list;
    alone = ap count_in (shared_other g a value value_in shared id (λ e. can.apart (sym e))) ∙ can.alone;
    out = can.out;
    holders = given can.out can.holders;
    listed = can.listed;
    shallow = subst (λ d. d < 50) (sym (shared_depth g a value value_in shared value)) can.shallow;
    sound = keeps_a.sound;
    closed = keeps_a.closed can.closed;
  }

  module _ (b : G) (gone : Option ℕ) (sets : SetsElement a id place value b gone) where
    pub gone_outside : IfSome gone (λ p. HasOutside form_table.parts b p 1)
    unfolding can_append
    gone_outside = by_gone gone (sets.passes can.out can_append.holders)
      where
        by_gone : (x : Option ℕ) → Holders form_table.parts b (option_to_list x ++ can.out) → IfSome x (λ p. HasOutside form_table.parts b p 1)
        by_gone None h = tt
        by_gone (Some p) h = Holders_outside form_table.parts b (p ∷ can.out) p h (omega (arith, occurs-cons p p can.out, same_self p))

    module _ (d : G) (lets : LetsGo b gone d) where
      held : (out : List ℕ) → Holders form_table.parts g out → Holders form_table.parts d out
      held out h = lets.passes out (sets.passes out (given out h))

      in_a : (o : ℕ) → IsSome (at g o) → IsSome (at a o)
      in_a o is = shared_there g a value value_in shared o is

      here_d : IsSome (at d id)
      here_d = (held can.out can.holders).there id can.listed

      here_b : IsSome (at b id)
      here_b = lets.there id here_d

      elements_is : unwrap_or (list_at g id) [] ≡ sets.elements
      elements_is = ap (λ r. unwrap_or r []) (sym (list_same id) ∙ sets.was)

      texts_a : map (text_of a) sets.elements ≡ map (text_of g) sets.elements
      texts_a = map_agree (text_of a) (text_of g) sets.elements (λ p i. let is = parts_in g id p sets.elements can.sound (sym (list_same id) ∙ sets.was) i in keeps_a.says p is (in_a p is))

      pub changes : ListChanged g id (text_with g id place value) d
      changes = record {
        list = subst IsSome (sym (ap list_in (lets.forms id here_d))) (ap is_some sets.list);
        says =
            lets.keeps.says id here_b here_d ∙ sets.says
            ∙ ap (λ xs. list_text (put_at xs place (text_of a value))) (texts_a ∙ ap (map (text_of g)) (sym elements_is))
            ∙ ap (λ t. list_text (put_at (map (text_of g) (unwrap_or (list_at g id) [])) place t)) (keeps_a.says value value_in (in_a value value_in));
        passes = λ out h listed. held out h;
        texts = λ x ne was is.
            let b_is = lets.there x is in
            lets.keeps.says x b_is is ∙ sets.texts x ne (in_a x was) ∙ keeps_a.says x was (in_a x was);
        made = λ x ne was is. lets.made x is ∙ ap (λ s. is_some (text_in s)) (sets.others x ne) ∙ (still_shared g a value value_in shared keeps_a).made x was (in_a x was);
        sound = lets.keeps.sound;
        closed = lets.keeps.closed sets.closed;
      }

      pub around : depth_of (at b id) ≡ max (depth_in (at a id)) (depth_of (at a value) + 1) → LeavesOthers g id value d
      around deep = record {
        deep =
            lets.depths id here_d ∙ deep ∙ ap (λ s. max (depth_in s) (depth_of (at a value) + 1)) (shared_other g a value value_in shared id (λ e. can.apart (sym e)))
            ∙ ap (λ s. max (depth_in (at g id)) (s + 1)) (shared_depth g a value value_in shared value);
        forms = λ x ne is. lets.forms x is ∙ ap form_in (sets.others x ne) ∙ shared_form g a value value_in shared x;
        depths = λ x ne is. lets.depths x is ∙ ap depth_of (sets.others x ne) ∙ shared_depth g a value value_in shared x;
        alone = λ x ne nv is one. lets.alone x is (ap count_in (sets.others x ne ∙ shared_other g a value value_in shared x nv) ∙ one);
      }

-- a copy of a list object, where one element is set
module _ (g a : G) (id copy place value : ℕ) (copies : CopiesList g id a copy) (outside : IsOutside g value) (shallow : depth_of (at g value) < 50) (closed : IsClosed g) where
  copy_in : IsSome (at a copy)
  copy_in = by_slot _ (at a copy) (λ e. absurd (let no : 0 ≡ 1 = sym (ap count_in e) ∙ copies.alone in omega (arith, no))) (λ n e. ap is_some e)

  value_here : IsSome (at g value)
  value_here = outside.holders.there value outside.listed

  pub can_copy : IsSome (list_at g id) → CanChange a copy value
  can_copy list = record {
    list = subst IsSome (sym copies.list) list;
    alone = copies.alone;
    apart = λ e. no_object g copy copies.fresh (subst (λ x. IsSome (at g x)) e value_here);
    out = copy ∷ outside.ids;
    holders = copies.passes outside.ids outside.holders;
    listed = omega (arith, occurs-cons copy copy outside.ids, same_self copy);
    valued = omega (arith, occurs-cons value copy outside.ids, outside.listed);
    shallow = subst (λ d. d < 50) (sym (copies.depths value value_here)) shallow;
    sound = copies.keeps.sound;
    closed = copies.keeps.closed closed;
  }

  module _ (d : G) (sound : IsSound form_table g) (changes : ListChanged a copy (text_with a copy place value) d) (list : IsSome (list_at g id)) where
    old_other : (o : ℕ) → IsSome (at g o) → o ≢ copy
    old_other o is e = no_object g copy copies.fresh (subst (λ x. IsSome (at g x)) e is)

    says_old : (ids : List ℕ) → list_at g id ≡ Some ids → text_with a copy place value ≡ text_with g id place value
    says_old ids is =
        ap (λ r. list_text (put_at (map (text_of a) (unwrap_or r [])) place (text_of a value))) (copies.list ∙ is)
        ∙ ap (λ xs. list_text (put_at xs place (text_of a value))) (map_agree (text_of a) (text_of g) ids (λ p i. let there = parts_in g id p ids sound is i in copies.keeps.says p there (copies.there p there)))
        ∙ ap (λ t. list_text (put_at (map (text_of g) ids) place t)) (copies.keeps.says value value_here (copies.there value value_here))
        ∙ sym (ap (λ r. list_text (put_at (map (text_of g) (unwrap_or r [])) place (text_of g value))) is)

    pub makes : MakesList g d copy (text_with g id place value)
    makes = record {
      fresh = copies.fresh;
      list = changes.list;
      says = changes.says ∙ says_old (unwrap_or (list_at g id) []) (known_list g id list);
      passes = λ r h. changes.passes (copy ∷ r) (copies.passes r h) (omega (arith, occurs-cons copy copy r, same_self copy));
      keeps = record {
        sound = changes.sound;
        says = λ o was is. changes.texts o (old_other o was) (copies.there o was) is ∙ copies.keeps.says o was (copies.there o was);
        closed = λ _. changes.closed;
      };
      texts = λ o is made.
          let was = made_there g o made in
          changes.made o (old_other o was) (copies.there o was) is ∙ copies.made o was ∙ made;
    }
