-- Objects that are kept as lists, and the objects that are made for a list's elements.
use Rattle.std.proofs.Common.{◌≡◌, ℕ, ◌+◌, ◌<◌, inl, inr, List, [], ◌∷◌, ◌++◌, map, length, take, get_or, set, false, true≢false, Option, Some, None, Ok, IsSome, is_some, refl, sym, ap, subst, ◌∙◌, arith}
use Rattle.std.proofs.lemmas.Bool.{cases_eq}
use Rattle.std.specs.Prelude.{IsTrue, slice_get}
use Rattle.std.proofs.lemmas.Option.{slice_get-get_or}
use Rattle.std.proofs.lemmas.List.{map_push, take_more, get_or-set_same, get_or_past}
use Rattle.tclv_text.specs.Elements.{elements}
use Rattle.tclv_heap.specs.declared.ids.Object.{Object}
use Rattle.tclv_forms.specs.Lists.{Items}
use Rattle.tclv_heap.specs.Graph.{at, occurs, count_in, text_in, form_in, form_parts, holds, new_object, Adds, HasOutside, Takes, Leads}
use Rattle.tclv_heap.specs.Graph.Leads.{here, down}
use Rattle.tclv_heap.specs.Dying.{Releases}
use Rattle.tclv_heap.specs.Holders.{Holders, Passes}
use Rattle.tclv_heap.specs.Stands.{HasForm, Keeps, IsSound, FitsDepth, Retexted, depth_of, depth_for}
use Rattle.tclv_value.specs.Forms.{form_table}
use Rattle.tclv_value.specs.Kept.{list_in, list_at, HasList, MakesTexts}
use Rattle.tclv_value.specs.Places.{text_of, made_of, TextsStay}
use Rattle.tclv_value.specs.declared.forms.Form.{Form}
use Rattle.tclv_value.specs.declared.forms.Form.TheVariants as form
use Rattle.tclv_value.proofs.ViewLemmas.{G}
use Rattle.tclv_value.proofs.HolderLemmas.{occurs-append, occurs-cons, same_self, same_other, map_agree, Holders_same, Holders_outside}
use Rattle.tclv_value.specs.ListObjects.{HasMade}
use Rattle.tclv_value.proofs.AnswerLemmas.{found_within}
use Rattle.tclv_value.proofs.GraphLemmas.{by_slot, no_object, retexted_made, retexted_there, retexted_count}
use Rattle.tclv_value.proofs.NumberLemmas.{text_said, reformed_texts}

-- an object with a list form stands for a list of what its elements stand for
pub list_form : (g : G) (o : ℕ) (f : Form) (ids : List ℕ) → HasForm form_table g o f → list_in (Some f) ≡ Some ids → HasList g o f ids
list_form g o (form.Whole n) ids h is = absurd (cc)
list_form g o (form.List items) ids h is =
    let same : items.ids ≡ ids = cc in
    record {
      form = h.form;
      list = is;
      elements = by_text (text_in (at g o)) refl ∙ ap (λ xs. Ok (map (text_of g) xs)) same;
      there = λ p i. h.there p (subst (λ xs. 0 < occurs p xs) (sym same) i);
      depth = h.depth;
    }
  where
    by_text : (text : Option (List ℕ)) → text_in (at g o) ≡ text → elements (text_of g o) ≡ Ok (map (text_of g) items.ids)
    by_text None e = let spelled = h.spells e in ap elements spelled.1 ∙ form_table.fits_spelled (form.List items) (map (text_of g) items.ids) tt
    by_text (Some s) e = ap elements (text_said g o s e) ∙ h.fits s e

-- what several calls keep
pub Keeps_then : (a b c : G) → ((o : ℕ) → IsSome (at a o) → IsSome (at c o) → IsSome (at b o)) → Keeps form_table a b → Keeps form_table b c → Keeps form_table a c
Keeps_then a b c between first second = record {
  sound = second.sound;
  says = λ o was is. second.says o (between o was is) is ∙ first.says o was (between o was is);
  closed = λ closed. second.closed (first.closed closed);
}

pub Keeps_same : (g : G) → IsSound form_table g → Keeps form_table g g
Keeps_same g sound = record { sound = sound; says = λ o was is. refl; closed = λ closed. closed }

-- new objects of texts
pub MakesTexts_none : (g : G) → IsSound form_table g → MakesTexts g [] g []
MakesTexts_none g sound = record {
  passes = λ ids holders. holders;
  keeps = Keeps_same g sound;
  says = refl;
  made = λ p i. absurd (omega (arith, i));
  others = λ o is. refl;
}

only : (x p : ℕ) → 0 < occurs x (p ∷ []) → x ≡ p
only x p i = elim (cases_eq x p) [
  | inl e ↦ e
  | inr ne ↦ absurd (omega (arith, i, occurs-cons x p [], same_other x p ne))
]

pub MakesTexts_one : (g h : G) (p : ℕ) (t s : List ℕ) → s ≡ t → Adds form_table.parts g p (new_object (Some s) None 0) h → text_of h p ≡ s → Passes form_table.parts g [] h (p ∷ []) → Keeps form_table g h → MakesTexts g (t ∷ []) h (p ∷ [])
MakesTexts_one g h p t s same adds said passes keeps = record {
  passes = passes;
  keeps = keeps;
  says = ap (λ x. x ∷ []) (said ∙ same);
  made = λ x i.
      let e : x ≡ p = only x p i in
      (ap (at g) e ∙ adds.fresh, new_object (Some s) None 0, ap (at h) e ∙ adds.made.changed, refl, refl);
  others = λ o is. elim (cases_eq o p) [
    | inl e ↦ absurd (no_object g o (ap (at g) e ∙ adds.fresh) is)
    | inr ne ↦ adds.made.others o ne
  ];
}

pub MakesTexts_then : (a b d : G) (xs : List (List ℕ)) (t : List ℕ) (ids : List ℕ) (p : ℕ) → MakesTexts a xs b ids → MakesTexts b (t ∷ []) d (p ∷ []) → MakesTexts a (xs ++ t ∷ []) d (ids ++ p ∷ [])
MakesTexts_then a b d xs t ids p first second =
    let in_b : (q : ℕ) → 0 < occurs q ids → IsSome (at b q) = λ q i. ap is_some (first.made q i).2 in
    let stays : (q : ℕ) → IsSome (at b q) → IsSome (at d q) = λ q there. subst IsSome (sym (second.others q there)) there in
    let kept : (o : ℕ) → IsSome (at a o) → IsSome (at b o) = λ o there. subst IsSome (sym (first.others o there)) there in
    record {
      passes = λ r holders.
          Holders_same form_table.parts d (p ∷ (ids ++ r)) ((ids ++ p ∷ []) ++ r)
          (λ x. omega (arith, occurs-cons x p (ids ++ r), occurs-append x ids r, occurs-append x (ids ++ p ∷ []) r, occurs-append x ids (p ∷ []), occurs-cons x p []))
          (second.passes (ids ++ r) (first.passes r holders));
      keeps = Keeps_then a b d (λ o was is. kept o was) first.keeps second.keeps;
      says =
          map_push (text_of d) ids p
          ∙ ap (λ ys. ys ++ text_of d p ∷ []) (map_agree (text_of d) (text_of b) ids (λ q i. second.keeps.says q (in_b q i) (stays q (in_b q i))) ∙ first.says)
          ∙ ap (λ ys. xs ++ ys) second.says;
      made = λ q i. elim (cases_eq q p) [
        | inl e ↦
            let m = second.made p (omega (arith, occurs-cons p p [], same_self p)) in
            let before : at a p ≡ None = by_slot _ (at a p) (λ none. none) (λ n some. absurd (no_object b p m.0 (kept p (ap is_some some)))) in
            (ap (at a) e ∙ before, m.1, ap (at d) e ∙ m.2, m.3, m.4)
        | inr ne ↦
            let i_ids : 0 < occurs q ids = omega (arith, i, occurs-append q ids (p ∷ []), occurs-cons q p [], same_other q p ne) in
            let m = first.made q i_ids in
            (m.0, m.1, second.others q (in_b q i_ids) ∙ m.2, m.3, m.4)
      ];
      others = λ o there. second.others o (kept o there) ∙ first.others o there;
    }

-- released objects
released_there : (g h : G) (ids : List ℕ) → Releases form_table.parts g ids h → (o : ℕ) → IsSome (at h o) → IsSome (at g o)
released_there g h ids released o is = by_slot _ (at h o) (λ e. absurd (no_object h o e is)) (λ n e. ap is_some (released.kept o n e).1)

released_texts : (g h : G) (ids : List ℕ) → Releases form_table.parts g ids h → TextsStay g h
released_texts g h ids released o is made =
    by_slot _ (at h o) (λ e. absurd (no_object h o e is))
    (λ n e.
    let k = released.kept o n e in
    ap (λ s. is_some (text_in s)) e ∙ ap is_some k.2.text ∙ sym (ap (λ s. is_some (text_in s)) k.1) ∙ made)

-- so many objects of a list were released
pub record Goes (old : G) (ids : List ℕ) (new : G) : Type 0 where
  pub passes : Passes form_table.parts old ids new []
  pub keeps : Keeps form_table old new
  pub texts : TextsStay old new
  pub there : (o : ℕ) → IsSome (at new o) → IsSome (at old o)

pub Goes_none : (g : G) → IsSound form_table g → Goes g [] g
Goes_none g sound = record { passes = λ ids h. h; keeps = Keeps_same g sound; texts = λ o is made. made; there = λ o is. is }

pub next_first : (ids r more : List ℕ) (p : ℕ) → more ≡ ids ++ p ∷ [] → (x : ℕ) → occurs x (more ++ r) ≡ occurs x (ids ++ p ∷ r)
next_first ids r more p grows x =
    omega (arith, ap (λ ys. occurs x (ys ++ r)) grows, occurs-append x (ids ++ p ∷ []) r, occurs-append x ids (p ∷ []), occurs-cons x p [], occurs-append x ids (p ∷ r), occurs-cons x p r)

pub Goes_more : (a b c : G) (ids more : List ℕ) (p : ℕ) → more ≡ ids ++ p ∷ [] → Goes a ids b → Releases form_table.parts b (p ∷ []) c → Passes form_table.parts b (p ∷ []) c [] → Keeps form_table b c → Goes a more c
Goes_more a b c ids more p grows first released passes keeps = record {
  passes = λ r holders. passes r (first.passes (p ∷ r) (Holders_same form_table.parts a (more ++ r) (ids ++ p ∷ r) (next_first ids r more p grows) holders));
  keeps = Keeps_then a b c (λ o was is. released_there b c (p ∷ []) released o is) first.keeps keeps;
  texts = λ o is made. released_texts b c (p ∷ []) released o is (first.texts o (released_there b c (p ∷ []) released o is) made);
  there = λ o is. first.there o (released_there b c (p ∷ []) released o is);
}

-- the next one may be released
pub next_outside : (a b : G) (ids r done rest : List ℕ) (p : ℕ) → ids ≡ done ++ p ∷ rest → Holders form_table.parts a (ids ++ r) → Goes a done b → HasOutside form_table.parts b p 1
next_outside a b ids r done rest p splits holders goes =
    let here : Holders form_table.parts b (p ∷ (rest ++ r)) =
    goes.passes (p ∷ (rest ++ r)) (Holders_same form_table.parts a (ids ++ r) (done ++ p ∷ (rest ++ r))
    (λ x. omega (arith, ap (λ ys. occurs x (ys ++ r)) splits, occurs-append x (done ++ p ∷ rest) r, occurs-append x done (p ∷ rest), occurs-cons x p rest, occurs-append x done (p ∷ (rest ++ r)), occurs-cons x p (rest ++ r), occurs-append x rest r)) holders) in
    Holders_outside form_table.parts b (p ∷ (rest ++ r)) p here (omega (arith, occurs-cons p p (rest ++ r), same_self p))

-- one more element of a text
pub one_more : {X : Type 0} (f : X → List ℕ) (xs : List X) (k : ℕ) (d : X) → k < length xs → map f (take k xs) ++ f (get_or xs k d) ∷ [] ≡ map f (take (k + 1) xs)
one_more f xs k d within = sym (map_push f (take k xs) (get_or xs k d)) ∙ ap (map f) (sym (take_more xs k d within))

pub MakesTexts_more : (a b d : G) (xs ys : List (List ℕ)) (t : List ℕ) (ids more : List ℕ) (p : ℕ) → xs ++ t ∷ [] ≡ ys → more ≡ ids ++ p ∷ [] → MakesTexts a xs b ids → MakesTexts b (t ∷ []) d (p ∷ []) → MakesTexts a ys d more
MakesTexts_more a b d xs ys t ids more p texts grows first second = subst (λ zs. MakesTexts a ys d zs) (sym grows) (subst (λ zs. MakesTexts a zs d (ids ++ p ∷ [])) texts (MakesTexts_then a b d xs t ids p first second))

-- the objects that were made lead nowhere
module _ (old new : G) (ts : List (List ℕ)) (ids : List ℕ) (makes : MakesTexts old ts new ids) where
  pub apart_made : (o : ℕ) → IsSome (at old o) → (p : ℕ) → 0 < occurs p ids → Leads form_table.parts new p o → ⊥
  apart_made o there p i here = no_object old p (makes.made p i).0 there
  apart_made o there p i (down {p = q} h l) =
      let m = makes.made p i in
      omega (arith, h, ap (holds form_table.parts q) m.2, ap (λ f. occurs q (form_parts form_table.parts f)) m.4)

  pub depth_made : (items : Items) → items.ids ≡ ids → FitsDepth form_table new (form.List items) 1
  depth_made items same = record {
    low = omega arith;
    high = omega arith;
    above = λ p i.
        let m = makes.made p (subst (λ xs. 0 < occurs p xs) same i) in
        subst (λ d. d < 1) (sym (ap depth_of m.2 ∙ no_depth (m.1).text (m.1).depth m.3)) (omega arith);
  }
    where
      no_depth : (text : Option (List ℕ)) (d : ℕ) → IsSome text → depth_for text d ≡ 0
      no_depth None d has = absurd (cc)
      no_depth (Some s) d has = refl

  pub made_outside : (out : List ℕ) (o : ℕ) → Holders form_table.parts old out → 0 < occurs o out → HasOutside form_table.parts new o 1
  made_outside out o holders listed = Holders_outside form_table.parts new (ids ++ out) o (makes.passes out holders) (omega (arith, listed, occurs-append o ids out))

  pub made_takes : (out : List ℕ) → Holders form_table.parts old out → Takes form_table.parts new ids
  made_takes out holders p some =
      let h = makes.passes out holders in
      record {
        there = h.there p (omega (arith, some, occurs-append p ids out));
        outside = λ n is loose. omega (arith, h.counted p n is loose, occurs-append p ids out);
      }

-- what is made is there
pub made_there : (g : G) (o : ℕ) → IsTrue (made_of g o) → IsSome (at g o)
made_there g o made = by_slot _ (at g o) (λ e. absurd (let no : made_of g o ≡ false = ap (λ s. is_some (text_in s)) e in true≢false (sym made ∙ no))) (λ n e. ap is_some e)

within_slot : (g : G) (o : ℕ) (n : Object Form) → at g o ≡ Some n → o < length g
within_slot g o n is = grind (arith, get_or_past)

-- the form that was set
pub form_set : (g h : G) (o : ℕ) (f : Form) (depth : ℕ) → IsSome (at g o) → IsSome (at h o) → ((n : Object Form) → at g o ≡ Some n → Releases form_table.parts (set g o (Some (record n { form = Some f; depth = depth }))) (form_parts form_table.parts n.form) h) → form_in (at h o) ≡ Some f
form_set g h o f depth was is set_it =
    by_slot _ (at g o) (λ e. absurd (no_object g o e was))
    (λ n e. by_slot _ (at h o) (λ none. absurd (no_object h o none is))
    (λ x at_x.
    let k = (set_it n e).kept o x at_x in
    let within : o < length g = there_within g o n e in
    let same : Some (k.0) ≡ Some (record n { form = Some f; depth = depth }) = sym k.1 ∙ get_or-set_same g o (Some (record n { form = Some f; depth = depth })) None within in
    ap form_in at_x ∙ k.2.form ∙ ap form_in same))
  where
    there_within : (g : G) (o : ℕ) (n : Object Form) → at g o ≡ Some n → o < length g
    there_within g o n is = grind (arith, get_or_past)

-- an object's text is made, objects are made of its elements, and it is kept as a list of them
module _ (a b d h : G) (o : ℕ) (ts : List (List ℕ)) (items : Items) (there : IsSome (at a o)) (retexts : Retexted form_table (Leads form_table.parts a o) a b) (first : Keeps form_table a b) (makes : MakesTexts b ts d items.ids) (last : Keeps form_table d h) (has : IsSome (text_in (at b o))) (set_it : (n : Object Form) → at d o ≡ Some n → Releases form_table.parts (set d o (Some (record n { form = Some (form.List items); depth = 1 }))) (form_parts form_table.parts n.form) h) where
  in_b : (x : ℕ) → IsSome (at a x) → IsSome (at b x)
  in_b x was = retexted_there _ a b retexts x was

  in_d : (x : ℕ) → IsSome (at a x) → IsSome (at d x)
  in_d x was = subst IsSome (sym (makes.others x (in_b x was))) (in_b x was)

  pub kept_keeps : Keeps form_table a h
  kept_keeps = Keeps_then a d h (λ x was is. in_d x was) (Keeps_then a b d (λ x was is. in_b x was) first makes.keeps) last

  pub kept_text : IsSome (text_in (at d o))
  kept_text = subst (λ s. IsSome (text_in s)) (sym (makes.others o (in_b o there))) has

  pub kept_texts : TextsStay a h
  kept_texts x is made =
      let was = made_there a x made in
      let made_b = retexted_made _ a b retexts x (in_b x was) made in
      let made_d : IsTrue (made_of d x) = ap (λ s. is_some (text_in s)) (makes.others x (in_b x was)) ∙ made_b in
      reformed_texts d h o (form.List items) 1 kept_text set_it x is made_d

  pub kept_list : IsSome (at h o) → list_at h o ≡ Some items.ids
  kept_list is = ap list_in (form_set d h o (form.List items) 1 (in_d o there) is set_it)

  -- one holder has it still
  pub kept_alone : count_in (at a o) ≡ 1 → IsSome (at h o) → count_in (at h o) ≡ 1
  kept_alone one is =
      let in_there : IsSome (at d o) = in_d o there in
      let count_d : count_in (at d o) ≡ 1 = ap count_in (makes.others o (in_b o there)) ∙ retexted_count _ a b retexts o there ∙ one in
      by_slot _ (at d o) (λ e. absurd (no_object d o e in_there))
      (λ n e. by_slot _ (at h o) (λ e2. absurd (no_object h o e2 is))
      (λ x at_x.
      let k = (set_it n e).kept o x at_x in
      let set_to = record n { form = Some (form.List items); depth = 1 } in
      let same : Some (k.0) ≡ Some set_to = sym k.1 ∙ get_or-set_same d o (Some set_to) None (within_slot d o n e) in
      let count : k.0.count ≡ n.count = ap count_in same in
      let high = (last.sound.sound.counts o x at_x).0 in
      ap count_in at_x ∙ omega (arith, k.2.lower, count, high, ap count_in e, count_d)))

-- what has a list form is there
pub listed_there : (g : G) (o : ℕ) → IsSome (list_at g o) → IsSome (at g o)
listed_there g o is = by_slot _ (at g o) (λ e. absurd (let e2 : is_some (list_at g o) ≡ false = ap (λ s. is_some (list_in (form_in s))) e in true≢false (sym is ∙ e2))) (λ n e. ap is_some e)

-- a list form stays where texts are made
pub retexted_list : (Among : ℕ → Type 0) (g h : G) → Retexted form_table Among g h → (o : ℕ) → IsSome (list_at g o) → list_at h o ≡ list_at g o
retexted_list Among g h r o is = by_slot _ (at g o) (λ e. absurd (no_object g o e (listed_there g o is))) (λ n e. elim (r.kept o n e) [
  | inl same_n ↦ ap (λ s. list_in (form_in s)) (same_n ∙ sym e)
  | inr told ↦ ap (λ s. list_in (form_in s)) told.2 ∙ sym (ap (λ s. list_in (form_in s)) e)
])

-- an element whose text was made
pub has_made : (h : G) (list : Option (List ℕ)) (k p : ℕ) → IsSome list → ((ids : List ℕ) → list ≡ Some ids → Some p ≡ slice_get ids k) → IsSome (text_in (at h p)) → HasMade h list k
has_made h None k p is found made = absurd (cc)
has_made h (Some ids) k p is found made =
    let here : Some p ≡ slice_get ids k = found ids refl in
    let within : k < length ids = found_within ids k p here in
    let same : p ≡ get_or ids k 0 = (let e : Some p ≡ Some (get_or ids k 0) = here ∙ slice_get-get_or ids k 0 within in cc) in
    (within, subst (λ o. IsSome (text_in (at h o))) same made)
