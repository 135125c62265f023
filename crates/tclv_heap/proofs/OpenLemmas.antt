-- An object without a text takes another form, or none.
use Rattle.std.proofs.Common.{◌≡◌, ◌≢◌, ℕ, ◌<◌, inl, inr, List, [], ◌++◌, map, set, Option, Some, None, IsSome, refl, sym, ap, ◌∙◌, arith, subst}
use Rattle.tclv_heap.specs.declared.ids.Object.{Object}
use Rattle.tclv_heap.specs.Table.{Table}
use Rattle.tclv_heap.specs.Graph.{Graph, at, text_in, form_in, occurs, Updates, holds, form_parts, Takes, Leads}
use Rattle.tclv_heap.specs.Graph.Leads.{here, down}
use Rattle.tclv_heap.specs.Stands.{depth_of, depth_for, stands, IsSpoken, IsSound, IsClosed, FitsDepth}
use Rattle.tclv_heap.specs.Open.{IsOpen, IsClosedBut, IsUntold, IsBelow, SaysSameBelow, SaysByForm}
use Rattle.tclv_heap.proofs.GraphLemmas.{at_cases, some_is_there, Sound_reform, Updates_set}
use Rattle.tclv_heap.proofs.StandsLemmas.{Agrees, Agrees_kept, stands_same, stands_form, part_there, map_agree}
use Rattle.tclv_heap.specs.Holders.{Holders}
use Rattle.tclv_heap.proofs.CopyLemmas.{by_slot}
use Rattle.tclv_heap.proofs.HoldersLemmas.{Holders_change}

module _ {F : Type 0} (t : Table F) where
  -- an object without a text takes another form, or none, and no object above it has a text
  pub Spoken_change : (old new : Graph F) (o : ℕ) (m : Object F) → IsSpoken t old → Updates old new o (Some m) → m.text ≡ None → ((f : F) → m.form ≡ Some f → t.Spells f) → (m.form ≡ None → m.depth ≡ 0) → ((f : F) → m.form ≡ Some f → FitsDepth t old f m.depth) → IsBelow t.parts old o m.depth → ((f : F) (p : ℕ) → m.form ≡ Some f → 0 < occurs p (t.parts f) → p ≢ o) → IsUntold t.parts old o → ((x : ℕ) (n : Object F) (f : F) (p : ℕ) → at old x ≡ Some n → n.form ≡ Some f → 0 < occurs p (t.parts f) → (Leads t.parts old p o → ⊥) → stands t new p ≡ stands t old p) → IsSpoken t new
  Spoken_change old new o m spoken u none spells bare fits below apart untold says = record {
    spoken = λ x n f is no_text form. elim (at_cases old new o (Some m) u x) [
      | inl w ↦ let e : n ≡ m = cc in spells f (sym (ap (λ (y : Object F). y.form) e) ∙ form)
      | inr w ↦ spoken.spoken x n f (sym w.1 ∙ is) no_text form
    ];
    plain = λ x n is form. elim (at_cases old new o (Some m) u x) [
      | inl w ↦ let e : n ≡ m = cc in ap (λ (y : Object F). y.depth) e ∙ bare (sym (ap (λ (y : Object F). y.form) e) ∙ form)
      | inr w ↦ spoken.plain x n (sym w.1 ∙ is) form
    ];
    fitting = λ x n s f is text form. elim (at_cases old new o (Some m) u x) [
      | inl w ↦ let e : n ≡ m = cc in let e2 : None ≡ Some s = sym none ∙ sym (ap (λ (y : Object F). y.text) e) ∙ text in absurd (cc)
      | inr w ↦
          let was : at old x ≡ Some n = sym w.1 ∙ is in
          let same : map (stands t new) (t.parts f) ≡ map (stands t old) (t.parts f) =
          map_agree (stands t new) (stands t old) (t.parts f) (λ p i. says x n f p was form i (λ l.
          let holding : 0 < holds t.parts p (at old x) = omega (arith, i, ap (holds t.parts p) was, ap (λ y. occurs p (form_parts t.parts y)) form) in
          let no_text : None ≡ Some s = sym (untold x w.0 (down holding l)) ∙ ap text_in was ∙ text in
          absurd (cc))) in
          subst (t.Fits s f) (sym same) (spoken.fitting x n s f was text form)
    ];
    shallow = λ x n f is form. elim (at_cases old new o (Some m) u x) [
      | inl w ↦
          let e : n ≡ m = cc in
          let d = fits f (sym (ap (λ (y : Object F). y.form) e) ∙ form) in
          (omega (arith, d.low, ap (λ (y : Object F). y.depth) e), omega (arith, d.high, ap (λ (y : Object F). y.depth) e))
      | inr w ↦ spoken.shallow x n f (sym w.1 ∙ is) form
    ];
    above = λ x n f p is form i. elim (at_cases old new o (Some m) u x) [
      | inl w ↦
          let e : n ≡ m = cc in
          let form_m : m.form ≡ Some f = sym (ap (λ (y : Object F). y.form) e) ∙ form in
          omega (arith, (fits f form_m).above p i, ap depth_of (u.others p (apart f p form_m i)), ap (λ (y : Object F). y.depth) e)
      | inr w ↦
          let was : at old x ≡ Some n = sym w.1 ∙ is in
          elim (at_cases old new o (Some m) u p) [
            | inl v ↦
                let i_o : 0 < occurs o (t.parts f) = subst (λ y. 0 < occurs y (t.parts f)) v.0 i in
                omega (arith, below x n was (omega (arith, i_o, ap (λ y. occurs o (form_parts t.parts y)) form)), ap depth_of v.1, ap (λ y. depth_for y m.depth) none)
            | inr v ↦ omega (arith, spoken.above x n f p was form i, ap depth_of v.1)
          ]
    ];
  }

  -- an object without a text takes another form, or none
  pub Valid_change : (old new : Graph F) (o : ℕ) (n m : Object F) → IsSound t old → at old o ≡ Some n → Updates old new o (Some m) → m.text ≡ None → m.count ≡ n.count → m.next ≡ n.next → ((f : F) → m.form ≡ Some f → t.Spells f) → (m.form ≡ None → m.depth ≡ 0) → ((f : F) → m.form ≡ Some f → FitsDepth t old f m.depth) → IsBelow t.parts old o m.depth → Takes t.parts old (form_parts t.parts m.form) → ((p : ℕ) → 0 < occurs p (form_parts t.parts m.form) → Leads t.parts old p o → ⊥) → IsUntold t.parts old o → IsSound t new × Takes t.parts new (form_parts t.parts n.form) × SaysSameBelow t o old new
  Valid_change old new o n m valid was u none count next spells bare fits below takes apart untold =
      let sound = Sound_reform t.parts old new o n m valid.sound was u count next takes apart in
      let says : SaysSameBelow t o old new = λ x away there. stands_same t old new valid.spoken (λ y. (Leads t.parts old y o → ⊥) × IsSome (at old y)) agrees x (away, there) in
      let part_apart : (f : F) (p : ℕ) → m.form ≡ Some f → 0 < occurs p (t.parts f) → p ≢ o =
      λ f p form i e. apart p (omega (arith, i, ap (λ x. occurs p (form_parts t.parts x)) form)) (subst (λ y. Leads t.parts old p y) e here) in
      let now = Spoken_change old new o m valid.spoken u none spells bare fits below part_apart untold (λ x y f p is form i away. says p away (part_there t old valid.sound.there x y f p is form i)) in
      (record { sound = sound.0; spoken = now }, sound.1, says)
    where
      agrees : (x : ℕ) → (Leads t.parts old x o → ⊥) × IsSome (at old x) → Agrees t (λ y. (Leads t.parts old y o → ⊥) × IsSome (at old y)) old new x
      agrees x ok = by_slot _ (at old x) (λ e. absurd (some_is_there old x e ok.1)) (λ y e.
          let ne : x ≢ o = λ same_x. ok.0 (subst (λ z. Leads t.parts old x z) same_x here) in
          Agrees_kept t _ old new valid.spoken x y y e (u.others x ne ∙ e) refl refl (λ f form p i. (
            (λ l. ok.0 (down (omega (arith, i, ap (holds t.parts p) e, ap (λ z. occurs p (form_parts t.parts z)) form)) l)),
            part_there t old valid.sound.there x y f p e form i,
          )))

  -- `take_form`
  pub Take : (g : Graph F) (o : ℕ) (n m : Object F) (f : F) → IsSound t g → at g o ≡ Some n → n.form ≡ Some f → m.text ≡ None → m.form ≡ None → m.depth ≡ 0 → m.count ≡ n.count → m.next ≡ n.next → IsUntold t.parts g o → IsSound t (set g o (Some m)) × Takes t.parts (set g o (Some m)) (t.parts f) × SaysSameBelow t o g (set g o (Some m))
  Take g o n m f valid is form none no_form depth count next untold =
      let below : IsBelow t.parts g o m.depth = λ x y at_x h. by_form x y at_x h y.form refl in
      let v = Valid_change g (set g o (Some m)) o n m valid is (Updates_set g o n (Some m) is) none count next (λ f e. absurd (cc)) (λ _. depth) (λ f e. absurd (cc)) below
      (λ p i. absurd (omega (arith, i, ap (λ x. occurs p (form_parts t.parts x)) no_form))) (λ p i. absurd (omega (arith, i, ap (λ x. occurs p (form_parts t.parts x)) no_form))) untold in
      (v.0, subst (λ x. Takes t.parts (set g o (Some m)) (form_parts t.parts x)) form v.1, v.2)
    where
      by_form : (x : ℕ) (y : Object F) → at g x ≡ Some y → 0 < holds t.parts o (Some y) → (z : Option F) → y.form ≡ z → m.depth < y.depth
      by_form x y at_x h None e = absurd (omega (arith, h, ap (λ x. occurs o (form_parts t.parts x)) e))
      by_form x y at_x h (Some f) e = omega (arith, depth, (valid.spoken.shallow x y f at_x e).0)

  -- `put_form`
  pub Put : (g : Graph F) (o : ℕ) (n m : Object F) (f : F) → IsSound t g → at g o ≡ Some n → IsOpen (at g o) → m.text ≡ n.text → m.form ≡ Some f → m.count ≡ n.count → m.next ≡ n.next → t.Spells f → FitsDepth t g f m.depth → IsBelow t.parts g o m.depth → Takes t.parts g (t.parts f) → ((p : ℕ) → 0 < occurs p (t.parts f) → Leads t.parts g p o → ⊥) → IsUntold t.parts g o → IsSound t (set g o (Some m)) × (stands t (set g o (Some m)) o ≡ t.spelled f (map (stands t g) (t.parts f))) × SaysSameBelow t o g (set g o (Some m))
  Put g o n m f valid is opened text form count next spells fits below takes apart untold =
      let new = set g o (Some m) in
      let u = Updates_set g o n (Some m) is in
      let is_open : (n.text ≡ None) × (n.form ≡ None) = subst IsOpen is opened in
      let is_f : (h : F) → m.form ≡ Some h → f ≡ h = λ h e. let e2 : Some f ≡ Some h = sym form ∙ e in cc in
      let v = Valid_change g new o n m valid is u (text ∙ is_open.0) count next (λ h e. subst t.Spells (is_f h e) spells) (λ e. absurd (let e2 : Some f ≡ None = sym form ∙ e in cc)) (λ h e. subst (λ x. FitsDepth t g x m.depth) (is_f h e) fits) below
      (subst (λ x. Takes t.parts g (form_parts t.parts x)) (sym form) takes)
      (subst (λ x. (p : ℕ) → 0 < occurs p (form_parts t.parts x) → Leads t.parts g p o → ⊥) (sym form) apart) untold in
      (v.0, stands_form t new v.0.spoken o m f u.changed (text ∙ is_open.0) form ∙ ap (t.spelled f) (map_agree (stands t new) (stands t g) (t.parts f) (λ p i. v.2 p (apart p i) (takes p i).there)), v.2)

  -- what the form spells
  pub says_by_form : (g : Graph F) → IsSpoken t g → SaysByForm t g
  says_by_form g spoken x f form none = by_slot _ (at g x)
      (λ e. absurd (let e2 : None ≡ Some f = sym (ap form_in e) ∙ form in cc))
      (λ n e. stands_form t g spoken x n f e (sym (ap text_in e) ∙ none) (sym (ap form_in e) ∙ form))

  -- the holders, as the form goes out and as it comes in
  pub Holders_take : (g : Graph F) (o : ℕ) (n m : Object F) (f : F) (ids : List ℕ) → Holders t.parts g ids → at g o ≡ Some n → n.form ≡ Some f → m.form ≡ None → m.count ≡ n.count → Takes t.parts (set g o (Some m)) (t.parts f) → Holders t.parts (set g o (Some m)) (t.parts f ++ ids)
  Holders_take g o n m f ids holders is form no_form count takes =
      let of_f : form_parts t.parts n.form ≡ t.parts f = ap (form_parts t.parts) form in
      let before : Holders t.parts g (form_parts t.parts m.form ++ ids) = subst (λ x. Holders t.parts g (form_parts t.parts x ++ ids)) (sym no_form) holders in
      subst (λ ps. Holders t.parts (set g o (Some m)) (ps ++ ids)) of_f (Holders_change t.parts g (set g o (Some m)) o n m ids before is (Updates_set g o n (Some m) is) count (subst (Takes t.parts (set g o (Some m))) (sym of_f) takes))

  pub Holders_put : (g : Graph F) (o : ℕ) (n m : Object F) (f : F) (ids : List ℕ) → Holders t.parts g (t.parts f ++ ids) → at g o ≡ Some n → IsOpen (at g o) → m.form ≡ Some f → m.count ≡ n.count → Holders t.parts (set g o (Some m)) ids
  Holders_put g o n m f ids holders is opened form count =
      let is_open : (n.text ≡ None) × (n.form ≡ None) = subst IsOpen is opened in
      let none : form_parts t.parts n.form ≡ [] = ap (form_parts t.parts) is_open.1 in
      let before : Holders t.parts g (form_parts t.parts m.form ++ ids) = subst (λ x. Holders t.parts g (form_parts t.parts x ++ ids)) (sym form) holders in
      subst (λ ps. Holders t.parts (set g o (Some m)) (ps ++ ids)) none (Holders_change t.parts g (set g o (Some m)) o n m ids before is (Updates_set g o n (Some m) is) count (λ p i. absurd (omega (arith, i, ap (occurs p) none))))

module _ {F : Type 0} where
  pub Closed_but : (old new : Graph F) (o : ℕ) (slot : Option (Object F)) → IsClosed old → Updates old new o slot → IsClosedBut new o
  Closed_but old new o slot closed u x ne n is none = closed x n (sym (u.others x ne) ∙ is) none

  pub Closed_again : (old new : Graph F) (o : ℕ) (m : Object F) → IsClosedBut old o → Updates old new o (Some m) → (m.text ≡ None → IsSome m.form) → IsClosed new
  Closed_again old new o m closed u tells x n is none = elim (at_cases old new o (Some m) u x) [
    | inl w ↦ let e : m ≡ n = (let e2 : Some m ≡ Some n = sym w.1 ∙ is in cc) in subst (λ (y : Object F). y.text ≡ None → IsSome y.form) e tells none
    | inr w ↦ closed x w.0 n (sym w.1 ∙ is) none
  ]
