-- A text that gets longer in place.
use Rattle.std.proofs.Common.{◌≡◌, ◌≢◌, ℕ, ◌<◌, List, [], ◌++◌, set, Option, Some, None, IsSome, is_some, refl, sym, ap, ◌∙◌, arith, subst}
use Rattle.std.proofs.lemmas.List.{set-set, set-get_or, get_or-set_same, get_or-set_other}
use Rattle.tclv_heap.specs.declared.ids.Object.{Object}
use Rattle.tclv_heap.specs.Table.{Table}
use Rattle.tclv_heap.specs.Graph.{Graph, at, count_in, text_in, retexted, occurs, Updates, held, holds, form_parts, IsCounted, Takes, Leads}
use Rattle.tclv_heap.specs.Dying.{Dying}
use Rattle.tclv_heap.specs.Stands.{depth_for, stands, IsSpoken, IsSound, IsClosed, SaysSameBut, HasText}
use Rattle.tclv_heap.specs.Holders.{Holders}
use Rattle.tclv_heap.proofs.CopyLemmas.{by_slot}
use Rattle.tclv_heap.proofs.GraphLemmas.{some_is_there, there_within, holds_le_held, held_updates, Sound_reform, Updates_set}
use Rattle.tclv_heap.proofs.StandsLemmas.{Speaks, Spoken_write, Agrees, Agrees_kept, stands_same, stands_text, part_there}
use Rattle.tclv_heap.proofs.HeapLemmas.{Valid_release, still_there, some_value, stands_text_in}
use Rattle.tclv_heap.proofs.HoldersLemmas.{Holders_change, Holders_release, Closed_updates, Closed_release}

module _ {F : Type 0} where
  -- what was read after the first write
  read_back : (g : Graph F) (o : ℕ) (n m r : Object F) → at g o ≡ Some n → at (set g o (Some m)) o ≡ Some r → r ≡ m
  read_back g o n m r is read = let e : Some r ≡ Some m = sym read ∙ get_or-set_same g o (Some m) None (there_within g o n is) in cc

  -- the text was taken out and put back
  pub put_back : (g : Graph F) (o : ℕ) (n r : Object F) (x : Option (List ℕ)) (s : List ℕ) → at g o ≡ Some n → at (set g o (Some (record n { text = x }))) o ≡ Some r → n.text ≡ Some s → set (set g o (Some (record n { text = x }))) o (Some (record r { text = Some s })) ≡ g
  put_back g o n r x s is read text =
      let back : record r { text = Some s } ≡ n = ap (λ (y : Object F). record y { text = Some s }) (read_back g o n _ r is read) ∙ ap (λ y. record n { text = y }) (sym text) in
      set-set g o _ _ ∙ ap (λ y. set g o (Some y)) back ∙ ap (set g o) (sym is) ∙ set-get_or g o None

  -- the text was taken out, made longer and put back, and the form taken away
  pub put_longer : (g : Graph F) (o q : ℕ) (n r y : Object F) (x : Option (List ℕ)) (s t joined : List ℕ) (f taken : Option F) → at g o ≡ Some n → n.text ≡ Some s → q ≢ o → at (set g o (Some (record n { text = x }))) o ≡ Some r → at (set g o (Some (record n { text = x }))) q ≡ Some y → y.text ≡ Some t → joined ≡ s ++ t → f ≡ None → taken ≡ r.form → (n1 : Object F) (s1 t1 : List ℕ) → at g o ≡ Some n1 → n1.text ≡ Some s1 → text_in (at g q) ≡ Some t1 → (set (set g o (Some (record n { text = x }))) o (Some (record r { text = Some joined; form = f; depth = 0 })) ≡ set g o (Some (retexted n1 (s1 ++ t1)))) × (taken ≡ n1.form)
  put_longer g o q n r y x s t joined f taken is text other read_o read_q text_q join no_form took n1 s1 t1 is1 text1 textq =
      let e_n : n ≡ n1 = (let e : Some n ≡ Some n1 = sym is ∙ is1 in cc) in
      let e_s : s ≡ s1 = (let e : Some s ≡ Some s1 = sym text ∙ ap (λ (z : Object F). z.text) e_n ∙ text1 in cc) in
      let at_q : at g q ≡ Some y = sym (get_or-set_other g o q (Some (record n { text = x })) None other) ∙ read_q in
      let e_t : t ≡ t1 = (let e : Some t ≡ Some t1 = sym (ap text_in at_q ∙ text_q) ∙ textq in cc) in
      let e_r = read_back g o n (record n { text = x }) r is read_o in
      let e_joined : joined ≡ s1 ++ t1 = join ∙ ap (λ z. z ++ t) e_s ∙ ap (λ z. s1 ++ z) e_t in
      let same : record r { text = Some joined; form = f; depth = 0 } ≡ retexted n1 (s1 ++ t1) =
      ap (λ (z : Object F). record z { text = Some joined; form = f; depth = 0 }) e_r
      ∙ ap (λ (z : Object F). record z { text = Some joined; form = f; depth = 0 }) e_n
      ∙ ap (λ z. record n1 { text = Some z; form = f; depth = 0 }) e_joined
      ∙ ap (λ z. record n1 { text = Some (s1 ++ t1); form = z; depth = 0 }) no_form in
      (set-set g o _ _ ∙ ap (λ z. set g o (Some z)) same, took ∙ ap (λ (z : Object F). z.form) e_r ∙ ap (λ (z : Object F). z.form) e_n)

module _ {F : Type 0} (t : Table F) where
  -- another object, which is there
  abbrev Apart : Graph F → ℕ → ℕ → Type 0
  Apart old o x = (x ≢ o) × IsSome (at old x)

  -- another text, without a form, for an object that is no part
  pub Valid_text : (old new : Graph F) (o : ℕ) (n m : Object F) (s : List ℕ) → IsSound t old → at old o ≡ Some n → held t.parts old o ≡ 0 → Updates old new o (Some m) → m.text ≡ Some s → m.form ≡ None → m.depth ≡ 0 → m.count ≡ n.count → m.next ≡ n.next → IsSound t new × Takes t.parts new (form_parts t.parts n.form) × ((p : ℕ) → p ≢ o → IsSome (at old p) → stands t new p ≡ stands t old p) × (stands t new o ≡ s)
  Valid_text old new o n m s valid was free u text form plain count next =
      let takes_m : Takes t.parts old (form_parts t.parts m.form) = subst (λ x. Takes t.parts old (form_parts t.parts x)) (sym form) (λ p i. absurd (omega (arith, i))) in
      let apart_m : (p : ℕ) → 0 < occurs p (form_parts t.parts m.form) → Leads t.parts old p o → ⊥ = subst (λ x. (p : ℕ) → 0 < occurs p (form_parts t.parts x) → Leads t.parts old p o → ⊥) (sym form) (λ p i. absurd (omega (arith, i))) in
      let sound = Sound_reform t.parts old new o n m valid.sound was u count next takes_m apart_m in
      let speaks : Speaks t old o m = record {
        spoken = λ g none e. absurd (cc);
        plain = λ _. plain;
        fitting = λ s2 g e1 e2. absurd (let e3 : None ≡ Some g = sym form ∙ e2 in cc);
        shallow = λ g e. absurd (let e3 : None ≡ Some g = sym form ∙ e in cc);
        parts = λ g e. absurd (let e3 : None ≡ Some g = sym form ∙ e in cc);
      } in
      let now : IsSpoken t new = Spoken_write t old new o m valid.spoken valid.sound.there u speaks (λ p there held_o. says p (λ e. omega (arith, held_o e)) there) (λ x h. omega (arith, ap (λ y. depth_for y m.depth) text)) in
      (record { sound = sound.0; spoken = now }, sound.1, says, stands_text t new now o m s u.changed text)
    where
      each : (x : ℕ) → Apart old o x → Agrees t (Apart old o) old new x
      each x some = from_slot (at old x) refl
        where
          from_slot : (slot : Option (Object F)) → at old x ≡ slot → Agrees t (Apart old o) old new x
          from_slot None e = absurd (some_is_there old x e some.1)
          from_slot (Some y) e = Agrees_kept t _ old new valid.spoken x y y e (u.others x some.0 ∙ e) refl refl (λ f form2 p i.
              let holding : 0 < holds t.parts p (at old x) = omega (arith, i, ap (holds t.parts p) e, ap (λ z. occurs p (form_parts t.parts z)) form2) in
              (λ same. omega (arith, holding, holds_le_held t.parts old x p, ap (held t.parts old) same), part_there t old valid.sound.there x y f p e form2 i))

      says : (p : ℕ) → p ≢ o → IsSome (at old p) → stands t new p ≡ stands t old p
      says p ne there = stands_same t old new valid.spoken (Apart old o) each p (ne, there)

  -- `add_text`, with the release of the old form's parts
  pub record Added (g new : Graph F) (o q : ℕ) : Type 0 where
    pub valid : IsSound t new
    pub text : HasText t new o (stands t g o ++ stands t g q)
    pub says : SaysSameBut t o g new
    pub holders : (ids : List ℕ) → Holders t.parts g ids → Holders t.parts new ids
    pub closed : IsClosed g → IsClosed new

  pub Add_text : (g : Graph F) (o q : ℕ) (n : Object F) (s u : List ℕ) → IsSound t g → at g o ≡ Some n → n.text ≡ Some s → text_in (at g q) ≡ Some u → held t.parts g o ≡ 0 → IsSound t (set g o (Some (retexted n (s ++ u)))) × Takes t.parts (set g o (Some (retexted n (s ++ u)))) (form_parts t.parts n.form)
  Add_text g o q n s u valid is text textq free =
      let m : Object F = retexted n (s ++ u) in
      let r = Valid_text g (set g o (Some m)) o n m (s ++ u) valid is free (Updates_set g o n (Some m) is) refl refl refl refl refl in
      (r.0, r.1)

  pub Add_text_done : (g new : Graph F) (o q : ℕ) (n : Object F) (s u : List ℕ) → IsSound t g → at g o ≡ Some n → n.text ≡ Some s → text_in (at g q) ≡ Some u → n.count ≡ 1 → held t.parts g o ≡ 0 → Dying t.parts (set g o (Some (retexted n (s ++ u)))) (form_parts t.parts n.form) [] new → IsCounted t.parts new → Added g new o q
  Add_text_done g new o q n s u valid is text textq one free dying sound =
      let m : Object F = retexted n (s ++ u) in
      let mid = set g o (Some m) in
      let up = Updates_set g o n (Some m) is in
      let r = Valid_text g mid o n m (s ++ u) valid is free up refl refl refl refl refl in
      let rel = Valid_release t mid new (form_parts t.parts n.form) r.0 dying sound in
      let free_mid : held t.parts mid o ≡ 0 = omega (arith, held_updates t.parts g mid o (Some m) up o, free) in
      let free_form : occurs o (form_parts t.parts n.form) ≡ 0 = omega (arith, holds_le_held t.parts g o o, ap (holds t.parts o) is, free) in
      let not_gone : at new o ≡ None → ⊥ = λ none. omega (arith, (dying.gone o m up.changed none).1, free_mid, free_form, one) in
      let joined : s ++ u ≡ stands t g o ++ stands t g q = ap (λ x. x ++ u) (sym (stands_text t g valid.spoken o n s is text)) ∙ ap (λ x. stands t g o ++ x) (sym (stands_text_in t g valid.spoken q u textq)) in
      let text_new : text_in (at new o) ≡ Some (s ++ u) = by_slot (text_in (at new o) ≡ Some (s ++ u)) (at new o) (λ e. absurd (not_gone e)) (λ x e.
      let k = dying.kept o x e in
      let same_w : k.0 ≡ m = (let e2 : Some (k.0) ≡ Some m = sym k.1 ∙ up.changed in cc) in
      ap text_in e ∙ k.2.text ∙ ap (λ (z : Object F). z.text) same_w) in
      record {
        valid = rel.0;
        text = record { text = text_new ∙ ap Some joined; said = stands_text_in t new rel.0.spoken o (s ++ u) text_new ∙ joined };
        says = λ p ne was now. rel.1 p (still_there t g o n m is p was) now ∙ r.2 p ne was;
        holders = λ ids holders. Holders_release t.parts mid new (form_parts t.parts n.form) ids (Holders_change t.parts g mid o n m ids holders is up refl r.1) dying;
        closed = λ closed. Closed_release t.parts mid new (form_parts t.parts n.form) (Closed_updates g mid o m closed up (λ none. absurd (cc))) dying;
      }

  pub object_with_text : (g : Graph F) (o : ℕ) → IsSome (text_in (at g o)) → (n : Object F) × (s : List ℕ) × (at g o ≡ Some n) × (n.text ≡ Some s)
  object_with_text g o has = from_slot (at g o) refl
    where
      from_slot : (slot : Option (Object F)) → at g o ≡ slot → (n : Object F) × (s : List ℕ) × (at g o ≡ Some n) × (n.text ≡ Some s)
      from_slot None e = absurd (let e2 = ap (λ x. is_some (text_in x)) e in cc)
      from_slot (Some n) e = let s = some_value t n.text (sym (ap (λ x. is_some (text_in x)) e) ∙ has) in (n, s.0, e, s.1)

  -- `add_text`, by what the call knows
  module _ (g : Graph F) (o q : ℕ) (valid : IsSound t g) (has : IsSome (text_in (at g o))) (has_q : IsSome (text_in (at g q))) (one : count_in (at g o) ≡ 1) (free : held t.parts g o ≡ 0) (mid : Graph F) (form : Option F) (extended : (n : Object F) (s u : List ℕ) → at g o ≡ Some n → n.text ≡ Some s → text_in (at g q) ≡ Some u → (mid ≡ set g o (Some (retexted n (s ++ u)))) × (form ≡ n.form)) where
    pub Add_start : IsCounted t.parts mid × Takes t.parts mid (form_parts t.parts form)
    Add_start =
        let x = object_with_text g o has in
        let y = some_value t (text_in (at g q)) has_q in
        let e = extended x.0 x.1 y.0 x.2 x.3 y.1 in
        let r = Add_text g o q x.0 x.1 y.0 valid x.2 x.3 y.1 free in
        let takes : Takes t.parts mid (form_parts t.parts (x.0).form) = subst (λ z. Takes t.parts z (form_parts t.parts (x.0).form)) (sym e.0) r.1 in
        (subst (IsCounted t.parts) (sym e.0) r.0.sound, subst (λ f. Takes t.parts mid (form_parts t.parts f)) (sym e.1) takes)

    pub Add_end : (new : Graph F) → Dying t.parts mid (form_parts t.parts form) [] new → IsCounted t.parts new → Added g new o q × ((n : Object F) → at g o ≡ Some n → Dying t.parts (set g o (Some (retexted n (stands t g o ++ stands t g q)))) (form_parts t.parts n.form) [] new)
    Add_end new dying sound =
        let x = object_with_text g o has in
        let y = some_value t (text_in (at g q)) has_q in
        let n : Object F = x.0 in
        let s : List ℕ = x.1 in
        let u : List ℕ = y.0 in
        let e = extended n s u x.2 x.3 y.1 in
        let dying1 : Dying t.parts mid (form_parts t.parts n.form) [] new = subst (λ f. Dying t.parts mid (form_parts t.parts f) [] new) e.1 dying in
        let dying2 : Dying t.parts (set g o (Some (retexted n (s ++ u)))) (form_parts t.parts n.form) [] new = subst (λ z. Dying t.parts z (form_parts t.parts n.form) [] new) e.0 dying1 in
        let joined : s ++ u ≡ stands t g o ++ stands t g q = ap (λ z. z ++ u) (sym (stands_text t g valid.spoken o n s x.2 x.3)) ∙ ap (λ z. stands t g o ++ z) (sym (stands_text_in t g valid.spoken q u y.1)) in
        let dying3 : Dying t.parts (set g o (Some (retexted n (stands t g o ++ stands t g q)))) (form_parts t.parts n.form) [] new = subst (λ z. Dying t.parts (set g o (Some (retexted n z))) (form_parts t.parts n.form) [] new) joined dying2 in (
          Add_text_done g new o q n s u valid x.2 x.3 y.1 (sym (ap count_in x.2) ∙ one) free dying2 sound,
          λ n1 is1.
              let same : n ≡ n1 = (let e2 : Some n ≡ Some n1 = sym x.2 ∙ is1 in cc) in
              subst (λ (z : Object F). Dying t.parts (set g o (Some (retexted z (stands t g o ++ stands t g q)))) (form_parts t.parts z.form) [] new) same dying3,
        )
