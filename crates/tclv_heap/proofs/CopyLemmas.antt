-- More holders, and copies.
use Rattle.std.proofs.Common.{◌≡◌, ℕ, ◌+◌, ◌<◌, ◌≤◌, inl, inr, List, [], ◌∷◌, ◌++◌, map, min, Option, Some, None, IsSome, is_some, cond, refl, sym, ap, ◌∙◌, arith, subst}
use Rattle.std.specs.Prelude.{eqb}
use Rattle.std.proofs.lemmas.List.Sums.{sum_by_push}
use Rattle.tclv_heap.specs.declared.ids.Object.{Object}
use Rattle.tclv_heap.specs.Table.{Table, Alike}
use Rattle.tclv_heap.specs.Graph.{Graph, stuck, at, text_in, form_in, depth_in, occurs, same, Updates, held, holds, form_parts, IsCounted, Takes, Shared}
use Rattle.tclv_heap.specs.Stands.{stands, IsSound, FitsDepth, Copies, Duplicates, Tells, HasForm}
use Rattle.tclv_heap.specs.Stands.Copies.{plain, spelt, unspelt}
use Rattle.tclv_heap.proofs.SumLemmas.{sum_alike}
use Rattle.tclv_heap.proofs.GraphLemmas.{at_cases, some_is_there, Grounded_fewer, held_updates}
use Rattle.tclv_heap.proofs.DyingLemmas.{same_yes, same_no}
use Rattle.tclv_heap.proofs.StandsLemmas.{Kept, SaysSame_kept, Spoken_kept, stands_form, said_by_agree, part_there}
use Rattle.tclv_heap.proofs.HeapLemmas.{Valid_insert}

pub occurs_push : (x o : ℕ) (ids : List ℕ) → occurs x (ids ++ o ∷ []) ≡ occurs x ids + same x o
occurs_push x o ids = sum_by_push (λ y. cond (eqb x y) 1 0) ids o

module _ {F : Type 0} where
  pub by_slot : (P : Type 0) (s : Option (Object F)) → (s ≡ None → P) → ((n : Object F) → s ≡ Some n → P) → P
  by_slot P None none some = none refl
  by_slot P (Some n) none some = some n refl

  pub Shared_before : (old new : Graph F) (ids : List ℕ) → Shared old ids new → (o : ℕ) (n : Object F) → at new o ≡ Some n → (w : Object F) × (at old o ≡ Some w) × (n ≡ record w { count = min (w.count + occurs o ids) stuck })
  Shared_before old new ids s o n is = by_slot _ (at old o) (λ e. absurd (let e2 : None ≡ Some n = sym (s.none o e) ∙ is in cc)) (λ w e. (w, e, let e2 : Some n ≡ Some (record w { count = min (w.count + occurs o ids) stuck }) = sym is ∙ s.kept o w e in cc))

  pub Shared_start : (g : Graph F) → ((o : ℕ) (n : Object F) → at g o ≡ Some n → n.count ≤ stuck) → Shared g [] g
  Shared_start g low = record {
    kept = λ o n is. is ∙ ap (λ c. Some (record n { count = c })) (let h = low o n is in omega arith);
    none = λ o e. e;
  }

  -- one more holder
  pub Shared_more : (g mid new : Graph F) (ids more : List ℕ) (p : ℕ) (r : Object F) (c : ℕ) → more ≡ ids ++ p ∷ [] → Shared g ids mid → at mid p ≡ Some r → c ≡ min (r.count + 1) stuck → Updates mid new p (Some (record r { count = c })) → Shared g more new
  Shared_more g mid new ids more p r c grows s is count u = record {
    kept = λ o n was. elim (at_cases mid new p _ u o) [
      | inl w ↦
          let e : r ≡ record n { count = min (n.count + occurs o ids) stuck } = (let e2 : Some r ≡ Some (record n { count = min (n.count + occurs o ids) stuck }) = sym is ∙ ap (at mid) (sym w.0) ∙ s.kept o n was in cc) in
          let same_count : c ≡ min (n.count + occurs o more) stuck = omega (arith, count, ap (λ (y : Object F). y.count) e, ap (occurs o) grows, occurs_push o p ids, same_yes o p w.0) in
          w.1 ∙ ap (λ (y : Object F). Some (record y { count = c })) e ∙ ap (λ z. Some (record n { count = z })) same_count
      | inr w ↦
          let same_count : min (n.count + occurs o ids) stuck ≡ min (n.count + occurs o more) stuck = omega (arith, ap (occurs o) grows, occurs_push o p ids, same_no o p w.0) in
          w.1 ∙ s.kept o n was ∙ ap (λ z. Some (record n { count = z })) same_count
    ];
    none = λ o e. elim (at_cases mid new p _ u o) [
      | inl w ↦ let e2 : None ≡ Some r = sym (s.none o e) ∙ ap (at mid) w.0 ∙ is in absurd (cc)
      | inr w ↦ w.1 ∙ s.none o e
    ];
  }

module _ {F : Type 0} (t : Table F) where
  pub held_alike : (old mid : Graph F) (p : ℕ) → ((o : ℕ) → holds t.parts p (at mid o) ≡ holds t.parts p (at old o)) → held t.parts mid p ≡ held t.parts old p
  unfolding held
  held_alike old mid p h = sum_alike (holds t.parts p) refl old mid h

  pub Valid_shared : (old mid : Graph F) (ids : List ℕ) → IsSound t old → Shared old ids mid → ((p : ℕ) → 0 < occurs p ids → IsSome (at old p)) → IsSound t mid × Takes t.parts mid ids × ((x : ℕ) → IsSome (at old x) → stands t mid x ≡ stands t old x) × ((p : ℕ) → held t.parts mid p ≡ held t.parts old p)
  Valid_shared old mid ids valid s there =
      let alike : (o p : ℕ) → holds t.parts p (at mid o) ≡ holds t.parts p (at old o) =
      λ o p. by_slot _ (at old o)
      (λ e. ap (holds t.parts p) (s.none o e ∙ sym e))
      (λ n e. ap (holds t.parts p) (s.kept o n e) ∙ sym (ap (holds t.parts p) e)) in
      let keeps : (p : ℕ) → held t.parts mid p ≡ held t.parts old p = λ p. held_alike old mid p (λ o. alike o p) in
      let before = Shared_before old mid ids s in
      let gone : (p : ℕ) → at mid p ≡ None → at old p ≡ None = λ p none. by_slot _ (at old p) (λ e. e) (λ n e. absurd (let e2 : None ≡ Some (record n { count = min (n.count + occurs p ids) stuck }) = sym none ∙ s.kept p n e in cc)) in
      let sound : IsCounted t.parts mid = record {
        there = λ p none. keeps p ∙ valid.sound.there p (gone p none);
        counts = λ o n is.
            let b = before o n is in
            let c = valid.sound.counts o b.0 b.1 in
            let e : n.count ≡ min (b.0.count + occurs o ids) stuck = ap (λ (y : Object F). y.count) b.2 in
            (omega (arith, e, c.0), omega (arith, e, c.1));
        counted = λ o n is loose.
            let b = before o n is in
            let e : n.count ≡ min (b.0.count + occurs o ids) stuck = ap (λ (y : Object F). y.count) b.2 in
            let c = valid.sound.counts o b.0 b.1 in
            omega (arith, keeps o, e, loose, valid.sound.counted o b.0 b.1 (λ stays. loose (omega (arith, e, stays))));
        grounded = λ x. Grounded_fewer t.parts old mid (λ y p h. omega (arith, h, alike y p)) x (valid.sound.grounded x);
        unlinked = λ o n is. let b = before o n is in ap (λ (y : Object F). y.next) b.2 ∙ valid.sound.unlinked o b.0 b.1;
      } in
      let kept : (x : ℕ) (y : Object F) → at mid x ≡ Some y → Kept t old mid x y =
      λ x y is. let b = before x y is in record { before = b.0; was = b.1; text = ap (λ (z : Object F). z.text) b.2; form = ap (λ (z : Object F). z.form) b.2; depth = ap (λ (z : Object F). z.depth) b.2 } in
      let stays : (p : ℕ) → IsSome (at old p) → IsSome (at mid p) = λ p h. by_slot _ (at old p) (λ e. absurd (some_is_there old p e h)) (λ n e. ap is_some (s.kept p n e)) in (
        record { sound = sound; spoken = Spoken_kept t old mid valid.spoken sound.there kept },
        (λ p some. record {
          there = stays p (there p some);
          outside = λ n is loose.
              let b = before p n is in
              let e : n.count ≡ min (b.0.count + occurs p ids) stuck = ap (λ (y : Object F). y.count) b.2 in
              omega (arith, keeps p, e, loose, valid.sound.counted p b.0 b.1 (λ s2. loose (omega (arith, e, s2))));
        }),
        (λ x h. SaysSame_kept t old mid valid.spoken sound.there kept x (stays x h)),
        keeps,
      )

  -- the parts of a copy
  pub Copies_parts : (n : Object F) (text : Option (List ℕ)) (form : Option F) → Copies t n text form → form_parts t.parts form ≡ form_parts t.parts n.form
  Copies_parts n text form (plain a b c) = ap (form_parts t.parts) (b ∙ sym a)
  Copies_parts n text form (spelt a b k s c) = ap (form_parts t.parts) b ∙ k.parts ∙ sym (ap (form_parts t.parts) a)
  Copies_parts n text form (unspelt a b k s c) = ap (form_parts t.parts) b ∙ k.parts ∙ sym (ap (form_parts t.parts) a)

  pub copied_there : (g : Graph F) (o : ℕ) (n : Object F) (text : Option (List ℕ)) (form : Option F) → IsSound t g → at g o ≡ Some n → Copies t n text form → (p : ℕ) → 0 < occurs p (form_parts t.parts form) → IsSome (at g p)
  copied_there g o n text form valid is copies p i = by_form n.form refl
    where
      i_n : 0 < occurs p (form_parts t.parts n.form)
      i_n = subst (λ ps. 0 < occurs p ps) (Copies_parts n text form copies) i

      by_form : (x : Option F) → n.form ≡ x → IsSome (at g p)
      by_form None e = absurd (omega (arith, i_n, ap (λ x. occurs p (form_parts t.parts x)) e))
      by_form (Some f) e = part_there t g valid.sound.there o n f p is e (omega (arith, i_n, ap (λ x. occurs p (form_parts t.parts x)) e))

  spoken_copy : (g : Graph F) (o : ℕ) (n : Object F) (text : Option (List ℕ)) (form : Option F) → IsSound t g → at g o ≡ Some n → (n.text ≡ None → IsSome n.form) → Copies t n text form → text ≡ None → (f : F) × (form ≡ Some f) × t.Spells f
  spoken_copy g o n text form valid is tells (plain a b c) none = absurd (let h = tells (sym c ∙ none) in cc)
  spoken_copy g o n text form valid is tells (spelt {f = f} {d = d} a b k s c) none = (d, b, k.spells.1 s)
  spoken_copy g o n text form valid is tells (unspelt {f = f} {d = d} a b k s c) none = absurd (s (valid.spoken.spoken o n f is (sym c ∙ none) a))

  fits_copy : (g : Graph F) (o : ℕ) (n : Object F) (text : Option (List ℕ)) (form : Option F) → IsSound t g → at g o ≡ Some n → Copies t n text form → (s : List ℕ) (h : F) → text ≡ Some s → form ≡ Some h → t.Fits s h (map (stands t g) (t.parts h))
  fits_copy g o n text form valid is (plain a b c) s h e f = absurd (cc)
  fits_copy g o n text form valid is (spelt a b k sp c) s h e f = absurd (cc)
  fits_copy g o n text form valid is (unspelt {f = f0} {d = d} a b k sp c) s h e f =
      let same_form : d ≡ h = (let e2 : Some d ≡ Some h = sym b ∙ f in cc) in
      let fit : t.Fits s d (map (stands t g) (t.parts f0)) = (k.fits s _).1 (valid.spoken.fitting o n s f0 is (sym c ∙ e) a) in
      subst (λ x. t.Fits s x (map (stands t g) (t.parts x))) same_form (subst (λ ps. t.Fits s d (map (stands t g) ps)) (sym k.parts) fit)

  depth_copy_of : (g : Graph F) (o : ℕ) (n : Object F) (f d h : F) (form : Option F) → IsSound t g → at g o ≡ Some n → n.form ≡ Some f → form ≡ Some d → Alike t f d → form ≡ Some h → FitsDepth t g h n.depth
  depth_copy_of g o n f d h form valid is a b k e =
      let same_form : d ≡ h = (let e2 : Some d ≡ Some h = sym b ∙ e in cc) in
      let sh = valid.spoken.shallow o n f is a in
      subst (λ x. FitsDepth t g x n.depth) same_form (record {
        low = sh.0;
        high = sh.1;
        above = λ p i. valid.spoken.above o n f p is a (subst (λ ps. 0 < occurs p ps) k.parts i);
      })

  depth_copy : (g : Graph F) (o : ℕ) (n : Object F) (text : Option (List ℕ)) (form : Option F) → IsSound t g → at g o ≡ Some n → Copies t n text form → (h : F) → form ≡ Some h → FitsDepth t g h n.depth
  depth_copy g o n text form valid is (plain a b c) h e = absurd (cc)
  depth_copy g o n text form valid is (spelt {f = f} {d = d} a b k s c) h e = depth_copy_of g o n f d h form valid is a b k e
  depth_copy g o n text form valid is (unspelt {f = f} {d = d} a b k s c) h e = depth_copy_of g o n f d h form valid is a b k e

  plain_copy : (n : Object F) (text : Option (List ℕ)) (form : Option F) → Copies t n text form → form ≡ None → n.form ≡ None
  plain_copy n text form (plain a b c) e = a
  plain_copy n text form (spelt a b k s c) e = absurd (cc)
  plain_copy n text form (unspelt a b k s c) e = absurd (cc)

  -- a copy
  pub record Duplicated (old : Graph F) (o c : ℕ) (m : Object F) (new : Graph F) : Type 0 where
    pub valid : IsSound t new
    pub says : (x : ℕ) → IsSome (at old x) → stands t new x ≡ stands t old x
    pub duplicates : Duplicates t old o c m new
    pub tells : m.text ≡ None → IsSome m.form

  pub Valid_duplicate : (old mid new : Graph F) (o c : ℕ) (n m : Object F) → IsSound t old → at old o ≡ Some n → Tells old o → Copies t n m.text m.form → Shared old (form_parts t.parts m.form) mid → at mid c ≡ None → Updates mid new c (Some m) → m.count ≡ 1 → m.next ≡ None → m.depth ≡ n.depth → Duplicated old o c m new
  Valid_duplicate old mid new o c n m valid is tells copies shared vacant u one next depth =
      let ids = form_parts t.parts m.form in
      let there = copied_there old o n m.text m.form valid is copies in
      let v = Valid_shared old mid ids valid shared there in
      let n2 : Object F = record n { count = min (n.count + occurs o ids) stuck } in
      let is2 : at mid o ≡ Some n2 = shared.kept o n is in
      let copies2 : Copies t n2 m.text m.form = Copies_count n n2 m.text m.form refl refl copies in
      let fits_depth : (f : F) → m.form ≡ Some f → FitsDepth t mid f m.depth = λ f e. subst (FitsDepth t mid f) (sym depth) (depth_copy mid o n2 m.text m.form v.0 is2 copies2 f e) in
      let ins = Valid_insert t mid new c m v.0 vacant u one next v.1 (spoken_copy mid o n2 m.text m.form v.0 is2 (tells n is) copies2) (fits_copy mid o n2 m.text m.form v.0 is2 copies2) fits_depth (λ e. depth ∙ valid.spoken.plain o n is (plain_copy n m.text m.form copies e)) in
      let fresh : at old c ≡ None = by_slot _ (at old c) (λ e. e) (λ w e. absurd (let e2 : None ≡ Some (record w { count = min (w.count + occurs c ids) stuck }) = sym vacant ∙ shared.kept c w e in cc)) in
      let stays : (x : ℕ) → IsSome (at old x) → IsSome (at mid x) = λ x h. by_slot _ (at old x) (λ e. absurd (some_is_there old x e h)) (λ w e. ap is_some (shared.kept x w e)) in
      record {
        valid = ins.valid;
        says = λ x h. ins.says x (stays x h) ∙ v.2 x h;
        duplicates = record {
          shared = record {
            fresh = fresh;
            changed = u.changed;
            kept = λ x w e. u.others x (λ same_x. let e2 : None ≡ Some w = sym fresh ∙ ap (at old) (sym same_x) ∙ e in absurd (cc)) ∙ shared.kept x w e;
            none = λ x ne e. u.others x ne ∙ shared.none x e;
          };
          count = one;
          copies = λ n1 is1.
              let e : n ≡ n1 = (let e2 : Some n ≡ Some n1 = sym is ∙ is1 in cc) in
              subst (λ (y : Object F). Copies t y m.text m.form × (m.depth ≡ y.depth)) e (copies, depth);
          stands_new = ins.stands_new ∙ said_by_agree t m.text m.form (stands t mid) (stands t old) (λ none f form p i. v.2 p (there p (omega (arith, i, ap (λ x. occurs p (form_parts t.parts x)) form))));
          free = ins.free;
          rises = λ p. omega (arith, held_updates t.parts mid new c (Some m) u p, ap (holds t.parts p) vacant, v.3 p);
        };
        tells = λ none. let h = spoken_copy old o n m.text m.form valid is (tells n is) copies none in ap is_some h.1;
      }
    where
      Copies_count : (n n2 : Object F) (text : Option (List ℕ)) (form : Option F) → n2.text ≡ n.text → n2.form ≡ n.form → Copies t n text form → Copies t n2 text form
      Copies_count n n2 text form et ef (plain a b c) = plain (ef ∙ a) b (c ∙ sym et)
      Copies_count n n2 text form et ef (spelt a b k s c) = spelt (ef ∙ a) b k s c
      Copies_count n n2 text form et ef (unspelt a b k s c) = unspelt (ef ∙ a) b k s (c ∙ sym et)

  -- what is known of an object with a form
  pub HasForm_from : (g : Graph F) (o : ℕ) (n : Object F) (f : F) → IsSound t g → at g o ≡ Some n → n.form ≡ Some f → HasForm t g o f
  HasForm_from g o n f valid is form =
      let shallow = valid.spoken.shallow o n f is form in
      record {
        form = ap form_in is ∙ form;
        fits = λ s text. valid.spoken.fitting o n s f is (sym (ap text_in is) ∙ text) form;
        spells = λ none.
            let none_n : n.text ≡ None = sym (ap text_in is) ∙ none in
            (valid.spoken.spoken o n f is none_n form, stands_form t g valid.spoken o n f is none_n form);
        depth = record {
          low = omega (arith, shallow.0, ap depth_in is);
          high = omega (arith, shallow.1, ap depth_in is);
          above = λ p i. omega (arith, valid.spoken.above o n f p is form i, ap depth_in is);
        };
        there = λ p i. part_there t g valid.sound.there o n f p is form i;
      }
