-- The steps of `release`.
use Rattle.std.proofs.Common.{◌≡◌, ◌≢◌, ℕ, ◌+◌, ◌-◌, ◌<◌, ◌≤◌, inl, inr, List, [], ◌∷◌, Option, Some, None, is_some, cond, eqb, count_by, refl, sym, ap, ◌∙◌, arith, subst}
use Rattle.std.proofs.lemmas.Bool.{cases_eq, cases_lt, eq-eqb, ne_eqb}
use Rattle.std.proofs.lemmas.List.Sums.{sum_by-cons}
use Rattle.tclv_heap.specs.declared.ids.Object.{Object}
use Rattle.tclv_heap.specs.Graph.{Graph, stuck, occurs, same, at, Updates, form_parts, holds, held, IsCounted, HasOutside, Takes}
use Rattle.tclv_heap.specs.Dying.{Chain, Listed, DropsHolder, Remains, Enough, Dying, Ready}
use Rattle.tclv_heap.specs.Dying.Chain.{end, more}
use Rattle.tclv_heap.proofs.SumLemmas.{sum_updates}
use Rattle.tclv_heap.proofs.GraphLemmas.{at_cases, some_is_there, held_updates, Grounded_fewer}

pub same_yes : (o p : ℕ) → o ≡ p → same o p ≡ 1
same_yes o p e = ap (λ b. cond b 1 0) (eq-eqb o p e)

pub same_no : (o p : ℕ) → o ≢ p → same o p ≡ 0
same_no o p ne = ap (λ b. cond b 1 0) (ne_eqb o p ne)

pub occurs-cons : (o p : ℕ) (ps : List ℕ) → occurs o (p ∷ ps) ≡ same o p + occurs o ps
occurs-cons o p ps = sum_by-cons (λ x. cond (eqb o x) 1 0) p ps

module _ {F : Type 0} where
  -- the objects of the list have count 0
  Chain_zero : (g : Graph F) (head : Option ℕ) (ids : List ℕ) → Chain g head ids → (o : ℕ) → 0 < occurs o ids → (n : Object F) × (at g o ≡ Some n) × (n.count ≡ 0)
  Chain_zero g head ids end o h = absurd (omega arith)
  Chain_zero g head ids (more {o = p} {n = n} {ids = rest} is none chain) o h =
      elim (cases_eq o p) [
        | inl e ↦ (n, ap (at g) e ∙ is, none)
        | inr ne ↦ Chain_zero g n.next rest chain o (omega (arith, occurs-cons o p rest, same_no o p ne))
      ]

  -- a change of other objects keeps the list
  Chain_keep : (g new : Graph F) (head : Option ℕ) (ids : List ℕ) → Chain g head ids → ((o : ℕ) → 0 < occurs o ids → at new o ≡ at g o) → Chain new head ids
  Chain_keep g new head ids end keep = end
  Chain_keep g new head ids (more {o = p} {n = n} {ids = rest} is none chain) keep =
      more
      (keep p (omega (arith, occurs-cons p p rest, same_yes p p refl)) ∙ is)
      none
      (Chain_keep g new n.next rest chain (λ o h. keep o (omega (arith, occurs-cons o p rest))))

  -- an object that keeps a holder
  pub Listed_lower : (g new : Graph F) (p : ℕ) (n m : Object F) (head : Option ℕ) → at g p ≡ Some n → Updates g new p (Some m) → 1 ≤ n.count → 1 ≤ m.count → m.next ≡ n.next → Listed g head → Listed new head
  Listed_lower g new p n m head is u was low next listed = record {
    ids = listed.ids;
    chain = Chain_keep g new head listed.ids listed.chain (λ o h. u.others o (λ e.
        let z = Chain_zero g head listed.ids listed.chain o h in
        let e2 : z.0 ≡ n = let e3 : Some z.0 ≡ Some n = sym z.1 ∙ ap (at g) e ∙ is in cc in
        omega (arith, z.2, ap (λ (x : Object F). x.count) e2)));
    complete = λ o x at_o none. elim (at_cases g new p (Some m) u o) [
      | inl w ↦ let e : x ≡ m = cc in absurd (omega (arith, ap (λ (y : Object F). y.count) e))
      | inr w ↦ listed.complete o x (sym w.1 ∙ at_o) none
    ];
    once = listed.once;
    unlinked = λ o x at_o some. elim (at_cases g new p (Some m) u o) [
      | inl w ↦ let e : x ≡ m = cc in ap (λ (y : Object F). y.next) e ∙ next ∙ listed.unlinked p n is was
      | inr w ↦ listed.unlinked o x (sym w.1 ∙ at_o) some
    ];
  }

  -- an object that loses its last holder goes to the front
  pub Listed_push : (g new : Graph F) (p : ℕ) (n m : Object F) (head : Option ℕ) → at g p ≡ Some n → Updates g new p (Some m) → 1 ≤ n.count → m.count ≡ 0 → m.next ≡ head → Listed g head → Listed new (Some p)
  Listed_push g new p n m head is u was none next listed =
      let fresh : (o : ℕ) → 0 < occurs o listed.ids → o ≢ p = λ o h e.
      let z = Chain_zero g head listed.ids listed.chain o h in
      let e2 : z.0 ≡ n = let e3 : Some z.0 ≡ Some n = sym z.1 ∙ ap (at g) e ∙ is in cc in
      omega (arith, z.2, ap (λ (x : Object F). x.count) e2) in
      record {
        ids = p ∷ listed.ids;
        chain = more u.changed none (subst (λ h. Chain new h listed.ids) (sym next) (Chain_keep g new head listed.ids listed.chain (λ o h. u.others o (fresh o h))));
        complete = λ o x at_o zero_count. elim (at_cases g new p (Some m) u o) [
          | inl w ↦ omega (arith, occurs-cons o p listed.ids, same_yes o p w.0)
          | inr w ↦ omega (arith, occurs-cons o p listed.ids, listed.complete o x (sym w.1 ∙ at_o) zero_count)
        ];
        once = λ o. elim (cases_eq o p) [
          | inl e ↦ elim (cases_lt 0 (occurs o listed.ids)) [
            | inl some ↦ absurd (fresh o some e)
            | inr free ↦ omega (arith, occurs-cons o p listed.ids, same_yes o p e)
          ]
          | inr ne ↦ omega (arith, occurs-cons o p listed.ids, same_no o p ne, listed.once o)
        ];
        unlinked = λ o x at_o some. elim (at_cases g new p (Some m) u o) [
          | inl w ↦ let e : x ≡ m = cc in absurd (omega (arith, ap (λ (y : Object F). y.count) e))
          | inr w ↦ listed.unlinked o x (sym w.1 ∙ at_o) some
        ];
      }

  Chain_first : (g : Graph F) (o : ℕ) (ids : List ℕ) → Chain g (Some o) ids → (n : Object F) × (rest : List ℕ) × (at g o ≡ Some n) × (n.count ≡ 0) × (ids ≡ o ∷ rest) × Chain g n.next rest
  Chain_first g o ids (more {n = n} {ids = rest} is none chain) = (n, rest, is, none, refl, chain)

  pub Listed_first : (g : Graph F) (o : ℕ) → Listed g (Some o) → (n : Object F) × (at g o ≡ Some n) × (n.count ≡ 0)
  Listed_first g o listed = let f = Chain_first g o listed.ids listed.chain in (f.0, f.2, f.3)

  -- the first object goes
  pub Listed_pop : (g new : Graph F) (o : ℕ) (n : Object F) → at g o ≡ Some n → Updates g new o None → Listed g (Some o) → Listed new n.next
  Listed_pop g new o n is u listed =
      let f = Chain_first g o listed.ids listed.chain in
      let rest : List ℕ = f.1 in
      let e : f.0 ≡ n = let e3 : Some f.0 ≡ Some n = sym f.2 ∙ is in cc in
      let chain : Chain g n.next rest = subst (λ (x : Object F). Chain g x.next rest) e f.5 in
      let split : (x : ℕ) → occurs x listed.ids ≡ same x o + occurs x rest = λ x. ap (occurs x) f.4 ∙ occurs-cons x o rest in
      record {
        ids = rest;
        chain = Chain_keep g new n.next rest chain (λ x h. u.others x (λ e2. omega (arith, split x, same_yes x o e2, listed.once x)));
        complete = λ x y at_x zero_count. elim (at_cases g new o None u x) [
          | inl w ↦ absurd (cc)
          | inr w ↦ omega (arith, split x, same_no x o w.0, listed.complete x y (sym w.1 ∙ at_x) zero_count)
        ];
        once = λ x. omega (arith, split x, listed.once x);
        unlinked = λ x y at_x some. elim (at_cases g new o None u x) [
          | inl w ↦ absurd (cc)
          | inr w ↦ listed.unlinked x y (sym w.1 ∙ at_x) some
        ];
      }

  pub Listed_none : (g : Graph F) → ((o : ℕ) (n : Object F) → at g o ≡ Some n → 1 ≤ n.count) → ((o : ℕ) (n : Object F) → at g o ≡ Some n → n.next ≡ None) → Listed g None
  Listed_none g some unlinked = record {
    ids = [];
    chain = end;
    complete = λ o n is none. absurd (omega (arith, some o n is));
    once = λ o. omega arith;
    unlinked = λ o n is h. unlinked o n is;
  }

  Chain_nil : (g : Graph F) (ids : List ℕ) → Chain g None ids → ids ≡ []
  Chain_nil g ids end = refl

  -- no object is dying at the list's end
  pub Listed_done : (g : Graph F) → Listed g None → (o : ℕ) (n : Object F) → at g o ≡ Some n → 1 ≤ n.count
  Listed_done g listed o n is = elim (cases_lt 0 n.count) [
    | inl some ↦ omega arith
    | inr free ↦ absurd (omega (arith, listed.complete o n is (omega arith), ap (occurs o) (Chain_nil g listed.ids listed.chain)))
  ]

module _ {F : Type 0} (parts : F → List ℕ) where
  pub Ready_start : (g : Graph F) (ids : List ℕ) → IsCounted parts g → Takes parts g ids → Ready parts g ids None
  Ready_start g ids sound takes = record {
    enough = λ o w is. (
      (sound.counts o w is).1,
      λ loose. elim (cases_lt 0 (occurs o ids)) [
        | inl some ↦ (takes o some).outside w is loose
        | inr free ↦ omega (arith, sound.counted o w is loose)
      ],
    );
    there = λ o none. (
      sound.there o none,
      elim (cases_lt 0 (occurs o ids)) [
        | inl some ↦ absurd (some_is_there g o none (takes o some).there)
        | inr free ↦ omega arith
      ],
    );
    grounded = sound.grounded;
    listed = Listed_none g (λ o n is. (sound.counts o n is).0) sound.unlinked;
  }

  pub Dying_start : (g : Graph F) (ids : List ℕ) (head : Option ℕ) → Ready parts g ids head → Dying parts g ids ids g
  Dying_start g ids head ready = record {
    kept = λ o n is. (
      n,
      is,
      record {
        text = refl;
        form = refl;
        depth = refl;
        lower = omega arith;
        stays = λ e. e;
        loose = λ e. e;
        counted = λ loose. refl;
      },
    );
    gone = λ o w is none. absurd (cc);
    there = ready.there;
    grounded = ready.grounded;
  }

  -- the state on the way is one to start from
  pub Ready_later : (old g : Graph F) (ids pending : List ℕ) (head : Option ℕ) → Enough parts old ids → Dying parts old ids pending g → Listed g head → Ready parts g pending head
  Ready_later old g ids pending head enough dying listed = record {
    enough = λ o n is.
        let k = dying.kept o n is in
        let w : Object F = k.0 in
        let has = enough o w k.1 in (
          omega (arith, has.0, k.2.lower),
          λ loose.
              let was_loose : w.count ≢ stuck = λ s. loose (k.2.stays s) in
              omega (arith, has.1 was_loose, k.2.counted was_loose),
        );
    there = dying.there;
    grounded = dying.grounded;
    listed = listed;
  }

  -- one part of the way and the rest
  pub Dying_then : (a b c : Graph F) (ids pending : List ℕ) → Dying parts a ids pending b → Dying parts b pending [] c → Dying parts a ids [] c
  Dying_then a b c ids pending first second = record {
    kept = λ o n is.
        let k = second.kept o n is in
        let j = first.kept o k.0 k.1 in (
          j.0,
          j.1,
          record {
            text = k.2.text ∙ j.2.text;
            form = k.2.form ∙ j.2.form;
            depth = k.2.depth ∙ j.2.depth;
            lower = omega (arith, k.2.lower, j.2.lower);
            stays = λ s. k.2.stays (j.2.stays s);
            loose = λ l. k.2.loose (j.2.loose l);
            counted = λ l. omega (arith, j.2.counted l, k.2.counted (j.2.loose l));
          },
        );
    gone = gone;
    there = second.there;
    grounded = second.grounded;
  }
    where
      gone : (o : ℕ) (w : Object F) → at a o ≡ Some w → at c o ≡ None → (w.count ≢ stuck) × (w.count ≡ held parts a o + occurs o ids)
      gone o w was none = by_slot (at b o) refl
        where
          by_slot : (slot : Option (Object F)) → at b o ≡ slot → (w.count ≢ stuck) × (w.count ≡ held parts a o + occurs o ids)
          by_slot None e = first.gone o w was e
          by_slot (Some x) e =
              let went = second.gone o x e none in
              let k = first.kept o x e in
              let same_was : k.0 ≡ w = let e3 : Some k.0 ≡ Some w = sym k.1 ∙ was in cc in
              let same_count : (k.0).count ≡ w.count = ap (λ (y : Object F). y.count) same_was in
              let loose : w.count ≢ stuck = λ s. went.0 (k.2.stays (same_count ∙ s)) in
              (loose, omega (arith, went.1, k.2.counted (λ s. loose (sym same_count ∙ s)), same_count))

  -- the next holder to go holds an object that is there, and is counted
  pub Dying_next : (old g : Graph F) (ids : List ℕ) (p : ℕ) (rest : List ℕ) → Enough parts old ids → Dying parts old ids (p ∷ rest) g → (n : Object F) × (at g p ≡ Some n) × (1 ≤ n.count) × (n.count ≤ stuck)
  Dying_next old g ids p rest enough dying = by_slot (at g p) refl
    where
      by_slot : (s : Option (Object F)) → at g p ≡ s → (n : Object F) × (at g p ≡ Some n) × (1 ≤ n.count) × (n.count ≤ stuck)
      by_slot None e = absurd (omega (arith, (dying.there p e).1, occurs-cons p p rest, same_yes p p refl))
      by_slot (Some n) e =
          let k = dying.kept p n e in
          let w : Object F = k.0 in
          let has = enough p w k.1 in
          let high : n.count ≤ stuck = omega (arith, has.0, k.2.lower) in
          elim (cases_eq w.count stuck) [
            | inl s ↦ (n, e, omega (arith, k.2.stays s), high)
            | inr loose ↦ (n, e, omega (arith, has.1 loose, k.2.counted loose, occurs-cons p p rest, same_yes p p refl), high)
          ]

  -- a holder of a stuck object goes
  Dying_stays : (old g : Graph F) (ids : List ℕ) (p : ℕ) (rest : List ℕ) (n : Object F) → at g p ≡ Some n → n.count ≡ stuck → Dying parts old ids (p ∷ rest) g → Dying parts old ids rest g
  Dying_stays old g ids p rest n is s dying = record {
    kept = λ o x at_o.
        let k = dying.kept o x at_o in
        let r = k.2 in (
          k.0,
          k.1,
          record {
            text = r.text;
            form = r.form;
            depth = r.depth;
            lower = r.lower;
            stays = r.stays;
            loose = r.loose;
            counted = λ loose.
                let ne : o ≢ p = λ e.
                let e2 : x ≡ n = let e3 : Some x ≡ Some n = sym at_o ∙ ap (at g) e ∙ is in cc in
                r.loose loose (ap (λ (y : Object F). y.count) e2 ∙ s) in
                omega (arith, r.counted loose, occurs-cons o p rest, same_no o p ne);
          },
        );
    gone = dying.gone;
    there = λ o none. let t = dying.there o none in (t.0, omega (arith, t.1, occurs-cons o p rest));
    grounded = dying.grounded;
  }

  -- a holder of another object goes
  Dying_lower : (old g new : Graph F) (ids : List ℕ) (p : ℕ) (rest : List ℕ) (n m : Object F) → at g p ≡ Some n → n.count ≤ stuck → n.count ≢ stuck → Updates g new p (Some m) → m.text ≡ n.text → m.form ≡ n.form → m.depth ≡ n.depth → m.count + 1 ≡ n.count → Dying parts old ids (p ∷ rest) g → Dying parts old ids rest new
  Dying_lower old g new ids p rest n m is high loose u text form depth lower dying =
      let alike : (x : ℕ) → holds parts x (Some m) ≡ holds parts x (at g p) =
      λ x. ap (λ f. occurs x (form_parts parts f)) form ∙ sym (ap (holds parts x) is) in
      let keeps : (x : ℕ) → held parts new x ≡ held parts g x =
      λ x. omega (arith, held_updates parts g new p (Some m) u x, alike x) in
      record {
        kept = λ o x at_o. elim (at_cases g new p (Some m) u o) [
          | inl w ↦
              let e : x ≡ m = cc in
              let k = dying.kept p n is in
              let r = k.2 in
              let was : at old o ≡ Some k.0 = ap (at old) w.0 ∙ k.1 in
              let remains : Remains parts old new ids rest o k.0 m = record {
                text = text ∙ r.text;
                form = form ∙ r.form;
                depth = depth ∙ r.depth;
                lower = omega (arith, r.lower);
                stays = λ s. absurd (loose (r.stays s));
                loose = λ h s. omega arith;
                counted = λ h. omega (arith, r.counted h, occurs-cons p p rest, same_yes p p refl, keeps p, ap (held parts new) w.0, ap (held parts old) w.0, ap (λ y. occurs y rest) w.0, ap (λ y. occurs y ids) w.0);
              } in
              (k.0, was, subst (λ y. Remains parts old new ids rest o k.0 y) (sym e) remains)
          | inr w ↦
              let k = dying.kept o x (sym w.1 ∙ at_o) in
              let r = k.2 in (
                k.0,
                k.1,
                record {
                  text = r.text;
                  form = r.form;
                  depth = r.depth;
                  lower = r.lower;
                  stays = r.stays;
                  loose = r.loose;
                  counted = λ h. omega (arith, r.counted h, occurs-cons o p rest, same_no o p w.0, keeps o);
                },
              )
        ];
        gone = λ o w was none. elim (at_cases g new p (Some m) u o) [
          | inl v ↦ absurd (cc)
          | inr v ↦ dying.gone o w was (sym v.1 ∙ none)
        ];
        there = λ o none. elim (at_cases g new p (Some m) u o) [
          | inl v ↦ absurd (cc)
          | inr v ↦ let t = dying.there o (sym v.1 ∙ none) in (keeps o ∙ t.0, omega (arith, t.1, occurs-cons o p rest))
        ];
        grounded = λ x. Grounded_fewer parts g new (λ y q h. elim (at_cases g new p (Some m) u y) [
          | inl w ↦ subst (λ s. 0 < holds parts q s) (ap (at g) (sym w.0)) (omega (arith, alike q, ap (holds parts q) w.1))
          | inr w ↦ subst (λ s. 0 < holds parts q s) w.1 h
        ]) x (dying.grounded x);
      }

  -- one step of `release` at a holder
  pub Dying_drop : (old g new : Graph F) (ids : List ℕ) (p : ℕ) (rest : List ℕ) (head first : Option ℕ) → Enough parts old ids → Dying parts old ids (p ∷ rest) g → Listed g head → DropsHolder g new p head first → Dying parts old ids rest new × Listed new first
  Dying_drop old g new ids p rest head first enough dying listed drops =
      let next = Dying_next old g ids p rest enough dying in
      let n : Object F = next.0 in
      elim (cases_eq n.count stuck) [
        | inl s ↦
            let kept = drops.stays n next.1 s in
            let d : Dying parts old ids rest new = subst (Dying parts old ids rest) (sym kept.0) (Dying_stays old g ids p rest n next.1 s dying) in
            let l : Listed new head = subst (λ x. Listed x head) (sym kept.0) listed in
            (d, subst (Listed new) (sym kept.1) l)
        | inr loose ↦ elim (cases_lt n.count 2) [
          | inl one ↦
              let one : n.count ≡ 1 = omega (arith, next.2) in
              let dies = drops.dies n next.1 one in
              let m : Object F = record n { count = 0; next = head } in
              let l : Listed new (Some p) = Listed_push g new p n m head next.1 dies.0 next.2 refl refl listed in
              (Dying_lower old g new ids p rest n m next.1 next.3 loose dies.0 refl refl refl (omega arith) dying, subst (Listed new) (sym dies.1) l)
          | inr many ↦
              let lowers = drops.lowers n next.1 loose many in
              let m : Object F = record n { count = n.count - 1 } in
              let l : Listed new head = Listed_lower g new p n m head next.1 lowers.0 next.2 (omega arith) refl listed in
              (Dying_lower old g new ids p rest n m next.1 next.3 loose lowers.0 refl refl refl (omega arith) dying, subst (Listed new) (sym lowers.1) l)
        ]
      ]

  -- the first of the dying objects goes, and its parts' holders are to go
  pub Dying_remove : (old g new : Graph F) (ids : List ℕ) (o : ℕ) (n : Object F) → Enough parts old ids → Dying parts old ids [] g → at g o ≡ Some n → n.count ≡ 0 → Updates g new o None → Dying parts old ids (form_parts parts n.form) new
  Dying_remove old g new ids o n enough dying is zero_count u =
      let splits : (x : ℕ) → held parts new x + occurs x (form_parts parts n.form) ≡ held parts g x =
      λ x. omega (arith, held_updates parts g new o None u x, ap (holds parts x) is) in
      let k = dying.kept o n is in
      let w : Object F = k.0 in
      let was_loose : w.count ≢ stuck = λ s. omega (arith, k.2.stays s) in
      let has = (enough o w k.1).1 was_loose in
      let counted = k.2.counted was_loose in
      record {
        kept = λ x y at_x. elim (at_cases g new o None u x) [
          | inl v ↦ absurd (cc)
          | inr v ↦
              let j = dying.kept x y (sym v.1 ∙ at_x) in
              let r = j.2 in (
                j.0,
                j.1,
                record {
                  text = r.text;
                  form = r.form;
                  depth = r.depth;
                  lower = r.lower;
                  stays = r.stays;
                  loose = r.loose;
                  counted = λ h. omega (arith, r.counted h, splits x);
                },
              )
        ];
        gone = λ x v was none. elim (at_cases g new o None u x) [
          | inl e ↦
              let e2 : v ≡ w = let e3 : Some v ≡ Some w = sym was ∙ ap (at old) e.0 ∙ k.1 in cc in
              let e4 : v.count ≡ w.count = ap (λ (y : Object F). y.count) e2 in
              (λ s. was_loose (sym e4 ∙ s), omega (arith, e4, has, counted, ap (held parts old) e.0, ap (λ y. occurs y ids) e.0))
          | inr e ↦ dying.gone x v was (sym e.1 ∙ none)
        ];
        there = λ x none. elim (at_cases g new o None u x) [
          | inl e ↦ (omega (arith, splits x, ap (held parts g) e.0, has, counted), omega (arith, splits x, ap (held parts g) e.0, has, counted))
          | inr e ↦ let t = dying.there x (sym e.1 ∙ none) in (omega (arith, splits x, t.0), omega (arith, splits x, t.0))
        ];
        grounded = λ x. Grounded_fewer parts g new (λ y q h. elim (at_cases g new o None u y) [
          | inl e ↦ absurd (omega (arith, ap (holds parts q) e.1))
          | inr e ↦ subst (λ s. 0 < holds parts q s) e.1 h
        ]) x (dying.grounded x);
      }

  pub Dying_pop : (old g new : Graph F) (ids : List ℕ) (o : ℕ) (head : Option ℕ) (n : Object F) → Enough parts old ids → Dying parts old ids [] g → Listed g head → head ≡ Some o → at g o ≡ Some n → Updates g new o None → Dying parts old ids (form_parts parts n.form) new × Listed new n.next
  Dying_pop old g new ids o head n enough dying listed first is u =
      let l : Listed g (Some o) = subst (Listed g) first listed in
      let f = Listed_first g o l in
      let e : f.0 ≡ n = let e3 : Some f.0 ≡ Some n = sym f.1 ∙ is in cc in
      (Dying_remove old g new ids o n enough dying is (sym (ap (λ (y : Object F). y.count) e) ∙ f.2) u, Listed_pop g new o n is u l)

  -- at the end the graph is sound
  pub Dying_done : (old g : Graph F) (ids : List ℕ) → Enough parts old ids → Dying parts old ids [] g → Listed g None → IsCounted parts g
  Dying_done old g ids enough dying listed = record {
    there = λ o none. (dying.there o none).0;
    counts = λ o n is. let k = dying.kept o n is in (Listed_done g listed o n is, omega (arith, (enough o k.0 k.1).0, k.2.lower));
    counted = λ o n is loose.
        let k = dying.kept o n is in
        let w : Object F = k.0 in
        let was_loose : w.count ≢ stuck = λ s. loose (k.2.stays s) in
        omega (arith, (enough o w k.1).1 was_loose, k.2.counted was_loose);
    grounded = dying.grounded;
    unlinked = λ o n is. listed.unlinked o n is (Listed_done g listed o n is);
  }

  -- `release`: one holder goes
  pub Release_first : (g new : Graph F) (id : ℕ) (first : Option ℕ) → IsCounted parts g → HasOutside parts g id 1 → DropsHolder g new id None first → Dying parts g (id ∷ []) [] new × Ready parts new [] first
  Release_first g new id first sound holder drops =
      let takes : Takes parts g (id ∷ []) = λ p some.
      elim (cases_eq p id) [
        | inl e ↦ subst (λ x. HasOutside parts g x (occurs x (id ∷ []))) (sym e) (subst (HasOutside parts g id) (sym (occurs-cons id id [] ∙ ap (λ x. x + 0) (same_yes id id refl))) holder)
        | inr ne ↦ absurd (omega (arith, occurs-cons p id [], same_no p id ne))
      ] in
      let ready = Ready_start g (id ∷ []) sound takes in
      let d = Dying_drop g g new (id ∷ []) id [] None first ready.enough (Dying_start g (id ∷ []) None ready) ready.listed drops in
      (d.0, Ready_later g new (id ∷ []) [] first ready.enough d.0 d.1)

  -- the sweep ends it
  pub Release_last : (g mid new : Graph F) (ids : List ℕ) (first : Option ℕ) → Dying parts g ids [] mid → Ready parts mid [] first → Dying parts mid [] [] new → Listed new None → Dying parts g ids [] new × IsCounted parts new
  Release_last g mid new ids first start ready swept listed = (Dying_then g mid new ids [] start swept, Dying_done mid new [] ready.enough swept listed)

module _ {F : Type 0} where
  -- a write or a removal, by the number of objects
  pub len_updates : (g new : Graph F) (p : ℕ) (n m : Object F) → at g p ≡ Some n → Updates g new p (Some m) → count_by is_some new ≡ count_by is_some g
  len_updates g new p n m is u =
      let f : Option (Object F) → ℕ = λ o. cond (is_some o) 1 0 in
      omega (arith, sum_updates f refl g new p u.others, ap f is, ap f u.changed)

  pub len_drops : (g new : Graph F) (p : ℕ) (n : Object F) (head first : Option ℕ) → at g p ≡ Some n → 1 ≤ n.count → DropsHolder g new p head first → count_by is_some new ≡ count_by is_some g
  len_drops g new p n head first is some drops = elim (cases_eq n.count stuck) [
    | inl s ↦ ap (count_by is_some) (drops.stays n is s).0
    | inr loose ↦ elim (cases_lt n.count 2) [
      | inl one ↦ len_updates g new p n _ is (drops.dies n is (omega arith)).0
      | inr many ↦ len_updates g new p n _ is (drops.lowers n is loose many).0
    ]
  ]
