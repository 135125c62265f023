-- How the outside holders change with the graph.
use Rattle.std.proofs.Common.{◌≡◌, ◌≢◌, ℕ, ◌+◌, ◌<◌, ◌≤◌, inl, inr, List, [], ◌∷◌, ◌++◌, cond, eqb, min, Some, None, IsSome, is_some, refl, sym, ap, ◌∙◌, arith, subst}
use Rattle.std.proofs.lemmas.Bool.{cases_eq, cases_lt}
use Rattle.std.proofs.lemmas.List.Sums.{sum_by-append}
use Rattle.tclv_heap.specs.declared.ids.Object.{Object}
use Rattle.tclv_heap.specs.Table.{Table}
use Rattle.tclv_text.specs.declared.counters.Stats.{Stats}
use Rattle.tclv_heap.specs.Graph.{Graph, View, stuck, at, occurs, Updates, held, holds, form_parts, Takes, HasOutside, SharedBy}
use Rattle.tclv_heap.specs.Dying.{Releases}
use Rattle.tclv_heap.specs.Stands.{IsClosed, Retexted, stands}
use Rattle.tclv_heap.specs.Holders.{Holders}
use Rattle.tclv_heap.proofs.GraphLemmas.{at_cases, some_is_there, held_updates}
use Rattle.tclv_heap.proofs.DyingLemmas.{occurs-cons, same_yes, same_no}
use Rattle.tclv_heap.proofs.CopyLemmas.{by_slot}
use Rattle.tclv_heap.proofs.RetextLemmas.{held_retexted}

pub occurs-append : (o : ℕ) (xs ys : List ℕ) → occurs o (xs ++ ys) ≡ occurs o xs + occurs o ys
occurs-append o xs ys = sum_by-append (λ y. cond (eqb o y) 1 0) xs ys

module _ {F : Type 0} (parts : F → List ℕ) where
  -- the order of the holders counts for nothing
  pub Holders_same : (g : Graph F) (ids ids2 : List ℕ) → ((x : ℕ) → occurs x ids ≡ occurs x ids2) → Holders parts g ids → Holders parts g ids2
  Holders_same g ids ids2 splits holders = record {
    there = λ p some. holders.there p (omega (arith, some, splits p));
    counted = λ p n is loose. omega (arith, holders.counted p n is loose, splits p);
  }

  Holders_none : Holders parts [] []
  Holders_none = record { there = λ o some. absurd (omega (arith, some)); counted = λ o n is. absurd (cc) }

  -- a heap without objects has no holders
  pub Holders_new : {T : Type 0} (v : View T F) (types : T) (stats : Stats) → v ≡ record { types = types; graph = []; stats = stats } → Holders parts v.graph []
  Holders_new {T} v types stats e = subst (λ (x : View T F). Holders parts x.graph []) (sym e) Holders_none

  pub Holders_swap : (g : Graph F) (o p : ℕ) (ids : List ℕ) → Holders parts g (o ∷ p ∷ ids) → Holders parts g (p ∷ o ∷ ids)
  Holders_swap g o p ids = Holders_same g (o ∷ p ∷ ids) (p ∷ o ∷ ids) (λ x. omega (arith, occurs-cons x o (p ∷ ids), occurs-cons x p ids, occurs-cons x p (o ∷ ids), occurs-cons x o ids))

  -- who is listed may be handed over
  pub Holders_outside : (g : Graph F) (ids : List ℕ) (o more : ℕ) → Holders parts g ids → 0 < more → more ≤ occurs o ids → HasOutside parts g o more
  Holders_outside g ids o more holders some within = record {
    there = holders.there o (omega (arith, some, within));
    outside = λ n is loose. omega (arith, holders.counted o n is loose, within);
  }

  pub Holders_takes : (g : Graph F) (ids rest : List ℕ) → Holders parts g (ids ++ rest) → Takes parts g ids
  Holders_takes g ids rest holders p some = Holders_outside g (ids ++ rest) p (occurs p ids) holders some (omega (arith, occurs-append p ids rest))

  pub Holders_first : (g : Graph F) (o : ℕ) (ids : List ℕ) → Holders parts g (o ∷ ids) → HasOutside parts g o 1
  Holders_first g o ids holders = Holders_outside g (o ∷ ids) o 1 holders (omega arith) (omega (arith, occurs-cons o o ids, same_yes o o refl))

  -- an object gets another form: its holders of the new form's parts were outside, and those of the old one are
  pub Holders_change : (g new : Graph F) (o : ℕ) (n m : Object F) (ids : List ℕ) → Holders parts g (form_parts parts m.form ++ ids) → at g o ≡ Some n → Updates g new o (Some m) → m.count ≡ n.count → Takes parts new (form_parts parts n.form) → Holders parts new (form_parts parts n.form ++ ids)
  Holders_change g new o n m ids holders was u same_count takes =
      let moves : (p : ℕ) → held parts new p + occurs p (form_parts parts n.form) ≡ held parts g p + occurs p (form_parts parts m.form) =
      λ p. omega (arith, held_updates parts g new o (Some m) u p, ap (holds parts p) was) in
      let splits : (p : ℕ) → held parts g p + occurs p (form_parts parts m.form ++ ids) ≡ held parts new p + occurs p (form_parts parts n.form ++ ids) =
      λ p. omega (arith, moves p, occurs-append p (form_parts parts m.form) ids, occurs-append p (form_parts parts n.form) ids) in
      record {
        there = λ p some. elim (cases_lt 0 (occurs p (form_parts parts n.form))) [
          | inl taken ↦ (takes p taken).there
          | inr not_taken ↦
              let old_there = holders.there p (omega (arith, some, not_taken, occurs-append p (form_parts parts m.form) ids, occurs-append p (form_parts parts n.form) ids)) in
              elim (at_cases g new o (Some m) u p) [ inl w ↦ ap is_some w.1 | inr w ↦ subst IsSome (sym w.1) old_there ]
        ];
        counted = λ p x is loose. elim (at_cases g new o (Some m) u p) [
          | inl w ↦
              let e : x ≡ m = cc in
              let same_x : x.count ≡ n.count = ap (λ (y : Object F). y.count) e ∙ same_count in
              omega (arith, same_x, holders.counted p n (ap (at g) w.0 ∙ was) (λ s. loose (same_x ∙ s)), splits p)
          | inr w ↦ omega (arith, holders.counted p x (sym w.1 ∙ is) loose, splits p)
        ];
      }

  -- a new object, whose parts were held outside
  pub Holders_insert : (old new : Graph F) (o : ℕ) (m : Object F) (ids : List ℕ) → Holders parts old (form_parts parts m.form ++ ids) → at old o ≡ None → Updates old new o (Some m) → m.count ≡ 1 → held parts new o ≡ 0 → Holders parts new (o ∷ ids)
  Holders_insert old new o m ids holders vacant u one free =
      let keeps : (x : ℕ) → held parts new x ≡ held parts old x + occurs x (form_parts parts m.form) =
      λ x. omega (arith, held_updates parts old new o (Some m) u x, ap (holds parts x) vacant) in
      let unplaced : occurs o (form_parts parts m.form ++ ids) ≡ 0 = elim (cases_lt 0 (occurs o (form_parts parts m.form ++ ids))) [
        | inl some ↦ absurd (some_is_there old o vacant (holders.there o some))
        | inr none_of_it ↦ omega arith
      ] in
      record {
        there = λ x some. elim (at_cases old new o (Some m) u x) [
          | inl w ↦ ap is_some w.1
          | inr w ↦ subst IsSome (sym w.1) (holders.there x (omega (arith, some, occurs-cons x o ids, same_no x o w.0, occurs-append x (form_parts parts m.form) ids)))
        ];
        counted = λ x n is loose. elim (at_cases old new o (Some m) u x) [
          | inl w ↦
              let e : n ≡ m = cc in
              omega (arith, ap (λ (y : Object F). y.count) e, one, free, unplaced, occurs-append o (form_parts parts m.form) ids, ap (λ z. occurs z ids) w.0, occurs-cons x o ids, same_yes x o w.0, ap (held parts new) w.0)
          | inr w ↦ omega (arith, holders.counted x n (sym w.1 ∙ is) loose, keeps x, occurs-append x (form_parts parts m.form) ids, occurs-cons x o ids, same_no x o w.0)
        ];
      }

  -- holders are released
  pub Holders_release : (old new : Graph F) (gone ids : List ℕ) → Holders parts old (gone ++ ids) → Releases parts old gone new → Holders parts new ids
  Holders_release old new gone ids holders dying = record {
    there = λ p some. by_slot _ (at new p)
        (λ none. absurd (by_slot _ (at old p)
        (λ e. some_is_there old p e (holders.there p (omega (arith, some, occurs-append p gone ids))))
        (λ w e. let went = dying.gone p w e none in omega (arith, went.1, holders.counted p w e went.0, occurs-append p gone ids, some))))
        (λ n e. ap is_some e);
    counted = λ p n is loose.
        let k = dying.kept p n is in
        let w : Object F = k.0 in
        let was_loose : w.count ≢ stuck = λ s. loose (k.2.stays s) in
        omega (arith, k.2.counted was_loose, holders.counted p w k.1 was_loose, occurs-append p gone ids);
  }

  -- one more holder
  pub Holders_share : (old new : Graph F) (o : ℕ) (n : Object F) (ids : List ℕ) → Holders parts old ids → at old o ≡ Some n → Updates old new o (Some (record n { count = min (n.count + 1) stuck })) → Holders parts new (o ∷ ids)
  Holders_share old new o n ids holders is_n u =
      let m : Object F = record n { count = min (n.count + 1) stuck } in
      let keeps : (x : ℕ) → held parts new x ≡ held parts old x =
      λ x. omega (arith, held_updates parts old new o (Some m) u x, ap (holds parts x) is_n) in
      record {
        there = λ x some. elim (at_cases old new o (Some m) u x) [
          | inl w ↦ ap is_some w.1
          | inr w ↦ subst IsSome (sym w.1) (holders.there x (omega (arith, some, occurs-cons x o ids, same_no x o w.0)))
        ];
        counted = λ x y is loose. elim (at_cases old new o (Some m) u x) [
          | inl w ↦
              let e : y ≡ m = cc in
              let same_count : y.count ≡ min (n.count + 1) stuck = ap (λ (z : Object F). z.count) e in
              let was_loose : n.count ≢ stuck = λ s. loose (omega arith) in
              omega (arith, same_count, loose, holders.counted x n (ap (at old) w.0 ∙ is_n) was_loose, keeps x, occurs-cons x o ids, same_yes x o w.0)
          | inr w ↦ omega (arith, holders.counted x y (sym w.1 ∙ is) loose, keeps x, occurs-cons x o ids, same_no x o w.0)
        ];
      }

  -- a copy, whose parts are shared
  pub Holders_duplicate : (old new : Graph F) (c : ℕ) (m : Object F) (ids : List ℕ) → Holders parts old ids → SharedBy old (form_parts parts m.form) c m new → ((p : ℕ) → held parts new p ≡ held parts old p + occurs p (form_parts parts m.form)) → m.count ≡ 1 → held parts new c ≡ 0 → Holders parts new (c ∷ ids)
  Holders_duplicate old new c m ids holders s rises one free =
      let unplaced : occurs c ids ≡ 0 = elim (cases_lt 0 (occurs c ids)) [
        | inl some ↦ absurd (some_is_there old c s.fresh (holders.there c some))
        | inr none_of_it ↦ omega arith
      ] in
      record {
        there = λ x some. by_slot _ (at old x)
            (λ e. elim (cases_eq x c) [
              | inl same_x ↦ ap (λ y. is_some (at new y)) same_x ∙ ap is_some s.changed
              | inr ne ↦ absurd (some_is_there old x e (holders.there x (omega (arith, some, occurs-cons x c ids, same_no x c ne))))
            ])
            (λ w e. ap is_some (s.kept x w e));
        counted = λ x n is loose. by_slot _ (at old x)
            (λ e. elim (cases_eq x c) [
              | inl same_x ↦
                  let e2 : n ≡ m = (let e3 : Some n ≡ Some m = sym is ∙ ap (at new) same_x ∙ s.changed in cc) in
                  omega (arith, ap (λ (y : Object F). y.count) e2, one, free, unplaced, ap (λ z. occurs z ids) same_x, occurs-cons x c ids, same_yes x c same_x, ap (held parts new) same_x)
              | inr ne ↦ let e3 : None ≡ Some n = sym (s.none x ne e) ∙ is in absurd (cc)
            ])
            (λ w e.
            let e2 : n ≡ record w { count = min (w.count + occurs x (form_parts parts m.form)) stuck } = (let e3 : Some n ≡ Some (record w { count = min (w.count + occurs x (form_parts parts m.form)) stuck }) = sym is ∙ s.kept x w e in cc) in
            let same_count : n.count ≡ min (w.count + occurs x (form_parts parts m.form)) stuck = ap (λ (y : Object F). y.count) e2 in
            let ne : x ≢ c = λ same_x. let e3 : None ≡ Some w = sym s.fresh ∙ ap (at old) (sym same_x) ∙ e in absurd (cc) in
            omega (arith, same_count, loose, holders.counted x w e (λ s2. loose (omega (arith, same_count, s2))), rises x, occurs-cons x c ids, same_no x c ne));
      }

module _ {F : Type 0} where
  pub Closed_updates : (old new : Graph F) (o : ℕ) (m : Object F) → IsClosed old → Updates old new o (Some m) → (m.text ≡ None → IsSome m.form) → IsClosed new
  Closed_updates old new o m closed u tells x n is none = elim (at_cases old new o (Some m) u x) [
    | inl w ↦ let e : m ≡ n = cc in subst (λ (y : Object F). y.text ≡ None → IsSome y.form) e tells none
    | inr w ↦ closed x n (sym w.1 ∙ is) none
  ]

  pub Closed_release : (parts : F → List ℕ) (old new : Graph F) (ids : List ℕ) → IsClosed old → Releases parts old ids new → IsClosed new
  Closed_release parts old new ids closed dying x n is none = let k = dying.kept x n is in subst IsSome (sym k.2.form) (closed x k.0 k.1 (sym k.2.text ∙ none))

  pub Closed_duplicate : (old new : Graph F) (ids : List ℕ) (c : ℕ) (m : Object F) → IsClosed old → SharedBy old ids c m new → (m.text ≡ None → IsSome m.form) → IsClosed new
  Closed_duplicate old new ids c m closed s tells x n is none =
      by_slot _ (at old x)
      (λ e. elim (cases_eq x c) [
        | inl same_x ↦ let e2 : m ≡ n = (let e3 : Some m ≡ Some n = sym (ap (at new) same_x ∙ s.changed) ∙ is in cc) in subst (λ (y : Object F). y.text ≡ None → IsSome y.form) e2 tells none
        | inr ne ↦ let e3 : None ≡ Some n = sym (s.none x ne e) ∙ is in absurd (cc)
      ])
      (λ w e.
      let e2 : n ≡ record w { count = min (w.count + occurs x ids) stuck } = (let e3 : Some n ≡ Some (record w { count = min (w.count + occurs x ids) stuck }) = sym is ∙ s.kept x w e in cc) in
      subst IsSome (sym (ap (λ (y : Object F). y.form) e2)) (closed x w e (sym (ap (λ (y : Object F). y.text) e2) ∙ none)))

module _ {F : Type 0} (t : Table F) where
  -- texts are made
  pub Holders_retexted : (Among : ℕ → Type 0) (old new : Graph F) (ids : List ℕ) → Holders t.parts old ids → Retexted t Among old new → Holders t.parts new ids
  Holders_retexted Among old new ids holders r = record {
    there = λ o some. by_slot _ (at old o) (λ e. absurd (some_is_there old o e (holders.there o some))) (λ n e. elim (r.kept o n e) [ inl s ↦ ap is_some s | inr s ↦ ap is_some s.2 ]);
    counted = λ o n is loose. by_slot _ (at old o)
        (λ e. absurd (let e2 : None ≡ Some n = sym (r.none o e) ∙ is in cc))
        (λ w e. elim (r.kept o w e) [
          | inl s ↦
              let e2 : w ≡ n = (let e3 : Some w ≡ Some n = sym s ∙ is in cc) in
              let c : w.count ≡ n.count = ap (λ (y : Object F). y.count) e2 in
              omega (arith, c, holders.counted o w e (λ s2. loose (sym c ∙ s2)), held_retexted t Among old new r o)
          | inr s ↦
              let e2 : record w { text = Some (stands t old o) } ≡ n = (let e3 : Some (record w { text = Some (stands t old o) }) ≡ Some n = sym s.2 ∙ is in cc) in
              let c : w.count ≡ n.count = ap (λ (y : Object F). y.count) e2 in
              omega (arith, c, holders.counted o w e (λ s2. loose (sym c ∙ s2)), held_retexted t Among old new r o)
        ]);
  }
