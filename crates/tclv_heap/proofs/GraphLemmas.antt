-- How the graph's facts change with one object.
use Rattle.std.proofs.Common.{◌≡◌, ◌≢◌, ℕ, ◌+◌, ◌<◌, ◌≤◌, ◌⊎◌, inl, inr, List, [], length, set, Option, Some, None, IsSome, is_some, refl, sym, ap, ◌∙◌, arith, subst}
use Rattle.std.proofs.lemmas.Bool.{cases_eq, cases_lt}
use Rattle.std.proofs.lemmas.List.{get_or_past, get_or-set_same, get_or-set_other}
use Rattle.std.proofs.lemmas.List.Sums.{get_or-le-sum_by}
use Rattle.tclv_heap.specs.declared.ids.Object.{Object}
use Rattle.tclv_heap.specs.Graph.{Graph, stuck, occurs, at, Updates, form_parts, holds, held, IsGrounded, Leads, IsCounted, HasOutside, Takes}
use Rattle.tclv_heap.specs.Graph.IsGrounded.{ground}
use Rattle.tclv_heap.specs.Graph.Leads.{here, down}
use Rattle.tclv_heap.proofs.SumLemmas.{sum_updates}

module _ {F : Type 0} where
  pub at_cases : (old new : Graph F) (o : ℕ) (slot : Option (Object F)) → Updates old new o slot → (p : ℕ) → ((p ≡ o) × (at new p ≡ slot)) ⊎ ((p ≢ o) × (at new p ≡ at old p))
  at_cases old new o slot u p = elim (cases_eq p o) [ inl e ↦ inl (e, ap (at new) e ∙ u.changed) | inr ne ↦ inr (ne, u.others p ne) ]

  pub there_within : (g : Graph F) (o : ℕ) (n : Object F) → at g o ≡ Some n → o < length g
  there_within g o n is = grind (arith, get_or_past)

  pub Updates_set : (g : Graph F) (o : ℕ) (n : Object F) (slot : Option (Object F)) → at g o ≡ Some n → Updates g (set g o slot) o slot
  Updates_set g o n slot is = record {
    changed = get_or-set_same g o slot None (there_within g o n is);
    others = λ x ne. get_or-set_other g o x slot None ne;
  }

  pub some_is_there : (g : Graph F) (o : ℕ) → at g o ≡ None → IsSome (at g o) → ⊥
  some_is_there g o none there = cc

module _ {F : Type 0} (parts : F → List ℕ) where
  -- how the number of holders changes at a write
  pub held_updates : (old new : Graph F) (o : ℕ) (slot : Option (Object F)) → Updates old new o slot → (p : ℕ) → held parts new p + holds parts p (at old o) ≡ held parts old p + holds parts p slot
  unfolding held
  held_updates old new o slot u p = subst (λ s. held parts new p + holds parts p (at old o) ≡ held parts old p + holds parts p s) u.changed (sum_updates (holds parts p) refl old new o u.others)

  pub holds_le_held : (g : Graph F) (o p : ℕ) → holds parts p (at g o) ≤ held parts g p
  unfolding held
  holds_le_held g o p = elim (cases_lt o (length g)) [
    | inl within ↦ get_or-le-sum_by (holds parts p) g o None within
    | inr past ↦ omega (arith, ap (holds parts p) (get_or_past g o None past))
  ]

  -- with no more ways down
  pub Grounded_fewer : (old new : Graph F) → ((o p : ℕ) → 0 < holds parts p (at new o) → 0 < holds parts p (at old o)) → (o : ℕ) → IsGrounded parts old o → IsGrounded parts new o
  Grounded_fewer old new fewer o (ground below) = ground (λ p h. Grounded_fewer old new fewer p (below p (fewer o p h)))

  Grounded_away : (old new : Graph F) (o : ℕ) → ((x : ℕ) → x ≢ o → at new x ≡ at old x) → (x : ℕ) → IsGrounded parts old x → (Leads parts old x o → ⊥) → IsGrounded parts new x
  Grounded_away old new o others x (ground below) away =
      let ne : x ≢ o = λ e. away (subst (λ y. Leads parts old x y) e here) in
      ground (λ p h.
      let was : 0 < holds parts p (at old x) = subst (λ s. 0 < holds parts p s) (others x ne) h in
      Grounded_away old new o others p (below p was) (λ l. away (down was l)))

  Grounded_write : (old new : Graph F) (o : ℕ) → ((x : ℕ) → x ≢ o → at new x ≡ at old x) → IsGrounded parts new o → (x : ℕ) → IsGrounded parts old x → IsGrounded parts new x
  Grounded_write old new o others now x (ground below) =
      elim (cases_eq x o) [
        | inl e ↦ subst (IsGrounded parts new) (sym e) now
        | inr ne ↦ ground (λ p h. Grounded_write old new o others now p (below p (subst (λ s. 0 < holds parts p s) (others x ne) h)))
      ]

  -- a write of an object whose parts don't lead to it
  pub Grounded_updates : (old new : Graph F) (o : ℕ) (slot : Option (Object F)) → Updates old new o slot → ((x : ℕ) → IsGrounded parts old x) → ((p : ℕ) → 0 < holds parts p slot → Leads parts old p o → ⊥) → (x : ℕ) → IsGrounded parts new x
  Grounded_updates old new o slot u were away x =
      let now : IsGrounded parts new o = ground (λ p h. Grounded_away old new o u.others p (were p) (away p (subst (λ s. 0 < holds parts p s) u.changed h))) in
      Grounded_write old new o u.others now x (were x)

  -- what nothing holds is reached from itself alone
  pub Leads_to_free : (g : Graph F) (p o : ℕ) → held parts g o ≡ 0 → Leads parts g p o → p ≡ o
  Leads_to_free g p o free here = refl
  Leads_to_free g p o free (down {p = q} h l) =
      let e : q ≡ o = Leads_to_free g q o free l in
      let held_here : 0 < holds parts o (at g p) = subst (λ y. 0 < holds parts y (at g p)) e h in
      absurd (omega (arith, holds_le_held g p o))

  pub Sound_empty : IsCounted parts []
  unfolding held
  Sound_empty = record {
    there = λ p e. refl;
    counts = λ o n e. absurd (cc);
    counted = λ o n e ne. absurd (cc);
    grounded = λ o. ground (λ p h. absurd (omega arith));
    unlinked = λ o n e. absurd (cc);
  }

  -- a new object that takes parts over from outside
  pub Sound_insert : (old new : Graph F) (o : ℕ) (m : Object F) → IsCounted parts old → at old o ≡ None → Updates old new o (Some m) → m.count ≡ 1 → m.next ≡ None → ((p : ℕ) → 0 < occurs p (form_parts parts m.form) → HasOutside parts old p (occurs p (form_parts parts m.form))) → IsCounted parts new
  Sound_insert old new o m sound vacant u one free takes =
      let free_before : held parts old o ≡ 0 = sound.there o vacant in
      let rises : (p : ℕ) → held parts new p ≡ held parts old p + occurs p (form_parts parts m.form) =
      λ p. omega (arith, held_updates old new o (Some m) u p, ap (holds parts p) vacant) in
      let untaken : (p : ℕ) → at old p ≡ None → occurs p (form_parts parts m.form) ≡ 0 =
      λ p none. elim (cases_lt 0 (occurs p (form_parts parts m.form))) [
        | inl some ↦ absurd (some_is_there old p none (takes p some).there)
        | inr none_of_it ↦ omega arith
      ] in
      record {
        there = λ p none. elim (at_cases old new o (Some m) u p) [
          | inl w ↦ absurd (cc)
          | inr w ↦ omega (arith, rises p, sound.there p (sym w.1 ∙ none), untaken p (sym w.1 ∙ none))
        ];
        counts = λ p n is. elim (at_cases old new o (Some m) u p) [
          | inl w ↦ let e : n ≡ m = cc in subst (λ (x : Object F). (1 ≤ x.count) × (x.count ≤ stuck)) (sym e) (omega arith, omega arith)
          | inr w ↦ sound.counts p n (sym w.1 ∙ is)
        ];
        counted = λ p n is loose. elim (at_cases old new o (Some m) u p) [
          | inl w ↦ omega (arith, ap (held parts new) w.0, rises o, free_before, untaken o vacant)
          | inr w ↦
              let was : at old p ≡ Some n = sym w.1 ∙ is in
              elim (cases_lt 0 (occurs p (form_parts parts m.form))) [
                | inl some ↦ omega (arith, rises p, (takes p some).outside n was loose)
                | inr none_of_it ↦ omega (arith, rises p, sound.counted p n was loose)
              ]
        ];
        grounded = Grounded_updates old new o (Some m) u sound.grounded (λ p h l.
            let e : p ≡ o = Leads_to_free old p o free_before l in
            absurd (omega (arith, untaken p (ap (at old) e ∙ vacant))));
        unlinked = λ p n is. elim (at_cases old new o (Some m) u p) [
          | inl w ↦ let e : n ≡ m = cc in ap (λ (x : Object F). x.next) e ∙ free
          | inr w ↦ sound.unlinked p n (sym w.1 ∙ is)
        ];
      }

  -- another count, text or depth, with the same form
  pub Sound_recount : (old new : Graph F) (o : ℕ) (n m : Object F) → IsCounted parts old → at old o ≡ Some n → Updates old new o (Some m) → m.form ≡ n.form → m.next ≡ n.next → 1 ≤ m.count → m.count ≤ stuck → (m.count ≢ stuck → held parts old o ≤ m.count) → IsCounted parts new
  Sound_recount old new o n m sound was u form next low high enough =
      let alike : (p : ℕ) → holds parts p (Some m) ≡ holds parts p (at old o) =
      λ p. ap (λ f. occurs p (form_parts parts f)) form ∙ sym (ap (holds parts p) was) in
      let keeps : (p : ℕ) → held parts new p ≡ held parts old p =
      λ p. omega (arith, held_updates old new o (Some m) u p, alike p) in
      record {
        there = λ p none. elim (at_cases old new o (Some m) u p) [
          | inl w ↦ absurd (cc)
          | inr w ↦ keeps p ∙ sound.there p (sym w.1 ∙ none)
        ];
        counts = λ p x is. elim (at_cases old new o (Some m) u p) [
          | inl w ↦ let e : x ≡ m = cc in subst (λ (y : Object F). (1 ≤ y.count) × (y.count ≤ stuck)) (sym e) (low, high)
          | inr w ↦ sound.counts p x (sym w.1 ∙ is)
        ];
        counted = λ p x is loose. elim (at_cases old new o (Some m) u p) [
          | inl w ↦
              let e : x ≡ m = cc in
              let same_count : x.count ≡ m.count = ap (λ (y : Object F). y.count) e in
              omega (arith, keeps p, ap (held parts old) w.0, enough (λ e2. loose (same_count ∙ e2)))
          | inr w ↦ omega (arith, keeps p, sound.counted p x (sym w.1 ∙ is) loose)
        ];
        grounded = λ x. Grounded_fewer old new (λ y p h. elim (at_cases old new o (Some m) u y) [
          | inl w ↦ subst (λ s. 0 < holds parts p s) (ap (at old) (sym w.0)) (omega (arith, alike p, ap (holds parts p) w.1))
          | inr w ↦ subst (λ s. 0 < holds parts p s) w.1 h
        ]) x (sound.grounded x);
        unlinked = λ p x is. elim (at_cases old new o (Some m) u p) [
          | inl w ↦ let e : x ≡ m = cc in ap (λ (y : Object F). y.next) e ∙ next ∙ sound.unlinked o n was
          | inr w ↦ sound.unlinked p x (sym w.1 ∙ is)
        ];
      }

  pub Sound_set : (g : Graph F) (o : ℕ) (n m : Object F) → IsCounted parts g → at g o ≡ Some n → m.form ≡ n.form → m.next ≡ n.next → 1 ≤ m.count → m.count ≤ stuck → (m.count ≢ stuck → held parts g o ≤ m.count) → IsCounted parts (set g o (Some m))
  Sound_set g o n m sound is = Sound_recount g (set g o (Some m)) o n m sound is (Updates_set g o n (Some m) is)

  count_before : (old new : Graph F) (o : ℕ) (n m : Object F) → at old o ≡ Some n → Updates old new o (Some m) → m.count ≡ n.count → (p : ℕ) (x : Object F) → at new p ≡ Some x → (y : Object F) × (at old p ≡ Some y) × (x.count ≡ y.count)
  count_before old new o n m was u same_count p x is = elim (at_cases old new o (Some m) u p) [
    | inl w ↦ let e : x ≡ m = cc in (n, ap (at old) w.0 ∙ was, ap (λ (y : Object F). y.count) e ∙ same_count)
    | inr w ↦ (x, sym w.1 ∙ is, refl)
  ]

  -- another form, whose parts pass from outside; those of the old form pass to outside
  pub Sound_reform : (old new : Graph F) (o : ℕ) (n m : Object F) → IsCounted parts old → at old o ≡ Some n → Updates old new o (Some m) → m.count ≡ n.count → m.next ≡ n.next → Takes parts old (form_parts parts m.form) → ((p : ℕ) → 0 < occurs p (form_parts parts m.form) → Leads parts old p o → ⊥) → IsCounted parts new × Takes parts new (form_parts parts n.form)
  Sound_reform old new o n m sound was u same_count next takes apart =
      let moves : (p : ℕ) → held parts new p + occurs p (form_parts parts n.form) ≡ held parts old p + occurs p (form_parts parts m.form) =
      λ p. omega (arith, held_updates old new o (Some m) u p, ap (holds parts p) was) in
      let untaken : (p : ℕ) → at old p ≡ None → occurs p (form_parts parts m.form) ≡ 0 =
      λ p none. elim (cases_lt 0 (occurs p (form_parts parts m.form))) [
        | inl some ↦ absurd (some_is_there old p none (takes p some).there)
        | inr free ↦ omega arith
      ] in
      let enough : (p : ℕ) (x : Object F) → at new p ≡ Some x → x.count ≢ stuck → held parts old p + occurs p (form_parts parts m.form) ≤ x.count =
      λ p x is loose.
      let b = count_before old new o n m was u same_count p x is in
      let loose_b : b.0.count ≢ stuck = λ e. loose (b.2 ∙ e) in
      elim (cases_lt 0 (occurs p (form_parts parts m.form))) [
        | inl some ↦ omega (arith, (takes p some).outside b.0 b.1 loose_b, b.2)
        | inr free ↦ omega (arith, sound.counted p b.0 b.1 loose_b, b.2)
      ] in (
        record {
          there = λ p none. elim (at_cases old new o (Some m) u p) [
            | inl w ↦ absurd (cc)
            | inr w ↦ omega (arith, moves p, sound.there p (sym w.1 ∙ none), untaken p (sym w.1 ∙ none))
          ];
          counts = λ p x is. let b = count_before old new o n m was u same_count p x is in omega_pair x.count b.0.count b.2 (sound.counts p b.0 b.1);
          counted = λ p x is loose. omega (arith, moves p, enough p x is loose);
          grounded = Grounded_updates old new o (Some m) u sound.grounded apart;
          unlinked = λ p x is. elim (at_cases old new o (Some m) u p) [
            | inl w ↦ let e : x ≡ m = cc in ap (λ (y : Object F). y.next) e ∙ next ∙ sound.unlinked o n was
            | inr w ↦ sound.unlinked p x (sym w.1 ∙ is)
          ];
        },
        λ p some. record {
          there = still_there p some;
          outside = λ x is loose. omega (arith, moves p, enough p x is loose);
        },
      )
    where
      omega_pair : (a b : ℕ) → a ≡ b → (1 ≤ b) × (b ≤ stuck) → (1 ≤ a) × (a ≤ stuck)
      omega_pair a b e h = (omega (arith, h.0), omega (arith, h.1))

      still_there : (p : ℕ) → 0 < occurs p (form_parts parts n.form) → IsSome (at new p)
      still_there p some = elim (at_cases old new o (Some m) u p) [
        | inl w ↦ ap is_some w.1
        | inr w ↦ subst IsSome (sym w.1) (by_slot (at old p) refl)
      ]
        where
          by_slot : (slot : Option (Object F)) → at old p ≡ slot → IsSome (at old p)
          by_slot None e = absurd (omega (arith, sound.there p e, holds_le_held old o p, ap (holds parts p) was))
          by_slot (Some x) e = ap is_some e
