-- Texts that are made, one after another, and taken away again.
use Rattle.std.proofs.Common.{◌≡◌, ℕ, ◌<◌, inl, inr, List, [], ◌∷◌, ◌++◌, length, get_or, set, Option, Some, None, IsSome, is_some, refl, sym, ap, ◌∙◌, arith, subst}
use Rattle.std.proofs.lemmas.Bool.{cases_eq, cases_lt}
use Rattle.std.proofs.lemmas.List.{ext_get_or, length-set}
use Rattle.tclv_heap.specs.declared.ids.Object.{Object}
use Rattle.tclv_heap.specs.Table.{Table}
use Rattle.tclv_heap.specs.Graph.{Graph, at, text_in, form_in, occurs, Updates, held, holds, form_parts, Leads}
use Rattle.tclv_heap.specs.Graph.Leads.{here, down}
use Rattle.tclv_heap.specs.Stands.{depth_of, depth_for, stands, IsSpoken, IsSound, IsClosed, Tells, TellsBelow, Retexted}
use Rattle.tclv_heap.specs.Noted.{Noted, Untexted}
use Rattle.tclv_heap.proofs.GraphLemmas.{at_cases, some_is_there, Updates_set}
use Rattle.tclv_heap.proofs.DyingLemmas.{same_yes, same_no}
use Rattle.tclv_heap.proofs.StandsLemmas.{part_there}
use Rattle.tclv_heap.proofs.HeapLemmas.{stands_text_in, some_value}
use Rattle.tclv_heap.proofs.TextLemmas.{occurs_at}
use Rattle.tclv_heap.proofs.CopyLemmas.{by_slot, occurs_push, held_alike}

module _ {F : Type 0} (t : Table F) where
  pub Retexted_same : (Among : ℕ → Type 0) (g : Graph F) → Retexted t Among g g
  Retexted_same Among g = record { kept = λ o n is. inl is; none = λ o e. e }

  pub Retexted_one : (Among : ℕ → Type 0) (g new : Graph F) (o : ℕ) (n : Object F) → Among o → at g o ≡ Some n → n.text ≡ None → Updates g new o (Some (record n { text = Some (stands t g o) })) → Retexted t Among g new
  Retexted_one Among g new o n among is none u = record {
    kept = λ x y was. elim (at_cases g new o (Some (record n { text = Some (stands t g o) })) u x) [
      | inl w ↦
          let e : n ≡ y = (let e2 : Some n ≡ Some y = sym is ∙ ap (at g) (sym w.0) ∙ was in cc) in
          inr (subst Among (sym w.0) among, sym (ap (λ (z : Object F). z.text) e) ∙ none, w.1 ∙ ap (λ (z : Object F). Some (record z { text = Some (stands t g o) })) e ∙ ap (λ z. Some (record y { text = Some (stands t g z) })) (sym w.0))
      | inr w ↦ inl (w.1 ∙ was)
    ];
    none = λ x e. elim (at_cases g new o (Some (record n { text = Some (stands t g o) })) u x) [
      | inl w ↦ absurd (let e2 : None ≡ Some n = sym e ∙ ap (at g) w.0 ∙ is in cc)
      | inr w ↦ w.1 ∙ e
    ];
  }

  pub Retexted_wider : (A B : ℕ → Type 0) (g new : Graph F) → ((o : ℕ) → A o → B o) → Retexted t A g new → Retexted t B g new
  Retexted_wider A B g new wider r = record {
    kept = λ o n is. elim (r.kept o n is) [ inl s ↦ inl s | inr s ↦ inr (wider o s.0, s.1, s.2) ];
    none = r.none;
  }

  -- one after another
  pub Retexted_then : (Among : ℕ → Type 0) (a b c : Graph F) → ((o : ℕ) → IsSome (at a o) → stands t b o ≡ stands t a o) → Retexted t Among a b → Retexted t Among b c → Retexted t Among a c
  Retexted_then Among a b c says first second = record {
    kept = λ o n is. elim (first.kept o n is) [
      | inl same_b ↦ elim (second.kept o n same_b) [
        | inl same_c ↦ inl same_c
        | inr w ↦ inr (w.0, w.1, w.2 ∙ ap (λ z. Some (record n { text = Some z })) (says o (ap is_some is)))
      ]
      | inr v ↦ elim (second.kept o (record n { text = Some (stands t a o) }) v.2) [
        | inl same_c ↦ inr (v.0, v.1, same_c)
        | inr w ↦ absurd (let e = w.1 in cc)
      ]
    ];
    none = λ o e. second.none o (first.none o e);
  }

  module _ (Among : ℕ → Type 0) (old new : Graph F) (r : Retexted t Among old new) where
    pub held_retexted : (p : ℕ) → held t.parts new p ≡ held t.parts old p
    held_retexted p = held_alike t old new p (λ o. by_slot _ (at old o)
        (λ e. ap (holds t.parts p) (r.none o e ∙ sym e))
        (λ n e. elim (r.kept o n e) [
          | inl s ↦ ap (holds t.parts p) (s ∙ sym e)
          | inr s ↦ ap (holds t.parts p) s.2 ∙ sym (ap (holds t.parts p) e)
        ]))

    pub retexted_there : (o : ℕ) → IsSome (at old o) → IsSome (at new o)
    retexted_there o there = by_slot _ (at old o) (λ e. absurd (some_is_there old o e there)) (λ n e. elim (r.kept o n e) [ inl s ↦ ap is_some s | inr s ↦ ap is_some s.2 ])

    pub retexted_form : (o : ℕ) → form_in (at new o) ≡ form_in (at old o)
    retexted_form o = by_slot _ (at old o)
        (λ e. ap form_in (r.none o e ∙ sym e))
        (λ n e. elim (r.kept o n e) [ inl s ↦ ap form_in (s ∙ sym e) | inr s ↦ ap form_in s.2 ∙ sym (ap form_in e) ])

    pub retexted_text : (o : ℕ) → IsSome (text_in (at old o)) → IsSome (text_in (at new o))
    retexted_text o has = by_slot _ (at old o)
        (λ e. absurd (let e2 = ap (λ x. is_some (text_in x)) e in cc))
        (λ n e. elim (r.kept o n e) [ inl s ↦ ap (λ x. is_some (text_in x)) (s ∙ sym e) ∙ has | inr s ↦ ap (λ x. is_some (text_in x)) s.2 ])

    retexted_holds : (p o : ℕ) → holds t.parts p (at new o) ≡ holds t.parts p (at old o)
    retexted_holds p o = by_slot _ (at old o)
        (λ e. ap (holds t.parts p) (r.none o e ∙ sym e))
        (λ n e. elim (r.kept o n e) [ inl s ↦ ap (holds t.parts p) (s ∙ sym e) | inr s ↦ ap (holds t.parts p) s.2 ∙ sym (ap (holds t.parts p) e) ])

    -- the ways down are the same
    pub retexted_leads : (o p : ℕ) → Leads t.parts new o p → Leads t.parts old o p
    retexted_leads o p here = here
    retexted_leads o p (down {p = q} h l) = down (omega (arith, h, retexted_holds q o)) (retexted_leads q p l)

    pub retexted_tells : (o : ℕ) → Tells old o → Tells new o
    retexted_tells o tells n is none = by_slot _ (at old o)
        (λ e. absurd (let e2 : None ≡ Some n = sym (r.none o e) ∙ is in cc))
        (λ w e. elim (r.kept o w e) [
          | inl s ↦ let e2 : w ≡ n = (let e3 : Some w ≡ Some n = sym s ∙ is in cc) in subst IsSome (ap (λ (y : Object F). y.form) e2) (tells w e (ap (λ (y : Object F). y.text) e2 ∙ none))
          | inr s ↦
              let e2 : record w { text = Some (stands t old o) } ≡ n = (let e3 : Some (record w { text = Some (stands t old o) }) ≡ Some n = sym s.2 ∙ is in cc) in
              absurd (let e4 : Some (stands t old o) ≡ None = ap (λ (y : Object F). y.text) e2 ∙ none in cc)
        ])

    pub Closed_retexted : IsClosed old → IsClosed new
    Closed_retexted closed o = retexted_tells o (closed o)

    -- a part is less deep than an object without a text
    pub retexted_lower : IsSpoken t old → IsSound t new → (o : ℕ) (n : Object F) (p : ℕ) → at old o ≡ Some n → n.text ≡ None → 0 < occurs p (form_parts t.parts (form_in (at old o))) → (depth_of (at new p) < depth_of (at old o)) × IsSome (at new p)
    retexted_lower spoken valid o n p is none i = by_form n.form refl
      where
        i_n : 0 < occurs p (form_parts t.parts n.form)
        i_n = subst (λ x. 0 < occurs p (form_parts t.parts x)) (ap form_in is) i

        depth : depth_of (at old o) ≡ n.depth
        depth = ap depth_of is ∙ ap (λ x. depth_for x n.depth) none

        by_form : (x : Option F) → n.form ≡ x → (depth_of (at new p) < depth_of (at old o)) × IsSome (at new p)
        by_form None e = absurd (omega (arith, i_n, ap (λ x. occurs p (form_parts t.parts x)) e))
        by_form (Some f) e =
            let i_f : 0 < occurs p (t.parts f) = omega (arith, i_n, ap (λ x. occurs p (form_parts t.parts x)) e) in
            elim (r.kept o n is) [
              | inl s ↦ (omega (arith, valid.spoken.above o n f p s e i_f, depth), part_there t new valid.sound.there o n f p s e i_f)
              | inr s ↦ (omega (arith, valid.spoken.above o (record n { text = Some (stands t old o) }) f p s.2 e i_f, depth), part_there t new valid.sound.there o (record n { text = Some (stands t old o) }) f p s.2 e i_f)
            ]

  -- a part of an object leads where the object leads
  pub part_leads : (g : Graph F) (o p q : ℕ) → 0 < occurs p (form_parts t.parts (form_in (at g o))) → Leads t.parts g p q → Leads t.parts g o q
  part_leads g o p q i l = by_slot _ (at g o)
      (λ e. absurd (omega (arith, i, ap (λ x. occurs p (form_parts t.parts (form_in x))) e)))
      (λ n e. down (omega (arith, i, ap (λ x. occurs p (form_parts t.parts (form_in x))) e, ap (holds t.parts p) e)) l)

  -- a part of an object, read while texts are made
  module _ (Among : ℕ → Type 0) (old now : Graph F) (r : Retexted t Among old now) (o kid k : ℕ) (within : k < length (form_parts t.parts (form_in (at now o)))) (is : kid ≡ get_or (form_parts t.parts (form_in (at now o))) k 0) where
    pub kid_occurs : 0 < occurs kid (form_parts t.parts (form_in (at old o)))
    kid_occurs =
        let ps = form_parts t.parts (form_in (at now o)) in
        let here_now : 0 < occurs kid ps = subst (λ x. 0 < occurs x ps) (sym is) (occurs_at ps k within) in
        omega (arith, here_now, ap (λ x. occurs kid (form_parts t.parts x)) (retexted_form Among old now r o))

    pub kid_leads : (p : ℕ) → Leads t.parts now kid p → Leads t.parts old o p
    kid_leads p l = part_leads old o kid p kid_occurs (retexted_leads Among old now r kid p l)

    pub kid_told : TellsBelow t.parts old o → TellsBelow t.parts now kid
    kid_told told p l = retexted_tells Among old now r p (told p (kid_leads p l))

  pub text_says : (old new : Graph F) (o : ℕ) → IsSound t new → stands t new o ≡ stands t old o → IsSome (text_in (at new o)) → text_in (at new o) ≡ Some (stands t old o)
  text_says old new o valid says has = let s = some_value t (text_in (at new o)) has in s.1 ∙ ap Some (sym (stands_text_in t new valid.spoken o s.0 s.1) ∙ says)

  -- notes
  pub Noted_same : (Among : ℕ → Type 0) (g : Graph F) (ids : List ℕ) → Noted t Among g ids g ids
  Noted_same Among g ids = record { retexts = Retexted_same _ g; grows = λ o i. i; untold = λ o i. inl i; len = refl }

  pub Noted_one : (Among : ℕ → Type 0) (g new : Graph F) (o : ℕ) (n : Object F) (before after : List ℕ) → Among o → at g o ≡ Some n → n.text ≡ None → Updates g new o (Some (record n { text = Some (stands t g o) })) → length new ≡ length g → after ≡ before ++ o ∷ [] → Noted t Among g before new after
  Noted_one Among g new o n before after among is none u len grows =
      let more : (x : ℕ) → occurs x after ≡ occurs x (before ++ o ∷ []) = λ x. ap (occurs x) grows in
      record {
        retexts = Retexted_one (λ x. Among x × (0 < occurs x after)) g new o n (among, omega (arith, more o, occurs_push o o before, same_yes o o refl)) is none u;
        grows = λ x i. omega (arith, i, more x, occurs_push x o before);
        untold = λ x i. elim (cases_eq x o) [
          | inl e ↦ inr (n, ap (at g) e ∙ is, none)
          | inr ne ↦ inl (omega (arith, i, more x, occurs_push x o before, same_no x o ne))
        ];
        len = len;
      }

  pub Noted_then : (A B : ℕ → Type 0) (a b c : Graph F) (x y z : List ℕ) → ((o : ℕ) → IsSome (at a o) → stands t b o ≡ stands t a o) → ((o : ℕ) → B o → A o) → Noted t A a x b y → Noted t B b y c z → Noted t A a x c z
  Noted_then A B a b c x y z says wider first second = record {
    retexts = Retexted_then (λ o. A o × (0 < occurs o z)) a b c says
        (Retexted_wider (λ o. A o × (0 < occurs o y)) (λ o. A o × (0 < occurs o z)) a b (λ o h. (h.0, second.grows o h.1)) first.retexts)
        (Retexted_wider (λ o. B o × (0 < occurs o z)) (λ o. A o × (0 < occurs o z)) b c (λ o h. (wider o h.0, h.1)) second.retexts);
    grows = λ o i. second.grows o (first.grows o i);
    untold = λ o i. elim (second.untold o i) [
      | inl i_y ↦ first.untold o i_y
      | inr w ↦ inr (before o w)
    ];
    len = second.len ∙ first.len;
  }
    where
      before : (o : ℕ) → (n : Object F) × (at b o ≡ Some n) × (n.text ≡ None) → (n : Object F) × (at a o ≡ Some n) × (n.text ≡ None)
      before o w = by_slot _ (at a o)
          (λ e. absurd (let e2 : None ≡ Some w.0 = sym (first.retexts.none o e) ∙ w.1 in cc))
          (λ n e. elim (first.retexts.kept o n e) [
            | inl s ↦ let e2 : n ≡ w.0 = (let e3 : Some n ≡ Some w.0 = sym s ∙ w.1 in cc) in (n, e, ap (λ (q : Object F). q.text) e2 ∙ w.2)
            | inr s ↦ (n, e, s.1)
          ])

  -- what is noted is there
  pub noted_there : (Among : ℕ → Type 0) (g mid : Graph F) (made : List ℕ) → Noted t Among g [] mid made → (o : ℕ) → 0 < occurs o made → IsSome (at mid o)
  noted_there Among g mid made noted o i = elim (noted.untold o i) [
    | inl never ↦ absurd (omega (arith, never))
    | inr w ↦ retexted_there _ g mid noted.retexts o (ap is_some w.1)
  ]

  -- without the texts that were made the graph is as before
  pub Untexted_back : (Among : ℕ → Type 0) (g mid new : Graph F) (made : List ℕ) → Noted t Among g [] mid made → Untexted mid made new → new ≡ g
  Untexted_back Among g mid new made noted away = ext_get_or None new g (away.len ∙ noted.len) (λ i _. back i)
    where
      bare : (n : Object F) → n.text ≡ None → Some (record n { text = None }) ≡ Some n
      bare n none = ap (λ x. Some (record n { text = x })) (sym none)

      noted_back : (i : ℕ) → 0 < occurs i made → (n : Object F) × (at g i ≡ Some n) × (n.text ≡ None) → at new i ≡ at g i
      noted_back i h w = elim (noted.retexts.kept i w.0 w.1) [
        | inl s ↦ away.away i w.0 h s ∙ bare w.0 w.2 ∙ sym w.1
        | inr s ↦ away.away i (record (w.0) { text = Some (stands t g i) }) h s.2 ∙ bare w.0 w.2 ∙ sym w.1
      ]

      other_back : (i : ℕ) → (0 < occurs i made → ⊥) → at mid i ≡ at g i
      other_back i not_noted = by_slot _ (at g i)
          (λ e. noted.retexts.none i e ∙ sym e)
          (λ n e. elim (noted.retexts.kept i n e) [
            | inl s ↦ s ∙ sym e
            | inr s ↦ absurd (not_noted s.0.1)
          ])

      back : (i : ℕ) → at new i ≡ at g i
      back i = elim (cases_lt 0 (occurs i made)) [
        | inl h ↦ elim (noted.untold i h) [
          | inl never ↦ absurd (omega (arith, never))
          | inr w ↦ noted_back i h w
        ]
        | inr none ↦ let not_noted : 0 < occurs i made → ⊥ = λ h. omega arith in away.others i not_noted ∙ other_back i not_noted
      ]

module _ {F : Type 0} where
  pub Untexted_start : (g : Graph F) → Untexted g [] g
  Untexted_start g = record { away = λ o n i is. absurd (omega (arith, i)); others = λ o not_there. refl; len = refl }

  -- one more text goes
  pub Untexted_more : (g mid : Graph F) (ids more : List ℕ) (p : ℕ) (r : Object F) → more ≡ ids ++ p ∷ [] → Untexted g ids mid → at mid p ≡ Some r → Untexted g more (set mid p (Some (record r { text = None })))
  Untexted_more g mid ids more p r grows u is =
      let up = Updates_set mid p r (Some (record r { text = None })) is in
      let count : (o : ℕ) → occurs o more ≡ occurs o (ids ++ p ∷ []) = λ o. ap (occurs o) grows in
      record {
        away = λ o n i was. elim (at_cases mid _ p _ up o) [
          | inl w ↦ w.1 ∙ written o n i was w.0
          | inr w ↦ w.1 ∙ u.away o n (omega (arith, i, count o, occurs_push o p ids, same_no o p w.0)) was
        ];
        others = λ o not_there. elim (at_cases mid _ p _ up o) [
          | inl w ↦ absurd (not_there (omega (arith, count o, occurs_push o p ids, same_yes o p w.0)))
          | inr w ↦ w.1 ∙ u.others o (λ i. not_there (omega (arith, i, count o, occurs_push o p ids)))
        ];
        len = length-set mid p _ ∙ u.len;
      }
    where
      written : (o : ℕ) (n : Object F) → 0 < occurs o more → at g o ≡ Some n → o ≡ p → Some (record r { text = None }) ≡ Some (record n { text = None })
      written o n i was e = elim (cases_lt 0 (occurs o ids)) [
        | inl before ↦ let e2 : Some r ≡ Some (record n { text = None }) = sym is ∙ ap (at mid) (sym e) ∙ u.away o n before was in let e3 : r ≡ record n { text = None } = cc in ap (λ (y : Object F). Some (record y { text = None })) e3
        | inr none ↦ let not_before : 0 < occurs o ids → ⊥ = λ h. omega arith in let e2 : Some r ≡ Some n = sym is ∙ ap (at mid) (sym e) ∙ u.others o not_before ∙ was in let e3 : r ≡ n = cc in ap (λ (y : Object F). Some (record y { text = None })) e3
      ]

  -- what is noted is still there
  pub untexted_there : (g mid : Graph F) (ids : List ℕ) (p : ℕ) → Untexted g ids mid → IsSome (at g p) → IsSome (at mid p)
  untexted_there g mid ids p u there = by_slot _ (at g p)
      (λ e. absurd (some_is_there g p e there))
      (λ n e. elim (cases_lt 0 (occurs p ids)) [
        | inl i ↦ ap is_some (u.away p n i e)
        | inr none ↦ let not_there : 0 < occurs p ids → ⊥ = λ h. omega arith in ap is_some (u.others p not_there ∙ e)
      ])

pub made_more : (p q : ℕ) (xs ys : List ℕ) (P : Type 0) → ys ≡ xs ++ q ∷ [] → 0 < occurs p ys → (0 < occurs p xs → P) → (p ≡ q → P) → P
made_more p q xs ys P grows i before last = elim (cases_eq p q) [
  | inl e ↦ last e
  | inr ne ↦ before (omega (arith, i, ap (occurs p) grows, occurs_push p q xs, same_no p q ne))
]
