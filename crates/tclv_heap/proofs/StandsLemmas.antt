-- What objects stand for, after a change of the graph.
use Rattle.std.proofs.Common.{◌≡◌, ◌≢◌, ℕ, zero, suc, ◌<◌, ◌≤◌, inl, inr, List, [], ◌∷◌, map, Option, Some, None, IsSome, is_some, refl, sym, ap, ◌∙◌, arith, subst}
use Rattle.tclv_heap.specs.declared.ids.Object.{Object}
use Rattle.tclv_heap.specs.Table.{Table}
use Rattle.tclv_heap.specs.Graph.{Graph, at, occurs, Updates, held, holds, form_parts}
use Rattle.tclv_heap.specs.Stands.{deepest, depth_for, depth_of, said_by, said, stands_in, stands, IsSpoken}
use Rattle.tclv_heap.proofs.DyingLemmas.{occurs-cons, same_yes}
use Rattle.tclv_heap.proofs.GraphLemmas.{at_cases, some_is_there, holds_le_held}

-- two functions that agree on a list's numbers give the same list
pub map_agree : {X : Type 0} (f h : ℕ → X) (ps : List ℕ) → ((p : ℕ) → 0 < occurs p ps → f p ≡ h p) → map f ps ≡ map h ps
map_agree f h [] agree = refl
map_agree f h (p ∷ ps) agree =
    let first : f p ≡ h p = agree p (omega (arith, occurs-cons p p ps, same_yes p p refl)) in
    let rest = map_agree f h ps (λ q i. agree q (omega (arith, occurs-cons q p ps))) in
    cc

module _ {F : Type 0} (t : Table F) where
  -- what is said depends on the parts' texts alone
  pub said_by_agree : (text : Option (List ℕ)) (form : Option F) (a b : ℕ → List ℕ) → (text ≡ None → (f : F) → form ≡ Some f → (p : ℕ) → 0 < occurs p (t.parts f) → a p ≡ b p) → said_by t text form a ≡ said_by t text form b
  said_by_agree (Some s) form a b h = refl
  said_by_agree None None a b h = refl
  said_by_agree None (Some f) a b h = ap (t.spelled f) (map_agree a b (t.parts f) (h refl f refl))

  pub said_agree : (slot : Option (Object F)) (a b : ℕ → List ℕ) → ((n : Object F) → slot ≡ Some n → n.text ≡ None → (f : F) → n.form ≡ Some f → (p : ℕ) → 0 < occurs p (t.parts f) → a p ≡ b p) → said t slot a ≡ said t slot b
  said_agree None a b h = refl
  said_agree (Some n) a b h = said_by_agree n.text n.form a b (h n refl)

  -- more room changes nothing, once there is enough
  stands_more : (g : Graph F) → IsSpoken t g → (k : ℕ) (o : ℕ) → depth_of (at g o) ≤ k → stands_in t (suc k) g o ≡ stands_in t k g o
  unfolding stands_in
  stands_more g spoken zero o low = said_agree (at g o) (stands_in t zero g) (λ _. []) (λ n is none f form p i.
      absurd (omega (arith, (spoken.shallow o n f is form).0, ap depth_of is, ap (λ x. depth_for x n.depth) none)))
  stands_more g spoken (suc k) o low = said_agree (at g o) (stands_in t (suc k) g) (stands_in t k g) (λ n is none f form p i.
      stands_more g spoken k p (omega (arith, spoken.above o n f p is form i, ap depth_of is, ap (λ x. depth_for x n.depth) none)))

  depth_bound : (g : Graph F) → IsSpoken t g → (o : ℕ) → depth_of (at g o) ≤ deepest
  depth_bound g spoken o = by_slot (at g o) refl
    where
      by_form : (n : Object F) → at g o ≡ Some n → (x : Option F) → n.form ≡ x → n.depth ≤ deepest
      by_form n is (Some f) e = (spoken.shallow o n f is e).1
      by_form n is None e = omega (arith, spoken.plain o n is e)

      by_text : (n : Object F) → at g o ≡ Some n → (x : Option (List ℕ)) → n.text ≡ x → depth_for x n.depth ≤ deepest
      by_text n is (Some s) e = omega arith
      by_text n is None e = by_form n is n.form refl

      by_slot : (slot : Option (Object F)) → at g o ≡ slot → depth_of slot ≤ deepest
      by_slot None e = omega arith
      by_slot (Some n) e = by_text n e n.text refl

  -- an object stands for its text, or for what its form spells on what its parts stand for
  pub stands_is : (g : Graph F) → IsSpoken t g → (o : ℕ) → stands t g o ≡ said t (at g o) (stands t g)
  unfolding stands_in stands
  stands_is g spoken o = said_agree (at g o) (stands_in t 49 g) (stands t g) (λ n is none f form p i.
      sym (stands_more g spoken 49 p (omega (arith, spoken.above o n f p is form i, (spoken.shallow o n f is form).1))))

  -- the new object says what the old one stands for, from parts that are lower and in `Ok`
  pub record Agrees (Ok : ℕ → Type 0) (g new : Graph F) (o : ℕ) : Type 0 where
    pub text : Option (List ℕ)
    pub form : Option F
    pub said_new : (a : ℕ → List ℕ) → said t (at new o) a ≡ said_by t text form a
    pub was : said_by t text form (stands t g) ≡ stands t g o
    pub lower : text ≡ None → (f : F) → form ≡ Some f → (p : ℕ) → 0 < occurs p (t.parts f) → depth_of (at g p) < depth_of (at g o)
    pub inside : text ≡ None → (f : F) → form ≡ Some f → (p : ℕ) → 0 < occurs p (t.parts f) → Ok p

  stands_same_in : (g new : Graph F) (Ok : ℕ → Type 0) → ((o : ℕ) → Ok o → Agrees Ok g new o) → (k o : ℕ) → Ok o → depth_of (at g o) ≤ k → stands_in t k new o ≡ stands t g o
  unfolding stands_in
  stands_same_in g new Ok agrees zero o ok low =
      let a = agrees o ok in
      a.said_new (λ _. []) ∙ said_by_agree a.text a.form (λ _. []) (stands t g) (λ none f form p i. absurd (omega (arith, a.lower none f form p i))) ∙ a.was
  stands_same_in g new Ok agrees (suc k) o ok low =
      let a = agrees o ok in
      a.said_new (stands_in t k new) ∙ said_by_agree a.text a.form (stands_in t k new) (stands t g) (λ none f form p i.
      stands_same_in g new Ok agrees k p (a.inside none f form p i) (omega (arith, a.lower none f form p i))) ∙ a.was

  -- objects that agree in what they say stand for the same
  pub stands_same : (g new : Graph F) → IsSpoken t g → (Ok : ℕ → Type 0) → ((o : ℕ) → Ok o → Agrees Ok g new o) → (o : ℕ) → Ok o → stands t new o ≡ stands t g o
  unfolding stands
  stands_same g new spoken Ok agrees o ok = stands_same_in g new Ok agrees deepest o ok (depth_bound g spoken o)

  -- a part is there
  pub part_there : (g : Graph F) → ((p : ℕ) → at g p ≡ None → held t.parts g p ≡ 0) → (o : ℕ) (n : Object F) (f : F) (p : ℕ) → at g o ≡ Some n → n.form ≡ Some f → 0 < occurs p (t.parts f) → IsSome (at g p)
  part_there g there o n f p is form i = by_slot (at g p) refl
    where
      holding : 0 < holds t.parts p (at g o)
      holding = omega (arith, ap (holds t.parts p) is, ap (λ x. occurs p (form_parts t.parts x)) form)

      by_slot : (slot : Option (Object F)) → at g p ≡ slot → IsSome (at g p)
      by_slot None e = absurd (omega (arith, there p e, holds_le_held t.parts g o p, holding))
      by_slot (Some x) e = ap is_some e

  -- the same text and form
  pub Agrees_kept : (Ok : ℕ → Type 0) (g new : Graph F) → IsSpoken t g → (o : ℕ) (n m : Object F) → at g o ≡ Some n → at new o ≡ Some m → m.text ≡ n.text → m.form ≡ n.form → ((f : F) → n.form ≡ Some f → (p : ℕ) → 0 < occurs p (t.parts f) → Ok p) → Agrees Ok g new o
  Agrees_kept Ok g new spoken o n m was is text form inside = record {
    text = n.text;
    form = n.form;
    said_new = λ a. ap (λ s. said t s a) is ∙ ap (λ x. said_by t x m.form a) text ∙ ap (λ x. said_by t n.text x a) form;
    was = sym (stands_is g spoken o ∙ ap (λ s. said t s (stands t g)) was);
    lower = λ none f e p i. omega (arith, spoken.above o n f p was e i, ap depth_of was, ap (λ x. depth_for x n.depth) none);
    inside = λ none f e p i. inside f e p i;
  }

  -- a text that was stood for
  pub Agrees_text : (Ok : ℕ → Type 0) (g new : Graph F) (o : ℕ) (m : Object F) → at new o ≡ Some m → m.text ≡ Some (stands t g o) → Agrees Ok g new o
  Agrees_text Ok g new o m is text = record {
    text = Some (stands t g o);
    form = m.form;
    said_new = λ a. ap (λ s. said t s a) is ∙ ap (λ x. said_by t x m.form a) text;
    was = refl;
    lower = λ none f e p i. absurd (cc);
    inside = λ none f e p i. absurd (cc);
  }

  pub stands_text : (g : Graph F) → IsSpoken t g → (o : ℕ) (n : Object F) (s : List ℕ) → at g o ≡ Some n → n.text ≡ Some s → stands t g o ≡ s
  stands_text g spoken o n s is text = stands_is g spoken o ∙ ap (λ x. said t x (stands t g)) is ∙ ap (λ x. said_by t x n.form (stands t g)) text

  pub stands_form : (g : Graph F) → IsSpoken t g → (o : ℕ) (n : Object F) (f : F) → at g o ≡ Some n → n.text ≡ None → n.form ≡ Some f → stands t g o ≡ t.spelled f (map (stands t g) (t.parts f))
  stands_form g spoken o n f is text form = stands_is g spoken o ∙ ap (λ x. said t x (stands t g)) is ∙ ap (λ x. said_by t x n.form (stands t g)) text ∙ ap (λ x. said_by t None x (stands t g)) form

  -- where objects only go or change their count
  pub record Kept (old new : Graph F) (o : ℕ) (n : Object F) : Type 0 where
    pub before : Object F
    pub was : at old o ≡ Some before
    pub text : n.text ≡ before.text
    pub form : n.form ≡ before.form
    pub depth : n.depth ≡ before.depth

  pub SaysSame_kept : (old new : Graph F) → IsSpoken t old → ((p : ℕ) → at new p ≡ None → held t.parts new p ≡ 0) → ((o : ℕ) (n : Object F) → at new o ≡ Some n → Kept old new o n) → (o : ℕ) → IsSome (at new o) → stands t new o ≡ stands t old o
  SaysSame_kept old new spoken there kept o ok = stands_same old new spoken (λ x. IsSome (at new x)) agrees o ok
    where
      agrees : (x : ℕ) → IsSome (at new x) → Agrees (λ y. IsSome (at new y)) old new x
      agrees x some = by_slot (at new x) refl
        where
          by_slot : (slot : Option (Object F)) → at new x ≡ slot → Agrees (λ y. IsSome (at new y)) old new x
          by_slot None e = absurd (some_is_there new x e some)
          by_slot (Some n) e =
              let k = kept x n e in
              Agrees_kept _ old new spoken x k.before n k.was e k.text k.form (λ f form p i. part_there new there x n f p e (k.form ∙ form) i)

  depth_kept : (old new : Graph F) → ((o : ℕ) (n : Object F) → at new o ≡ Some n → Kept old new o n) → (p : ℕ) → depth_of (at new p) ≤ depth_of (at old p)
  depth_kept old new kept p = by_slot (at new p) refl
    where
      by_slot : (slot : Option (Object F)) → at new p ≡ slot → depth_of slot ≤ depth_of (at old p)
      by_slot None e = omega arith
      by_slot (Some n) e =
          let k = kept p n e in
          omega (arith, ap depth_of k.was, ap (λ x. depth_for x n.depth) k.text, ap (λ x. depth_for k.before.text x) k.depth)

  pub Spoken_kept : (old new : Graph F) → IsSpoken t old → ((p : ℕ) → at new p ≡ None → held t.parts new p ≡ 0) → ((o : ℕ) (n : Object F) → at new o ≡ Some n → Kept old new o n) → IsSpoken t new
  Spoken_kept old new spoken there kept =
      let says = SaysSame_kept old new spoken there kept in
      record {
        spoken = λ o n f is none form. let k = kept o n is in spoken.spoken o k.before f k.was (sym k.text ∙ none) (sym k.form ∙ form);
        plain = λ o n is form. let k = kept o n is in k.depth ∙ spoken.plain o k.before k.was (sym k.form ∙ form);
        fitting = λ o n s f is text form.
            let k = kept o n is in
            let same : map (stands t new) (t.parts f) ≡ map (stands t old) (t.parts f) =
            map_agree (stands t new) (stands t old) (t.parts f) (λ p i. says p (part_there new there o n f p is form i)) in
            subst (t.Fits s f) (sym same) (spoken.fitting o k.before s f k.was (sym k.text ∙ text) (sym k.form ∙ form));
        shallow = λ o n f is form. let k = kept o n is in let h = spoken.shallow o k.before f k.was (sym k.form ∙ form) in (omega (arith, h.0, k.depth), omega (arith, h.1, k.depth));
        above = λ o n f p is form i.
            let k = kept o n is in
            omega (arith, spoken.above o k.before f p k.was (sym k.form ∙ form) i, k.depth, depth_kept old new kept p);
      }

  -- the object that is written, by what was before
  pub record Speaks (old : Graph F) (o : ℕ) (m : Object F) : Type 0 where
    pub spoken : (f : F) → m.text ≡ None → m.form ≡ Some f → t.Spells f
    pub plain : m.form ≡ None → m.depth ≡ 0
    pub fitting : (s : List ℕ) (f : F) → m.text ≡ Some s → m.form ≡ Some f → t.Fits s f (map (stands t old) (t.parts f))
    pub shallow : (f : F) → m.form ≡ Some f → (1 ≤ m.depth) × (m.depth ≤ deepest)
    pub parts : (f : F) → m.form ≡ Some f → (p : ℕ) → 0 < occurs p (t.parts f) → (p ≢ o) × IsSome (at old p) × (depth_of (at old p) < m.depth)

  -- one object is written, and what was there stands for the same
  pub Spoken_write : (old new : Graph F) (o : ℕ) (m : Object F) → IsSpoken t old → ((p : ℕ) → at old p ≡ None → held t.parts old p ≡ 0) → Updates old new o (Some m) → Speaks old o m → ((p : ℕ) → IsSome (at old p) → (p ≡ o → 0 < held t.parts old o) → stands t new p ≡ stands t old p) → ((x : ℕ) → 0 < holds t.parts o (at old x) → depth_of (Some m) ≤ depth_of (at old o)) → IsSpoken t new
  Spoken_write old new o m spoken there u speaks says drops = record {
    spoken = λ x n f is none form. elim (at_cases old new o (Some m) u x) [
      | inl w ↦ let e : n ≡ m = cc in subst (λ (y : Object F). y.text ≡ None → y.form ≡ Some f → t.Spells f) (sym e) (speaks.spoken f) none form
      | inr w ↦ spoken.spoken x n f (sym w.1 ∙ is) none form
    ];
    plain = λ x n is form. elim (at_cases old new o (Some m) u x) [
      | inl w ↦ let e : n ≡ m = cc in ap (λ (y : Object F). y.depth) e ∙ speaks.plain (sym (ap (λ (y : Object F). y.form) e) ∙ form)
      | inr w ↦ spoken.plain x n (sym w.1 ∙ is) form
    ];
    fitting = λ x n s f is text form. elim (at_cases old new o (Some m) u x) [
      | inl w ↦
          let e : n ≡ m = cc in
          let form_m : m.form ≡ Some f = sym (ap (λ (y : Object F). y.form) e) ∙ form in
          let text_m : m.text ≡ Some s = sym (ap (λ (y : Object F). y.text) e) ∙ text in
          let same : map (stands t new) (t.parts f) ≡ map (stands t old) (t.parts f) =
          map_agree (stands t new) (stands t old) (t.parts f) (λ p i. says p (speaks.parts f form_m p i).1 (λ e. absurd ((speaks.parts f form_m p i).0 e))) in
          subst (t.Fits s f) (sym same) (speaks.fitting s f text_m form_m)
      | inr w ↦
          let was : at old x ≡ Some n = sym w.1 ∙ is in
          let same : map (stands t new) (t.parts f) ≡ map (stands t old) (t.parts f) =
          map_agree (stands t new) (stands t old) (t.parts f) (λ p i. says p (part_there old there x n f p was form i) (λ e.
          let holding : 0 < holds t.parts p (at old x) = omega (arith, i, ap (holds t.parts p) was, ap (λ y. occurs p (form_parts t.parts y)) form) in
          omega (arith, holding, holds_le_held t.parts old x p, ap (held t.parts old) e))) in
          subst (t.Fits s f) (sym same) (spoken.fitting x n s f was text form)
    ];
    shallow = λ x n f is form. elim (at_cases old new o (Some m) u x) [
      | inl w ↦ let e : n ≡ m = cc in subst (λ (y : Object F). y.form ≡ Some f → (1 ≤ y.depth) × (y.depth ≤ deepest)) (sym e) (speaks.shallow f) form
      | inr w ↦ spoken.shallow x n f (sym w.1 ∙ is) form
    ];
    above = λ x n f p is form i. elim (at_cases old new o (Some m) u x) [
      | inl w ↦
          let e : n ≡ m = cc in
          let form_m : m.form ≡ Some f = sym (ap (λ (y : Object F). y.form) e) ∙ form in
          let ps = speaks.parts f form_m p i in
          omega (arith, ps.2, ap depth_of (u.others p ps.0), ap (λ (y : Object F). y.depth) e)
      | inr w ↦
          let was : at old x ≡ Some n = sym w.1 ∙ is in
          let holding : 0 < holds t.parts p (at old x) = omega (arith, i, ap (holds t.parts p) was, ap (λ y. occurs p (form_parts t.parts y)) form) in
          elim (at_cases old new o (Some m) u p) [
            | inl v ↦ omega (arith, spoken.above x n f p was form i, drops x (subst (λ y. 0 < holds t.parts y (at old x)) v.0 holding), ap depth_of v.1, ap (λ y. depth_of (at old y)) v.0)
            | inr v ↦ omega (arith, spoken.above x n f p was form i, ap depth_of v.1)
          ]
    ];
  }
