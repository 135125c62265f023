-- The steps of `Heap`, on the whole graph.
use Rattle.std.proofs.Common.{◌≡◌, ◌≢◌, ℕ, ◌<◌, ◌≤◌, inl, inr, List, [], map, set, Option, Some, None, IsSome, is_some, refl, sym, ap, ◌∙◌, arith, subst}
use Rattle.std.specs.Prelude.{unwrap_or}
use Rattle.std.proofs.lemmas.Bool.{cases_lt}
use Rattle.tclv_heap.specs.declared.ids.Object.{Object}
use Rattle.tclv_heap.specs.Table.{Table}
use Rattle.tclv_heap.specs.Graph.{Graph, stuck, at, text_in, occurs, Updates, held, holds, form_parts, IsCounted, HasOutside, Takes, Leads}
use Rattle.tclv_heap.specs.Dying.{Dying}
use Rattle.tclv_heap.specs.Stands.{depth_for, depth_of, said, stands, IsSpoken, SaysSame, IsSound, FitsDepth}
use Rattle.tclv_heap.specs.Graph.Leads.{here}
use Rattle.tclv_heap.proofs.GraphLemmas.{at_cases, some_is_there, holds_le_held, held_updates, Sound_empty, Sound_reform, Sound_insert, Sound_recount, Updates_set}
use Rattle.tclv_heap.proofs.StandsLemmas.{Speaks, Spoken_write, Spoken_kept, SaysSame_kept, Kept, Agrees, Agrees_kept, Agrees_text, stands_same, stands_is, stands_text, stands_form, part_there, said_agree, map_agree}

module _ {F : Type 0} (t : Table F) where
  pub Valid_empty : IsSound t []
  Valid_empty = record {
    sound = Sound_empty t.parts;
    spoken = record {
      spoken = λ o n f is none form. absurd (cc);
      plain = λ o n is form. absurd (cc);
      fitting = λ o n s f is text form. absurd (cc);
      shallow = λ o n f is form. absurd (cc);
      above = λ o n f p is form i. absurd (cc);
    };
  }

  -- what was there stands for the same, where the write agrees
  says_write : (old new : Graph F) (o : ℕ) (m : Object F) → IsSound t old → Updates old new o (Some m) → (IsSome (at old o) → Agrees t (λ x. IsSome (at old x)) old new o) → (p : ℕ) → IsSome (at old p) → stands t new p ≡ stands t old p
  says_write old new o m valid u agrees p there = stands_same t old new valid.spoken (λ x. IsSome (at old x)) each p there
    where
      each : (x : ℕ) → IsSome (at old x) → Agrees t (λ y. IsSome (at old y)) old new x
      each x some = by_slot (at old x) refl
        where
          by_slot : (slot : Option (Object F)) → at old x ≡ slot → Agrees t (λ y. IsSome (at old y)) old new x
          by_slot None e = absurd (some_is_there old x e some)
          by_slot (Some n) e = elim (at_cases old new o (Some m) u x) [
            | inl w ↦ subst (λ y. Agrees t (λ z. IsSome (at old z)) old new y) (sym w.0) (agrees (subst (λ y. IsSome (at old y)) w.0 some))
            | inr w ↦ Agrees_kept t _ old new valid.spoken x n n e (w.1 ∙ e) refl refl (λ f form q i. part_there t old valid.sound.there x n f q e form i)
          ]

  -- a new object
  pub record Inserted (old new : Graph F) (o : ℕ) (m : Object F) : Type 0 where
    pub valid : IsSound t new
    pub says : (p : ℕ) → IsSome (at old p) → stands t new p ≡ stands t old p
    pub stands_new : stands t new o ≡ said t (Some m) (stands t old)
    pub free : held t.parts new o ≡ 0

  pub Valid_insert : (old new : Graph F) (o : ℕ) (m : Object F) → IsSound t old → at old o ≡ None → Updates old new o (Some m) → m.count ≡ 1 → m.next ≡ None → Takes t.parts old (form_parts t.parts m.form) → (m.text ≡ None → (f : F) × (m.form ≡ Some f) × t.Spells f) → ((s : List ℕ) (f : F) → m.text ≡ Some s → m.form ≡ Some f → t.Fits s f (map (stands t old) (t.parts f))) → ((f : F) → m.form ≡ Some f → FitsDepth t old f m.depth) → (m.form ≡ None → m.depth ≡ 0) → Inserted old new o m
  Valid_insert old new o m valid vacant u one free takes spoken fits depth plain =
      let taken : (f : F) → m.form ≡ Some f → (p : ℕ) → 0 < occurs p (t.parts f) → IsSome (at old p) =
      λ f form p i. (takes p (omega (arith, i, ap (λ x. occurs p (form_parts t.parts x)) form))).there in
      let says = says_write old new o m valid u (λ some. absurd (some_is_there old o vacant some)) in
      let speaks : Speaks t old o m = record {
        spoken = λ f none form. let s = spoken none in let e : s.0 ≡ f = (let e2 : Some s.0 ≡ Some f = sym s.1 ∙ form in cc) in subst t.Spells e s.2;
        plain = plain;
        fitting = fits;
        shallow = λ f form. ((depth f form).low, (depth f form).high);
        parts = λ f form p i. (λ e. some_is_there old p (ap (at old) e ∙ vacant) (taken f form p i), taken f form p i, (depth f form).above p i);
      } in
      let now : IsSpoken t new = Spoken_write t old new o m valid.spoken valid.sound.there u speaks (λ p there _. says p there) (λ x h. absurd (omega (arith, holds_le_held t.parts old x o, valid.sound.there o vacant))) in
      record {
        valid = record { sound = Sound_insert t.parts old new o m valid.sound vacant u one free takes; spoken = now };
        says = says;
        stands_new = stands_is t new now o ∙ ap (λ s. said t s (stands t new)) u.changed ∙ said_agree t (Some m) (stands t new) (stands t old) (λ n is none f form p i.
            let e : n ≡ m = cc in
            says p (taken f (sym (ap (λ (y : Object F). y.form) e) ∙ form) p i));
        free = elim (cases_lt 0 (occurs o (form_parts t.parts m.form))) [
          | inl some ↦ absurd (some_is_there old o vacant (takes o some).there)
          | inr none_of_it ↦ omega (arith, held_updates t.parts old new o (Some m) u o, ap (holds t.parts o) vacant, valid.sound.there o vacant)
        ];
      }

  -- another count
  pub Valid_recount : (g : Graph F) (o : ℕ) (n m : Object F) → IsSound t g → at g o ≡ Some n → m.text ≡ n.text → m.form ≡ n.form → m.depth ≡ n.depth → m.next ≡ n.next → 1 ≤ m.count → m.count ≤ stuck → (m.count ≢ stuck → held t.parts g o ≤ m.count) → IsSound t (set g o (Some m)) × SaysSame t g (set g o (Some m))
  Valid_recount g o n m valid is text form depth next low high enough =
      let new = set g o (Some m) in
      let u = Updates_set g o n (Some m) is in
      let sound = Sound_recount t.parts g new o n m valid.sound is u form next low high enough in
      let kept : (x : ℕ) (y : Object F) → at new x ≡ Some y → Kept t g new x y =
      λ x y at_x. elim (at_cases g new o (Some m) u x) [
        | inl w ↦
            let e : y ≡ m = cc in
            record { before = n; was = ap (at g) w.0 ∙ is; text = ap (λ (z : Object F). z.text) e ∙ text; form = ap (λ (z : Object F). z.form) e ∙ form; depth = ap (λ (z : Object F). z.depth) e ∙ depth }
        | inr w ↦ record { before = y; was = sym w.1 ∙ at_x; text = refl; form = refl; depth = refl }
      ] in
      (record { sound = sound; spoken = Spoken_kept t g new valid.spoken sound.there kept }, λ x was there. SaysSame_kept t g new valid.spoken sound.there kept x there)

  -- after a release
  pub Valid_release : (old new : Graph F) (ids : List ℕ) → IsSound t old → Dying t.parts old ids [] new → IsCounted t.parts new → IsSound t new × SaysSame t old new
  Valid_release old new ids valid dying sound =
      let kept : (x : ℕ) (y : Object F) → at new x ≡ Some y → Kept t old new x y =
      λ x y is. let k = dying.kept x y is in record { before = k.0; was = k.1; text = k.2.text; form = k.2.form; depth = k.2.depth } in
      (record { sound = sound; spoken = Spoken_kept t old new valid.spoken sound.there kept }, λ x was there. SaysSame_kept t old new valid.spoken sound.there kept x there)

  -- a form for an object that has its text
  pub Valid_reform : (old new : Graph F) (o : ℕ) (n m : Object F) (s : List ℕ) (f : F) → IsSound t old → at old o ≡ Some n → Updates old new o (Some m) → n.text ≡ Some s → m.text ≡ Some s → m.form ≡ Some f → m.count ≡ n.count → m.next ≡ n.next → t.Fits s f (map (stands t old) (t.parts f)) → FitsDepth t old f m.depth → Takes t.parts old (t.parts f) → ((p : ℕ) → 0 < occurs p (t.parts f) → Leads t.parts old p o → ⊥) → IsSound t new × Takes t.parts new (form_parts t.parts n.form) × ((p : ℕ) → IsSome (at old p) → stands t new p ≡ stands t old p)
  Valid_reform old new o n m s f valid was u text_n text_m form count next fits depth takes apart =
      let takes_m : Takes t.parts old (form_parts t.parts m.form) = subst (λ x. Takes t.parts old (form_parts t.parts x)) (sym form) takes in
      let apart_m : (p : ℕ) → 0 < occurs p (form_parts t.parts m.form) → Leads t.parts old p o → ⊥ = subst (λ x. (p : ℕ) → 0 < occurs p (form_parts t.parts x) → Leads t.parts old p o → ⊥) (sym form) apart in
      let sound = Sound_reform t.parts old new o n m valid.sound was u count next takes_m apart_m in
      let is_f : (g : F) → m.form ≡ Some g → f ≡ g = λ g e. let e2 : Some f ≡ Some g = sym form ∙ e in cc in
      let says = says_write old new o m valid u (λ some. Agrees_text t _ old new o m u.changed (text_m ∙ ap Some (sym (stands_text t old valid.spoken o n s was text_n)))) in
      let speaks : Speaks t old o m = record {
        spoken = λ g none e. absurd (cc);
        plain = λ e. absurd (cc);
        fitting = λ s2 g text e. let e1 : s ≡ s2 = (let e3 : Some s ≡ Some s2 = sym text_m ∙ text in cc) in subst (λ x. t.Fits x g (map (stands t old) (t.parts g))) e1 (subst (λ x. t.Fits s x (map (stands t old) (t.parts x))) (is_f g e) fits);
        shallow = λ g e. (depth.low, depth.high);
        parts = λ g e p i.
            let i_f : 0 < occurs p (t.parts f) = subst (λ x. 0 < occurs p (t.parts x)) (sym (is_f g e)) i in
            (λ same. apart p i_f (subst (λ x. Leads t.parts old p x) same here), (takes p i_f).there, depth.above p i_f);
      } in
      let now : IsSpoken t new = Spoken_write t old new o m valid.spoken valid.sound.there u speaks (λ p there _. says p there) (λ x h. omega (arith, ap (λ y. depth_for y m.depth) text_m)) in
      (record { sound = sound.0; spoken = now }, sound.1, says)

  -- the text of an object that stood for it
  pub Valid_retext : (old new : Graph F) (o : ℕ) (n m : Object F) (f : F) → IsSound t old → at old o ≡ Some n → Updates old new o (Some m) → n.text ≡ None → n.form ≡ Some f → m.text ≡ Some (stands t old o) → m.form ≡ n.form → m.count ≡ n.count → m.depth ≡ n.depth → m.next ≡ n.next → IsSound t new × ((p : ℕ) → IsSome (at old p) → stands t new p ≡ stands t old p)
  Valid_retext old new o n m f valid was u text_n form_n text_m form_m count depth next =
      let counts = valid.sound.counts o n was in
      let sound = Sound_recount t.parts old new o n m valid.sound was u form_m next (omega (arith, counts.0)) (omega (arith, counts.1)) (λ loose. omega (arith, valid.sound.counted o n was (λ e. loose (count ∙ e)))) in
      let says = says_write old new o m valid u (λ some. Agrees_text t _ old new o m u.changed text_m) in
      let is_n : (g : F) → m.form ≡ Some g → n.form ≡ Some g = λ g e. sym form_m ∙ e in
      let fits : t.Fits (stands t old o) f (map (stands t old) (t.parts f)) =
      subst (λ x. t.Fits x f (map (stands t old) (t.parts f))) (sym (stands_form t old valid.spoken o n f was text_n form_n)) (t.fits_spelled f _ (valid.spoken.spoken o n f was text_n form_n)) in
      let speaks : Speaks t old o m = record {
        spoken = λ g none e. absurd (cc);
        plain = λ e. absurd (cc);
        fitting = λ s g text e.
            let e1 : stands t old o ≡ s = (let e3 : Some (stands t old o) ≡ Some s = sym text_m ∙ text in cc) in
            let e2 : f ≡ g = (let e3 : Some f ≡ Some g = sym form_n ∙ is_n g e in cc) in
            subst (λ x. t.Fits x g (map (stands t old) (t.parts g))) e1 (subst (λ x. t.Fits (stands t old o) x (map (stands t old) (t.parts x))) e2 fits);
        shallow = λ g e. let h = valid.spoken.shallow o n g was (is_n g e) in (omega (arith, h.0), omega (arith, h.1));
        parts = λ g e p i.
            let h = valid.spoken.above o n g p was (is_n g e) i in (
              λ same. omega (arith, h, ap (λ x. depth_of (at old x)) same, ap depth_of was, ap (λ x. depth_for x n.depth) text_n),
              part_there t old valid.sound.there o n g p was (is_n g e) i,
              omega (arith, h),
            );
      } in
      let now : IsSpoken t new = Spoken_write t old new o m valid.spoken valid.sound.there u speaks (λ p there _. says p there) (λ x h. omega (arith, ap (λ y. depth_for y m.depth) text_m)) in
      (record { sound = sound; spoken = now }, says)

  pub some_value : {X : Type 0} (o : Option X) → IsSome o → (x : X) × (o ≡ Some x)
  some_value None h = absurd (cc)
  some_value (Some x) h = (x, refl)

  pub still_there : (g : Graph F) (o : ℕ) (n m : Object F) → at g o ≡ Some n → (p : ℕ) → IsSome (at g p) → IsSome (at (set g o (Some m)) p)
  still_there g o n m is p there = elim (at_cases g (set g o (Some m)) o (Some m) (Updates_set g o n (Some m) is) p) [
    | inl w ↦ ap is_some w.1
    | inr w ↦ subst IsSome (sym w.1) there
  ]

  -- `set_form`, as far as the write
  pub Set_form : (g : Graph F) (o : ℕ) (n m : Object F) (f : F) → IsSound t g → at g o ≡ Some n → m.form ≡ Some f → m.text ≡ n.text → m.count ≡ n.count → m.next ≡ n.next → IsSome (text_in (at g o)) → ((s : List ℕ) → text_in (at g o) ≡ Some s → t.Fits s f (map (stands t g) (t.parts f))) → FitsDepth t g f m.depth → Takes t.parts g (t.parts f) → ((p : ℕ) → 0 < occurs p (t.parts f) → Leads t.parts g p o → ⊥) → IsSound t (set g o (Some m)) × Takes t.parts (set g o (Some m)) (form_parts t.parts n.form) × ((p : ℕ) → IsSome (at g p) → stands t (set g o (Some m)) p ≡ stands t g p)
  Set_form g o n m f valid is form text count next has fits depth takes apart =
      let s = some_value (text_in (at g o)) has in
      let text_n : n.text ≡ Some s.0 = sym (ap text_in is) ∙ s.1 in
      Valid_reform g (set g o (Some m)) o n m s.0 f valid is (Updates_set g o n (Some m) is) text_n (text ∙ text_n) form count next (fits s.0 s.1) depth takes apart

  -- the release of the old form's parts, after a write that keeps what each object stands for
  pub Set_form_done : (g new : Graph F) (o : ℕ) (n m : Object F) (ids : List ℕ) → at g o ≡ Some n → IsSound t (set g o (Some m)) → ((p : ℕ) → IsSome (at g p) → stands t (set g o (Some m)) p ≡ stands t g p) → Dying t.parts (set g o (Some m)) ids [] new → IsCounted t.parts new → IsSound t new × SaysSame t g new
  Set_form_done g new o n m ids is valid says dying sound =
      let r = Valid_release (set g o (Some m)) new ids valid dying sound in
      (r.0, λ p was there. r.1 p (still_there g o n m is p was) there ∙ says p was)

  pub stands_text_in : (g : Graph F) → IsSpoken t g → (o : ℕ) (s : List ℕ) → text_in (at g o) ≡ Some s → stands t g o ≡ s
  stands_text_in g spoken o s text = by_slot (at g o) refl
    where
      by_slot : (slot : Option (Object F)) → at g o ≡ slot → stands t g o ≡ s
      by_slot None e = absurd (let e2 : None ≡ Some s = sym (ap text_in e) ∙ text in cc)
      by_slot (Some n) e = stands_text t g spoken o n s e (sym (ap text_in e) ∙ text)

  -- `make_string` where the form spells, and the parts have their texts
  module _ (g : Graph F) (o : ℕ) (valid : IsSound t g) (n r : Object F) (f : F) (is : at g o ≡ Some n) (is_r : at g o ≡ Some r) (none : n.text ≡ None) (form : n.form ≡ Some f) (kids : (p : ℕ) → 0 < occurs p (t.parts f) → IsSome (text_in (at g p))) where
    pub Makes : (sp : List ℕ) → sp ≡ t.spelled f (map (λ p. unwrap_or (text_in (at g p)) []) (t.parts f)) → IsSound t (set g o (Some (record r { text = Some sp }))) × SaysSame t g (set g o (Some (record r { text = Some sp }))) × ((n1 : Object F) → at g o ≡ Some n1 → Updates g (set g o (Some (record r { text = Some sp }))) o (Some (record n1 { text = Some (stands t g o) })))
    Makes sp spelt =
        let texts : map (λ p. unwrap_or (text_in (at g p)) []) (t.parts f) ≡ map (stands t g) (t.parts f) =
        map_agree (λ p. unwrap_or (text_in (at g p)) []) (stands t g) (t.parts f) (λ p i.
        let s = some_value (text_in (at g p)) (kids p i) in
        ap (λ z. unwrap_or z []) s.1 ∙ sym (stands_text_in g valid.spoken p s.0 s.1)) in
        let text : sp ≡ stands t g o = spelt ∙ ap (t.spelled f) texts ∙ sym (stands_form t g valid.spoken o n f is none form) in
        let same : n ≡ r = (let e : Some n ≡ Some r = sym is ∙ is_r in cc) in
        let none_r : r.text ≡ None = sym (ap (λ (z : Object F). z.text) same) ∙ none in
        let form_r : r.form ≡ Some f = sym (ap (λ (z : Object F). z.form) same) ∙ form in
        let m : Object F = record r { text = Some sp } in
        let u = Updates_set g o r (Some m) is_r in
        let v = Valid_retext g (set g o (Some m)) o r m f valid is_r u none_r form_r (ap Some text) refl refl refl refl in (
          v.0,
          (λ x was now. v.1 x was),
          λ n1 is1.
              let same1 : r ≡ n1 = (let e : Some r ≡ Some n1 = sym is_r ∙ is1 in cc) in
              record {
                changed = u.changed ∙ ap (λ z. Some (record r { text = Some z })) text ∙ ap (λ (z : Object F). Some (record z { text = Some (stands t g o) })) same1;
                others = u.others;
              },
        )

-- an object that has a holder outside stays where it gets another form
pub Reformed_stays : {F : Type 0} (parts : F → List ℕ) (g mid new : Graph F) (o : ℕ) (n m : Object F) (f : F) → at g o ≡ Some n → Updates g mid o (Some m) → m.count ≡ n.count → m.form ≡ Some f → ((p : ℕ) → 0 < occurs p (parts f) → Leads parts g p o → ⊥) → HasOutside parts g o 1 → Dying parts mid (form_parts parts n.form) [] new → IsSome (at new o)
Reformed_stays {F} parts g mid new o n m f is u count form apart outside dying = by_slot (at new o) refl
  where
    by_slot : (slot : Option (Object F)) → at new o ≡ slot → IsSome (at new o)
    by_slot (Some x) e = ap is_some e
    by_slot None e =
        let went = dying.gone o m u.changed e in
        let free : occurs o (parts f) ≡ 0 = elim (cases_lt 0 (occurs o (parts f))) [ inl some ↦ absurd (apart o some here) | inr none ↦ omega arith ] in
        absurd (omega (arith, went.1, count, outside.outside n is (λ s. went.0 (count ∙ s)), held_updates parts g mid o (Some m) u o, ap (holds parts o) is, ap (λ x. occurs o (form_parts parts x)) form, free))
