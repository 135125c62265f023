-- Laws of elements that are taken out of a list.
use Rattle.std.proofs.Common.{◌≡◌, ℕ, zero, suc, ◌+◌, ◌-◌, ◌<◌, ◌≤◌, Bool, true, false, cond, ltb, List, [], ◌∷◌, ◌++◌, length, map, take, drop, get_or, Result, Ok, Err, refl, sym, ap, ◌∙◌, subst, arith, append_assoc}
use Rattle.std.specs.Prelude.{ℤ, pos, negsuc, slice_set, ◌||◌, OnOk, Option, Some, None}
use Rattle.std.specs.List.{list_any}
use Rattle.std.specs.Option.{option_map_or}
use Rattle.std.specs.Ordering.{int_eq}
use Rattle.std.proofs.lemmas.Bool.{cases_lt, cases_eq, lt-ltb, le-ltb, cond-true, cond-false}
use Rattle.std.proofs.lemmas.Bool.Decides.{Decides-int_eq}
use Rattle.std.proofs.lemmas.List.{length-set, get_or-set_same, get_or-set_other, take_more, map-append, length-map, length-take-le}
use mathlib.Core.Logic.{⊎_elim}
use Rattle.tclv_model.specs.declared.data_commands.CmdFault.{CmdFault}
use Rattle.tclv_model.specs.Rows.{Answer, Gives, Refuses, and_then}
use Rattle.tclv_model.specs.Values.{place_of}
use Rattle.tclv_value.specs.View.{View}
use Rattle.tclv_value.specs.Changes.{Pushes}
use Rattle.tclv_reply.specs.Replies.{Grows, Reads, Refused}
use Rattle.tclv_lists.specs.Changing.{IsMarked, with_mark, places_of, without_from}
use Rattle.tclv_reply.proofs.Laws.{Went, went_as, words_step}

-- The places that were read so far are marked, and the rest are still to be read.
pub record MarkedSoFar (words rest : List (List ℕ)) (len : ℕ) (marks : List Bool) (old cur : View) : Type 0 where
  pub ks : List ℤ
  pub went : Went (places_of words len) (and_then (places_of rest len) (λ more. Gives (ks ++ more))) old cur
  pub marks_are : IsMarked len ks marks

next_place : {A B C : Type 0} (a : Answer A) (f : A → Answer B) (g : B → Answer C) → and_then (and_then a f) g ≡ and_then a (λ x. and_then (f x) g)
next_place (Gives a) f g = refl
next_place (Refuses kind message code) f g = refl

-- what is read behind one more place
abbrev pub rest_of : List ℤ → List (List ℕ) → ℕ → ℤ → Answer (List ℤ)
rest_of ks rest len z = and_then (and_then (places_of rest len) (λ js. Gives (z ∷ js))) (λ more. Gives (ks ++ more))

rest_is : (ks : List ℤ) (z : ℤ) (a : Answer (List ℤ)) → and_then (and_then a (λ js. Gives (z ∷ js))) (λ more. Gives (ks ++ more)) ≡ and_then a (λ more. Gives ((ks ++ z ∷ []) ++ more))
rest_is ks z (Gives js) = ap Gives (sym (append_assoc ks (z ∷ []) js))
rest_is ks z (Refuses kind message code) = refl

pub marked_step : {words : List (List ℕ)} {len : ℕ} {marks : List Bool} {old cur : View} (at to : ℕ) → at < to → to ≤ length old.stack → (m : MarkedSoFar words (take (to - at) (drop at old.stack)) len marks old cur) →
    Went (places_of words len) (and_then (place_of (get_or old.stack at []) len) (rest_of m.ks (take (to - (at + 1)) (drop (at + 1) old.stack)) len)) old cur
marked_step {len = len} {old = old} at to h l m =
    let g : List ℤ → Answer (List ℤ) = λ more. Gives (m.ks ++ more) in
    let rest = take (to - (at + 1)) (drop (at + 1) old.stack) in
    let f : ℤ → Answer (List ℤ) = λ z. and_then (places_of rest len) (λ js. Gives (z ∷ js)) in
    went_as _ m.went (ap (λ p. and_then (places_of p len) g) (words_step old.stack at to h l) ∙ next_place (place_of (get_or old.stack at []) len) f g)

-- tests of one more place
or_true : (b : Bool) → (b || true) ≡ true
or_true true = refl
or_true false = refl

any_with : (p : ℤ → Bool) (ks : List ℤ) (z : ℤ) → p z ≡ true → list_any p (ks ++ z ∷ []) ≡ true
any_with p [] z h = ap (λ b. b || false) h
any_with p (k ∷ ks) z h = ap (λ b. p k || b) (any_with p ks z h) ∙ or_true (p k)

any_without : (p : ℤ → Bool) (ks : List ℤ) (z : ℤ) → p z ≡ false → list_any p (ks ++ z ∷ []) ≡ list_any p ks
any_without p [] z h = ap (λ b. b || false) h
any_without p (k ∷ ks) z h = ap (λ b. p k || b) (any_without p ks z h)

is_false : (b : Bool) → (b ≡ true → ⊥) → b ≡ false
is_false true h = absurd (h refl)
is_false false h = refl

differs : (x y : ℤ) → (x ≡ y → ⊥) → int_eq x y ≡ false
differs x y h = is_false (int_eq x y) (λ e. h ((Decides-int_eq x y).0 e))

marked_there : (len : ℕ) (ks : List ℤ) (marks : List Bool) (k : ℕ) → k < length marks → IsMarked len ks marks → IsMarked len (ks ++ pos k ∷ []) (slice_set marks k true)
marked_there len ks marks k h m = record {
  count = length-set marks k true ∙ m.count;
  marked = λ n l. ⊎_elim
      (λ (e : n ≡ k). ap (λ j. get_or (slice_set marks k true) j false) e ∙ get_or-set_same marks k true false h ∙ sym (any_with (int_eq (pos n)) ks (pos k) ((Decides-int_eq (pos n) (pos k)).1 (ap pos e))))
      (λ (d : n ≡ k → ⊥). get_or-set_other marks k n true false d ∙ m.marked n l ∙ sym (any_without (int_eq (pos n)) ks (pos k) (differs (pos n) (pos k) (λ e. d (cc)))))
      (cases_eq n k);
}

marked_nowhere : (len : ℕ) (ks : List ℤ) (marks : List Bool) (z : ℤ) → ((n : ℕ) → n < len → pos n ≡ z → ⊥) → IsMarked len ks marks → IsMarked len (ks ++ z ∷ []) marks
marked_nowhere len ks marks z h m = record { count = m.count; marked = λ n l. m.marked n l ∙ sym (any_without (int_eq (pos n)) ks z (differs (pos n) z (h n l))) }

marked_more : (len : ℕ) (ks : List ℤ) (marks : List Bool) (z : ℤ) → IsMarked len ks marks → IsMarked len (ks ++ z ∷ []) (with_mark z marks)
marked_more len ks marks (negsuc j) m = marked_nowhere len ks marks (negsuc j) (λ n l e. cc) m
marked_more len ks marks (pos k) m =
    let put : Option ℕ → List Bool = λ o. option_map_or (λ j. slice_set marks j true) o marks in
    ⊎_elim
    (λ (l : k < length marks). subst (λ x. IsMarked len (ks ++ pos k ∷ []) x) (sym (ap put (cond-true (ltb k (length marks)) (Some k) None (lt-ltb k (length marks) l)))) (marked_there len ks marks k l m))
    (λ (g : length marks ≤ k).
    subst (λ x. IsMarked len (ks ++ pos k ∷ []) x) (sym (ap put (cond-false (ltb k (length marks)) (Some k) None (le-ltb k (length marks) g))))
    (marked_nowhere len ks marks (pos k) (λ n l e. let q : n ≡ k = cc in omega (arith, m.count)) m))
    (cases_lt k (length marks))

pub one_marked : {words : List (List ℕ)} {old new : View} (rest : List (List ℕ)) (len : ℕ) (ks : List ℤ) (marks next : List Bool) (z : ℤ) → Went (places_of words len) (rest_of ks rest len z) old new → IsMarked len ks marks → next ≡ with_mark z marks → MarkedSoFar words rest len next old new
one_marked rest len ks marks next z w m e = record {
  ks = ks ++ z ∷ [];
  went = went_as _ w (rest_is ks z (places_of rest len));
  marks_are = subst (λ x. IsMarked len (ks ++ z ∷ []) x) (sym e) (marked_more len ks marks z m);
}

-- the same marks by another name
pub marked_as : (len : ℕ) (ks : List ℤ) (marks xs : List Bool) → IsMarked len ks marks → xs ≡ marks → IsMarked (length xs) ks xs
marked_as len ks marks xs m e = record { count = refl; marked = λ n l. ap (λ ys. get_or ys n false) e ∙ m.marked n (omega (arith, ap length e, m.count)) }

-- a reading that is refused
pub reads_refused : {A T : Type 0} (a : Answer A) (Shows : A → T → Type 0) (old new : View) (r : Result T CmdFault) (kind : CmdFault) → r ≡ Err kind → Grows old new × Refused a kind old.stack new.stack → Reads a Shows old new r
reads_refused a Shows old new r kind e g = subst (λ x. Reads a Shows old new x) (sym e) (record { grows = g.0; kept = tt; gives = tt; refuses = g.1 })

-- an element that is not marked is pushed
pub unmarked_pushed : {E : Type 0} (r : Result (Unit {0}) E) (old new : View) (t u : List ℕ) (b : Bool) → b ≡ false → t ≡ u → OnOk r (Pushes old t new) → OnOk r (new.stack ≡ old.stack ++ cond b [] (u ∷ []))
unmarked_pushed (Ok x) old new t u b f e p = p.stack ∙ ap (λ y. old.stack ++ y ∷ []) e ∙ ap (λ y. old.stack ++ y) (sym (cond-false b [] (u ∷ []) f))
unmarked_pushed (Err x) old new t u b f e p = tt

without_more : (n : ℕ) (ks : List ℤ) (ts : List (List ℕ)) (t : List ℕ) → without_from n ks (ts ++ t ∷ []) ≡ without_from n ks ts ++ cond (list_any (int_eq (pos (n + length ts))) ks) [] (t ∷ [])
without_more n ks [] t = let e : n ≡ n + 0 = omega arith in ap (λ k. cond (list_any (int_eq (pos k)) ks) [] (t ∷ [])) e
without_more n ks (u ∷ ts) t =
    let e : n + 1 + length ts ≡ n + length (u ∷ ts) = omega arith in
    let more : ℕ → List (List ℕ) = λ k. cond (list_any (int_eq (pos k)) ks) [] (t ∷ []) in
    let p : without_from (n + 1) ks (ts ++ t ∷ []) ≡ without_from (n + 1) ks ts ++ more (n + length (u ∷ ts)) = without_more (n + 1) ks ts t ∙ ap (λ k. without_from (n + 1) ks ts ++ more k) e in
    elim (list_any (int_eq (pos n)) ks) as (λ b. cond b (without_from (n + 1) ks (ts ++ t ∷ [])) (u ∷ without_from (n + 1) ks (ts ++ t ∷ [])) ≡ cond b (without_from (n + 1) ks ts) (u ∷ without_from (n + 1) ks ts) ++ more (n + length (u ∷ ts))) [
      | true ↦ p
      | false ↦ ap (λ y. u ∷ y) p
    ]

same_there : (xs : List Bool) (k : ℕ) (d e : Bool) → k < length xs → get_or xs k d ≡ get_or xs k e
same_there [] k d e h = absurd (omega arith)
same_there (x ∷ xs) zero d e h = refl
same_there (x ∷ xs) (suc k) d e h = same_there xs k d e (omega arith)

-- one more element is looked at
pub kept_more : {A : Type 0} (f : A → List ℕ) (items : List A) (s cur new : List (List ℕ)) (ks : List ℤ) (marks : List Bool) (i : ℕ) (d : A) (e : Bool) → i < length items → IsMarked (length items) ks marks →
    cur ≡ s ++ without_from 0 ks (map f (take i items)) → new ≡ cur ++ cond (get_or marks i e) [] (f (get_or items i d) ∷ []) → new ≡ s ++ without_from 0 ks (map f (take (i + 1) items))
kept_more f items s cur new ks marks i d e l m p q =
    let t = f (get_or items i d) in
    let ts = map f (take i items) in
    let kept = without_from 0 ks ts in
    let more : ℕ → List (List ℕ) = λ k. cond (list_any (int_eq (pos k)) ks) [] (t ∷ []) in
    let all : map f (take (i + 1) items) ≡ ts ++ t ∷ [] = ap (map f) (take_more items i d l) ∙ map-append f (take i items) (get_or items i d ∷ []) in
    let len : i ≡ 0 + length ts = omega (arith, length-map (take i items) f, length-take-le i items (omega arith)) in
    let inside : i < length marks = omega (arith, m.count) in
    q ∙ ap (λ b. cur ++ cond b [] (t ∷ [])) (same_there marks i e false inside ∙ m.marked i l) ∙ ap (λ y. y ++ more i) p ∙ append_assoc s kept (more i)
    ∙ ap (λ y. s ++ y) (ap (λ k. kept ++ more k) len ∙ sym (without_more 0 ks ts t) ∙ ap (without_from 0 ks) (sym all))
