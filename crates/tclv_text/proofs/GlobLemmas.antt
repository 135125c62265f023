-- Laws of glob patterns.
use Rattle.std.proofs.Common.{◌≡◌, ℕ, zero, suc, ◌+◌, Bool, true, false, not, cond, List, [], ◌∷◌, Some, None, length, drop, sym, ap, ◌∙◌, subst, refl, arith, eqb, ◌&&◌, ◌||◌}
use Rattle.std.proofs.lemmas.Bool.{cases_Bool, cond-true, cond-false, and_parts, and_from, or_left, or_right, or_cases, eqb-true, eq-eqb, ne_eqb, not_from_false, false≢true}
use Rattle.std.proofs.lemmas.List.Sums.{take_while-cons}
use Rattle.std.proofs.lemmas.List.{drop-drop}
use Rattle.std.specs.List.{prefix_len, take_while}
use Rattle.std.specs.Str.{chars}
use Rattle.std.proofs.lemmas.Str.{encodes-chars}
use lib.Utf8.{encodes}
use Rattle.tclv_text.specs.Texts.{IsText}
use mathlib.Core.Logic.{⊎_elim}
use Rattle.tclv_text.specs.Globs.{is_between, is_member, is_open, fits_one, taken, somewhere, begins, is_empty, fits_behind, fits, folded}
use Rattle.tclv_text.specs.GlobSearch.{points, behind_set, range_end, Passes}

pub no_points : (nocase : Bool) (bs : List ℕ) → length bs ≡ 0 → points nocase bs ≡ []
unfolding chars
no_points nocase [] h = refl
no_points nocase (b ∷ bs) h = absurd (omega arith)

-- a text that is not empty has a first character
pub some_points : (nocase : Bool) (bs : List ℕ) → IsText bs → (length bs ≡ 0 → ⊥) → is_empty (points nocase bs) ≡ false
some_points nocase bs t h = go (chars bs) refl
  where
    go : (cs : List ℕ) → chars bs ≡ cs → is_empty (folded nocase cs) ≡ false
    go [] e = let q : bs ≡ [] = sym (encodes-chars bs t.utf8) ∙ ap encodes e in absurd (h (ap length q))
    go (c ∷ cs) e = refl

same_bool : (a b : Bool) → (a ≡ true → b ≡ true) → (b ≡ true → a ≡ true) → a ≡ b
same_bool true b f g = sym (f refl)
same_bool false true f g = g refl
same_bool false false f g = refl

or_none : (b : Bool) → (b || false) ≡ b
or_none true = refl
or_none false = refl

pub or_assoc : (a b c : Bool) → ((a || b) || c) ≡ (a || (b || c))
or_assoc true b c = refl
or_assoc false b c = refl

-- Sets.
opens : (x : ℕ) → (x ≡ 93 → ⊥) → is_open x ≡ true
opens x h = not_from_false _ (ne_eqb x 93 h)

pub front_open : (x : ℕ) (s : List ℕ) → is_open x ≡ true → take_while is_open (x ∷ s) ≡ x ∷ take_while is_open s
front_open x s h = take_while-cons is_open x s ∙ cond-true _ _ _ h

front_closed : (x : ℕ) (s : List ℕ) → is_open x ≡ false → take_while is_open (x ∷ s) ≡ []
front_closed x s h = take_while-cons is_open x s ∙ cond-false _ _ _ h

pub behind_open : (x : ℕ) (s : List ℕ) → is_open x ≡ true → behind_set (x ∷ s) ≡ behind_set s
behind_open x s h =
    let e : 1 + prefix_len is_open s + 1 ≡ suc (prefix_len is_open s + 1) = omega arith in
    ap (λ n. drop (n + 1) (x ∷ s)) (cond-true _ _ _ h) ∙ ap (λ n. drop n (x ∷ s)) e

behind_closed : (x : ℕ) (s : List ℕ) → is_open x ≡ false → behind_set (x ∷ s) ≡ s
behind_closed x s h = ap (λ n. drop (n + 1) (x ∷ s)) (cond-false _ _ _ h)

abbrev set : List ℕ → List ℕ
set s = take_while is_open s

-- a set whose first member is the range from a to b
pub member_range : (c a b : ℕ) (s : List ℕ) → (a ≡ 93 → ⊥) → Some b ≡ range_end s →
    (is_member c (set (a ∷ s)) ≡ (is_between a b c || is_member c (set (drop 2 s)))) × (behind_set (a ∷ s) ≡ behind_set (drop 2 s))
member_range c a b [] n e = absurd (cc)
member_range c a b (d ∷ []) n e = absurd (cc)
member_range c a b (d ∷ x ∷ s) n e =
    ⊎_elim
    (λ (t : (eqb d 45 && is_open x) ≡ true).
    let p = and_parts (eqb d 45) (is_open x) t in
    let dash = eqb-true d 45 p.0 in
    let q : Some b ≡ Some x = e ∙ cond-true _ _ _ t in
    let same : x ≡ b = cc in
    let open_d = opens d (λ k. absurd (omega arith)) in
    let front = front_open a (d ∷ x ∷ s) (opens a n) ∙ ap (λ y. a ∷ y) (front_open d (x ∷ s) open_d ∙ ap (λ y. d ∷ y) (front_open x s p.1)) in (
      ap (is_member c) front ∙ cond-true _ _ _ p.0 ∙ ap (λ y. is_between a y c || is_member c (set s)) same,
      behind_open a (d ∷ x ∷ s) (opens a n) ∙ behind_open d (x ∷ s) open_d ∙ behind_open x s p.1,
    ))
    (λ (f : (eqb d 45 && is_open x) ≡ false). let q : Some b ≡ None = e ∙ cond-false _ _ _ f in absurd (cc))
    (cases_Bool (eqb d 45 && is_open x))

alone : (c a : ℕ) → is_member c (a ∷ []) ≡ (eqb c a || is_member c [])
alone c a = sym (or_none (eqb c a))

-- what stands behind a set is that of the rest where its first member is a character
pub member_one : (c a : ℕ) (s : List ℕ) → (a ≡ 93 → ⊥) → None ≡ range_end s → is_member c (set (a ∷ s)) ≡ (eqb c a || is_member c (set s))
member_one c a [] n e = ap (is_member c) (front_open a [] (opens a n)) ∙ alone c a
member_one c a (d ∷ []) n e =
    ap (is_member c) (front_open a (d ∷ []) (opens a n))
    ∙ ⊎_elim
    (λ (t : is_open d ≡ true). let f = front_open d [] t in ap (λ y. is_member c (a ∷ y)) f ∙ ap (λ y. eqb c a || is_member c y) (sym f))
    (λ (t : is_open d ≡ false). let f = front_closed d [] t in ap (λ y. is_member c (a ∷ y)) f ∙ alone c a ∙ ap (λ y. eqb c a || is_member c y) (sym f))
    (cases_Bool (is_open d))
member_one c a (d ∷ x ∷ s) n e =
    ap (is_member c) (front_open a (d ∷ x ∷ s) (opens a n))
    ∙ ⊎_elim
    (λ (t : is_open d ≡ true).
    ⊎_elim
    (λ (u : is_open x ≡ true).
    let f = front_open d (x ∷ s) t ∙ ap (λ y. d ∷ y) (front_open x s u) in
    let dash : eqb d 45 ≡ false = no_dash d x e u in
    ap (λ y. is_member c (a ∷ y)) f ∙ cond-false _ _ _ dash ∙ ap (λ y. eqb c a || is_member c y) (sym f))
    (λ (u : is_open x ≡ false).
    let f = front_open d (x ∷ s) t ∙ ap (λ y. d ∷ y) (front_closed x s u) in
    ap (λ y. is_member c (a ∷ y)) f ∙ ap (λ y. eqb c a || is_member c y) (sym f))
    (cases_Bool (is_open x)))
    (λ (t : is_open d ≡ false). let f = front_closed d (x ∷ s) t in ap (λ y. is_member c (a ∷ y)) f ∙ alone c a ∙ ap (λ y. eqb c a || is_member c y) (sym f))
    (cases_Bool (is_open d))
  where
    no_dash : (d x : ℕ) → None ≡ cond (eqb d 45 && is_open x) (Some x) None → is_open x ≡ true → eqb d 45 ≡ false
    no_dash d x e u = ⊎_elim (λ (t : eqb d 45 ≡ true). let q : None ≡ Some x = e ∙ cond-true _ _ _ (and_from (eqb d 45) (is_open x) t u) in absurd (cc)) (λ (f : eqb d 45 ≡ false). f) (cases_Bool (eqb d 45))

pub behind_one : (a : ℕ) (s : List ℕ) → (a ≡ 93 → ⊥) → behind_set (a ∷ s) ≡ behind_set s
behind_one a s n = behind_open a s (opens a n)

-- the end of a set
pub set_end : (x : ℕ) (s : List ℕ) → take_while is_open (x ∷ s) ≡ [] → behind_set (x ∷ s) ≡ s
set_end x s e = ⊎_elim (λ (t : is_open x ≡ true). let q : [] ≡ x ∷ take_while is_open s = sym e ∙ front_open x s t in absurd (cc)) (λ (f : is_open x ≡ false). behind_closed x s f) (cases_Bool (is_open x))

pub closed_set : (x : ℕ) (s : List ℕ) → x ≡ 93 → take_while is_open (x ∷ s) ≡ []
closed_set x s e = front_closed x s (ap not (eq-eqb x 93 e))

-- A pattern behind its first characters.
pub behind_is : (n : ℕ) (p : List ℕ) → fits_behind n p ≡ fits (drop n p)
behind_is zero p = refl
behind_is (suc n) [] = refl
behind_is (suc n) (c ∷ p) = behind_is n p

-- a pattern that does not begin with a star
fits_part : (m : ℕ) (p t : List ℕ) → (m ≡ 42 → ⊥) → fits (m ∷ p) t ≡ begins (fits_one m p) (fits (drop (taken m p) p)) t
fits_part m p t n = cond-false _ _ _ (ne_eqb m 42 n) ∙ ap (λ f. begins (fits_one m p) f t) (behind_is (taken m p) p)

drop_one : (n : ℕ) (t : List ℕ) → drop 1 (drop n t) ≡ drop (n + 1) t
drop_one n t = drop-drop 1 n t

drop_swap : (n k : ℕ) (t : List ℕ) → drop n (drop k t) ≡ drop k (drop n t)
drop_swap n k t = let e : k + n ≡ n + k = omega arith in drop-drop n k t ∙ ap (λ i. drop i t) e ∙ sym (drop-drop k n t)

-- the rest of a text that begins so
begins_rest : (one : ℕ → Bool) (f : List ℕ → Bool) (t : List ℕ) → begins one f t ≡ true → f (drop 1 t) ≡ true
begins_rest one f [] h = absurd (false≢true h)
begins_rest one f (c ∷ t) h = (and_parts (one c) (f t) h).1

pub passes_none : (p t : List ℕ) → Passes p t p t
passes_none p t = record { n = 0; rest = refl; same = refl; later = λ v h. h }

pub passes_more : (p0 t0 p t q s r : List ℕ) (m x : ℕ) → Passes p0 t0 p t → p ≡ m ∷ s → t ≡ x ∷ r → (m ≡ 42 → ⊥) → true ≡ fits_one m s x → q ≡ drop (taken m s) s → Passes p0 t0 q r
passes_more p0 t0 p t q s r m x h e f n o g =
    let one : fits p t ≡ (fits_one m s x && fits (drop (taken m s) s) r) = ap (λ y. fits y t) e ∙ ap (fits (m ∷ s)) f ∙ fits_part m s (x ∷ r) n in
    record {
      n = h.n + 1;
      rest = ap (drop 1) (sym f ∙ h.rest) ∙ drop_one h.n t0;
      same = h.same ∙ one ∙ ap (λ b. b && fits (drop (taken m s) s) r) (sym o) ∙ ap (λ y. fits y r) (sym g);
      later = λ v k. subst (λ y. fits y (drop (h.n + 1) v) ≡ true) (sym g)
          (subst (λ y. fits (drop (taken m s) s) y ≡ true) (drop_one h.n v)
          (begins_rest (fits_one m s) (fits (drop (taken m s) s)) (drop h.n v)
          (sym (fits_part m s (drop h.n v) n) ∙ ap (λ y. fits y (drop h.n v)) (sym e) ∙ h.later v k)));
    }

pub passes_fail : (p0 t0 p t s r : List ℕ) (m x : ℕ) → Passes p0 t0 p t → p ≡ m ∷ s → t ≡ x ∷ r → (m ≡ 42 → ⊥) → false ≡ fits_one m s x → fits p0 t0 ≡ false
passes_fail p0 t0 p t s r m x h e f n o =
    h.same ∙ ap (λ y. fits y t) e ∙ ap (fits (m ∷ s)) f ∙ fits_part m s (x ∷ r) n ∙ ap (λ b. b && fits (drop (taken m s) s) r) (sym o)

pub passes_short : (p0 t0 p t s : List ℕ) (m : ℕ) → Passes p0 t0 p t → p ≡ m ∷ s → t ≡ [] → (m ≡ 42 → ⊥) → fits p0 t0 ≡ false
passes_short p0 t0 p t s m h e f n = h.same ∙ ap (λ y. fits y t) e ∙ ap (fits (m ∷ s)) f ∙ fits_part m s [] n

pub passes_star : (p0 t0 p t s : List ℕ) (m : ℕ) → Passes p0 t0 p t → p ≡ m ∷ s → m ≡ 42 → Passes p0 t0 (42 ∷ s) t
passes_star p0 t0 p t s m h e f = subst (λ y. Passes p0 t0 y t) (e ∙ ap (λ y. y ∷ s) f) h

pub passes_end : (p0 t0 p t : List ℕ) → Passes p0 t0 p t → p ≡ [] → fits p0 t0 ≡ is_empty t
passes_end p0 t0 p t h e = h.same ∙ ap (λ y. fits y t) e

-- Some place of a text.
pub somewhere_here : (f : List ℕ → Bool) (t : List ℕ) → f t ≡ true → somewhere f t ≡ true
somewhere_here f [] h = h
somewhere_here f (c ∷ t) h = or_left (f (c ∷ t)) _ h

pub somewhere_drop : (f : List ℕ → Bool) (n : ℕ) (t : List ℕ) → somewhere f (drop n t) ≡ true → somewhere f t ≡ true
somewhere_drop f zero t h = h
somewhere_drop f (suc n) [] h = h
somewhere_drop f (suc n) (c ∷ t) h = or_right (f (c ∷ t)) _ (somewhere_drop f n t h)

-- the place
pub somewhere_at : (f : List ℕ → Bool) (t : List ℕ) → somewhere f t ≡ true → (k : ℕ) × (f (drop k t) ≡ true)
somewhere_at f [] h = (0, h)
somewhere_at f (c ∷ t) h =
    ⊎_elim (λ (e : f (c ∷ t) ≡ true). let r : (k : ℕ) × (f (drop k (c ∷ t)) ≡ true) = (0, e) in r) (λ (e : somewhere f t ≡ true). let i = somewhere_at f t e in let r : (k : ℕ) × (f (drop k (c ∷ t)) ≡ true) = (suc i.0, i.1) in r) (or_cases (f (c ∷ t)) (somewhere f t) h)

-- The first place from which the part before a star fits is as good as any later one.
pub first_place : (p t q u : List ℕ) → Passes p t (42 ∷ q) u → somewhere (fits p) t ≡ somewhere (fits q) u
first_place p t q u h =
    same_bool (somewhere (fits p) t) (somewhere (fits q) u)
    (λ a.
    let i = somewhere_at (fits p) t a in
    let e : drop h.n (drop i.0 t) ≡ drop i.0 u = drop_swap h.n i.0 t ∙ ap (drop i.0) (sym h.rest) in
    somewhere_drop (fits q) i.0 u (subst (λ y. somewhere (fits q) y ≡ true) e (h.later (drop i.0 t) i.1)))
    (λ b. somewhere_here (fits p) t (h.same ∙ b))

pub star_fits : (p t q u : List ℕ) → Passes p t (42 ∷ q) u → fits p t ≡ somewhere (fits q) u
star_fits p t q u h = h.same

pub fits_here : (p t : List ℕ) → fits p t ≡ true → somewhere (fits p) t ≡ true
fits_here p t h = somewhere_here (fits p) t h

pub fails_here : (p t r : List ℕ) (x : ℕ) → t ≡ x ∷ r → fits p t ≡ false → somewhere (fits p) t ≡ somewhere (fits p) r
fails_here p t r x e h = ap (somewhere (fits p)) e ∙ ap (λ b. b || somewhere (fits p) r) (sym (ap (fits p) e) ∙ h)

pub fails_end : (p t : List ℕ) → t ≡ [] → fits p t ≡ false → somewhere (fits p) t ≡ false
fails_end p t e h = ap (somewhere (fits p)) e ∙ sym (ap (fits p) e) ∙ h
