-- Laws of lists in order: a list that rises, and has those that tie in the order of another, is that one in order.
use Rattle.std.proofs.Common.{◌≡◌, ℕ, suc, ◌<◌, ◌≤◌, Bool, true, false, cond, not, ◌&&◌, List, [], ◌∷◌, length, get_or, map, filter, refl, sym, ap, ◌∙◌, subst, arith}
use Rattle.std.specs.Cmp.{IsStrictWeakOrder}
use Rattle.std.specs.List.Sorted.{IsSortedBy, IsStableBy, ties}
use Rattle.std.proofs.lemmas.List.Sorted.{sorted_far}
use Rattle.tclv_lists.specs.Sorting.{put_in_order, in_order}

first_same : {A : Type 0} (x y : A) (xs ys : List A) → x ∷ xs ≡ y ∷ ys → x ≡ y
first_same x y xs ys e = cc

rest_same : {A : Type 0} (x y : A) (xs ys : List A) → x ∷ xs ≡ y ∷ ys → xs ≡ ys
rest_same x y xs ys e = cc

module _ {X : Type 0} (lt : X → X → Bool) (o : IsStrictWeakOrder lt) where
  -- none of these is before y
  abbrev NotBefore : X → List X → Type 0
  NotBefore y [] = Unit {0}
  NotBefore y (w ∷ ws) = (lt w y ≡ false) × NotBefore y ws

  abbrev Rises : List X → Type 0
  Rises [] = Unit {0}
  Rises (y ∷ ys) = NotBefore y ys × Rises ys

  not_itself : (x : X) (b : Bool) → lt x x ≡ b → lt x x ≡ false
  not_itself x true e = o.one_way x x e
  not_itself x false e = e

  ties_itself : (x : X) → ties lt x x ≡ true
  ties_itself x = ap (λ b. not b && not b) (not_itself x (lt x x) refl)

  parts : (a b : Bool) → (not a && not b) ≡ true → (a ≡ false) × (b ≡ false)
  parts true b e = absurd (cc)
  parts false true e = absurd (cc)
  parts false false e = (refl, refl)

  apart : (x e f : X) → lt f e ≡ true → ties lt x f ≡ true → ties lt x e ≡ true → ⊥
  apart x e f h p q =
      let f_x = (parts (lt x f) (lt f x) p).1 in
      let x_e = (parts (lt x e) (lt e x) q).0 in
      let no = o.chain f x e f_x x_e in
      cc

  exchanged : (x e f : X) (es : List X) (a b : Bool) → lt f e ≡ true → ties lt x f ≡ a → ties lt x e ≡ b →
      cond a (f ∷ cond b (e ∷ es) es) (cond b (e ∷ es) es) ≡ cond b (e ∷ cond a (f ∷ es) es) (cond a (f ∷ es) es)
  exchanged x e f es true true h p q = absurd (apart x e f h p q)
  exchanged x e f es true false h p q = refl
  exchanged x e f es false true h p q = refl
  exchanged x e f es false false h p q = refl

  put_stable_at : (x e f : X) (fs : List X) (b : Bool) → lt f e ≡ b → filter (ties lt x) (put_in_order lt e fs) ≡ filter (ties lt x) (e ∷ fs) → filter (ties lt x) (cond b (f ∷ put_in_order lt e fs) (e ∷ f ∷ fs)) ≡ filter (ties lt x) (e ∷ f ∷ fs)
  put_stable_at x e f fs false h i = refl
  put_stable_at x e f fs true h i = ap (λ l. cond (ties lt x f) (f ∷ l) l) i ∙ exchanged x e f (filter (ties lt x) fs) (ties lt x f) (ties lt x e) h refl refl

  put_stable : (x e : X) (fs : List X) → filter (ties lt x) (put_in_order lt e fs) ≡ filter (ties lt x) (e ∷ fs)
  put_stable x e [] = refl
  put_stable x e (f ∷ fs) = put_stable_at x e f fs (lt f e) refl (put_stable x e fs)

  in_order_stable : (x : X) (es : List X) → filter (ties lt x) (in_order lt es) ≡ filter (ties lt x) es
  in_order_stable x [] = refl
  in_order_stable x (e ∷ es) = put_stable x e (in_order lt es) ∙ ap (λ l. cond (ties lt x e) (e ∷ l) l) (in_order_stable x es)

  put_after : (y e f : X) (fs : List X) (b : Bool) → lt e y ≡ false → lt f y ≡ false → NotBefore y fs → NotBefore y (put_in_order lt e fs) → NotBefore y (cond b (f ∷ put_in_order lt e fs) (e ∷ f ∷ fs))
  put_after y e f fs true h k n i = (k, i)
  put_after y e f fs false h k n i = (h, (k, n))

  put_not_before : (y e : X) (fs : List X) → lt e y ≡ false → NotBefore y fs → NotBefore y (put_in_order lt e fs)
  put_not_before y e [] h n = (h, tt)
  put_not_before y e (f ∷ fs) h n = put_after y e f fs (lt f e) h n.0 n.1 (put_not_before y e fs h n.1)

  chained : (y e : X) (fs : List X) → lt y e ≡ false → NotBefore y fs → NotBefore e fs
  chained y e [] h n = tt
  chained y e (f ∷ fs) h n = (o.chain f y e n.0 h, chained y e fs h n.1)

  put_rises_at : (e f : X) (fs : List X) (b : Bool) → lt f e ≡ b → Rises (f ∷ fs) → Rises (put_in_order lt e fs) → Rises (cond b (f ∷ put_in_order lt e fs) (e ∷ f ∷ fs))
  put_rises_at e f fs true h r i = (put_not_before f e fs (o.one_way f e h) r.0, i)
  put_rises_at e f fs false h r i = ((h, chained f e fs h r.0), r)

  put_rises : (e : X) (fs : List X) → Rises fs → Rises (put_in_order lt e fs)
  put_rises e [] r = (tt, tt)
  put_rises e (f ∷ fs) r = put_rises_at e f fs (lt f e) refl r (put_rises e fs r.1)

  in_order_rises : (es : List X) → Rises (in_order lt es)
  in_order_rises [] = tt
  in_order_rises (e ∷ es) = put_rises e (in_order lt es) (in_order_rises es)

  none_before : (y : X) (ws : List X) → ((k : ℕ) (d : X) → k < length ws → lt (get_or ws k d) y ≡ false) → NotBefore y ws
  none_before y [] h = tt
  none_before y (w ∷ ws) h = (h 0 w (omega arith), none_before y ws (λ k d l. h (suc k) d (omega arith)))

  rises_far : (ys : List X) → ((i j : ℕ) (d : X) → i ≤ j → j < length ys → lt (get_or ys j d) (get_or ys i d) ≡ false) → Rises ys
  rises_far [] h = tt
  rises_far (y ∷ ys) h = (none_before y ys (λ k d l. h 0 (suc k) d (omega arith) (omega arith)), rises_far ys (λ i j d a b. h (suc i) (suc j) d (omega arith) (omega arith)))

  found_at : (y z w : X) (ws rest : List X) (p : X → Bool) (b : Bool) → lt w y ≡ false → (filter p ws ≡ z ∷ rest → lt z y ≡ false) → cond b (w ∷ filter p ws) (filter p ws) ≡ z ∷ rest → lt z y ≡ false
  found_at y z w ws rest p true h i e = subst (λ v. lt v y ≡ false) (first_same w z (filter p ws) rest e) h
  found_at y z w ws rest p false h i e = i e

  -- the first that passes a test
  found : (y z : X) (ws rest : List X) (p : X → Bool) → NotBefore y ws → filter p ws ≡ z ∷ rest → lt z y ≡ false
  found y z [] rest p n e = absurd (cc)
  found y z (w ∷ ws) rest p n e = found_at y z w ws rest p (p w) n.0 (found y z ws rest p n.1) e

  filter_first : (y : X) (ys : List X) → filter (ties lt y) (y ∷ ys) ≡ y ∷ filter (ties lt y) ys
  filter_first y ys = ap (λ b. cond b (y ∷ filter (ties lt y) ys) (filter (ties lt y) ys)) (ties_itself y)

  head_not_before : (y z : X) (ys zs : List X) → NotBefore y ys → filter (ties lt z) (y ∷ ys) ≡ filter (ties lt z) (z ∷ zs) → lt z y ≡ false
  head_not_before y z ys zs n e = found y z (y ∷ ys) (filter (ties lt z) zs) (ties lt z) (not_itself y (lt y y) refl, n) (e ∙ filter_first z zs)

  rest_at : (y : X) (a b : List X) (t : Bool) → cond t (y ∷ a) a ≡ cond t (y ∷ b) b → a ≡ b
  rest_at y a b true e = rest_same y y a b e
  rest_at y a b false e = e

  heads : (y z : X) (ys zs : List X) → NotBefore y ys → NotBefore z zs → ((x : X) → filter (ties lt x) (y ∷ ys) ≡ filter (ties lt x) (z ∷ zs)) → y ≡ z
  heads y z ys zs n m e =
      let z_y = head_not_before y z ys zs n (e z) in
      let y_z = head_not_before z y zs ys m (sym (e y)) in
      let tie : ties lt y z ≡ true = ap (λ b. not b && not (lt z y)) y_z ∙ ap not z_y in
      let there : filter (ties lt y) (z ∷ zs) ≡ z ∷ filter (ties lt y) zs = ap (λ b. cond b (z ∷ filter (ties lt y) zs) (filter (ties lt y) zs)) tie in
      first_same y z (filter (ties lt y) ys) (filter (ties lt y) zs) (sym (filter_first y ys) ∙ e y ∙ there)

  same : (ys zs : List X) → Rises ys → Rises zs → ((x : X) → filter (ties lt x) ys ≡ filter (ties lt x) zs) → ys ≡ zs
  same [] [] r s e = refl
  same [] (z ∷ zs) r s e = let no = e z ∙ filter_first z zs in absurd (cc)
  same (y ∷ ys) [] r s e = let no = sym (e y) ∙ filter_first y ys in absurd (cc)
  same (y ∷ ys) (z ∷ zs) r s e =
      let h : y ≡ z = heads y z ys zs r.0 s.0 e in
      let tails : (x : X) → filter (ties lt x) ys ≡ filter (ties lt x) zs = λ x. rest_at y (filter (ties lt x) ys) (filter (ties lt x) zs) (ties lt x y) (e x ∙ ap (λ w. filter (ties lt x) (w ∷ zs)) (sym h)) in
      ap (λ w. w ∷ ys) h ∙ ap (λ t. z ∷ t) (same ys zs r.1 s.1 tails)

  -- what a stable sort leaves
  pub sorted_is : (xs ys : List X) → IsSortedBy lt ys → IsStableBy lt xs ys → ys ≡ in_order lt xs
  sorted_is xs ys up stable = same ys (in_order lt xs) (rises_far ys (λ i j d a b. sorted_far lt o ys up i j d a b)) (in_order_rises xs) (λ x. stable x ∙ sym (in_order_stable x xs))

module _ {X Y : Type 0} (f : X → Y) (lt : X → X → Bool) (below : Y → Y → Bool) (like : (a b : X) → lt a b ≡ below (f a) (f b)) where
  put_mapped_at : (e g : X) (es : List X) (b : Bool) → map f (put_in_order lt e es) ≡ put_in_order below (f e) (map f es) → map f (cond b (g ∷ put_in_order lt e es) (e ∷ g ∷ es)) ≡ cond b (f g ∷ put_in_order below (f e) (map f es)) (f e ∷ f g ∷ map f es)
  put_mapped_at e g es true i = ap (λ l. f g ∷ l) i
  put_mapped_at e g es false i = refl

  put_mapped : (e : X) (es : List X) → map f (put_in_order lt e es) ≡ put_in_order below (f e) (map f es)
  put_mapped e [] = refl
  put_mapped e (g ∷ es) =
      put_mapped_at e g es (lt g e) (put_mapped e es)
      ∙ ap (λ b. cond b (f g ∷ put_in_order below (f e) (map f es)) (f e ∷ f g ∷ map f es)) (like g e)

  -- what elements stand for is in order where they are
  pub in_order_mapped : (es : List X) → map f (in_order lt es) ≡ in_order below (map f es)
  in_order_mapped [] = refl
  in_order_mapped (e ∷ es) = put_mapped e (in_order lt es) ∙ ap (put_in_order below (f e)) (in_order_mapped es)
