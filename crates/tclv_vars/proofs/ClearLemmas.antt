-- What is left of a map without some numbers.
use Rattle.std.proofs.Common.{◌≡◌, ℕ, ◌<◌, IsSome, length, Bool, true, false, cond, not, ◌||◌, ◌&&◌, ◌≢◌, is_some, true≢false, List, [], ◌∷◌, Option, None, Some, refl, sym, ap, subst, ◌∙◌, nat_eq}
use Rattle.std.specs.Ordering.{nat_cmp, eq_by_cmp}
use Rattle.std.specs.Cmp.{nat_cmp_total, unsigned_ties, eq_by_cmp_equiv}
use Rattle.std.specs.Cmp.Lexicographic.{nat_list_cmp_total}
use Rattle.std.specs.FinMap.{get, remove, empty, get-remove, get-retain_keys, same_map, nat_cmp-IsAntisymmetric}
use Rattle.tclv_names.specs.Keyed.{Text, by_text, Named, Numbers, values_of}
use Rattle.tclv_vars.proofs.EntryLemmas.{any_named, any_none, any_agrees}
use Rattle.tclv_vars.specs.declared.parts.Slot.{Slot}
use Rattle.tclv_vars.specs.declared.parts.Content.{Content}
use Rattle.tclv_value.specs.declared.places.At.{At}
use Rattle.tclv_value.specs.declared.places.At.TheVariants.{Stack, Cell}
use Rattle.tclv_value.specs.View.{View, HasPlace, KeepsMade}
use Rattle.tclv_vars.specs.Clearing.{without, is_among, freed, elements, frees, gone, without_names, Apart}

pub get-without : {X : Type 0} (m : Numbers X) (cs : List ℕ) (q : ℕ) → get (without m cs) q ≡ cond (not (is_among cs q)) (get m q) None
get-without m cs q = get-retain_keys m (λ k. not (is_among cs k)) q (λ x e. ap (λ k. not (is_among cs k)) (sym (nat_cmp-IsAntisymmetric q x e)))

two_tests : {A : Type 0} (e r : Bool) (g : Option A) → cond (not r) (cond e None g) None ≡ cond (not (e || r)) g None
two_tests true true g = refl
two_tests true false g = refl
two_tests false true g = refl
two_tests false false g = refl

module _ {X : Type 0} (m : Numbers X) where
  pub without_step : (x : ℕ) (cs rest : List ℕ) → ((q : ℕ) → is_among cs q ≡ nat_eq q x || is_among rest q) → without (remove m x) rest ≡ without m cs
  without_step x cs rest split = same_map nat_cmp_total nat_cmp-IsAntisymmetric _ _ (λ q.
      get-without (remove m x) rest q ∙ ap (λ o. cond (not (is_among rest q)) o None) (get-remove nat_cmp_total m x q ∙ ap (λ b. cond b None (get m q)) (sym (unsigned_ties q x)))
      ∙ two_tests (nat_eq q x) (is_among rest q) (get m q) ∙ ap (λ b. cond (not b) (get m q) None) (sym (split q)) ∙ sym (get-without m cs q))

  pub without_none : (cs : List ℕ) → ((q : ℕ) → is_among cs q ≡ false) → without m cs ≡ m
  without_none cs never = same_map nat_cmp_total nat_cmp-IsAntisymmetric _ _ (λ q. get-without m cs q ∙ ap (λ b. cond (not b) (get m q) None) (never q))

  -- one number, and then the rest
  pub without_first : (x : ℕ) (rest : List ℕ) → without (remove m x) rest ≡ without m (x ∷ rest)
  without_first x rest = without_step x (x ∷ rest) rest (λ q. refl)

  pub without_one : (x : ℕ) → remove m x ≡ without m (x ∷ [])
  without_one x = sym (same_map nat_cmp_total nat_cmp-IsAntisymmetric _ _ (λ q. get-without (remove m x) [] q)) ∙ without_first x []

  pub without_popped : (es : Named ℕ) (k : Text) (x : ℕ) → Some x ≡ get es k → without (remove m x) (values_of (remove es k)) ≡ without m (values_of es)
  without_popped es k x at = without_step x _ _ (λ q. any_named (nat_eq q) es k x (sym at))

  pub without_empty : without m (values_of (empty {X = ℕ} {R = by_text})) ≡ m
  without_empty = without_none _ (λ q. any_none (nat_eq q))

-- an entry of an array is taken out, and nothing stands at its number any more
pub without_turn : {X : Type 0} (m n : Numbers X) (es fs : Named ℕ) (k : Text) (x : ℕ) → n ≡ remove m x → fs ≡ remove es k → Some x ≡ get es k → without n (values_of fs) ≡ without m (values_of es)
without_turn m n es fs k x e f at = ap (λ a. without a (values_of fs)) e ∙ ap (λ (gs : Named ℕ). without (remove m x) (values_of gs)) f ∙ without_popped m es k x at

pub get-without_names : {X : Type 0} (m : Numbers X) (cs : Numbers Content) (ns : Named Slot) (q : ℕ) → get (without_names m cs ns) q ≡ cond (not (gone cs ns q)) (get m q) None
get-without_names m cs ns q = get-retain_keys m (λ k. not (gone cs ns k)) q (λ x e. ap (λ k. not (gone cs ns k)) (sym (nat_cmp-IsAntisymmetric q x e)))

three_tests : {A : Type 0} (e r : Bool) (g : Option A) → cond (not r) (cond (not e) g None) None ≡ cond (not (e || r)) g None
three_tests true true g = refl
three_tests true false g = refl
three_tests false true g = refl
three_tests false false g = refl

own_tests : (a b c : Bool) → (a ≡ true → b ≡ c) → a && b ≡ a && c
own_tests true b c h = h refl
own_tests false b c h = refl

-- what a frame without names frees
pub without_names_none : {X : Type 0} (m : Numbers X) (cs : Numbers Content) → without_names m cs empty ≡ m
without_names_none m cs = same_map nat_cmp_total nat_cmp-IsAntisymmetric _ _ (λ q. get-without_names m cs empty q ∙ ap (λ b. cond (not b) (get m q) None) (any_none (frees cs q)))

-- what the names of a frame free, where one of them is taken out
module _ (cs : Numbers Content) (ns : Named Slot) (k : Text) (s : Slot) (at : Some s ≡ get ns k) where
  gone_split : (q : ℕ) → gone cs ns q ≡ frees cs q s || gone cs (remove ns k) q
  gone_split q = any_named (frees cs q) ns k s (sym at)

  other : (n : Text) (o : Slot) → get (remove ns k) n ≡ Some o → (get ns n ≡ Some o) × (k ≢ n)
  other n o h = elim (eq_by_cmp by_text n k) as (λ b. eq_by_cmp by_text n k ≡ b → cond b None (get ns n) ≡ Some o → (get ns n ≡ Some o) × (k ≢ n)) [
    | true ↦ λ e g. absurd (true≢false (sym (ap is_some g)))
    | false ↦ λ e g. (g, λ same. true≢false (sym ((eq_by_cmp_equiv nat_list_cmp_total).refl n) ∙ ap (eq_by_cmp by_text n) (sym same) ∙ e))
  ] refl (sym (get-remove nat_list_cmp_total ns k n) ∙ h)

  -- a link frees nothing
  pub without_link : {X : Type 0} (m : Numbers X) → s.own ≡ false → without_names m cs (remove ns k) ≡ without_names m cs ns
  without_link m link = same_map nat_cmp_total nat_cmp-IsAntisymmetric _ _ (λ q. get-without_names m cs (remove ns k) q
      ∙ ap (λ b. cond (not b) (get m q) None) (sym (gone_split q ∙ ap (λ b. (b && is_among (freed cs s.cell) q) || gone cs (remove ns k) q) link)) ∙ sym (get-without_names m cs ns q))

  pub Apart-link : Apart cs ns → Apart cs (remove ns k)
  Apart-link apart n j a o x y p q ne = apart n j a o (other n a x).0 (other j o y).0 p q ne

  module _ (own : s.own ≡ true) (apart : Apart cs ns) where
    -- another cell of the names still holds what it held
    kept : (n : Text) (o : Slot) → get (remove ns k) n ≡ Some o → o.own ≡ true → freed (without cs (freed cs s.cell)) o.cell ≡ freed cs o.cell
    kept n o h mine = let p = other n o h in
        ap (λ c. o.cell ∷ elements c) (get-without cs (freed cs s.cell) o.cell ∙ ap (λ b. cond (not b) (get cs o.cell) None) (apart k n s o (sym at) p.0 own mine p.1))

    gone_same : (q : ℕ) → gone (without cs (freed cs s.cell)) (remove ns k) q ≡ gone cs (remove ns k) q
    gone_same q = any_agrees (frees (without cs (freed cs s.cell)) q) (frees cs q) (remove ns k) (λ n o h. own_tests o.own _ _ (λ mine. ap (λ l. is_among l q) (kept n o h mine)))

    pub without_own : {X : Type 0} (m : Numbers X) → without_names (without m (freed cs s.cell)) (without cs (freed cs s.cell)) (remove ns k) ≡ without_names m cs ns
    without_own m = same_map nat_cmp_total nat_cmp-IsAntisymmetric _ _ (λ q. get-without_names (without m (freed cs s.cell)) (without cs (freed cs s.cell)) (remove ns k) q
        ∙ ap (λ b. cond (not b) (get (without m (freed cs s.cell)) q) None) (gone_same q) ∙ ap (λ o. cond (not (gone cs (remove ns k) q)) o None) (get-without m (freed cs s.cell) q)
        ∙ three_tests (is_among (freed cs s.cell) q) (gone cs (remove ns k) q) (get m q)
        ∙ ap (λ b. cond (not b) (get m q) None) (sym (gone_split q ∙ ap (λ b. (b && is_among (freed cs s.cell) q) || gone cs (remove ns k) q) own)) ∙ sym (get-without_names m cs ns q))

    pub Apart-own : Apart (without cs (freed cs s.cell)) (remove ns k)
    Apart-own n j a o x y p q ne = ap (λ l. is_among l o.cell) (kept n a x p) ∙ apart n j a o (other n a x).0 (other j o y).0 p q ne

-- a turn of the loop that clears names
abbrev pub Goes : Numbers Content → Numbers (List ℕ) → Named Slot → Numbers Content → Numbers (List ℕ) → Named Slot → Type 0
Goes cs texts ns left kept rest = Apart left rest × (without_names left left rest ≡ without_names cs cs ns) × (without_names kept left rest ≡ without_names texts cs ns)

module _ (cs left : Numbers Content) (texts kept : Numbers (List ℕ)) (ns rest : Named Slot) (k : Text) (s : Slot) (at : Some s ≡ get ns k) (popped : rest ≡ remove ns k) (apart : Apart cs ns) where
  pub Goes-own : s.own ≡ true → left ≡ without cs (freed cs s.cell) → kept ≡ without texts (freed cs s.cell) → Goes cs texts ns left kept rest
  Goes-own own e f = subst (λ r. Goes cs texts ns left kept r) (sym popped) (subst (λ l. Goes cs texts ns l kept (remove ns k)) (sym e)
      (subst (λ t. Goes cs texts ns (without cs (freed cs s.cell)) t (remove ns k)) (sym f) (Apart-own cs ns k s at own apart, without_own cs ns k s at own apart cs, without_own cs ns k s at own apart texts)))

  pub Goes-link : s.own ≡ false → left ≡ cs → kept ≡ texts → Goes cs texts ns left kept rest
  Goes-link link e f = subst (λ r. Goes cs texts ns left kept r) (sym popped) (subst (λ l. Goes cs texts ns l kept (remove ns k)) (sym e)
      (subst (λ t. Goes cs texts ns cs t (remove ns k)) (sym f) (Apart-link cs ns k s at apart, without_link cs ns k s at cs link, without_link cs ns k s at texts link)))

-- Places that are there stay as they were made, over several steps.
pub keeps_both : (a b c : View) → KeepsMade a b → KeepsMade b c → ((place : At) → HasPlace c place → HasPlace b place) → KeepsMade a c
keeps_both a b c f g fewer place x y = g place (fewer place y) y ∙ f place x (fewer place y)

fewer_cells : (b c : View) → c.stack ≡ b.stack → ((q : ℕ) → IsSome (get c.cells q) → IsSome (get b.cells q)) → (place : At) → HasPlace c place → HasPlace b place
fewer_cells b c s f (Stack i) h = subst (λ l. i < length l) s h
fewer_cells b c s f (Cell q) h = f q h

some_kept : {A : Type 0} (b : Bool) (o : Option A) → IsSome (cond b o None) → IsSome o
some_kept true o h = h
some_kept false o h = absurd (true≢false (sym h))

some_left : {A : Type 0} (b : Bool) (o : Option A) → IsSome (cond b None o) → IsSome o
some_left true o h = absurd (true≢false (sym h))
some_left false o h = h

pub fewer_removed : (b c : View) (k : ℕ) → c.stack ≡ b.stack → c.cells ≡ remove b.cells k → (place : At) → HasPlace c place → HasPlace b place
fewer_removed b c k s e = fewer_cells b c s (λ q h. some_left (eq_by_cmp nat_cmp q k) (get b.cells q) (subst IsSome (ap (λ m. get m q) e ∙ get-remove nat_cmp_total b.cells k q) h))

pub fewer_without : (b c : View) (cs : List ℕ) → c.stack ≡ b.stack → c.cells ≡ without b.cells cs → (place : At) → HasPlace c place → HasPlace b place
fewer_without b c cs s e = fewer_cells b c s (λ q h. some_kept (not (is_among cs q)) (get b.cells q) (subst IsSome (ap (λ m. get m q) e ∙ get-without b.cells cs q) h))
