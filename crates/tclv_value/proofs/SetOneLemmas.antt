-- A path of one index.
use Rattle.std.proofs.Common.{◌≡◌, ℕ, ◌+◌, ◌-◌, ◌<◌, ◌≤◌, zero, suc, List, [], ◌∷◌, length, take, drop, get_or, IsSome, Bool, true, false, true≢false, Result, Ok, Err, refl, sym, ap, subst, ◌∙◌, arith}
use Rattle.std.specs.Prelude.{IsOkAnd, IfErr, OnOk, IsTrue}
use Rattle.std.specs.Option.{unwrap_or}
use Rattle.std.specs.FinMap.{get}
use Rattle.std.proofs.lemmas.List.{length-set, take_all}
use Rattle.tclv_text.specs.Elements.{elements}
use Rattle.tclv_text.specs.Quotes.{list_text}
use Rattle.tclv_value.specs.Changes.{IsUnder, KeepsTexts, Puts, stack_put, cells_put}
use Rattle.tclv_value.specs.ListObjects.{KeepsPlaces, depth_at}
use Rattle.tclv_value.specs.Paths.{and_then, step, put_at, set_path, RefusesPath, NamesElement}
use Rattle.tclv_value.specs.Stacks.{top, under}
use Rattle.tclv_value.specs.View.{View, HasPlace, IsMade, KeepsMade, text_at, id_of}
use Rattle.tclv_value.specs.declared.faults.ValueFault.{ValueFault}
use Rattle.tclv_value.specs.declared.places.At.{At}
use Rattle.tclv_value.specs.declared.places.At.TheVariants.{Stack, Cell}
use Rattle.tclv_value.proofs.AnswerLemmas.{ok_and}
use Rattle.tclv_value.proofs.CallerLemmas.{put_there}
use Rattle.tclv_value.proofs.DropLemmas.{put_then_drop}
use Rattle.tclv_value.proofs.PathLemmas.{then_refused}
use Rattle.tclv_value.proofs.SetPlaceLemmas.{some_text}
use Rattle.tclv_value.proofs.ViewLemmas.{under_there}

one_path : (t i x : List ℕ) (ts : List (List ℕ)) (k : ℕ) → step 0 t i ≡ Ok (ts, k) → set_path 0 t (i ∷ []) x ≡ Ok (list_text (put_at ts k x))
one_path t i x ts k known = ap (λ r. and_then r (λ (us, n). and_then (set_path 1 (get_or us n []) [] x) (λ y. Ok (list_text (put_at us n y))))) known

-- what stands at the end of the path
pub one_known : {E : Type 0} (r : Result (List (List ℕ)) E) (P : List ℕ → Type 0) (t i x : List ℕ) (k : ℕ) → IsOkAnd r (λ ts. step 0 t i ≡ Ok (ts, k)) → IsOkAnd r (λ ts. P (list_text (put_at ts k x))) → IsOkAnd (set_path 0 t (i ∷ []) x) P
one_known (Ok ts) P t i x k known puts = subst (λ s. IsOkAnd s P) (sym (one_path t i x ts k known)) puts
one_known (Err e) P t i x k known puts = absurd known

-- where the step is refused
pub one_refused : (why : ValueFault) (t i x : List ℕ) → RefusesPath why (step 0 t i) → RefusesPath why (set_path 0 t (i ∷ []) x)
one_refused why t i x refused = then_refused why (step 0 t i) _ refused

-- the index of a path of one
first_of : (s : List (List ℕ)) (n : ℕ) → n < length s → take 1 (drop n s) ≡ get_or s n [] ∷ []
first_of [] n within = absurd (omega arith)
first_of (x ∷ s) zero within = refl
first_of (x ∷ s) (suc n) within = first_of s n (omega arith)

pub one_index : (s : List (List ℕ)) → 2 ≤ length s → take 1 (top 2 s) ≡ get_or s (length s - 2) [] ∷ []
one_index s high = first_of s (length s - 2) (omega (arith, high))

-- calls that keep all texts
pub text_same : (a b : View) (p : At) → KeepsTexts a b → text_at b p ≡ text_at a p
text_same a b (Stack i) k = ap (λ xs. get_or xs i []) k.stack
text_same a b (Cell c) k = ap (λ m. unwrap_or (get m c) []) k.cells

pub place_same : (a b : View) (p : At) → KeepsTexts a b → HasPlace a p → HasPlace b p
place_same a b (Stack i) k is = omega (arith, is, ap length k.stack)
place_same a b (Cell c) k is = subst (λ m. IsSome (get m c)) (sym k.cells) is

pub under_same : (a b : View) (n : ℕ) (p : At) → KeepsTexts a b → IsUnder a n p → IsUnder b n p
under_same a b n (Stack i) k is = omega (arith, is, ap length k.stack)
under_same a b n (Cell c) k is = (omega (arith, is.0, ap length k.stack), subst (λ m. IsSome (get m c)) (sym k.cells) is.1)

pub keeps_then : (a b d : View) → KeepsTexts a b → KeepsTexts b d → KeepsTexts a d
keeps_then a b d first second = record {
  stack = second.stack ∙ first.stack;
  cells = second.cells ∙ first.cells;
  stays = λ p is made. second.stays p (place_same a b p first is) (first.stays p is made);
}

keeps_puts : (a b d : View) (at : At) (t : List ℕ) → KeepsTexts a b → Puts b 0 at t d → Puts a 0 at t d
keeps_puts a b d at t k puts = record {
  stack = puts.stack ∙ ap (λ xs. stack_put (under 0 xs) at t) k.stack;
  cells = puts.cells ∙ ap (λ m. cells_put m at t) k.cells;
  stays = λ p ne is made. puts.stays p ne (under_same a b 0 p k is) (k.stays p (under_there a 0 p is) made);
}

pub id_same : (a b : View) (p : At) → KeepsPlaces a b → id_of b p ≡ id_of a p
id_same a b (Stack i) k = ap (λ xs. get_or xs i 0) k.stack
id_same a b (Cell c) k = ap (λ m. unwrap_or (get m c) 0) k.cells

put_len : (stack : List (List ℕ)) (at : At) (t : List ℕ) → length (stack_put (under 0 stack) at t) ≡ length stack
put_len stack (Stack i) t = length-set (under 0 stack) i t ∙ ap length (take_all (length stack - 0) stack (omega arith))
put_len stack (Cell c) t = ap length (take_all (length stack - 0) stack (omega arith))

pub put_under : (a d : View) (n : ℕ) (at : At) (t : List ℕ) → IsUnder a n at → Puts a 0 at t d → IsUnder d n at
put_under a d n (Stack i) t is puts = omega (arith, is, ap length puts.stack, put_len a.stack (Stack i) t)
put_under a d n (Cell c) t is puts = (omega (arith, is.0, ap length puts.stack, put_len a.stack (Cell c) t), put_there a.cells d.cells c t puts.cells)

-- the place that was found, and what is below the length
pub found_below : {E : Type 0} (r : Result (List (List ℕ)) E) (t i : List ℕ) (k : ℕ) → IsOkAnd r (λ ts. step 0 t i ≡ Ok (ts, k)) → IsOkAnd (step 0 t i) (λ p. p.1 < length p.0) → IsOkAnd r (λ ts. k < length ts)
found_below (Ok ts) t i k known below = subst (λ s. IsOkAnd s (λ p. p.1 < length p.0)) known below
found_below (Err e) t i k known below = absurd known

-- a list is kept, an index is read, the value gets in, and both go
module _ (v0 v1 v2 v3 v4 v5 : View) (at : At) (n k : ℕ) (height : n ≡ length v1.stack) (room : IsUnder v0 2 at) (k1 : KeepsTexts v0 v1) (k2 : KeepsTexts v1 v2) (k3 : KeepsTexts v2 v3) (found : IsOkAnd (elements (text_at v2 at)) (λ ts. step 0 (text_at v2 at) (text_at v2 (Stack (n - 2))) ≡ Ok (ts, k))) (changed : IsOkAnd (elements (text_at v3 at)) (λ ts. Puts v3 0 at (list_text (put_at ts k (text_at v3 (Stack (length v3.stack - 1))))) v4)) (popped : v5.stack ≡ take (length v4.stack - 2) v4.stack) (cells : v5.cells ≡ v4.cells) (keeps : KeepsMade v4 v5) where
  k12 : KeepsTexts v0 v2
  k12 = keeps_then v0 v1 v2 k1 k2

  k123 : KeepsTexts v0 v3
  k123 = keeps_then v0 v2 v3 k12 k3

  index_same : text_at v2 (Stack (n - 2)) ≡ text_at v0 (Stack (length v0.stack - 2))
  index_same = text_same v0 v2 (Stack (n - 2)) k12 ∙ ap (λ m. get_or v0.stack (m - 2) []) (height ∙ ap length k1.stack)

  value_same : text_at v3 (Stack (length v3.stack - 1)) ≡ text_at v0 (Stack (length v0.stack - 1))
  value_same = text_same v0 v3 (Stack (length v3.stack - 1)) k123 ∙ ap (λ m. get_or v0.stack (m - 1) []) (ap length k123.stack)

  put_all : (t : List ℕ) → Puts v3 0 at t v4 → Puts v0 2 at t v5
  put_all t puts = put_then_drop v0 v4 v5 2 t popped cells keeps at room (keeps_puts v0 v3 v4 at t k123 puts)

  pub one_set : IsOkAnd (set_path 0 (text_at v0 at) (text_at v0 (Stack (length v0.stack - 2)) ∷ []) (text_at v0 (Stack (length v0.stack - 1)))) (λ text. Puts v0 2 at text v5)
  one_set =
      let x3 = text_at v3 (Stack (length v3.stack - 1)) in
      let known = subst (λ t. IsOkAnd (elements t) (λ ts. step 0 t (text_at v2 (Stack (n - 2))) ≡ Ok (ts, k))) (text_same v0 v2 at k12) found in
      let puts = subst (λ t. IsOkAnd (elements t) (λ ts. Puts v3 0 at (list_text (put_at ts k x3)) v4)) (text_same v0 v3 at k123) changed in
      let moved = ok_and (elements (text_at v0 at)) (λ ts. Puts v3 0 at (list_text (put_at ts k x3)) v4) (λ ts. Puts v0 2 at (list_text (put_at ts k x3)) v5) (λ ts p. put_all (list_text (put_at ts k x3)) p) puts in
      let all = one_known (elements (text_at v0 at)) (λ t. Puts v0 2 at t v5) (text_at v0 at) (text_at v2 (Stack (n - 2))) x3 k known moved in
      subst (λ x. IsOkAnd (set_path 0 (text_at v0 at) (text_at v0 (Stack (length v0.stack - 2)) ∷ []) x) (λ t. Puts v0 2 at t v5)) value_same (subst (λ i. IsOkAnd (set_path 0 (text_at v0 at) (i ∷ []) x3) (λ t. Puts v0 2 at t v5)) index_same all)

  pub under_then : IsUnder v4 2 at
  under_then =
      let some = some_text (elements (text_at v3 at)) (λ t. Puts v3 0 at t v4) (λ ts. list_text (put_at ts k (text_at v3 (Stack (length v3.stack - 1))))) changed in
      put_under v0 v4 2 at some.0 room (keeps_puts v0 v3 v4 at some.0 k123 some.1)

-- the index names an element
module _ (v0 v1 v2 v3 : View) (at : At) (n k : ℕ) (height : n ≡ length v1.stack) (k1 : KeepsTexts v0 v1) (k2 : KeepsTexts v1 v2) (k3 : KeepsTexts v2 v3) (found : IsOkAnd (elements (text_at v2 at)) (λ ts. step 0 (text_at v2 at) (text_at v2 (Stack (n - 2))) ≡ Ok (ts, k))) where
  pub one_below : NamesElement (text_at v0 at) (text_at v0 (Stack (length v0.stack - 2))) → IsOkAnd (elements (text_at v3 at)) (λ ts. k < length ts)
  one_below names =
      let k12 = keeps_then v0 v1 v2 k1 k2 in
      let index = text_same v0 v2 (Stack (n - 2)) k12 ∙ ap (λ m. get_or v0.stack (m - 2) []) (height ∙ ap length k1.stack) in
      let here = subst (λ i. NamesElement (text_at v2 at) i) (sym index) (subst (λ t. NamesElement t (text_at v0 (Stack (length v0.stack - 2)))) (sym (text_same v0 v2 at k12)) names) in
      subst (λ t. IsOkAnd (elements t) (λ ts. k < length ts)) (sym (text_same v2 v3 at k3)) (found_below (elements (text_at v2 at)) (text_at v2 at) (text_at v2 (Stack (n - 2))) k found here)

-- nothing changed before the list did
module _ (v0 v1 v2 v3 : View) (n : ℕ) (height : n ≡ length v1.stack) (first : v1 ≡ v0) (second : IsMade v1 (Stack (n - 2)) → v2 ≡ v1) (third : depth_at v2 (Stack (length v2.stack - 1)) < 50 → v3 ≡ v2) (made : IsMade v0 (Stack (length v0.stack - 2))) (shallow : depth_at v0 (Stack (length v0.stack - 1)) < 50) where
  pub made_then : IsMade v1 (Stack (n - 2))
  made_then = subst (λ v. IsMade v (Stack (n - 2))) (sym first) (subst (λ m. IsMade v0 (Stack (m - 2))) (sym (height ∙ ap (λ (v : View). length v.stack) first)) made)

  pub shallow_then : depth_at v2 (Stack (length v2.stack - 1)) < 50
  shallow_then = subst (λ v. depth_at v (Stack (length v.stack - 1)) < 50) (sym (second made_then ∙ first)) shallow

  pub all_same : v3 ≡ v0
  all_same = third shallow_then ∙ second made_then ∙ first

pub err_any : {T E : Type 0} (r : Result T E) (P : E → Type 0) → ((why : E) → P why) → IfErr r P
err_any (Ok x) P f = tt
err_any (Err e) P f = f e

pub on_ok_any : {T E : Type 0} (r : Result T E) (P : Type 0) → P → OnOk r P
on_ok_any (Ok x) P p = p
on_ok_any (Err e) P p = tt

-- a path of one index, as the call has it
pub one_listed : (v : View) (at : At) (path : ℕ) → path ≡ 1 → IsUnder v (path + 1) at → get_or v.stack (length v.stack - 2) [] ∷ [] ≡ take path (top (path + 1) v.stack)
one_listed v at path is under_it = subst (λ p. IsUnder v (p + 1) at → get_or v.stack (length v.stack - 2) [] ∷ [] ≡ take p (top (p + 1) v.stack)) (sym is) (λ u. sym (one_index v.stack (high at u))) under_it
  where
    high : (p : At) → IsUnder v 2 p → 2 ≤ length v.stack
    high (Stack i) u = omega (arith, u)
    high (Cell c) u = u.0

pub as_path : (v w : View) (at : At) (path : ℕ) (x : List ℕ) → path ≡ 1 → IsUnder v (path + 1) at → IsOkAnd (set_path 0 (text_at v at) (get_or v.stack (length v.stack - 2) [] ∷ []) x) (λ text. Puts v 2 at text w) → IsOkAnd (set_path 0 (text_at v at) (take path (top (path + 1) v.stack)) x) (λ text. Puts v (path + 1) at text w)
as_path v w at path x is under_it known =
    subst (λ p. IsOkAnd (set_path 0 (text_at v at) (take path (top (path + 1) v.stack)) x) (λ text. Puts v (p + 1) at text w)) (sym is)
    (subst (λ ps. IsOkAnd (set_path 0 (text_at v at) ps x) (λ text. Puts v 2 at text w)) (one_listed v at path is under_it) known)

pub if_err : {T E : Type 0} (r : Result T E) (P Q : E → Type 0) → ((why : E) → P why → Q why) → IfErr r P → IfErr r Q
if_err (Ok x) P Q f h = tt
if_err (Err e) P Q f h = f e h

pub by_flag : {P : Type 0} (b : Bool) → (IsTrue b → P) → ((IsTrue b → ⊥) → P) → P
by_flag true holds fails = holds refl
by_flag false holds fails = fails (λ is. true≢false (sym is))
