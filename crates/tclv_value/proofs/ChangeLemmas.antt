-- What is there and made after several calls of a store.
use Rattle.std.proofs.Common.{◌≡◌, ◌≢◌, ℕ, ◌+◌, ◌-◌, List, [], ◌∷◌, ◌++◌, length, take, get_or, set, IsSome, refl, sym, ap, subst, ◌∙◌, arith, inl, inr, false, Result, Ok, Err}
use Rattle.std.specs.Prelude.{is_err, OnOk}
use Rattle.std.proofs.lemmas.Bool.{cases_eq}
use Rattle.std.specs.FinMap.{get, insert}
use Rattle.std.proofs.lemmas.List.{length_push, length-set, length-take-le, take_at, get_or_push, set-append_left}
use Rattle.std.proofs.Math.Seq.{take-set-lt}
use Rattle.tclv_value.specs.View.{View, HasPlace, text_at, IsMade, KeepsMade, KeepsMadeBut}
use Rattle.tclv_value.specs.Changes.{IsUnder, Pushes, Puts}
use Rattle.tclv_value.specs.Stacks.{under}
use Rattle.tclv_value.specs.declared.places.At.{At}
use Rattle.tclv_value.specs.declared.places.At.TheVariants.{Stack, Cell}
use Rattle.tclv_value.proofs.CallerLemmas.{put_there, get_other}

-- a text that stays through a call that keeps it
pub stays_through : (v w : View) (changed place : At) → KeepsMadeBut v changed w → place ≢ changed → HasPlace v place → HasPlace w place → IsMade v place → IsMade w place
stays_through v w changed place keeps other old new made = keeps place other old new ∙ made

pub stays_along : (v w : View) (place : At) → KeepsMade v w → HasPlace v place → HasPlace w place → IsMade v place → IsMade w place
stays_along v w place keeps old new made = keeps place old new ∙ made

-- what a call ensures where it isn't refused
pub not_refused : {T E : Type 0} {P : Type 0} (r : Result T E) → is_err r ≡ false → OnOk r P → P
not_refused (Ok x) is h = h
not_refused (Err e) is h = absurd (cc)

-- a text is pushed, goes over a place of the stack, and it and n more are popped
module _ (v v1 v2 v3 v4 : View) (n i : ℕ) (t : List ℕ) (room : IsUnder v n (Stack i)) (pushed : Pushes v t v1) (over : v2.stack ≡ set v1.stack i (text_at v1 (Stack (length v.stack)))) (over_cells : v2.cells ≡ v1.cells) (over_keeps : KeepsMadeBut v1 (Stack i) v2) (popped : v3.stack ≡ take (length v2.stack - 1) v2.stack) (popped_cells : v3.cells ≡ v2.cells) (popped_keeps : KeepsMade v2 v3) (more : v4.stack ≡ take (length v3.stack - n) v3.stack) (more_cells : v4.cells ≡ v3.cells) (more_keeps : KeepsMade v3 v4) where
  s1 : text_at v1 (Stack (length v.stack)) ≡ t
  s1 = ap (λ xs. get_or xs (length v.stack) []) pushed.stack ∙ get_or_push v.stack t [] (length v.stack) refl

  s2 : v2.stack ≡ set v.stack i t ++ t ∷ []
  s2 = over ∙ ap (set v1.stack i) s1 ∙ ap (λ xs. set xs i t) pushed.stack ∙ set-append_left v.stack (t ∷ []) i t (omega (arith, room))

  s2_len : length v2.stack ≡ length v.stack + 1
  s2_len = ap length s2 ∙ length_push (set v.stack i t) t ∙ ap (λ k. k + 1) (length-set v.stack i t)

  s3 : v3.stack ≡ set v.stack i t
  s3 = popped ∙ ap (take (length v2.stack - 1)) s2 ∙ take_at (set v.stack i t) (t ∷ []) (length v2.stack - 1) (omega (arith, s2_len, length-set v.stack i t))

  s3_len : length v3.stack ≡ length v.stack
  s3_len = ap length s3 ∙ length-set v.stack i t

  s4 : v4.stack ≡ set (under n v.stack) i t
  s4 = more ∙ ap (λ k. take (k - n) v3.stack) s3_len ∙ ap (take (length v.stack - n)) s3 ∙ take-set-lt (length v.stack - n) v.stack i t (omega (arith, room))

  s4_len : length v4.stack ≡ length v.stack - n
  s4_len = ap length more ∙ length-take-le (length v3.stack - n) v3.stack (omega arith) ∙ ap (λ k. k - n) s3_len

  cells_4 : v4.cells ≡ v.cells
  cells_4 = more_cells ∙ popped_cells ∙ over_cells ∙ pushed.cells

  there : (place : At) → IsUnder v n place → HasPlace v place × HasPlace v1 place × HasPlace v2 place × HasPlace v3 place × HasPlace v4 place
  there (Stack j) is = (omega (arith, is), omega (arith, is, ap length pushed.stack, length_push v.stack t), omega (arith, is, s2_len), omega (arith, is, s3_len), omega (arith, is, s4_len))
  there (Cell c) is = (is.1, subst (λ m. IsSome (get m c)) (sym pushed.cells) is.1, subst (λ m. IsSome (get m c)) (sym (over_cells ∙ pushed.cells)) is.1, subst (λ m. IsSome (get m c)) (sym (popped_cells ∙ over_cells ∙ pushed.cells)) is.1, subst (λ m. IsSome (get m c)) (sym cells_4) is.1)

  pub put_on_stack : Puts v n (Stack i) t v4
  put_on_stack = record {
    stack = s4;
    cells = cells_4;
    stays = λ place other is made.
        let h = there place is in
        stays_along v3 v4 place more_keeps h.3 h.4 (stays_along v2 v3 place popped_keeps h.2 h.3 (stays_through v1 v2 (Stack i) place over_keeps other h.1 h.2 (pushed.stays place h.0 made)));
  }

-- a text is pushed, goes into a cell, and n more are popped
module _ (v v1 v2 v3 : View) (n c : ℕ) (t : List ℕ) (room : IsUnder v n (Cell c)) (pushed : Pushes v t v1) (popped : v2.stack ≡ take (length v1.stack - 1) v1.stack) (put : v2.cells ≡ insert v1.cells c (text_at v1 (Stack (length v1.stack - 1)))) (keeps : KeepsMadeBut v1 (Cell c) v2) (more : v3.stack ≡ take (length v2.stack - n) v2.stack) (more_cells : v3.cells ≡ v2.cells) (more_keeps : KeepsMade v2 v3) where
  c1_len : length v1.stack ≡ length v.stack + 1
  c1_len = ap length pushed.stack ∙ length_push v.stack t

  c2 : v2.stack ≡ v.stack
  c2 = popped ∙ ap (take (length v1.stack - 1)) pushed.stack ∙ take_at v.stack (t ∷ []) (length v1.stack - 1) (omega (arith, c1_len))

  c2_text : text_at v1 (Stack (length v1.stack - 1)) ≡ t
  c2_text = ap (λ xs. get_or xs (length v1.stack - 1) []) pushed.stack ∙ get_or_push v.stack t [] (length v1.stack - 1) (omega (arith, c1_len))

  c2_cells : v2.cells ≡ insert v.cells c t
  c2_cells = put ∙ ap (insert v1.cells c) c2_text ∙ ap (λ m. insert m c t) pushed.cells

  c3_len : length v3.stack ≡ length v.stack - n
  c3_len = ap length more ∙ length-take-le (length v2.stack - n) v2.stack (omega arith) ∙ ap (λ xs. length xs - n) c2

  cell_there : (q : ℕ) → IsSome (get v.cells q) → IsSome (get v2.cells q)
  cell_there q some = elim (cases_eq q c) [
    | inl same ↦ subst (λ k. IsSome (get v2.cells k)) (sym same) (put_there v.cells v2.cells c t c2_cells)
    | inr other ↦ subst IsSome (sym (ap (λ m. get m q) c2_cells ∙ get_other v.cells c q t other)) some
  ]

  there_cells : (place : At) → IsUnder v n place → HasPlace v place × HasPlace v1 place × HasPlace v2 place × HasPlace v3 place
  there_cells (Stack j) is = (omega (arith, is), omega (arith, is, c1_len), omega (arith, is, ap length c2), omega (arith, is, c3_len))
  there_cells (Cell q) is = (is.1, subst (λ m. IsSome (get m q)) (sym pushed.cells) is.1, cell_there q is.1, subst (λ m. IsSome (get m q)) (sym more_cells) (cell_there q is.1))

  pub put_in_cell : Puts v n (Cell c) t v3
  put_in_cell = record {
    stack = more ∙ ap (λ xs. take (length xs - n) xs) c2;
    cells = more_cells ∙ c2_cells;
    stays = λ place other is made.
        let h = there_cells place is in
        stays_along v2 v3 place more_keeps h.2 h.3 (stays_through v1 v2 (Cell c) place keeps other h.1 h.2 (pushed.stays place h.0 made));
  }
