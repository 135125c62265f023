-- Texts that go off the stack, and the lists of the places that stay.
use Rattle.std.proofs.Common.{◌≡◌, ◌≢◌, ℕ, ◌+◌, ◌-◌, List, [], ◌∷◌, ◌++◌, length, take, set, Some, IsSome, refl, sym, ap, subst, ◌∙◌, arith}
use Rattle.std.specs.FinMap.{get}
use Rattle.std.proofs.Math.ListN.{get_or-append}
use Rattle.std.proofs.Math.Seq.{take-set-lt}
use Rattle.std.proofs.lemmas.List.{length_push, length-set, length-take-le, take_all}
use Rattle.tclv_text.specs.declared.counters.Stats.{Stats}
use Rattle.tclv_value.specs.Changes.{IsUnder, Puts, stack_put, cells_put}
use Rattle.tclv_value.specs.Kept.{list_in, list_at}
use Rattle.tclv_value.specs.ListObjects.{KeepsLists}
use Rattle.tclv_value.specs.Places.{view_of, IsPlaced, HasId, id_at}
use Rattle.tclv_value.specs.Setting.{LetsGo}
use Rattle.tclv_value.specs.Stacks.{under}
use Rattle.tclv_value.specs.View.{View, HasPlace, KeepsMade, id_of}
use Rattle.tclv_value.specs.declared.places.At.{At}
use Rattle.tclv_value.specs.declared.places.At.TheVariants.{Stack, Cell}
use Rattle.tclv_value.proofs.CallerLemmas.{get_other}
use Rattle.tclv_value.proofs.ChangeLemmas.{stays_along}
use Rattle.tclv_value.proofs.ViewLemmas.{G, has_id, id_listed, id_of_is, same_view}

-- the top object went
module _ (g h : G) {st : Stats} (ids : List ℕ) (es : List (ℕ × ℕ)) (o : ℕ) (v : View) (view : view_of g st (ids ++ o ∷ []) es ≡ v) (placed : IsPlaced h ids es) (lets : LetsGo g (Some o) h) where
  has_new : (p : At) → IsUnder v 1 p → HasId ids es p
  has_new (Stack i) is = omega (arith, is, same_view g (ids ++ o ∷ []) es v view, length_push ids o)
  has_new (Cell c) is = has_id g st (ids ++ o ∷ []) es (Cell c) (subst (λ w. HasPlace w (Cell c)) (sym view) is.1)

  same_at : (p : At) → HasId ids es p → id_at ids es p ≡ id_at (ids ++ o ∷ []) es p
  same_at (Stack i) is = sym (get_or-append ids (o ∷ []) 0 i is)
  same_at (Cell c) is = refl

  old_id : (p : At) → id_of v p ≡ id_at (ids ++ o ∷ []) es p
  old_id p = ap (λ w. id_of w p) (sym view) ∙ id_of_is g st (ids ++ o ∷ []) es p

  pub dropped_lists : (st2 : Stats) → st2 ≡ st → KeepsLists v 1 (view_of h st2 ids es)
  dropped_lists st2 same = record {
    ids = λ p is. id_of_is h st2 ids es p ∙ same_at p (has_new p is) ∙ sym (old_id p);
    lists = λ p is list.
        let has = has_new p is in
        let here = placed.holders.there (id_at ids es p) (id_listed ids es p has) in
        let was : IsSome (list_at g (id_at ids es p)) = subst (λ x. IsSome (list_at g x)) (old_id p ∙ sym (same_at p has)) (subst (λ (x : G). IsSome (list_at x (id_of v p))) (ap (λ (x : View). x.graph) (sym view)) list) in
        subst (λ x. IsSome (list_at h x)) (sym (id_of_is h st2 ids es p)) (subst IsSome (sym (ap list_in (lets.forms _ here))) was);
    stats = same ∙ ap (λ (x : View). x.stats) view;
  }

-- so many texts went, and one more
pub KeepsLists_none : (v : View) → KeepsLists v 0 v
KeepsLists_none v = record { ids = λ p is. refl; lists = λ p is list. list; stats = refl }

under_less : (a : View) (k : ℕ) (p : At) → IsUnder a (k + 1) p → IsUnder a k p
under_less a k (Stack i) is = omega (arith, is)
under_less a k (Cell c) is = (omega (arith, is.0), is.1)

under_rest : (a b : View) (k : ℕ) (p : At) → b.stack ≡ take (length a.stack - k) a.stack → b.cells ≡ a.cells → IsUnder a (k + 1) p → IsUnder b 1 p
under_rest a b k (Stack i) stack cells is = omega (arith, is, ap length stack, length-take-le (length a.stack - k) a.stack (omega arith))
under_rest a b k (Cell c) stack cells is = (omega (arith, is.0, ap length stack, length-take-le (length a.stack - k) a.stack (omega arith)), subst (λ m. IsSome (get m c)) (sym cells) is.1)

pub KeepsLists_more : (a b d : View) (k : ℕ) → b.stack ≡ take (length a.stack - k) a.stack → b.cells ≡ a.cells → KeepsLists a k b → KeepsLists b 1 d → KeepsLists a (k + 1) d
KeepsLists_more a b d k stack cells first second = record {
  ids = λ p is. second.ids p (under_rest a b k p stack cells is) ∙ first.ids p (under_less a k p is);
  lists = λ p is list. second.lists p (under_rest a b k p stack cells is) (first.lists p (under_less a k p is) list);
  stats = second.stats ∙ first.stats;
}

-- a place got a text, and then texts above it went
module _ (a b d : View) (n : ℕ) (t : List ℕ) (popped : d.stack ≡ take (length b.stack - n) b.stack) (cells : d.cells ≡ b.cells) (keeps : KeepsMade b d) where
  under_all : (stack : List (List ℕ)) → under 0 stack ≡ stack
  under_all stack = take_all (length stack - 0) stack (omega arith)

  put_stack : (place : At) → IsUnder a n place → b.stack ≡ stack_put (under 0 a.stack) place t → d.stack ≡ stack_put (under n a.stack) place t
  put_stack (Stack i) is put =
      let whole : b.stack ≡ set a.stack i t = put ∙ ap (λ xs. set xs i t) (under_all a.stack) in
      popped ∙ ap (λ k. take (k - n) b.stack) (ap length whole ∙ length-set a.stack i t) ∙ ap (take (length a.stack - n)) whole ∙ take-set-lt (length a.stack - n) a.stack i t (omega (arith, is))
  put_stack (Cell c) is put = popped ∙ ap (λ xs. take (length xs - n) xs) (put ∙ under_all a.stack)

  under_there : (place p : At) → IsUnder a n p → b.stack ≡ stack_put (under 0 a.stack) place t → b.cells ≡ cells_put a.cells place t → p ≢ place → IsUnder a 0 p × HasPlace b p × HasPlace d p
  under_there place (Stack j) is stack put ne =
      let len : length b.stack ≡ length a.stack = ap length stack ∙ same_len place in
      (omega (arith, is), omega (arith, is, len), omega (arith, is, len, ap length popped, length-take-le (length b.stack - n) b.stack (omega arith)))
    where
      same_len : (q : At) → length (stack_put (under 0 a.stack) q t) ≡ length a.stack
      same_len (Stack i) = length-set (under 0 a.stack) i t ∙ ap length (under_all a.stack)
      same_len (Cell c) = ap length (under_all a.stack)
  under_there place (Cell q) is stack put ne =
      let there : IsSome (get b.cells q) = subst (λ m. IsSome (get m q)) (sym put) (by_place place ne) in
      ((omega arith, is.1), there, subst (λ m. IsSome (get m q)) (sym cells) there)
    where
      by_place : (x : At) → Cell q ≢ x → IsSome (get (cells_put a.cells x t) q)
      by_place (Stack i) other = is.1
      by_place (Cell c) other = subst IsSome (sym (get_other a.cells c q t (λ e. other (ap Cell e)))) is.1

  pub put_then_drop : (place : At) → IsUnder a n place → Puts a 0 place t b → Puts a n place t d
  put_then_drop place under_n puts = record {
    stack = put_stack place under_n puts.stack;
    cells = cells ∙ puts.cells;
    stays = λ p ne is made.
        let h = under_there place p is puts.stack puts.cells ne in
        stays_along b d p keeps h.1 h.2 (puts.stays p ne h.0 made);
  }
