-- What the calls of the heap keep of the objects' texts, and the places after them.
use Rattle.std.proofs.Common.{◌≡◌, ℕ, ◌<◌, ◌+◌, inl, inr, List, [], ◌∷◌, ◌++◌, false, Option, Some, None, IsSome, is_some, refl, sym, ap, ◌∙◌, arith, min, true≢false, length, get_or, set, cond, eqb, nat_eq}
use Rattle.std.specs.Map.{values_of, lookup}
use Rattle.indexmap.specs.IndexMap.{insert_entry, swap_remove_entry}
use Rattle.std.proofs.lemmas.List.Sums.{sum_by-set}
use Rattle.std.proofs.lemmas.Bool.{cases_eq}
use Rattle.tclv_heap.specs.declared.ids.Object.{Object}
use Rattle.tclv_heap.specs.Graph.{at, occurs, same, stuck, count_in, text_in, Updates, Adds, HasOutside}
use Rattle.tclv_heap.specs.Dying.{Releases}
use Rattle.tclv_heap.specs.Holders.{Passes}
use Rattle.tclv_heap.specs.Stands.{Keeps, Retexted}
use Rattle.tclv_value.specs.Forms.{form_table}
use Rattle.tclv_value.specs.Places.{made_of, places, IsPlaced, TextsStay}
use Rattle.tclv_value.specs.declared.forms.Form.{Form}
use Rattle.tclv_value.proofs.HolderLemmas.{occurs-append, occurs-cons, occurs_insert, occurs_swap_remove, listed, Holders_same, Holders_outside}
use Rattle.tclv_value.proofs.ViewLemmas.{G, Still}

pub by_slot : (P : Type 0) (s : Option (Object Form)) → (s ≡ None → P) → ((n : Object Form) → s ≡ Some n → P) → P
by_slot P None none some = none refl
by_slot P (Some n) none some = some n refl

pub no_object : (g : G) (o : ℕ) → at g o ≡ None → IsSome (at g o) → ⊥
no_object g o none there = cc

-- a new object
pub still_adds : (old new : G) (id : ℕ) (object : Object Form) → Adds form_table.parts old id object new → Keeps form_table old new → Still old new
still_adds old new id object adds keeps = record {
  says = keeps.says;
  made = λ o was is. elim (cases_eq o id) [
    | inl e ↦ absurd (no_object old o (ap (at old) e ∙ adds.fresh) was)
    | inr ne ↦ ap (λ s. is_some (text_in s)) (adds.made.others o ne)
  ];
}

-- one more holder
pub still_shared : (old new : G) (id : ℕ) → IsSome (at old id) → ((n : Object Form) → at old id ≡ Some n → Updates old new id (Some (record n { count = min (n.count + 1) stuck }))) → Keeps form_table old new → Still old new
still_shared old new id there shared keeps =
    by_slot _ (at old id) (λ e. absurd (no_object old id e there))
    (λ n e. record {
      says = keeps.says;
      made = λ o was is. elim (cases_eq o id) [
        | inl same_o ↦ ap (λ s. is_some (text_in s)) (ap (at new) same_o ∙ (shared n e).changed) ∙ ap (λ s. is_some (text_in s)) (sym (ap (at old) same_o ∙ e))
        | inr ne ↦ ap (λ s. is_some (text_in s)) ((shared n e).others o ne)
      ];
    })

-- holders are released
pub still_released : (old new : G) (ids : List ℕ) → Releases form_table.parts old ids new → Keeps form_table old new → Still old new
still_released old new ids released keeps = record {
  says = keeps.says;
  made = λ o was is.
      by_slot _ (at new o) (λ e. absurd (no_object new o e is))
      (λ n e.
      let k = released.kept o n e in
      ap (λ s. is_some (text_in s)) e ∙ ap is_some k.2.text ∙ sym (ap (λ s. is_some (text_in s)) k.1));
}

-- an object at the end of the stack
pub placed_push : (g h : G) (ids : List ℕ) (es : List (ℕ × ℕ)) (o : ℕ) → IsPlaced g ids es → Passes form_table.parts g [] h (o ∷ []) → Keeps form_table g h → IsPlaced h (ids ++ o ∷ []) es
placed_push g h ids es o placed passes keeps = record {
  sound = keeps.sound;
  closed = keeps.closed placed.closed;
  holders = Holders_same form_table.parts h (o ∷ places ids es) (places (ids ++ o ∷ []) es) (λ x. omega (arith, occurs-cons x o (places ids es), occurs-append x ids (values_of es), occurs-append x (ids ++ o ∷ []) (values_of es), occurs-append x ids (o ∷ []), occurs-cons x o [])) (passes (places ids es) placed.holders);
}

-- an object whose holder is a place is released, and the other places are these
module _ (g h : G) (ids ids2 : List ℕ) (es es2 : List (ℕ × ℕ)) (o : ℕ) (placed : IsPlaced g ids es) (splits : (x : ℕ) → occurs x (places ids es) ≡ occurs x (o ∷ places ids2 es2)) where
  pub released_outside : HasOutside form_table.parts g o 1
  released_outside = Holders_outside form_table.parts g (o ∷ places ids2 es2) o (Holders_same form_table.parts g (places ids es) (o ∷ places ids2 es2) splits placed.holders) (omega (arith, occurs-cons o o (places ids2 es2), same_one o))
    where
      same_one : (p : ℕ) → occurs p (p ∷ []) ≡ 1
      same_one p = grind arith

  pub placed_released : Passes form_table.parts g (o ∷ []) h [] → Keeps form_table g h → IsPlaced h ids2 es2
  placed_released passes keeps = record {
    sound = keeps.sound;
    closed = keeps.closed placed.closed;
    holders = passes (places ids2 es2) (Holders_same form_table.parts g (places ids es) (o ∷ places ids2 es2) splits placed.holders);
  }

-- the top of the stack goes
pub pop_splits : (ids : List ℕ) (es : List (ℕ × ℕ)) (o x : ℕ) → occurs x (places (ids ++ o ∷ []) es) ≡ occurs x (o ∷ places ids es)
pop_splits ids es o x = omega (arith, occurs-cons x o (places ids es), occurs-append x ids (values_of es), occurs-append x (ids ++ o ∷ []) (values_of es), occurs-append x ids (o ∷ []), occurs-cons x o [])

pub still_same : (g : G) → Still g g
still_same g = record { says = λ o was is. refl; made = λ o was is. refl }

-- a call that only adds holders, and then a release
pub still_then_released : (g m h : G) (ids : List ℕ) → Still g m → Releases form_table.parts m ids h → Keeps form_table m h → Still g h
still_then_released g m h ids first released keeps =
    let second = still_released m h ids released keeps in
    let there : (o : ℕ) → IsSome (at h o) → IsSome (at m o) = λ o is. by_slot _ (at h o) (λ e. absurd (no_object h o e is)) (λ n e. ap is_some (released.kept o n e).1) in
    record {
      says = λ o was is. second.says o (there o is) is ∙ first.says o was (there o is);
      made = λ o was is. second.made o (there o is) is ∙ first.made o was (there o is);
    }

-- texts are made
pub retexted_made : (Among : ℕ → Type 0) (old new : G) → Retexted form_table Among old new → TextsStay old new
retexted_made Among old new r o there made =
    by_slot _ (at old o)
    (λ e. absurd (let no : made_of old o ≡ false = ap (λ s. is_some (text_in s)) e in true≢false (sym made ∙ no)))
    (λ n e. elim (r.kept o n e) [
      | inl same_n ↦ ap (λ s. is_some (text_in s)) (same_n ∙ sym e) ∙ made
      | inr told ↦ ap (λ s. is_some (text_in s)) told.2
    ])

pub retexted_there : (Among : ℕ → Type 0) (old new : G) → Retexted form_table Among old new → (o : ℕ) → IsSome (at old o) → IsSome (at new o)
retexted_there Among old new r o there =
    by_slot _ (at old o) (λ e. absurd (no_object old o e there)) (λ n e. elim (r.kept o n e) [ inl same_n ↦ ap is_some same_n | inr told ↦ ap is_some told.2 ])

pub retexted_count : (Among : ℕ → Type 0) (old new : G) → Retexted form_table Among old new → (o : ℕ) → IsSome (at old o) → count_in (at new o) ≡ count_in (at old o)
retexted_count Among old new r o there =
    by_slot _ (at old o) (λ e. absurd (no_object old o e there)) (λ n e. elim (r.kept o n e) [ inl same_n ↦ ap count_in (same_n ∙ sym e) | inr told ↦ ap count_in told.2 ∙ sym (ap count_in e) ])

-- a place of the stack gets an object, and its old object is released
pub over_splits : (ids : List ℕ) (es : List (ℕ × ℕ)) (i o old x : ℕ) → i < length ids → get_or ids i 0 ≡ old → occurs x (places (ids ++ o ∷ []) es) ≡ occurs x (old ∷ places (set ids i o) es)
over_splits ids es i o old x within here =
    omega (
      arith,
      occurs-append x (ids ++ o ∷ []) (values_of es),
      occurs-append x ids (o ∷ []),
      occurs-cons x o [],
      occurs-cons x old (places (set ids i o) es),
      occurs-append x (set ids i o) (values_of es),
      sum_by-set (λ y. cond (eqb x y) 1 0) ids i o 0 within,
      ap (same x) here,
    )

-- the top of the stack goes into a cell
module _ (g : G) (ids : List ℕ) (es es2 : List (ℕ × ℕ)) (o c : ℕ) (entries : es2 ≡ insert_entry nat_eq es c o) where
  pub put_splits : (old : Option ℕ) → lookup (nat_eq c) es ≡ old → (x : ℕ) → occurs x (places (ids ++ o ∷ []) es) ≡ occurs x (listed old ++ places ids es2)
  put_splits old is x =
      omega (
        arith,
        occurs-append x (ids ++ o ∷ []) (values_of es),
        occurs-append x ids (o ∷ []),
        occurs-cons x o [],
        occurs-append x (listed old) (places ids es2),
        occurs-append x ids (values_of es2),
        occurs_insert x c o es,
        ap (λ y. occurs x (listed y)) is,
        ap (λ xs. occurs x (values_of xs)) entries,
      )

  pub put_was : (p : ℕ) → 0 < occurs p (places ids es2) → 0 < occurs p (places (ids ++ o ∷ []) es)
  put_was p some = omega (arith, some, put_splits (lookup (nat_eq c) es) refl p, occurs-append p (listed (lookup (nat_eq c) es)) (places ids es2))

  -- a cell that was not there
  pub placed_put : IsPlaced g (ids ++ o ∷ []) es → lookup (nat_eq c) es ≡ None → IsPlaced g ids es2
  placed_put placed none = record {
    sound = placed.sound;
    closed = placed.closed;
    holders = Holders_same form_table.parts g (places (ids ++ o ∷ []) es) (places ids es2) (put_splits None none) placed.holders;
  }

-- a cell goes
pub drop_splits : (ids : List ℕ) (es es2 : List (ℕ × ℕ)) (c o : ℕ) → es2 ≡ swap_remove_entry (nat_eq c) es → lookup (nat_eq c) es ≡ Some o → (x : ℕ) → occurs x (places ids es) ≡ occurs x (o ∷ places ids es2)
drop_splits ids es es2 c o entries is x =
    omega (
      arith,
      occurs-append x ids (values_of es),
      occurs-cons x o (places ids es2),
      occurs-append x ids (values_of es2),
      occurs_swap_remove x (nat_eq c) es o is,
      ap (λ xs. occurs x (values_of xs)) entries,
    )

pub drop_was : (ids : List ℕ) (es es2 : List (ℕ × ℕ)) (o : ℕ) → ((x : ℕ) → occurs x (places ids es) ≡ occurs x (o ∷ places ids es2)) → (p : ℕ) → 0 < occurs p (places ids es2) → 0 < occurs p (places ids es)
drop_was ids es es2 o splits p some = omega (arith, some, splits p, occurs-cons p o (places ids es2))
