-- From what the heap ensures to what the store's view shows.
use Rattle.std.proofs.Common.{◌≡◌, ◌≢◌, ℕ, ◌+◌, ◌-◌, ◌<◌, inl, inr, List, [], ◌∷◌, ◌++◌, map, length, get_or, set, take, take-take, true, false, cond, Option, Some, None, IsSome, is_some, refl, sym, ap, ◌∙◌, arith, subst, nat_eq, eqb}
use Rattle.std.specs.Prelude.{IsTrue}
use Rattle.std.specs.Option.{option_map, unwrap_or}
use Rattle.std.specs.Map.{lookup, values_of}
use Rattle.std.specs.FinMap.{get, insert, remove}
use Rattle.std.proofs.Math.ListN.{get_or-append}
use Rattle.std.proofs.lemmas.Bool.{cases_eq}
use Rattle.std.proofs.lemmas.List.{map_push, length_push, take_at, get_or-map, length-map, get_or_push, map-set, get_or-set_same, get_or-set_other, length-set, length-take-le}
use Rattle.std.proofs.lemmas.List.Sums.{sum_by-set}
use Rattle.tclv_text.specs.declared.counters.Stats.{Stats}
use Rattle.tclv_heap.specs.Graph.{Graph, at, occurs}
use Rattle.tclv_heap.specs.Stands.{SaysSame}
use Rattle.tclv_value.specs.Forms.{form_table}
use Rattle.tclv_value.specs.View.{View, HasPlace, text_at, made_at, id_of, IsMade, KeepsMade, KeepsMadeBut, StaysMade}
use Rattle.tclv_value.specs.Changes.{IsUnder}
use Rattle.tclv_value.specs.Places.{text_of, made_of, by_cell, view_of, places, IsPlaced, HasId, id_at, TextsStay}
use Rattle.tclv_value.specs.declared.forms.Form.{Form}
use Rattle.tclv_value.specs.declared.places.At.{At}
use Rattle.tclv_value.specs.declared.places.At.TheVariants.{Stack, Cell}
use Rattle.tclv_value.proofs.HolderLemmas.{occurs-append, occurs-cons, same_self, same_other, occurs_at, occurs_found, map_agree}
use Rattle.tclv_value.proofs.CellLemmas.{get-by_cell, by_cell_agree, by_cell_put, by_cell_gone, not_same}

abbrev pub G : Type 0
G = Graph Form

some_mapped : {X : Type 0} (f : ℕ → X) (x : Option ℕ) → IsSome (option_map f x) → IsSome x
some_mapped f None h = h
some_mapped f (Some o) h = refl

unwrap_mapped : {X : Type 0} (f : ℕ → X) (d : X) (x : Option ℕ) → IsSome x → unwrap_or (option_map f x) d ≡ f (unwrap_or x 0)
unwrap_mapped f d None h = absurd (cc)
unwrap_mapped f d (Some o) h = refl

some_is : (x : Option ℕ) → IsSome x → x ≡ Some (unwrap_or x 0)
some_is None h = absurd (cc)
some_is (Some o) h = refl

-- a place of the view has an object
pub has_id : (g : G) (st : Stats) (ids : List ℕ) (es : List (ℕ × ℕ)) (place : At) → HasPlace (view_of g st ids es) place → HasId ids es place
has_id g st ids es (Stack i) h = subst (λ n. i < n) (length-map ids (text_of g)) h
has_id g st ids es (Cell c) h = some_mapped (text_of g) (lookup (nat_eq c) es) (subst IsSome (get-by_cell (text_of g) es c) h)

pub has_place : (g : G) (st : Stats) (ids : List ℕ) (es : List (ℕ × ℕ)) (place : At) → HasId ids es place → HasPlace (view_of g st ids es) place
has_place g st ids es (Stack i) h = subst (λ n. i < n) (sym (length-map ids (text_of g))) h
has_place g st ids es (Cell c) h = subst IsSome (sym (get-by_cell (text_of g) es c)) (ap (λ x. is_some (option_map (text_of g) x)) (some_is _ h))

pub id_listed : (ids : List ℕ) (es : List (ℕ × ℕ)) (place : At) → HasId ids es place → 0 < occurs (id_at ids es place) (places ids es)
id_listed ids es (Stack i) h = omega (arith, occurs-append (get_or ids i 0) ids (values_of es), occurs_at ids i (get_or ids i 0) h refl)
id_listed ids es (Cell c) h =
    let o : ℕ = unwrap_or (lookup (nat_eq c) es) 0 in
    omega (arith, occurs-append o ids (values_of es), occurs_found (nat_eq c) es o (some_is _ h))

pub text_is : (g : G) (st : Stats) (ids : List ℕ) (es : List (ℕ × ℕ)) (place : At) → HasId ids es place → text_at (view_of g st ids es) place ≡ text_of g (id_at ids es place)
text_is g st ids es (Stack i) h = get_or-map (text_of g) ids i 0 [] h
text_is g st ids es (Cell c) h = ap (λ x. unwrap_or x []) (get-by_cell (text_of g) es c) ∙ unwrap_mapped (text_of g) [] (lookup (nat_eq c) es) h

pub made_is : (g : G) (st : Stats) (ids : List ℕ) (es : List (ℕ × ℕ)) (place : At) → HasId ids es place → made_at (view_of g st ids es) place ≡ made_of g (id_at ids es place)
made_is g st ids es (Stack i) h = get_or-map (made_of g) ids i 0 false h
made_is g st ids es (Cell c) h = ap (λ x. unwrap_or x false) (get-by_cell (made_of g) es c) ∙ unwrap_mapped (made_of g) false (lookup (nat_eq c) es) h

-- the object of a place that the view shows
pub id_of_is : (g : G) (st : Stats) (ids : List ℕ) (es : List (ℕ × ℕ)) (place : At) → id_of (view_of g st ids es) place ≡ id_at ids es place
id_of_is g st ids es (Stack i) = refl
id_of_is g st ids es (Cell c) = ap (λ x. unwrap_or x 0) (get-by_cell (λ o. o) es c ∙ same_id (lookup (nat_eq c) es))
  where
    same_id : (x : Option ℕ) → option_map (λ o. o) x ≡ x
    same_id None = refl
    same_id (Some o) = refl

-- what was there and is there stands for the same, and its text is made exactly where it was
pub record Still (old new : G) : Type 0 where
  pub says : SaysSame form_table old new
  pub made : (o : ℕ) → IsSome (at old o) → IsSome (at new o) → made_of new o ≡ made_of old o

-- the places before and after a call that makes no text
pub record Shift (g : G) (ids : List ℕ) (es : List (ℕ × ℕ)) (h : G) (ids2 : List ℕ) (es2 : List (ℕ × ℕ)) : Type 0 where
  pub before : IsPlaced g ids es
  pub after : IsPlaced h ids2 es2
  pub still : Still g h

module _ (g : G) (ids : List ℕ) (es : List (ℕ × ℕ)) (h : G) (ids2 : List ℕ) (es2 : List (ℕ × ℕ)) (s : Shift g ids es h ids2 es2) where
  pub same_text : (o : ℕ) → 0 < occurs o (places ids es) → 0 < occurs o (places ids2 es2) → text_of h o ≡ text_of g o
  same_text o old new = s.still.says o (s.before.holders.there o old) (s.after.holders.there o new)

  pub same_made : (o : ℕ) → 0 < occurs o (places ids es) → 0 < occurs o (places ids2 es2) → made_of h o ≡ made_of g o
  same_made o old new = s.still.made o (s.before.holders.there o old) (s.after.holders.there o new)

  -- the places that pass, and have the same object
  pub keeps_where : (st : Stats) (Passes : At → Type 0) → ((place : At) → Passes place → HasId ids es place → HasId ids2 es2 place → id_at ids2 es2 place ≡ id_at ids es place) → (place : At) → Passes place → HasPlace (view_of g st ids es) place → HasPlace (view_of h st ids2 es2) place → made_at (view_of h st ids2 es2) place ≡ made_at (view_of g st ids es) place
  keeps_where st Passes ids_same place passes old new =
      let i : HasId ids es place = has_id g st ids es place old in
      let j : HasId ids2 es2 place = has_id h st ids2 es2 place new in
      let e = ids_same place passes i j in
      made_is h st ids2 es2 place j ∙ ap (made_of h) e ∙ same_made (id_at ids es place) (id_listed ids es place i) (subst (λ o. 0 < occurs o (places ids2 es2)) e (id_listed ids2 es2 place j)) ∙ sym (made_is g st ids es place i)

  pub cells_text : ((o : ℕ) → 0 < occurs o (values_of es2) → 0 < occurs o (places ids es)) → by_cell (text_of h) es2 ≡ by_cell (text_of g) es2
  cells_text was = by_cell_agree (text_of h) (text_of g) es2 (λ o i. same_text o (was o i) (omega (arith, i, occurs-append o ids2 (values_of es2))))

  pub stack_text : ((o : ℕ) → 0 < occurs o ids2 → 0 < occurs o (places ids es)) → map (text_of h) ids2 ≡ map (text_of g) ids2
  stack_text was = map_agree (text_of h) (text_of g) ids2 (λ o i. same_text o (was o i) (omega (arith, i, occurs-append o ids2 (values_of es2))))

-- the object of a place that is named in the view
module _ (g : G) {st : Stats} (ids : List ℕ) (es : List (ℕ × ℕ)) (v : View) (view : view_of g st ids es ≡ v) (place : At) (there : HasPlace v place) where
  pub named_id : HasId ids es place
  named_id = has_id g st ids es place (subst (λ w. HasPlace w place) (sym view) there)

  pub named_listed : (o : ℕ) → o ≡ id_at ids es place → 0 < occurs o (places ids es)
  named_listed o id = subst (λ p. 0 < occurs p (places ids es)) (sym id) (id_listed ids es place named_id)

  pub named_text : (o : ℕ) → o ≡ id_at ids es place → text_of g o ≡ text_at v place
  named_text o id = ap (text_of g) id ∙ sym (text_is g st ids es place named_id) ∙ ap (λ w. text_at w place) view

  pub named_of : id_of v place ≡ id_at ids es place
  named_of = ap (λ w. id_of w place) (sym view) ∙ id_of_is g st ids es place

  pub named_made : (o : ℕ) → o ≡ id_at ids es place → made_of g o ≡ made_at v place
  named_made o id = ap (made_of g) id ∙ sym (made_is g st ids es place named_id) ∙ ap (λ w. made_at w place) view

pub same_view : (g : G) {st : Stats} (ids : List ℕ) (es : List (ℕ × ℕ)) (v : View) → view_of g st ids es ≡ v → length v.stack ≡ length ids
same_view g ids es v view = ap (λ (x : View). length x.stack) (sym view) ∙ length-map ids (text_of g)

-- an object at the end of the stack
module _ (g h : G) {st : Stats} (ids : List ℕ) (es : List (ℕ × ℕ)) (o : ℕ) (s : Shift g ids es h (ids ++ o ∷ []) es) (v : View) (view : view_of g st ids es ≡ v) where
  pub push_stack : map (text_of h) (ids ++ o ∷ []) ≡ v.stack ++ text_of h o ∷ []
  push_stack =
      map_push (text_of h) ids o
      ∙ ap (λ x. x ++ text_of h o ∷ []) (map_agree (text_of h) (text_of g) ids (λ p i. same_text _ _ _ _ _ _ s p (omega (arith, i, occurs-append p ids (values_of es))) (omega (arith, i, occurs-append p (ids ++ o ∷ []) (values_of es), occurs-append p ids (o ∷ [])))))
      ∙ ap (λ (x : View). x.stack ++ text_of h o ∷ []) view

  pub push_cells : by_cell (text_of h) es ≡ v.cells
  push_cells = cells_text _ _ _ _ _ _ s (λ p i. omega (arith, i, occurs-append p ids (values_of es))) ∙ ap (λ (x : View). x.cells) view

  pub push_made : get_or (map (made_of h) (ids ++ o ∷ [])) (length v.stack) false ≡ made_of h o
  push_made =
      let len : length v.stack ≡ length ids = same_view g ids es v view in
      get_or-map (made_of h) (ids ++ o ∷ []) (length v.stack) 0 false (omega (arith, len, length_push ids o)) ∙ ap (made_of h) (get_or_push ids o 0 (length v.stack) (sym len))

  pub push_listed : 0 < occurs o (places (ids ++ o ∷ []) es)
  push_listed = omega (arith, occurs-append o (ids ++ o ∷ []) (values_of es), occurs-append o ids (o ∷ []), occurs-cons o o [], same_self o)

  push_id : (place : At) → Unit {0} → HasId ids es place → HasId (ids ++ o ∷ []) es place → id_at (ids ++ o ∷ []) es place ≡ id_at ids es place
  push_id (Stack i) any old new = get_or-append ids (o ∷ []) 0 i old
  push_id (Cell c) any old new = refl

  pub push_keeps : KeepsMade v (view_of h st (ids ++ o ∷ []) es)
  push_keeps = subst (λ w. KeepsMade w (view_of h st (ids ++ o ∷ []) es)) view (λ place. keeps_where _ _ _ _ _ _ s st (λ _. Unit {0}) push_id place tt)

  push_there : (place : At) → HasPlace v place → HasPlace (view_of h st (ids ++ o ∷ []) es) place
  push_there (Stack i) there = omega (arith, there, same_view g ids es v view, length-map (ids ++ o ∷ []) (text_of h), length_push ids o)
  push_there (Cell c) there = subst (λ m. IsSome (get m c)) (sym push_cells) there

  pub push_stays : StaysMade v (view_of h st (ids ++ o ∷ []) es)
  push_stays place there made = push_keeps place there (push_there place there) ∙ made

-- the top of the stack goes, and maybe into a cell
module _ (g h : G) {st : Stats} (ids : List ℕ) (es es2 : List (ℕ × ℕ)) (o : ℕ) (s : Shift g (ids ++ o ∷ []) es h ids es2) (v : View) (view : view_of g st (ids ++ o ∷ []) es ≡ v) where
  pub top_stack : map (text_of h) ids ≡ take (length v.stack - 1) v.stack
  top_stack =
      let stack : v.stack ≡ map (text_of g) ids ++ text_of g o ∷ [] = sym (ap (λ (x : View). x.stack) view) ∙ map_push (text_of g) ids o in
      let len : length v.stack ≡ length (map (text_of g) ids) + 1 = ap length stack ∙ length_push (map (text_of g) ids) (text_of g o) in
      stack_text _ _ _ _ _ _ s (λ p i. omega (arith, i, occurs-append p (ids ++ o ∷ []) (values_of es), occurs-append p ids (o ∷ [])))
      ∙ sym (take_at (map (text_of g) ids) (text_of g o ∷ []) (length v.stack - 1) (omega (arith, len))) ∙ ap (take (length v.stack - 1)) (sym stack)

-- the top of the stack goes
module _ (g h : G) {st : Stats} (ids : List ℕ) (es : List (ℕ × ℕ)) (o : ℕ) (s : Shift g (ids ++ o ∷ []) es h ids es) (v : View) (view : view_of g st (ids ++ o ∷ []) es ≡ v) where
  pub pop_cells : by_cell (text_of h) es ≡ v.cells
  pop_cells = cells_text _ _ _ _ _ _ s (λ p i. omega (arith, i, occurs-append p (ids ++ o ∷ []) (values_of es))) ∙ ap (λ (x : View). x.cells) view

  pop_id : (place : At) → Unit {0} → HasId (ids ++ o ∷ []) es place → HasId ids es place → id_at ids es place ≡ id_at (ids ++ o ∷ []) es place
  pop_id (Stack i) any old new = sym (get_or-append ids (o ∷ []) 0 i new)
  pop_id (Cell c) any old new = refl

  pub pop_keeps : KeepsMade v (view_of h st ids es)
  pop_keeps = subst (λ w. KeepsMade w (view_of h st ids es)) view (λ place. keeps_where _ _ _ _ _ _ s st (λ _. Unit {0}) pop_id place tt)

-- a place of the stack gets the object of a place
module _ (g h : G) {st : Stats} (ids : List ℕ) (es : List (ℕ × ℕ)) (i o : ℕ) (s : Shift g ids es h (set ids i o) es) (within : i < length ids) (listed : 0 < occurs o (places ids es)) (v : View) (view : view_of g st ids es ≡ v) where
  over_was : (p : ℕ) → 0 < occurs p (set ids i o) → 0 < occurs p (places ids es)
  over_was p some = elim (cases_eq p o) [
    | inl e ↦ subst (λ q. 0 < occurs q (places ids es)) (sym e) listed
    | inr ne ↦ omega (arith, some, sum_by-set (λ y. cond (eqb p y) 1 0) ids i o 0 within, same_other p o ne, occurs-append p ids (values_of es))
  ]

  over_listed : 0 < occurs o (places (set ids i o) es)
  over_listed = omega (arith, occurs-append o (set ids i o) (values_of es), occurs_at (set ids i o) i o (subst (λ n. i < n) (sym (length-set ids i o)) within) (get_or-set_same ids i o 0 within))

  pub over_stack : map (text_of h) (set ids i o) ≡ set v.stack i (text_of g o)
  over_stack = stack_text _ _ _ _ _ _ s over_was ∙ map-set (text_of g) ids i o ∙ ap (λ (x : View). set x.stack i (text_of g o)) view

  pub over_cells : by_cell (text_of h) es ≡ v.cells
  over_cells = cells_text _ _ _ _ _ _ s (λ p some. omega (arith, some, occurs-append p ids (values_of es))) ∙ ap (λ (x : View). x.cells) view

  pub over_made : get_or (map (made_of h) (set ids i o)) i false ≡ made_of g o
  over_made =
      get_or-map (made_of h) (set ids i o) i 0 false (subst (λ n. i < n) (sym (length-set ids i o)) within) ∙ ap (made_of h) (get_or-set_same ids i o 0 within) ∙ same_made _ _ _ _ _ _ s o listed over_listed

  over_id : (place : At) → place ≢ Stack i → HasId ids es place → HasId (set ids i o) es place → id_at (set ids i o) es place ≡ id_at ids es place
  over_id (Stack j) other old new = get_or-set_other ids i j o 0 (λ e. other (ap Stack e))
  over_id (Cell c) other old new = refl

  pub over_keeps : KeepsMadeBut v (Stack i) (view_of h st (set ids i o) es)
  over_keeps = subst (λ w. KeepsMadeBut w (Stack i) (view_of h st (set ids i o) es)) view (keeps_where _ _ _ _ _ _ s st (λ place. place ≢ Stack i) over_id)

-- the top of the stack goes into a cell
module _ (g h : G) {st : Stats} (ids : List ℕ) (es es2 : List (ℕ × ℕ)) (o c : ℕ) (s : Shift g (ids ++ o ∷ []) es h ids es2) (put : (q : ℕ) → lookup (nat_eq q) es2 ≡ cond (nat_eq c q) (Some o) (lookup (nat_eq q) es)) (found : lookup (nat_eq c) es2 ≡ Some o) (was : (p : ℕ) → 0 < occurs p (places ids es2) → 0 < occurs p (places (ids ++ o ∷ []) es)) (v : View) (view : view_of g st (ids ++ o ∷ []) es ≡ v) where
  top_id : o ≡ id_at (ids ++ o ∷ []) es (Stack (length v.stack - 1))
  top_id =
      let len : length v.stack ≡ length ids + 1 = same_view g (ids ++ o ∷ []) es v view ∙ length_push ids o in
      sym (get_or_push ids o 0 (length v.stack - 1) (omega (arith, len)))

  top_there : HasPlace v (Stack (length v.stack - 1))
  top_there = omega (arith, same_view g (ids ++ o ∷ []) es v view, length_push ids o)

  pub put_cells : by_cell (text_of h) es2 ≡ insert v.cells c (text_at v (Stack (length v.stack - 1)))
  put_cells =
      cells_text _ _ _ _ _ _ s (λ p i. was p (omega (arith, i, occurs-append p ids (values_of es2)))) ∙ by_cell_put (text_of g) es es2 c o put
      ∙ ap (λ (x : View). insert x.cells c (text_of g o)) view ∙ ap (insert v.cells c) (named_text g (ids ++ o ∷ []) es v view (Stack (length v.stack - 1)) top_there o top_id)

  pub put_made : unwrap_or (get (by_cell (made_of h) es2) c) false ≡ made_at v (Stack (length v.stack - 1))
  put_made =
      let new : 0 < occurs o (places ids es2) = omega (arith, occurs-append o ids (values_of es2), occurs_found (nat_eq c) es2 o found) in
      made_is h st ids es2 (Cell c) (ap is_some found) ∙ ap (λ x. made_of h (unwrap_or x 0)) found ∙ same_made _ _ _ _ _ _ s o (was o new) new
      ∙ named_made g (ids ++ o ∷ []) es v view (Stack (length v.stack - 1)) top_there o top_id

  put_id : (place : At) → place ≢ Cell c → HasId (ids ++ o ∷ []) es place → HasId ids es2 place → id_at ids es2 place ≡ id_at (ids ++ o ∷ []) es place
  put_id (Stack i) other old new = sym (get_or-append ids (o ∷ []) 0 i new)
  put_id (Cell q) other old new = ap (λ x. unwrap_or x 0) (put q ∙ ap (λ b. cond b (Some o) (lookup (nat_eq q) es)) (not_same c q (λ e. other (ap Cell (sym e)))))

  pub put_keeps : KeepsMadeBut v (Cell c) (view_of h st ids es2)
  put_keeps = subst (λ w. KeepsMadeBut w (Cell c) (view_of h st ids es2)) view (keeps_where _ _ _ _ _ _ s st (λ place. place ≢ Cell c) put_id)

no_entry : (x : Option ℕ) → x ≡ None → IsSome x → ⊥
no_entry x none some = cc

-- a cell goes
module _ (g h : G) {st : Stats} (ids : List ℕ) (es es2 : List (ℕ × ℕ)) (c : ℕ) (s : Shift g ids es h ids es2) (gone : (q : ℕ) → lookup (nat_eq q) es2 ≡ cond (nat_eq c q) None (lookup (nat_eq q) es)) (was : (p : ℕ) → 0 < occurs p (places ids es2) → 0 < occurs p (places ids es)) (v : View) (view : view_of g st ids es ≡ v) where
  pub drop_stack : map (text_of h) ids ≡ v.stack
  drop_stack = stack_text _ _ _ _ _ _ s (λ p i. omega (arith, i, occurs-append p ids (values_of es))) ∙ ap (λ (x : View). x.stack) view

  pub drop_cells : by_cell (text_of h) es2 ≡ remove v.cells c
  drop_cells = cells_text _ _ _ _ _ _ s (λ p i. was p (omega (arith, i, occurs-append p ids (values_of es2)))) ∙ by_cell_gone (text_of g) es es2 c gone ∙ ap (λ (x : View). remove x.cells c) view

  drop_id : (place : At) → Unit {0} → HasId ids es place → HasId ids es2 place → id_at ids es2 place ≡ id_at ids es place
  drop_id (Stack i) any old new = refl
  drop_id (Cell q) any old new =
      elim (nat_eq c q) as (λ b. lookup (nat_eq q) es2 ≡ cond b None (lookup (nat_eq q) es) → unwrap_or (lookup (nat_eq q) es2) 0 ≡ unwrap_or (lookup (nat_eq q) es) 0) [
        | true ↦ λ e. absurd (no_entry (lookup (nat_eq q) es2) e new)
        | false ↦ λ e. ap (λ x. unwrap_or x 0) e
      ] (gone q)

  pub drop_keeps : KeepsMade v (view_of h st ids es2)
  drop_keeps = subst (λ w. KeepsMade w (view_of h st ids es2)) view (λ place. keeps_where _ _ _ _ _ _ s st (λ _. Unit {0}) drop_id place tt)

-- texts are made, behind the same places
module _ (g h : G) {st : Stats} (ids : List ℕ) (es : List (ℕ × ℕ)) (before : IsPlaced g ids es) (after : IsPlaced h ids es) (says : SaysSame form_table g h) (v : View) (view : view_of g st ids es ≡ v) where
  says_at : (p : ℕ) → 0 < occurs p (places ids es) → text_of h p ≡ text_of g p
  says_at p i = says p (before.holders.there p i) (after.holders.there p i)

  pub kept_stack : map (text_of h) ids ≡ v.stack
  kept_stack = map_agree (text_of h) (text_of g) ids (λ p i. says_at p (omega (arith, i, occurs-append p ids (values_of es)))) ∙ ap (λ (x : View). x.stack) view

  pub kept_cells : by_cell (text_of h) es ≡ v.cells
  kept_cells = by_cell_agree (text_of h) (text_of g) es (λ p i. says_at p (omega (arith, i, occurs-append p ids (values_of es)))) ∙ ap (λ (x : View). x.cells) view

  pub stays_made : TextsStay g h → StaysMade v (view_of h st ids es)
  stays_made made =
      subst (λ w. StaysMade w (view_of h st ids es)) view
      (λ place there is.
      let i = has_id g st ids es place there in
      made_is h st ids es place i ∙ made (id_at ids es place) (after.holders.there _ (id_listed ids es place i)) (sym (made_is g st ids es place i) ∙ is))

  pub made_there : (place : At) → HasPlace v place → (o : ℕ) → o ≡ id_at ids es place → IsTrue (made_of h o) → IsMade (view_of h st ids es) place
  made_there place there o id is = made_is h st ids es place (named_id g ids es v view place there) ∙ ap (made_of h) (sym id) ∙ is

-- the same graph and places
pub keeps_same : (g h : G) {st : Stats} (ids : List ℕ) (es : List (ℕ × ℕ)) (v : View) → view_of g st ids es ≡ v → h ≡ g → KeepsMade v (view_of h st ids es)
keeps_same g h {st} ids es v view e =
    subst (λ w. KeepsMade w (view_of h st ids es)) view
    (λ place old new.
    made_is h st ids es place (has_id h st ids es place new) ∙ ap (λ x. made_of x (id_at ids es place)) e ∙ sym (made_is g st ids es place (has_id g st ids es place old)))

-- whether a cell is there
pub cell_is_there : (g : G) {st : Stats} (ids : List ℕ) (es : List (ℕ × ℕ)) (v : View) (c : ℕ) → view_of g st ids es ≡ v → is_some (lookup (nat_eq c) es) ≡ is_some (get v.cells c)
cell_is_there g ids es v c view = mapped (lookup (nat_eq c) es) ∙ ap is_some (sym (get-by_cell (text_of g) es c)) ∙ ap (λ (x : View). is_some (get x.cells c)) view
  where
    mapped : (x : Option ℕ) → is_some x ≡ is_some (option_map (text_of g) x)
    mapped None = refl
    mapped (Some o) = refl

-- calls after one another
pub KeepsMade_trans : (a b d : View) → ((place : At) → HasPlace d place → HasPlace b place) → KeepsMade a b → KeepsMade b d → KeepsMade a d
KeepsMade_trans a b d there first second place old new = second place (there place new) new ∙ first place old (there place new)

-- one more text goes
pub pop_more : (s a b : List (List ℕ)) (k : ℕ) → a ≡ take (length s - k) s → k < length s → b ≡ take (length a - 1) a → b ≡ take (length s - (k + 1)) s
pop_more s a b k first within second =
    let len : length a ≡ length s - k = ap length first ∙ length-take-le (length s - k) s (omega arith) in
    let fewer : length a - 1 ≡ length s - (k + 1) = omega (arith, len) in
    second ∙ ap (λ m. take m a) fewer ∙ ap (take (length s - (k + 1))) first ∙ take-take (length s - (k + 1)) (length s - k) s (omega arith)

pub pop_there : (b d : View) → d.stack ≡ take (length b.stack - 1) b.stack → d.cells ≡ b.cells → (place : At) → HasPlace d place → HasPlace b place
pop_there b d stack cells (Stack i) h = omega (arith, h, ap length stack, length-take-le (length b.stack - 1) b.stack (omega arith))
pop_there b d stack cells (Cell c) h = subst (λ m. IsSome (get m c)) cells h

-- a place below the texts that a call takes is there
pub under_there : (v : View) (n : ℕ) (place : At) → IsUnder v n place → HasPlace v place
under_there v n (Stack i) is = omega (arith, is)
under_there v n (Cell c) is = is.1
