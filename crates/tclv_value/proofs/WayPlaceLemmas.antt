-- The value on top of a stack is put at the end of a way from a place on.
use Rattle.std.proofs.Common.{◌≡◌, ◌≢◌, ℕ, zero, suc, ◌+◌, ◌-◌, ◌<◌, ◌≤◌, List, [], ◌∷◌, ◌++◌, map, length, take, drop, get_or, Result, Ok, Err, Option, Some, IsSome, Bool, refl, sym, ap, subst, ◌∙◌, arith}
use Rattle.std.specs.Prelude.{IsOkAnd, IsTrue, ◌↔◌, slice_get, option_to_list}
use Rattle.std.proofs.lemmas.List.{length-map, take-map, drop-map, append-nil, length-append, take_at}
use Rattle.std.specs.FinMap.{get}
use Rattle.std.proofs.lemmas.Option.{slice_get-get_or}
use Rattle.tclv_text.specs.declared.counters.Stats.{Stats}
use Rattle.tclv_forms.specs.Lists.{Items}
use Rattle.tclv_heap.specs.Graph.{at}
use Rattle.tclv_value.specs.Changes.{IsUnder, KeepsTexts, Grows, Puts, stack_put, cells_put}
use Rattle.tclv_value.specs.Kept.{list_at}
use Rattle.tclv_value.specs.ListObjects.{IsListAt, IsAloneAt}
use Rattle.tclv_value.specs.Paths.{PathFlaw, set_path, RefusesPath}
use Rattle.tclv_value.specs.Places.{text_of, view_of, places, IsPlaced, HasId, id_at}
use Rattle.tclv_value.specs.Stacks.{top, under}
use Rattle.tclv_value.specs.View.{View, HasPlace, StaysMade, KeepsMade, text_at, id_of}
use Rattle.tclv_value.specs.Ways.{Opens, text_along, CanGo, Goes, IsUntouched}
use Rattle.tclv_value.specs.declared.faults.ValueFault.{ValueFault}
use Rattle.tclv_value.specs.declared.places.At.{At}
use Rattle.tclv_value.specs.declared.places.At.TheVariants.{Stack, Cell}
use Rattle.tclv_value.proofs.PlaceLemmas.{PutsAt, puts_view}
use Rattle.tclv_value.proofs.SetPlaceLemmas.{has, listed_id, listed_value, id_view, graph_is, value_view, value_text, text_here, sole, apart_here}
use Rattle.tclv_value.proofs.SetOneLemmas.{text_same, under_same}
use Rattle.tclv_value.proofs.ViewLemmas.{G, id_listed, id_of_is, under_there}
use Rattle.tclv_value.proofs.WayLemmas.{first_here}

module _ (g : G) {st : Stats} (ids : List ℕ) (es : List (ℕ × ℕ)) (value id : ℕ) (place : At) (v : View) (view : view_of g st ids es ≡ v) (placed : IsPlaced g ids es) (id_is : id ≡ id_at ids es place) (value_is : value ≡ get_or ids (length ids - 1) 0) (room : IsUnder v 1 place) (next : Option Items) (ks : List ℕ) (opens : Opens v.graph next (id_of v (Stack (length v.stack - 1))) 50 (id_of v place) ks) where
  alone : IsAloneAt v place
  alone = (first_here opens).1

  opens_here : Opens g next value 50 id ks
  opens_here =
      subst (λ (x : G). Opens x next value 50 id ks) (graph_is g ids es value id place v view placed id_is value_is room)
      (subst (λ o. Opens v.graph next o 50 id ks) (value_view g ids es value id place v view placed id_is value_is room)
      (subst (λ o. Opens v.graph next (id_of v (Stack (length v.stack - 1))) 50 o ks) (id_view g ids es value id place v view placed id_is value_is room) opens))

  pub can_go : CanGo g next id value 50 ks
  can_go = record {
    opens = opens_here;
    apart = apart_here g ids es value id place v view placed id_is value_is room alone;
    out = places ids es;
    holders = placed.holders;
    listed = listed_id g ids es value id place v view placed id_is value_is room;
    valued = listed_value g ids es value id place v view placed id_is value_is room;
    sound = placed.sound;
    closed = placed.closed;
  }

  module _ (h : G) (goes : Goes g id value 50 (text_along g id ks (text_of g value)) h) where
    pub placed_on : IsPlaced h ids es
    placed_on = record { sound = goes.sound; closed = goes.closed; holders = goes.passes (places ids es) placed.holders (listed_id g ids es value id place v view placed id_is value_is room) }

    untouched : (p : At) → p ≢ place → HasId ids es p → IsUntouched g value h (id_at ids es p)
    untouched p ne is =
        goes.others (places ids es) placed.holders (listed_id g ids es value id place v view placed id_is value_is room) (listed_value g ids es value id place v view placed id_is value_is room) (id_at ids es p) (id_listed ids es p is)
        (sole g ids es value id place v view placed id_is value_is room alone p ne is)

    text_is_here : text_along g id ks (text_of g value) ≡ text_along v.graph (id_of v place) ks (text_at v (Stack (length v.stack - 1)))
    text_is_here =
        sym (ap (λ (x : G). text_along x (id_of v place) ks (text_at v (Stack (length v.stack - 1)))) (graph_is g ids es value id place v view placed id_is value_is room)
        ∙ ap (λ o. text_along g o ks (text_at v (Stack (length v.stack - 1)))) (id_view g ids es value id place v view placed id_is value_is room)
        ∙ ap (text_along g id ks) (value_text g ids es value id place v view placed id_is value_is room))

    puts_on : PutsAt g h ids ids es es 0 place (text_along v.graph (id_of v place) ks (text_at v (Stack (length v.stack - 1))))
    puts_on = record {
      len = omega arith;
      cells = λ c. refl;
      there = has g ids es value id place v view placed id_is value_is room;
      says = ap (text_of h) (sym id_is) ∙ goes.says ∙ text_is_here;
      texts = λ p ne is. (untouched p ne is).text;
      made = λ p ne is was. (untouched p ne is).made ∙ was;
    }

    pub view_on : (st2 : Stats) → Puts v 0 place (text_along v.graph (id_of v place) ks (text_at v (Stack (length v.stack - 1)))) (view_of h st2 ids es)
    view_on st2 = puts_view g h ids ids es es 0 _ v view st2 place puts_on

    pub same_on : (st2 : Stats) → id_of (view_of h st2 ids es) place ≡ id_of v place
    same_on st2 = id_of_is h st2 ids es place ∙ sym id_is ∙ sym (id_view g ids es value id place v view placed id_is value_is room)

    pub listed_on : (st2 : Stats) → IsListAt (view_of h st2 ids es) place
    listed_on st2 = subst (λ o. IsSome (list_at h o)) (id_is ∙ sym (id_of_is h st2 ids es place)) goes.list

-- the texts of the indices
all_drop : (P : ℕ → Type 0) (b : ℕ) (xs : List ℕ) → ((k d : ℕ) → k < length xs → P (get_or xs k d)) → (k d : ℕ) → k < length (drop b xs) → P (get_or (drop b xs) k d)
all_drop P zero [] all k d within = absurd (omega (arith, within))
all_drop P zero (x ∷ xs) all k d within = all k d within
all_drop P (suc b) [] all k d within = absurd (omega (arith, within))
all_drop P (suc b) (x ∷ xs) all k d within = all_drop P b xs (λ n e w. all (suc n) e (omega (arith, w))) k d within

all_take : (P : ℕ → Type 0) (b : ℕ) (xs : List ℕ) → ((k d : ℕ) → k < length xs → P (get_or xs k d)) → (k d : ℕ) → k < length (take b xs) → P (get_or (take b xs) k d)
all_take P zero xs all k d within = absurd (omega (arith, within))
all_take P (suc b) [] all k d within = absurd (omega (arith, within))
all_take P (suc b) (x ∷ xs) all zero d within = all 0 d (omega arith)
all_take P (suc b) (x ∷ xs) all (suc k) d within = all_take P b xs (λ n e w. all (suc n) e (omega (arith, w))) k d (omega (arith, within))

pub indices_there : (g : G) (ids : List ℕ) (es : List (ℕ × ℕ)) (path : ℕ) → IsPlaced g ids es → (k d : ℕ) → k < length (take path (top (path + 1) ids)) → IsSome (at g (get_or (take path (top (path + 1) ids)) k d))
indices_there g ids es path placed =
    all_take (λ o. IsSome (at g o)) path (top (path + 1) ids)
    (all_drop (λ o. IsSome (at g o)) (length ids - (path + 1)) ids (λ k d within. subst (λ o. IsSome (at g o)) (same_default ids k d within) (placed.holders.there _ (id_listed ids es (Stack k) within))))
  where
    same_default : (xs : List ℕ) (k d : ℕ) → k < length xs → get_or xs k 0 ≡ get_or xs k d
    same_default [] k d within = absurd (omega (arith, within))
    same_default (x ∷ xs) zero d within = refl
    same_default (x ∷ xs) (suc k) d within = same_default xs k d (omega (arith, within))

pub index_texts : (g : G) (ids : List ℕ) (path : ℕ) → map (text_of g) (take path (top (path + 1) ids)) ≡ take path (top (path + 1) (map (text_of g) ids))
index_texts g ids path =
    sym (take-map (text_of g) path (top (path + 1) ids)) ∙ ap (take path) (sym (drop-map (text_of g) (length ids - (path + 1)) ids))
    ∙ ap (λ n. take path (drop (n - (path + 1)) (map (text_of g) ids))) (sym (length-map ids (text_of g)))

pub indices_some : (ids : List ℕ) (path : ℕ) → 0 < path → path + 1 ≤ length ids → 0 < length (take path (top (path + 1) ids))
indices_some ids path some high = some_take path (top (path + 1) ids) some (some_drop (length ids - (path + 1)) ids (omega (arith, high, some)))
  where
    some_take : (n : ℕ) (xs : List ℕ) → 0 < n → 0 < length xs → 0 < length (take n xs)
    some_take zero xs n_some x_some = absurd (omega (arith, n_some))
    some_take (suc n) [] n_some x_some = absurd (omega (arith, x_some))
    some_take (suc n) (x ∷ xs) n_some x_some = omega arith

    some_drop : (n : ℕ) (xs : List ℕ) → n < length xs → 0 < length (drop n xs)
    some_drop zero [] within = absurd (omega (arith, within))
    some_drop zero (x ∷ xs) within = omega arith
    some_drop (suc n) [] within = absurd (omega (arith, within))
    some_drop (suc n) (x ∷ xs) within = some_drop n xs (omega (arith, within))

-- a call that keeps all texts, and then a value that gets in
pub keeps_puts_all : (a b d : View) (n : ℕ) (at : At) (t : List ℕ) → KeepsTexts a b → Puts b n at t d → Puts a n at t d
keeps_puts_all a b d n at t k puts = record {
  stack = puts.stack ∙ ap (λ xs. stack_put (under n xs) at t) k.stack;
  cells = puts.cells ∙ ap (λ m. cells_put m at t) k.cells;
  stays = λ p ne is made. puts.stays p ne (under_same a b n p k is) (k.stays p (under_there a n p is) made);
}

-- the answer of a path, where texts were kept before
path_same : (a b : View) (at : At) (path : ℕ) → KeepsTexts a b → set_path 0 (text_at b at) (take path (top (path + 1) b.stack)) (text_at b (Stack (length b.stack - 1))) ≡ set_path 0 (text_at a at) (take path (top (path + 1) a.stack)) (text_at a (Stack (length a.stack - 1)))
path_same a b at path k =
    ap (λ t. set_path 0 t (take path (top (path + 1) b.stack)) (text_at b (Stack (length b.stack - 1)))) (text_same a b at k)
    ∙ ap (λ xs. set_path 0 (text_at a at) (take path (top (path + 1) xs)) (get_or xs (length xs - 1) [])) k.stack

pub set_kept : (a b d : View) (at : At) (path : ℕ) → KeepsTexts a b
    → IsOkAnd (set_path 0 (text_at b at) (take path (top (path + 1) b.stack)) (text_at b (Stack (length b.stack - 1)))) (λ t. Puts b (path + 1) at t d)
    → IsOkAnd (set_path 0 (text_at a at) (take path (top (path + 1) a.stack)) (text_at a (Stack (length a.stack - 1)))) (λ t. Puts a (path + 1) at t d)
set_kept a b d at path k known =
    subst (λ r. IsOkAnd r (λ t. Puts a (path + 1) at t d)) (path_same a b at path k)
    (each (set_path 0 (text_at b at) (take path (top (path + 1) b.stack)) (text_at b (Stack (length b.stack - 1)))) known)
  where
    each : (r : Result (List ℕ) PathFlaw) → IsOkAnd r (λ t. Puts b (path + 1) at t d) → IsOkAnd r (λ t. Puts a (path + 1) at t d)
    each (Ok t) puts = keeps_puts_all a b d (path + 1) at t k puts
    each (Err e) puts = absurd puts

pub refused_kept : (a b : View) (at : At) (path : ℕ) (why : ValueFault) → KeepsTexts a b
    → RefusesPath why (set_path 0 (text_at b at) (take path (top (path + 1) b.stack)) (text_at b (Stack (length b.stack - 1))))
    → RefusesPath why (set_path 0 (text_at a at) (take path (top (path + 1) a.stack)) (text_at a (Stack (length a.stack - 1))))
refused_kept a b at path why k refused = subst (RefusesPath why) (path_same a b at path k) refused

pub keeps_same : (a b : View) → b ≡ a → KeepsTexts a b
keeps_same a b same = subst (KeepsTexts a) (sym same) (record { stack = refl; cells = refl; stays = λ p is made. made })

pub set_known : {r : Result (List ℕ) PathFlaw} (t : List ℕ) (P : List ℕ → Type 0) → r ≡ Ok t → P t → IsOkAnd r P
set_known t P is p = subst (λ r. IsOkAnd r P) (sym is) p

pub under_high : (v : View) (n : ℕ) (at : At) → IsUnder v n at → n ≤ length v.stack
under_high v n (Stack i) is = omega (arith, is)
under_high v n (Cell c) is = is.0

-- texts that were pushed, and go again
pub grows_texts : (a b : View) → KeepsTexts a b → Grows a b
grows_texts a b k = record { more = []; stack = k.stack ∙ sym (append-nil a.stack); cells = k.cells; stays = k.stays }

pub place_more : (a b : View) (p : At) → Grows a b → HasPlace a p → HasPlace b p
place_more a b (Stack i) g is = omega (arith, is, ap length g.stack, length-append a.stack g.more)
place_more a b (Cell c) g is = subst (λ m. IsSome (get m c)) (sym g.cells) is

assoc : {X : Type 0} (xs ys zs : List X) → (xs ++ ys) ++ zs ≡ xs ++ (ys ++ zs)
assoc [] ys zs = refl
assoc (x ∷ xs) ys zs = ap (λ rest. x ∷ rest) (assoc xs ys zs)

pub grows_then : (a b d : View) → Grows a b → Grows b d → Grows a d
grows_then a b d first second = record {
  more = first.more ++ second.more;
  stack = second.stack ∙ ap (λ xs. xs ++ second.more) first.stack ∙ assoc a.stack first.more second.more;
  cells = second.cells ∙ first.cells;
  stays = λ p is made. second.stays p (place_more a b p first is) (first.stays p is made);
}

pub longer : (a b : View) → Grows a b → length a.stack ≤ length b.stack
longer a b g = omega (arith, ap length g.stack, length-append a.stack g.more)

-- what was pushed goes
pub back_again : (a b d : View) (n : ℕ) → Grows a b → n ≡ length b.stack - length a.stack → d.stack ≡ take (length b.stack - n) b.stack → d.cells ≡ b.cells → KeepsMade b d → KeepsTexts a d
back_again a b d n g is popped cells keeps =
    let len : length b.stack ≡ length a.stack + length g.more = ap length g.stack ∙ length-append a.stack g.more in
    let stack : d.stack ≡ a.stack = popped ∙ ap (take (length b.stack - n)) g.stack ∙ take_at a.stack g.more (length b.stack - n) (omega (arith, len, is)) in
    record {
      stack = stack;
      cells = cells ∙ g.cells;
      stays = λ p there made. keeps p (place_more a b p g there) (there_d p stack there) ∙ g.stays p there made;
    }
  where
    there_d : (p : At) → d.stack ≡ a.stack → HasPlace a p → HasPlace d p
    there_d (Stack i) stack is_there = omega (arith, is_there, ap length stack)
    there_d (Cell c) stack is_there = subst (λ m. IsSome (get m c)) (sym (cells ∙ g.cells)) is_there

-- an element that was pushed, or none
pub grows_element : {E : Type 0} (r : Result (List (List ℕ)) E) (k : ℕ) (b d : View) → IsOkAnd r (λ ts. d.stack ≡ b.stack ++ option_to_list (slice_get ts k)) → d.cells ≡ b.cells → StaysMade b d → Grows b d
grows_element (Ok ts) k b d pushed cells stays = record { more = option_to_list (slice_get ts k); stack = pushed; cells = cells; stays = stays }
grows_element (Err e) k b d pushed cells stays = absurd pushed

pub grows_more : {E : Type 0} (r : Result (List (List ℕ)) E) (k : ℕ) (b d : View) (found : Bool) → IsTrue found → IsOkAnd r (λ ts. IsTrue found ↔ (k < length ts)) → IsOkAnd r (λ ts. d.stack ≡ b.stack ++ option_to_list (slice_get ts k)) → length b.stack < length d.stack
grows_more (Ok ts) k b d found is known pushed =
    let got : slice_get ts k ≡ Some (get_or ts k []) = slice_get-get_or ts k [] (known.0 is) in
    omega (arith, ap length (pushed ∙ ap (λ x. b.stack ++ option_to_list x) got), length-append b.stack (get_or ts k [] ∷ []))
grows_more (Err e) k b d found is known pushed = absurd known

pub under_one : (v : View) (n : ℕ) (p : At) → IsUnder v (n + 1) p → IsUnder v 1 p
under_one v n (Stack i) is = omega (arith, is)
under_one v n (Cell c) is = (omega (arith, is.0), is.1)

-- a way that was found, as the view has it
module _ (g : G) {st : Stats} (ids : List ℕ) (es : List (ℕ × ℕ)) (value id : ℕ) (place : At) (v : View) (view : view_of g st ids es ≡ v) (placed : IsPlaced g ids es) (id_is : id ≡ id_at ids es place) (value_is : value ≡ get_or ids (length ids - 1) 0) (path : ℕ) (room : IsUnder v (path + 1) place) where
  one : IsUnder v 1 place
  one = under_one v path place room

  pub value_there : IsSome (at g value)
  value_there = placed.holders.there value (listed_value g ids es value id place v view placed id_is value_is one)

  pub id_there : IsSome (at g id)
  id_there = placed.holders.there id (listed_id g ids es value id place v view placed id_is value_is one)

  pub found_view : (next : Option Items) (ks indices : List ℕ) → indices ≡ take path (top (path + 1) ids)
      → Opens g next value 50 id ks × ((x : List ℕ) → set_path 0 (text_of g id) (map (text_of g) indices) x ≡ Ok (text_along g id ks x))
      → Opens v.graph next (id_of v (Stack (length v.stack - 1))) 50 (id_of v place) ks × ((x : List ℕ) → set_path 0 (text_at v place) (take path (top (path + 1) v.stack)) x ≡ Ok (text_along v.graph (id_of v place) ks x))
  found_view next ks indices is way =
      let same_graph = graph_is g ids es value id place v view placed id_is value_is one in
      let same_id = id_view g ids es value id place v view placed id_is value_is one in
      let same_value = value_view g ids es value id place v view placed id_is value_is one in
      let same_text = text_here g ids es value id place v view placed id_is value_is one in
      let texts : map (text_of g) indices ≡ take path (top (path + 1) v.stack) = ap (map (text_of g)) is ∙ index_texts g ids path ∙ ap (λ (w : View). take path (top (path + 1) w.stack)) view in (
        subst (λ (x : G). Opens x next (id_of v (Stack (length v.stack - 1))) 50 (id_of v place) ks) (sym same_graph)
            (subst (λ o. Opens g next o 50 (id_of v place) ks) (sym same_value) (subst (λ o. Opens g next value 50 o ks) (sym same_id) way.0)),
        λ x.
            ap (λ t. set_path 0 t (take path (top (path + 1) v.stack)) x) same_text ∙ ap (λ ps. set_path 0 (text_of g id) ps x) (sym texts) ∙ way.1 x
            ∙ ap (λ o. Ok (text_along g o ks x)) (sym same_id) ∙ ap (λ (y : G). Ok (text_along y (id_of v place) ks x)) (sym same_graph),
      )
