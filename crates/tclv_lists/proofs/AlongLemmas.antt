-- Laws of a value that is put at the end of a path.
use Rattle.std.proofs.Common.{◌≡◌, ℕ, zero, suc, ◌+◌, ◌-◌, ◌<◌, ◌≤◌, Bool, true, false, cond, List, [], ◌∷◌, ◌++◌, length, take, drop, get_or, None, Result, Ok, Err, IsTrue, refl, sym, ap, ◌∙◌, subst, arith, append-nil, append_assoc, ⊎_elim}
use Rattle.std.specs.Prelude.{◌↔◌, ℤ, pos, negsuc, nat_le, IsOkAnd, slice_get, option_to_list}
use Rattle.std.specs.Result.{ForOk}
use Rattle.std.specs.Ordering.{nat_cmp}
use Rattle.std.specs.FinMap.{FinMap, get, insert}
use Rattle.std.specs.Option.{option_map_or}
use Rattle.std.proofs.lemmas.Bool.{cases_lt}
use Rattle.std.proofs.lemmas.List.{length-append, take_at, take_all, drop_at, get_or_push}
use Rattle.tclv_text.specs.declared.indices.IndexFault.{IndexFault}
use Rattle.tclv_text.specs.Lists.{ListFlaw}
use Rattle.tclv_text.specs.Elements.{elements}
use Rattle.tclv_text.specs.Indices.{index}
use Rattle.tclv_text.specs.Quotes.{list_text}
use Rattle.tclv_model.specs.declared.data_commands.CmdFault.{CmdFault}
use Rattle.tclv_model.specs.declared.data_commands.VarState.{VarState}
use Rattle.tclv_model.specs.declared.data_commands.VarState.TheVariants as var
use Rattle.tclv_model.specs.declared.messages.MessageId.TheVariants.{IndexOutOfRange}
use Rattle.tclv_model.specs.Rows.{Answer, RowAnswer, VarAnswer, Gives, Refuses, Holds, Unset, and_then, says}
use Rattle.tclv_model.specs.Values.{list_of, list_read, place_of, place_read}
use Rattle.tclv_value.specs.View.{View, HasPlace, StaysMade, text_at}
use Rattle.tclv_value.specs.declared.places.At.TheVariants.{Cell}
use Rattle.tclv_value.specs.Stacks.{top, under}
use Rattle.tclv_value.specs.Changes.{Pushes, Puts}
use Rattle.tclv_value.specs.Paths.{PathFlaw, NoPlace, and_then as then_path, list_or, place_or, step, put_at, set_path}
use Rattle.tclv_value.specs.Lists.{replaced}
use Rattle.tclv_reply.specs.Replies.{Grows, Reads, Refused, variable_of}
use Rattle.tclv_reply.specs.Places.{within, place_within}
use Rattle.tclv_lists.specs.Paths.{put_along, forms_of, checked, Reaches}
use Rattle.tclv_reply.specs.Variables.{both}
use Rattle.tclv_lists.specs.Variables.{taken, IsStored, Stores}
use Rattle.tclv_reply.proofs.Laws.{grows_trans, grows_pushed, refused_on, refused_after, no_words, cells_text, list_known, get_some, cell_there, cell_text}
use Rattle.tclv_lists.proofs.StoredLemmas.{stores_refused}

-- a step that went well, and what followed it
pub came_through : {A B : Type 0} (r : Result A PathFlaw) (f : A → Result B PathFlaw) (z : B) → then_path r f ≡ Ok z → (a : A) × ((r ≡ Ok a) × (f a ≡ Ok z))
came_through (Ok a) f z e = (a, (refl, e))
came_through (Err flaw) f z e = absurd (cc)

list_came : (t : List ℕ) (r : Result (List (List ℕ)) ListFlaw) (ts : List (List ℕ)) → list_or t r ≡ Ok ts → list_read r ≡ Gives ts
list_came t (Ok us) ts e = cc
list_came t (Err flaw) ts e = absurd (cc)

within_came : (b : Bool) (i : List ℕ) (level j k : ℕ) → cond b (Ok j) (Err (NoPlace level)) ≡ Ok k → cond b (Gives j) (says IndexOutOfRange i []) ≡ Gives k
within_came true i level j k e = cc
within_came false i level j k e = absurd (cc)

place_came : (i : List ℕ) (level n k : ℕ) (r : Result ℤ IndexFault) → place_or level n r ≡ Ok k → and_then (place_read i r) (λ z. within i n z) ≡ Gives k
place_came i level n k (Ok (pos j)) e = within_came (nat_le j n) i level j k e
place_came i level n k (Ok (negsuc j)) e = absurd (cc)
place_came i level n k (Err why) e = absurd (cc)

abbrev put_text : List ℕ → Result (List ℕ) PathFlaw
put_text x = Ok x

given_same : (x z : List ℕ) → put_text x ≡ put_text z → Gives x ≡ Gives z
given_same x z e = cc

-- what the store puts at the end of a path is what the row says
pub put_along_set : (level : ℕ) (t : List ℕ) (path : List (List ℕ)) (x z : List ℕ) → set_path level t path x ≡ Ok z → put_along t path x ≡ Gives z
put_along_set level t [] x z e = given_same x z e
put_along_set level t (i ∷ path) x z e =
    let deeper : List (List ℕ) × ℕ → Result (List ℕ) PathFlaw = λ p. then_path (set_path (level + 1) (get_or p.0 p.1 []) path x) (λ y. Ok (list_text (put_at p.0 p.1 y))) in
    let s = came_through (step level t i) deeper z e in
    let l = came_through (list_or t (elements t)) _ s.0 s.1.0 in
    let ts = l.0 in
    let p = came_through (place_or level (length ts) (index i (length ts))) _ s.0 l.1.1 in
    let k = p.0 in
    let pair : s.0 ≡ (ts, k) = cc in
    let y = came_through (set_path (level + 1) (get_or ts k []) path x) _ z (subst (λ q. deeper q ≡ Ok z) pair s.1.1) in
    let put : List (List ℕ) → ℕ → RowAnswer = λ us n. and_then (put_along (get_or us n []) path x) (λ v. Gives (list_text (put_at us n v))) in
    ap (λ a. and_then a (λ us. and_then (place_within i (length us)) (put us))) (list_came t (elements t) ts l.1.0)
    ∙ ap (λ a. and_then a (put ts)) (place_came i level (length ts) k (index i (length ts)) p.1.0)
    ∙ ap (λ a. and_then a (λ v. Gives (list_text (put_at ts k v)))) (put_along_set (level + 1) (get_or ts k []) path x y.0 y.1.0)
    ∙ given_same (list_text (put_at ts k y.0)) z y.1.1

-- what goes into one list after another
pub wrapped : (b : RowAnswer) (f g : List ℕ → List ℕ) → and_then (and_then b (λ y. Gives (f y))) (λ y. Gives (g y)) ≡ and_then b (λ y. Gives (g (f y)))
wrapped (Gives y) f g = refl
wrapped (Refuses kind message code) f g = refl

form_first : {A : Type 0} (a : Answer ℤ) (c : Answer A) (u : Answer (Unit {0})) (rest : Answer A) → c ≡ and_then u (λ _. rest) → and_then a (λ _. c) ≡ and_then (and_then a (λ _. u)) (λ _. rest)
form_first (Gives z) c u rest e = e
form_first (Refuses kind message code) c u rest e = refl

-- the forms are checked before the rest
pub checked_first : {A : Type 0} (path : List (List ℕ)) (rest : Answer A) → checked path rest ≡ and_then (forms_of path) (λ _. rest)
checked_first [] rest = refl
checked_first (i ∷ path) rest = form_first (place_of i 0) (checked path rest) (forms_of path) rest (checked_first path rest)

-- a place behind the last element
get_past : (ts : List (List ℕ)) (k : ℕ) → length ts ≤ k → (slice_get ts k ≡ None) × (get_or ts k [] ≡ [])
get_past [] k h = (refl, refl)
get_past (t ∷ ts) zero h = absurd (omega arith)
get_past (t ∷ ts) (suc k) h = get_past ts k (omega arith)

-- Into what a step along the path leads.
module _ (t i j : List ℕ) (old one two new : View) (len k : ℕ) (read : Reads (list_of t) (λ ts x. x ≡ length ts) old one (Ok len)) (placed : Reads (place_within j len) (λ y x. x ≡ y) one two (Ok k)) (same_index : j ≡ i) where
  rest : (path : List (List ℕ)) → (x : List ℕ) → put_along t (i ∷ path) x ≡ and_then (put_along (get_or read.gives.read k []) path x) (λ y. Gives (list_text (put_at read.gives.read k y)))
  rest path x =
      let us = read.gives.read in
      let put : List (List ℕ) → ℕ → RowAnswer = λ vs n. and_then (put_along (get_or vs n []) path x) (λ v. Gives (list_text (put_at vs n v))) in
      let place_is : place_within i (length us) ≡ Gives k = ap (λ n. place_within i n) (sym read.gives.shown) ∙ ap (λ w. place_within w len) (sym same_index) ∙ placed.gives.given ∙ ap Gives (sym placed.gives.shown) in
      ap (λ a. and_then a (λ vs. and_then (place_within i (length vs)) (put vs))) read.gives.given ∙ ap (λ a. and_then a (put us)) place_is

  reached : Grows two new → new.stack ≡ two.stack ++ get_or read.gives.read k [] ∷ [] → Reaches t i old new (Ok tt)
  reached g top =
      let us = read.gives.read in record {
        grows = grows_trans old two new (grows_trans old one two read.grows placed.grows) g;
        reached = record { text = get_or us k []; list = us; place = k; rest = rest; top = top ∙ ap (λ s. s ++ get_or us k [] ∷ []) (placed.kept ∙ read.kept) };
        refuses = tt;
      }

  known : (v : List ℕ) → v ≡ t → list_of v ≡ Gives read.gives.read
  known v e = ap list_of e ∙ read.gives.given

  pub reached_element : (v : List ℕ) (b : Bool) → v ≡ t → b ≡ true → IsOkAnd (elements v) (λ vs. IsTrue b ↔ (k < length vs)) → IsOkAnd (elements v) (λ vs. new.stack ≡ two.stack ++ option_to_list (slice_get vs k)) → new.cells ≡ two.cells → StaysMade two new → Reaches t i old new (Ok tt)
  reached_element v b e is found pushed cells stays =
      let us = read.gives.read in
      let f = list_known (elements v) us (λ vs. IsTrue b ↔ (k < length vs)) (known v e) found in
      let p = list_known (elements v) us (λ vs. new.stack ≡ two.stack ++ option_to_list (slice_get vs k)) (known v e) pushed in
      let top : new.stack ≡ two.stack ++ get_or us k [] ∷ [] = p ∙ ap (λ o. two.stack ++ option_to_list o) (get_some us k (f.0 is)) in
      reached (record { more = get_or us k [] ∷ []; stack = top; cells = cells; stays = stays }) top

  pub reached_behind : (v : List ℕ) (b : Bool) (mid : View) → v ≡ t → b ≡ false → IsOkAnd (elements v) (λ vs. IsTrue b ↔ (k < length vs)) → IsOkAnd (elements v) (λ vs. mid.stack ≡ two.stack ++ option_to_list (slice_get vs k)) → mid.cells ≡ two.cells → StaysMade two mid → Pushes mid [] new → Reaches t i old new (Ok tt)
  reached_behind v b mid e is found pushed cells stays more =
      let us = read.gives.read in
      let f = list_known (elements v) us (λ vs. IsTrue b ↔ (k < length vs)) (known v e) found in
      let p = list_known (elements v) us (λ vs. mid.stack ≡ two.stack ++ option_to_list (slice_get vs k)) (known v e) pushed in
      let past : length us ≤ k = ⊎_elim (λ (h : k < length us). absurd (let true_is : b ≡ true = f.1 h in cc)) (λ (h : length us ≤ k). h) (cases_lt k (length us)) in
      let none = get_past us k past in
      let same : mid.stack ≡ two.stack = p ∙ ap (λ o. two.stack ++ option_to_list o) none.0 ∙ append-nil two.stack in
      let top : new.stack ≡ two.stack ++ get_or us k [] ∷ [] = more.stack ∙ ap (λ s. s ++ [] ∷ []) same ∙ ap (λ x. two.stack ++ x ∷ []) (sym none.1) in
      reached (grows_trans two mid new (record { more = []; stack = same ∙ sym (append-nil two.stack); cells = cells; stays = stays }) (grows_pushed mid new [] more)) top

-- a result of which something is known
pub ok_and : {A E : Type 0} (r : Result A E) (P : A → Type 0) → IsOkAnd r P → (z : A) × ((r ≡ Ok z) × P z)
ok_and (Ok z) P h = (z, (refl, h))
ok_and (Err e) P h = absurd h

-- A value was put at the end of a path: it stood below the path and above it.
module _ (old mid new : View) (cell n : ℕ) (p : List (List ℕ)) (x : List ℕ) (grows : Grows old mid) (stack : mid.stack ≡ old.stack ++ (x ∷ (p ++ x ∷ []))) (count : length p ≡ n)
    (set : IsOkAnd (set_path 0 (text_at mid (Cell cell)) (take n (top (n + 1) mid.stack)) (get_or mid.stack (length mid.stack - 1) [])) (λ text. Puts mid (n + 1) (Cell cell) text new)) where
  abbrev below : List (List ℕ)
  below = old.stack ++ x ∷ []

  apart : mid.stack ≡ below ++ (p ++ x ∷ [])
  apart = stack ∙ sym (append_assoc old.stack (x ∷ []) (p ++ x ∷ []))

  long : length mid.stack ≡ length below + (n + 1)
  long = omega (arith, ap length apart, length-append below (p ++ x ∷ []), length-append p (x ∷ []))

  under_is : under (n + 1) mid.stack ≡ below
  under_is = let k : length below ≡ length mid.stack - (n + 1) = omega (arith, long) in ap (λ s. take (length mid.stack - (n + 1)) s) apart ∙ take_at below (p ++ x ∷ []) (length mid.stack - (n + 1)) k

  top_is : top (n + 1) mid.stack ≡ p ++ x ∷ []
  top_is = let k : length below ≡ length mid.stack - (n + 1) = omega (arith, long) in ap (λ s. drop (length mid.stack - (n + 1)) s) apart ∙ drop_at below (p ++ x ∷ []) (length mid.stack - (n + 1)) k

  path_is : take n (top (n + 1) mid.stack) ≡ p
  path_is = ap (take n) top_is ∙ take_at p (x ∷ []) n count

  value_is : get_or mid.stack (length mid.stack - 1) [] ≡ x
  value_is =
      let all : mid.stack ≡ (below ++ p) ++ x ∷ [] = apart ∙ sym (append_assoc below p (x ∷ [])) in
      let k : length (below ++ p) ≡ length mid.stack - 1 = omega (arith, ap length all, length-append (below ++ p) (x ∷ [])) in
      ap (λ s. get_or s (length mid.stack - 1) []) all ∙ get_or_push (below ++ p) x [] (length mid.stack - 1) k

  done : (z : List ℕ) × ((set_path 0 (text_at mid (Cell cell)) (take n (top (n + 1) mid.stack)) (get_or mid.stack (length mid.stack - 1) []) ≡ Ok z) × Puts mid (n + 1) (Cell cell) z new)
  done = ok_and _ (λ text. Puts mid (n + 1) (Cell cell) text new) set

  new_stack : new.stack ≡ below
  new_stack = done.1.1.stack ∙ under_is

  pub put_there : HasPlace new (Cell cell) × (1 ≤ length new.stack)
  put_there = (cell_there new mid.cells cell done.0 done.1.1.cells, omega (arith, ap length new_stack, length-append old.stack (x ∷ [])))

  pub put_stored : (last : View) → last.stack ≡ take (length new.stack - 1) new.stack ++ text_at new (Cell cell) ∷ [] → last.cells ≡ new.cells → IsStored (and_then (put_along (text_at old (Cell cell)) p x) both) (var.Cell cell) old last
  put_stored last s c =
      let z = done.0 in
      let t = text_at old (Cell cell) in
      let text_is : text_at new (Cell cell) ≡ z = cell_text new mid.cells cell z done.1.1.cells in
      let set_is : set_path 0 t p x ≡ Ok z =
      sym (ap (λ u. set_path 0 u (take n (top (n + 1) mid.stack)) (get_or mid.stack (length mid.stack - 1) [])) (cells_text old mid cell grows.cells) ∙ ap (λ q. set_path 0 t q (get_or mid.stack (length mid.stack - 1) [])) path_is ∙ ap (set_path 0 t p) value_is) ∙ done.1.0 in
      let k : length old.stack ≡ length new.stack - 1 = omega (arith, ap length new_stack, length-append old.stack (x ∷ [])) in
      let rest_is : take (length new.stack - 1) new.stack ≡ old.stack = ap (take (length new.stack - 1)) new_stack ∙ take_at old.stack (x ∷ []) (length new.stack - 1) k in
      record {
        text = z;
        kept = z;
        given = ap (λ (a : RowAnswer). and_then a both) (put_along_set 0 t p x z set_is);
        top = record { between = []; is = s ∙ ap (λ q. q ++ text_at new (Cell cell) ∷ []) rest_is ∙ ap (λ u. old.stack ++ u ∷ []) text_is };
        cells = c ∙ done.1.1.cells ∙ ap (λ (m : FinMap nat_cmp (List ℕ)). insert m cell z) grows.cells;
      }

-- an element was pushed, and the list put without it
pub taken_stored : (old mid last : View) (cell k behind : ℕ) → behind ≡ k + 1 → ForOk (elements (text_at old (Cell cell))) (λ ts. k < length ts) → IsOkAnd (elements (text_at old (Cell cell))) (λ ts. mid.stack ≡ old.stack ++ option_to_list (slice_get ts k)) → mid.cells ≡ old.cells →
    IsOkAnd (elements (text_at mid (Cell cell))) (λ ts. Puts mid 0 (Cell cell) (list_text (replaced ts k behind (top 0 mid.stack))) last) → Stores (and_then (list_of (text_at old (Cell cell))) (λ ts. taken ts k)) (var.Cell cell) old last (Ok tt)
taken_stored old mid last cell k behind next within pushed cells puts =
    let t = text_at old (Cell cell) in
    let d = ok_and (elements t) (λ ts. mid.stack ≡ old.stack ++ option_to_list (slice_get ts k)) pushed in
    let ts = d.0 in
    let is : list_of t ≡ Gives ts = ap list_read d.1.0 in
    let put : List (List ℕ) → Type 0 = λ us. Puts mid 0 (Cell cell) (list_text (replaced us k behind (top 0 mid.stack))) last in
    let q = list_known (elements t) ts put is (subst (λ u. IsOkAnd (elements u) put) (cells_text old mid cell cells) puts) in
    let stack : mid.stack ≡ old.stack ++ get_or ts k [] ∷ [] = d.1.1 ∙ ap (λ o. old.stack ++ option_to_list o) (get_some ts k (within ts d.1.0)) in
    let text : list_text (replaced ts k behind (top 0 mid.stack)) ≡ list_text (replaced ts k (k + 1) []) = ap (λ n. list_text (replaced ts k n (top 0 mid.stack))) next ∙ ap (λ ws. list_text (replaced ts k (k + 1) ws)) (no_words mid.stack []) in
    record {
      stores = record {
        text = get_or ts k [];
        kept = list_text (replaced ts k (k + 1) []);
        given = ap (λ (a : Answer (List (List ℕ))). and_then a (λ us. taken us k)) is;
        top = record { between = []; is = q.stack ∙ take_all (length mid.stack - 0) mid.stack (omega arith) ∙ stack };
        cells = q.cells ∙ ap (λ (m : FinMap nat_cmp (List ℕ)). insert m cell (list_text (replaced ts k behind (top 0 mid.stack)))) cells ∙ ap (insert old.cells cell) text;
      };
      grows = tt;
      refuses = tt;
    }

-- the list of a cell is refused after some steps
pub cell_refused : (old mid last : View) (cell : ℕ) (f : List (List ℕ) → VarAnswer) (kind : CmdFault) → Grows old mid → Grows mid last → Refused (list_of (text_at mid (Cell cell))) kind mid.stack last.stack → Stores (and_then (list_of (text_at old (Cell cell))) f) (var.Cell cell) old last (Err kind)
cell_refused old mid last cell f kind g h r =
    let same : list_of (text_at old (Cell cell)) ≡ list_of (text_at mid (Cell cell)) = ap list_of (sym (cells_text old mid cell g.cells)) in
    stores_refused _ (var.Cell cell) old last kind (grows_trans old mid last g h)
    (refused_after _ (and_then (list_of (text_at mid (Cell cell))) f) kind old mid last g (ap (λ (a : Answer (List (List ℕ))). and_then a f) same) (refused_on (list_of (text_at mid (Cell cell))) f kind mid.stack last.stack r))

-- the variable where the cells stayed
pub variable_kept : (variable : VarState) (old new : View) → new.cells ≡ old.cells → variable_of variable old ≡ variable_of variable new
variable_kept var.NoName old new e = refl
variable_kept (var.Cell cell) old new e = ap (λ m. option_map_or Holds (get m cell) Unset) (sym e)
variable_kept var.IsArray old new e = refl
variable_kept var.NotArray old new e = refl
variable_kept var.NoParent old new e = refl
