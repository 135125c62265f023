-- Laws of `lset` where its words are taken as indices at once.
use Rattle.std.proofs.Common.{◌≡◌, ℕ, zero, suc, ◌+◌, ◌-◌, ◌<◌, ◌≤◌, Bool, true, false, true≢false, cond, List, [], ◌∷◌, ◌++◌, length, take, drop, get_or, Option, Some, None, IsSome, is_some, Result, Ok, Err, refl, sym, ap, ◌∙◌, subst, arith}
use Rattle.std.specs.Prelude.{ℤ, pos, negsuc, ◌==◌, ◌+ℤ◌, ◌-ℤ◌, codes, IsOkAnd, OnOk, OnErr, IfErr}
use Rattle.std.specs.Option.{unwrap_or, option_or, ok_or, option_map_or}
use Rattle.std.specs.Ordering.{nat_cmp}
use Rattle.std.specs.FinMap.{FinMap, get, insert}
use Rattle.std.specs.Result.{is_ok, result_ok, result_unwrap_or}
use Rattle.std.specs.List.{suffix_len}
use Rattle.std.specs.Str.{bytes_eq}
use Rattle.std.proofs.lemmas.List.{get_or-drop}
use Rattle.tclv_text.specs.declared.indices.IndexFault.{IndexFault}
use Rattle.tclv_text.specs.declared.indices.IndexFault.TheVariants.{BadIndex}
use Rattle.tclv_text.specs.Characters.{is_space}
use Rattle.tclv_text.specs.Elements.{elements}
use Rattle.tclv_text.specs.Indices.{base, before, behind, moved, cut, place, index}
use Rattle.tclv_text.specs.Numbers.{trim_end, whole}
use Rattle.tclv_model.specs.declared.data_commands.CmdFault.{CmdFault}
use Rattle.tclv_model.specs.declared.data_commands.CmdFault.TheVariants as fault
use Rattle.tclv_model.specs.declared.data_commands.VarState.{VarState}
use Rattle.tclv_model.specs.declared.data_commands.VarState.TheVariants as var
use Rattle.tclv_model.specs.Rows.{Answer, RowAnswer, VarAnswer, Variable, Gives, Holds, Unset, and_then}
use Rattle.tclv_model.specs.Values.{place_of, place_read}
use Rattle.tclv_value.specs.Changes.{KeepsTexts, Puts}
use Rattle.tclv_value.specs.ListObjects.{KeepsCells}
use Rattle.tclv_value.specs.Paths.{PathFlaw, and_then as then_path, list_or, place_or, step, put_at, set_path}
use Rattle.tclv_value.specs.SetObjects.{SetsAlong}
use Rattle.tclv_value.specs.Stacks.{top, under}
use Rattle.tclv_value.specs.View.{View, HasPlace, id_of, text_at}
use Rattle.tclv_value.specs.declared.places.At.TheVariants.{Stack, Cell}
use Rattle.tclv_reply.specs.Replies.{call_word, variable_of, Changes, VarAnswers, cells_with}
use Rattle.tclv_reply.specs.Variables.{both, text_of_set}
use Rattle.tclv_lists.specs.Paths.{path_of, checked, put_along}
use Rattle.tclv_lists.specs.Variables.{SetsOpen, Sets, lset_of, row_lset}
use Rattle.tclv_reply.proofs.Laws.{first_word, count_words, keeps_trans, cell_there, cell_text, under_under, var_as}
use Rattle.tclv_lists.proofs.AlongLemmas.{came_through, ok_and, put_along_set, variable_kept}
use Rattle.tclv_lists.proofs.StoredLemmas.{lset_words}

-- ---- what has the form of an index has it at each length

given_some : (b : Bool) (x y : ℤ) (o : Option ℤ) → is_some (cond b (Some x) o) ≡ is_some (cond b (Some y) o)
given_some true x y o = refl
given_some false x y o = refl

if_some : (b : Bool) (o q : Option ℤ) → is_some o ≡ is_some q → is_some (cond b o None) ≡ is_some (cond b q None)
if_some true o q e = e
if_some false o q e = refl

signed_some : (a b : Bool) (x y u v : ℤ) → is_some (cond a (Some x) (cond b (Some y) None)) ≡ is_some (cond a (Some u) (cond b (Some v) None))
signed_some true b x y u v = refl
signed_some false true x y u v = refl
signed_some false false x y u v = refl

moved_some : (o q : Option ℤ) (sign : ℕ) (by : Option ℤ) → is_some o ≡ is_some q → is_some (moved o sign by) ≡ is_some (moved q sign by)
moved_some None None sign by e = refl
moved_some None (Some y) sign by e = absurd (true≢false (sym e))
moved_some (Some x) None sign by e = absurd (true≢false e)
moved_some (Some x) (Some y) sign None e = refl
moved_some (Some x) (Some y) sign (Some z) e = signed_some (sign == 43) (sign == 45) (x +ℤ z) (x -ℤ z) (y +ℤ z) (y -ℤ z)

or_some : (o q p r : Option ℤ) → is_some o ≡ is_some q → is_some p ≡ is_some r → is_some (option_or o p) ≡ is_some (option_or q r)
or_some None None p r e f = f
or_some None (Some y) p r e f = absurd (true≢false (sym e))
or_some (Some x) None p r e f = absurd (true≢false e)
or_some (Some x) (Some y) p r e f = refl

base_some : (m n : ℕ) (t : List ℕ) → is_some (base m t) ≡ is_some (base n t)
base_some m n t = given_some (bytes_eq (trim_end t) (codes "end")) (pos m -ℤ pos 1) (pos n -ℤ pos 1) (result_ok (whole t))

before_some : (m n : ℕ) (u : List ℕ) → is_some (before m u) ≡ is_some (before n u)
before_some m n u = if_some (suffix_len is_space u == 0) (base m u) (base n u) (base_some m n u)

cut_some : (m n : ℕ) (front t : List ℕ) → is_some (cut m front t) ≡ is_some (cut n front t)
cut_some m n front [] = refl
cut_some m n front (c ∷ rest) =
    or_some (moved (before m front) c (behind rest)) (moved (before n front) c (behind rest)) (cut m (front ++ c ∷ []) rest) (cut n (front ++ c ∷ []) rest)
    (moved_some (before m front) (before n front) c (behind rest) (before_some m n front))
    (cut_some m n (front ++ c ∷ []) rest)

place_some : (m n : ℕ) (t : List ℕ) → is_some (place t m) ≡ is_some (place t n)
unfolding place
place_some m n t = or_some (base m t) (base n t) (cut m [] t) (cut n [] t) (base_some m n t) (cut_some m n [] t)

read_some : (o q : Option ℤ) (z : ℤ) → is_some o ≡ is_some q → ok_or o BadIndex ≡ Ok z → (y : ℤ) × (ok_or q BadIndex ≡ Ok y)
read_some None q z e is = absurd (cc)
read_some (Some x) None z e is = absurd (true≢false e)
read_some (Some x) (Some y) z e is = (y, refl)

index_some : (i : List ℕ) (n : ℕ) (z : ℤ) → index i n ≡ Ok z → (y : ℤ) × (index i 0 ≡ Ok y)
index_some i n z is = read_some (place i n) (place i 0) z (place_some n 0 i) is

place_named : (level n k : ℕ) (r : Result ℤ IndexFault) → place_or level n r ≡ Ok k → (z : ℤ) × (r ≡ Ok z)
place_named level n k (Ok z) e = (z, refl)
place_named level n k (Err why) e = absurd (cc)

-- ---- a path along which the store put a value

stepped : (level : ℕ) (t i : List ℕ) (path : List (List ℕ)) (x z : List ℕ) → set_path level t (i ∷ path) x ≡ Ok z → (y : ℤ) × (index i 0 ≡ Ok y)
stepped level t i path x z e =
    let s = came_through (step level t i) _ z e in
    let l = came_through (list_or t (elements t)) _ s.0 s.1.0 in
    let p = came_through (place_or level (length l.0) (index i (length l.0))) _ s.0 l.1.1 in
    let named = place_named level (length l.0) p.0 (index i (length l.0)) p.1.0 in
    index_some i (length l.0) named.0 named.1

-- the indices have the form of one
pub forms_held : {A : Type 0} (level : ℕ) (t : List ℕ) (path : List (List ℕ)) (x z : List ℕ) (rest : Answer A) → set_path level t path x ≡ Ok z → checked path rest ≡ rest
forms_held level t [] x z rest e = refl
forms_held level t (i ∷ path) x z rest e =
    let first = stepped level t i path x z e in
    let s = came_through (step level t i) _ z e in
    let y = came_through (set_path (level + 1) (get_or s.0.0 s.0.1 []) path x) _ z s.1.1 in
    ap (λ a. and_then (place_read i a) (λ _. checked path rest)) first.1 ∙ forms_held (level + 1) (get_or s.0.0 s.0.1 []) path x y.0 rest y.1.0

-- the words are the indices
pub own_path : (level : ℕ) (t : List ℕ) (path : List (List ℕ)) (x z : List ℕ) → set_path level t path x ≡ Ok z → path_of path ≡ path
own_path level t [] x z e = refl
own_path level t (i ∷ []) x z e = ap (λ r. cond (is_ok r) (i ∷ []) (result_unwrap_or (elements i) (i ∷ []))) (stepped level t i [] x z e).1
own_path level t (i ∷ j ∷ path) x z e = refl

-- ---- the row

held : (name t : List ℕ) (o : Option (List ℕ)) → IsSome o → unwrap_or o [] ≡ t → text_of_set name (option_map_or Holds o Unset) ≡ Gives t
held name t None is e = absurd (true≢false (sym is))
held name t (Some u) is e = ap Gives e

pub lset_given : (name x z : List ℕ) (path : List (List ℕ)) (cell : ℕ) (v : View) → HasPlace v (Cell cell) → set_path 0 (text_at v (Cell cell)) path x ≡ Ok z → lset_of name (path_of path) x (variable_of (var.Cell cell) v) ≡ Gives (z, z)
lset_given name x z path cell v there e =
    let t = text_at v (Cell cell) in
    let put : List (List ℕ) → List ℕ → VarAnswer = λ p u. and_then (put_along u p x) both in
    let set = text_of_set name (variable_of (var.Cell cell) v) in
    ap (λ p. checked p (and_then set (put p))) (own_path 0 t path x z e) ∙ forms_held 0 t path x z (and_then set (put path)) e
    ∙ ap (λ (a : Answer (List ℕ)). and_then a (put path)) (held name t (get v.cells cell) there refl) ∙ ap (λ (a : RowAnswer). and_then a both) (put_along_set 0 t path x z e)

-- the words are the name, the indices and the value
pub row_is : (s : List (List ℕ)) (n : ℕ) (v : Variable) → 2 < n → n ≤ length s → row_lset (call_word n s) (top n s) v ≡ lset_of (get_or s (length s - n) []) (path_of (take (n - 2) (top (n - 1) s))) (get_or s (length s - 1) []) v
row_is s n v some high =
    let rest = top (n - 1) s in
    let count : length rest ≡ n - 2 + 1 = omega (arith, some, high, count_words s [] (n - 1) (omega (arith, some, high))) in
    let last : length s - (n - 1) + (n - 2) ≡ length s - 1 = omega (arith, some, high) in
    let value = get_or-drop (length s - (n - 1)) s (n - 2) [] ∙ ap (λ k. get_or s k []) last in
    ap (λ (ws : List (List ℕ)). row_lset (call_word n s) ws v) (first_word s [] n (omega (arith, some)) high) ∙ lset_words (call_word n s) (get_or s (length s - n) []) rest v (n - 2) count
    ∙ ap (λ (x : List ℕ). lset_of (get_or s (length s - n) []) (path_of (take (n - 2) rest)) x v) value

-- ---- the store put the value

take_long : (s : List (List ℕ)) (k : ℕ) → k ≤ length s → length (take k s) ≡ k
take_long [] zero within = refl
take_long [] (suc k) within = absurd (omega (arith, within))
take_long (x ∷ s) zero within = refl
take_long (x ∷ s) (suc k) within = ap suc (take_long s k (omega (arith, within)))

module _ (old mid : View) (cell n : ℕ) (some : 2 < n) (high : n ≤ length old.stack)
    (set : IsOkAnd (set_path 0 (text_at old (Cell cell)) (take (n - 2) (top (n - 2 + 1) old.stack)) (text_at old (Stack (length old.stack - 1)))) (λ text. Puts old (n - 2 + 1) (Cell cell) text mid)) where
  less : n - 2 + 1 ≡ n - 1
  less = omega (arith, some)

  done : (z : List ℕ) × ((set_path 0 (text_at old (Cell cell)) (take (n - 2) (top (n - 1) old.stack)) (get_or old.stack (length old.stack - 1) []) ≡ Ok z) × Puts old (n - 1) (Cell cell) z mid)
  done = ok_and _ (λ text. Puts old (n - 1) (Cell cell) text mid) (subst (λ k. IsOkAnd (set_path 0 (text_at old (Cell cell)) (take (n - 2) (top k old.stack)) (get_or old.stack (length old.stack - 1) [])) (λ text. Puts old k (Cell cell) text mid)) less set)

  pub put_cell : HasPlace mid (Cell cell)
  put_cell = cell_there mid old.cells cell done.0 done.1.1.cells

  one : n - (n - 1) ≡ 1
  one = omega (arith, some)

  short : take (length mid.stack - 1) mid.stack ≡ under n old.stack
  short = ap (λ s. take (length s - 1) s) done.1.1.stack ∙ ap (λ k. take (length (under (n - 1) old.stack) - k) (under (n - 1) old.stack)) (sym one) ∙ under_under old.stack n (n - 1) (omega (arith, some)) high

  pub put_high : 1 ≤ length mid.stack
  put_high =
      let len : length mid.stack ≡ length old.stack - (n - 1) = ap length done.1.1.stack ∙ take_long old.stack (length old.stack - (n - 1)) (omega (arith, high)) in
      omega (arith, some, high, len)

  pub put_changes : (new : View) → new.stack ≡ take (length mid.stack - 1) mid.stack ++ text_at mid (Cell cell) ∷ [] → new.cells ≡ mid.cells → HasPlace old (Cell cell)
      → Changes (lset_of (get_or old.stack (length old.stack - n) []) (path_of (take (n - 2) (top (n - 1) old.stack))) (get_or old.stack (length old.stack - 1) []) (variable_of (var.Cell cell) old)) (var.Cell cell) n old new
  put_changes new stack cells there = record {
    text = done.0;
    kept = done.0;
    given = lset_given (get_or old.stack (length old.stack - n) []) (get_or old.stack (length old.stack - 1) []) done.0 (take (n - 2) (top (n - 1) old.stack)) cell old there done.1.0;
    stack = stack ∙ ap (λ (s : List (List ℕ)). s ++ text_at mid (Cell cell) ∷ []) short ∙ ap (λ (u : List ℕ). under n old.stack ++ u ∷ []) (cell_text mid old.cells cell done.0 done.1.1.cells);
    cells = cells ∙ done.1.1.cells;
  }

pub set_open : (old mid new : View) (cell path : ℕ) → SetsAlong old (Cell cell) path mid → KeepsCells mid new → SetsOpen old cell path new
unfolding SetsAlong KeepsCells SetsOpen
set_open old mid new cell path along keeps = λ opens. let a = along opens in (ap (λ m. unwrap_or (get m cell) 0) keeps.0 ∙ a.0, keeps.1 ∙ a.2)

-- ---- the call

pub set_gives : (cell n : ℕ) (old new : View) → 2 < n → n + 1 ≤ length old.stack
    → Changes (lset_of (get_or old.stack (length old.stack - n) []) (path_of (take (n - 2) (top (n - 1) old.stack))) (get_or old.stack (length old.stack - 1) []) (variable_of (var.Cell cell) old)) (var.Cell cell) n old new
    → VarAnswers (row_lset (call_word n old.stack) (top n old.stack) (variable_of (var.Cell cell) old)) (var.Cell cell) n old new (Ok tt)
set_gives cell n old new some high changes =
    var_as _ _ (var.Cell cell) n _ _ _ (row_is old.stack n (variable_of (var.Cell cell) old) some (omega (arith, high))) (record { gives = changes; refuses = tt; kept = tt })

var_kept : (row : VarAnswer) (variable : VarState) (n : ℕ) (old mid new : View) (r : Result (Unit {0}) CmdFault) → KeepsTexts old mid → VarAnswers row variable n mid new r → VarAnswers row variable n old new r
var_kept row variable n old mid new (Ok x) k a = record {
  gives = record {
    text = a.gives.text;
    kept = a.gives.kept;
    given = a.gives.given;
    stack = a.gives.stack ∙ ap (λ (s : List (List ℕ)). under n s ++ a.gives.text ∷ []) k.stack;
    cells = a.gives.cells ∙ ap (λ (m : FinMap nat_cmp (List ℕ)). cells_with variable m a.gives.kept) k.cells;
  };
  refuses = tt;
  kept = tt;
}
var_kept row variable n old mid new (Err fault.NoMemory) k a = record { gives = tt; refuses = keeps_trans old mid new k a.refuses; kept = a.kept ∙ k.cells }
var_kept row variable n old mid new (Err fault.WrongArgs) k a = record { gives = tt; refuses = record { message = a.refuses.message; code = a.refuses.code; refused = a.refuses.refused; stack = a.refuses.stack ∙ ap (λ (s : List (List ℕ)). under n s ++ a.refuses.message ∷ a.refuses.code ∷ []) k.stack }; kept = a.kept ∙ k.cells }
var_kept row variable n old mid new (Err fault.Message) k a = record { gives = tt; refuses = record { message = a.refuses.message; code = a.refuses.code; refused = a.refuses.refused; stack = a.refuses.stack ∙ ap (λ (s : List (List ℕ)). under n s ++ a.refuses.message ∷ a.refuses.code ∷ []) k.stack }; kept = a.kept ∙ k.cells }

pub set_after : (cell n : ℕ) (old mid new : View) (r : Result (Unit {0}) CmdFault) → KeepsTexts old mid
    → VarAnswers (row_lset (call_word n mid.stack) (top n mid.stack) (variable_of (var.Cell cell) mid)) (var.Cell cell) n mid new r
    → VarAnswers (row_lset (call_word n old.stack) (top n old.stack) (variable_of (var.Cell cell) old)) (var.Cell cell) n old new r
set_after cell n old mid new r k a =
    var_as _ _ (var.Cell cell) n _ _ _
    (ap (λ v. row_lset (call_word n old.stack) (top n old.stack) v) (variable_kept (var.Cell cell) old mid k.cells) ∙ ap (λ (s : List (List ℕ)). row_lset (call_word n s) (top n s) (variable_of (var.Cell cell) mid)) (sym k.stack))
    (var_kept _ (var.Cell cell) n old mid new r k a)

pub given_cell : (variable : VarState) (cell n : ℕ) (old new : View) (r : Result (Unit {0}) CmdFault) → variable ≡ var.Cell cell
    → VarAnswers (row_lset (call_word n old.stack) (top n old.stack) (variable_of (var.Cell cell) old)) (var.Cell cell) n old new r
    → VarAnswers (row_lset (call_word n old.stack) (top n old.stack) (variable_of variable old)) variable n old new r
given_cell variable cell n old new r is a = subst (λ (x : VarState). VarAnswers (row_lset (call_word n old.stack) (top n old.stack) (variable_of x old)) x n old new r) (sym is) a

pub sets_cell : (variable : VarState) (cell path : ℕ) (old new : View) → variable ≡ var.Cell cell → SetsOpen old cell path new → Sets variable old path new
unfolding Sets
sets_cell variable cell path old new is sets =
    let given : Sets (var.Cell cell) old path new = λ there. sets in
    subst (λ (x : VarState). Sets x old path new) (sym is) given

pub sets_none : (variable : VarState) (path : ℕ) (old new : View) → ((cell : ℕ) → variable ≡ var.Cell cell → HasPlace old (Cell cell) → ⊥) → Sets variable old path new
unfolding Sets
sets_none var.NoName path old new none = tt
sets_none (var.Cell cell) path old new none = λ there. absurd (none cell refl there)
sets_none var.IsArray path old new none = tt
sets_none var.NotArray path old new none = tt
sets_none var.NoParent path old new none = tt
