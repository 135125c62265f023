-- Rows of the commands that change a list in a variable.
use Rattle.std.specs.Prelude.{◌≡◌, ℕ, ◌+◌, ◌<◌, List, [], ◌∷◌, ◌++◌, length, take, slice_index_or, IsSome, codes, Result, OnOk, OnErr, IfErr}
use Rattle.std.specs.Option.{unwrap_or}
use Rattle.std.specs.Ordering.{nat_cmp}
use Rattle.std.specs.FinMap.{FinMap, get}
use Rattle.tclv_text.specs.Quotes.{list_text}
use Rattle.tclv_model.specs.declared.data_commands.CmdFault.{CmdFault}
use Rattle.tclv_model.specs.declared.data_commands.VarState.{VarState}
use Rattle.tclv_model.specs.declared.data_commands.VarState.TheVariants as var
use Rattle.tclv_model.specs.declared.usages.Usage.TheVariants as command
use Rattle.tclv_model.specs.Usages.{usage_of}
use Rattle.tclv_model.specs.Rows.{Answer, VarAnswer, Gives, Variable, and_then, wrong_count}
use Rattle.tclv_model.specs.Values.{list_of, place_of}
use Rattle.tclv_value.specs.Lists.{replaced}
use Rattle.tclv_value.specs.View.{View, id_of}
use Rattle.tclv_value.specs.ListObjects.{AppendsTop}
use Rattle.tclv_value.specs.SetObjects.{IsOpenAt}
use Rattle.tclv_value.specs.declared.places.At.TheVariants.{Cell}
use Rattle.tclv_reply.specs.Replies.{Grows, EndsIn, Refused, cells_with}
use Rattle.tclv_lists.specs.Paths.{path_of, checked, put_along}
use Rattle.tclv_reply.specs.Variables.{both, text_of_set, value_of}
use Rattle.tclv_reply.specs.Places.{place_inside}

-- The place that code has: in the list of a cell.
pub record IsPlaceIn (variable : VarState) (cells : FinMap nat_cmp (List ℕ)) (p : List (List ℕ) × ℕ) (cell k : ℕ) : Type 0 where
  pub cell_is : variable ≡ var.Cell cell
  pub set : IsSome (get cells cell)
  pub list_is : list_of (unwrap_or (get cells cell) []) ≡ Gives p.0
  pub place : k ≡ p.1
  pub within : k < length p.0

-- the list with values behind its last element; without any, the text stays as it is
abbrev pub appended : List ℕ → List (List ℕ) → List (List ℕ) → List ℕ
appended t [] ts = t
appended t (value ∷ values) ts = list_text (ts ++ value ∷ values)

-- `lappend varName ?value ...?`: an unset variable counts as empty
abbrev pub row_lappend : List ℕ → List (List ℕ) → Variable → VarAnswer
row_lappend call [] v = wrong_count call (usage_of command.Lappend)
row_lappend call (name ∷ values) v =
    and_then (value_of name v) (λ old. let t = unwrap_or old [] in and_then (list_of t) (λ ts. both (appended t values ts)))

-- Where the variable has a value, the object behind it becomes what adding the top n texts to its list makes of it.
unfoldable pub Appends : VarState → View → ℕ → View → Type 0
Appends (var.Cell cell) old n new = IsSome (get old.cells cell) → AppendsTop old (Cell cell) n new
Appends _ old n new = Unit {0}

-- Along a path of so many indices that is open in the list of a cell, the same object stands behind the cell, and no counter rose.
unfoldable pub SetsOpen : View → ℕ → ℕ → View → Type 0
SetsOpen old cell path new = IsOpenAt old (Cell cell) path → (id_of new (Cell cell) ≡ id_of old (Cell cell)) × (new.stats ≡ old.stats)

-- the same where a variable has a value
unfoldable pub Sets : VarState → View → ℕ → View → Type 0
Sets (var.Cell cell) old path new = IsSome (get old.cells cell) → SetsOpen old cell path new
Sets _ old path new = Unit {0}

-- `lset varName ?index ...? newValue`: the value at the end of the path; without an index it is the whole
abbrev pub lset_of : List ℕ → List (List ℕ) → List ℕ → Variable → VarAnswer
lset_of name path value v = checked path (and_then (text_of_set name v) (λ t. and_then (put_along t path value) both))

abbrev pub row_lset : List ℕ → List (List ℕ) → Variable → VarAnswer
row_lset call (name ∷ w ∷ ws) v = let n = length ws in lset_of name (path_of (take n (w ∷ ws))) (slice_index_or (w ∷ ws) n []) v
row_lset call _ v = wrong_count call (usage_of command.Lset)

-- A list in a variable and the place of one of its elements, which an index names. The form of the index is checked before the variable.
abbrev pub place_in : List ℕ → List ℕ → Variable → Answer (List (List ℕ) × ℕ)
place_in name i v =
    and_then (place_of i 0) (λ _.
    and_then (text_of_set name v) (λ t.
    and_then (list_of t) (λ ts.
    and_then (place_inside i (length ts)) (λ k. Gives (ts, k)))))

-- an element, and the list without it
abbrev pub taken : List (List ℕ) → ℕ → VarAnswer
taken ts k = Gives (slice_index_or ts k [], list_text (replaced ts k (k + 1) []))

abbrev pub lpop_of : List ℕ → List ℕ → Variable → VarAnswer
lpop_of name i v = and_then (place_in name i v) (λ p. taken p.0 p.1)

-- `lpop varName ?index?`: the element at the index, which goes; by default the last
abbrev pub row_lpop : List ℕ → List (List ℕ) → Variable → VarAnswer
row_lpop call (name ∷ []) v = lpop_of name (codes "end") v
row_lpop call (name ∷ i ∷ []) v = lpop_of name i v
row_lpop call _ v = wrong_count call (usage_of command.Lpop)

-- The answer's result is on top, and the variable has the answer's text.
pub record IsStored (answer : VarAnswer) (variable : VarState) (old new : View) : Type 0 where
  pub text : List ℕ
  pub kept : List ℕ
  pub given : answer ≡ Gives (text, kept)
  pub top : EndsIn (text ∷ []) old.stack new.stack
  pub cells : new.cells ≡ cells_with variable old.cells kept

-- Steps that change the variable, and leave the result on top.
pub record Stores (answer : VarAnswer) (variable : VarState) (old new : View) (result : Result (Unit {0}) CmdFault) : Type 0 where
  pub stores : OnOk result (IsStored answer variable old new)
  pub grows : OnErr result (Grows old new)
  pub refuses : IfErr result (λ kind. Refused answer kind old.stack new.stack)
