-- Laws of commands that change a variable.
use Rattle.std.proofs.Common.{◌≡◌, ℕ, ◌+◌, ◌-◌, ◌<◌, List, [], ◌∷◌, ◌++◌, length, drop, Bool, true, false, true≢false, Option, Some, None, Result, Ok, Err, refl, sym, ap, subst, ◌∙◌, arith, append-nil}
use Rattle.std.specs.Prelude.{is_some, IsSome, IsTrue, IsOkAnd, OnOk}
use Rattle.std.specs.Option.{unwrap_or}
use Rattle.std.specs.FinMap.{FinMap, get}
use Rattle.std.specs.Ordering.{nat_cmp}
use Rattle.std.proofs.lemmas.List.{take_all, drop_all}
use Rattle.tclv_text.specs.Elements.{pieces_from}
use Rattle.tclv_text.specs.Lists.{ListFlaw}
use Rattle.tclv_text.specs.Quotes.{list_text}
use Rattle.tclv_model.specs.Rows.{Gives, and_then}
use Rattle.tclv_model.specs.Values.{list_of, list_read}
use Rattle.tclv_value.specs.Lists.{replaced}
use Rattle.tclv_reply.specs.Variables.{both}
use Rattle.tclv_model.specs.declared.data_commands.CmdFault.{CmdFault}
use Rattle.tclv_model.specs.declared.data_commands.VarState.{VarState}
use Rattle.tclv_model.specs.declared.data_commands.VarState.TheVariants as var
use Rattle.tclv_value.specs.View.{View, id_of}
use Rattle.tclv_value.specs.Kept.{list_at}
use Rattle.tclv_value.specs.ListObjects.{IsListAt, IsAloneAt, IsNewAt, IsShallow, depth_at, ChangesAt, SharesBetween, CopiesShared, KeepsObjects, KeepsCells, AppendsTop}
use Rattle.tclv_value.specs.Setting.{copied_more}
use Rattle.tclv_value.specs.declared.places.At.TheVariants.{Stack, Cell}
use Rattle.tclv_lists.specs.Variables.{appended, Appends}

-- words behind the last element
pub replaced_behind : (ts words : List (List ℕ)) (n : ℕ) → n ≡ length ts → replaced ts n n words ≡ ts ++ words
replaced_behind ts words n e =
    ap (λ t. t ++ words ++ drop n ts) (take_all n ts (omega arith)) ∙ ap (λ t. ts ++ words ++ t) (drop_all n ts (omega arith)) ∙ append-nil (ts ++ words)

-- what is added to nothing
pub added_to_none : (values : List (List ℕ)) → and_then (list_of []) (λ ts. both (appended [] values ts)) ≡ both (list_text values)
unfolding pieces_from
added_to_none [] = refl
added_to_none (v ∷ vs) = refl

-- some values are added behind the last element
pub some_added : (t : List ℕ) (values : List (List ℕ)) → 0 < length values → and_then (list_of t) (λ ts. both (appended t values ts)) ≡ and_then (list_of t) (λ ts. both (list_text (ts ++ values)))
some_added t [] h = absurd (omega arith)
some_added t (v ∷ vs) h = refl

-- a text whose elements are known to be so is a list
pub a_list : (r : Result (List (List ℕ)) ListFlaw) (P : List (List ℕ) → Type 0) → IsOkAnd r P → (ts : List (List ℕ)) × (list_read r ≡ Gives ts) × P ts
a_list (Ok ts) P h = (ts, refl, h)
a_list (Err flaw) P h = absurd h

-- ---- the object behind a variable that is changed

-- a slot without an object had none before, where none went
none_before : {A : Type 0} (x y : Option A) → (IsSome x → IsSome y) → y ≡ None → x ≡ None
none_before None y stays e = refl
none_before (Some a) y stays e = absurd (true≢false (sym (stays refl) ∙ ap is_some e))

-- what list_replace behind the last element says of the cell, whose list was read before
pub appends_more : (v0 v1 v2 v3 : View) (cell k from : ℕ) → KeepsObjects v0 (Cell cell) v1 → (IsListAt v0 (Cell cell) → v1 ≡ v0) → ChangesAt v1 (Cell cell) v2 → SharesBetween v1 (Cell cell) from from k v2 → KeepsCells v2 v3 → AppendsTop v0 (Cell cell) k v3
unfolding ChangesAt SharesBetween KeepsCells AppendsTop
appends_more v0 v1 v2 v3 cell k from keeps unread changed shares cells =
    let id3 : id_of v3 (Cell cell) ≡ id_of v2 (Cell cell) = ap (λ m. unwrap_or (get m cell) 0) cells.0 in
    let id1 : id_of v1 (Cell cell) ≡ id_of v0 (Cell cell) = ap (λ m. unwrap_or (get m cell) 0) keeps.places.cells in
    let back : (IsAloneAt v0 (Cell cell) → ⊥) → IsAloneAt v1 (Cell cell) → ⊥ = λ no alone. no (sym keeps.count ∙ alone) in
    let P : FinMap nat_cmp ℕ → Type 0 = λ ids. IsNewAt v0 (record v2 { cell_ids = ids }) (Cell cell) in (
      λ alone. id3 ∙ changed.1 (keeps.count ∙ alone) ∙ id1,
      λ no. subst P (sym cells.0) (none_before _ _ (keeps.there (id_of v2 (Cell cell))) (changed.2 (back no))),
      λ ids is low.
          let same : v1 ≡ v0 = unread (ap is_some is) in
          let s = shares ids (ap (λ (v : View). list_at v.graph (id_of v (Cell cell))) same ∙ is) in
          let low1 = subst (λ (v : View). IsShallow k v) (sym same) low in (
            λ alone. cells.1 ∙ s.1 low1 (keeps.count ∙ alone) ∙ ap (λ (v : View). v.stats) same,
            λ no. cells.1 ∙ s.2 low1 (back no) ∙ ap (λ (v : View). copied_more v.stats (length ids)) same,
          ),
    )

top_shallow : (v : View) → IsShallow 1 v → depth_at v (Stack (length v.stack - 1)) < 50
top_shallow v low =
    let e : length v.stack - 1 + 0 ≡ length v.stack - 1 = omega arith in
    subst (λ i. depth_at v (Stack i) < 50) e (low 0 (omega arith))

-- what list_append says of the cell, which the steps behind it leave
pub appends_one : (v0 v2 v3 : View) (cell : ℕ) → ChangesAt v0 (Cell cell) v2
    → (IsListAt v0 (Cell cell) → IsAloneAt v0 (Cell cell) → depth_at v0 (Stack (length v0.stack - 1)) < 50 → v2.stats ≡ v0.stats)
    → CopiesShared v0 (Cell cell) v2 → KeepsCells v2 v3 → AppendsTop v0 (Cell cell) 1 v3
unfolding ChangesAt CopiesShared KeepsCells AppendsTop
appends_one v0 v2 v3 cell changed counters shared cells =
    let id3 : id_of v3 (Cell cell) ≡ id_of v2 (Cell cell) = ap (λ m. unwrap_or (get m cell) 0) cells.0 in
    let P : FinMap nat_cmp ℕ → Type 0 = λ ids. IsNewAt v0 (record v2 { cell_ids = ids }) (Cell cell) in (
      λ alone. id3 ∙ changed.1 alone,
      λ no. subst P (sym cells.0) (changed.2 no),
      λ ids is low.
          let top = top_shallow v0 low in
          (λ alone. cells.1 ∙ counters (ap is_some is) alone top, λ no. cells.1 ∙ shared ids is no top),
    )

-- a clause of what is ok
pub on_ok : {T E : Type 0} (r : Result T E) (P : Type 0) → P → OnOk r P
on_ok (Ok t) P h = h
on_ok (Err e) P h = tt

pub on_ok_then : {T E : Type 0} (r : Result T E) (P Q : Type 0) → (P → Q) → OnOk r P → OnOk r Q
on_ok_then (Ok t) P Q f h = f h
on_ok_then (Err e) P Q f h = tt

pub not_ok : {T E : Type 0} (r : Result T E) (e : E) (P : Type 0) → r ≡ Err e → OnOk r P
not_ok {T} {E} r e P is = subst (λ (x : Result T E). OnOk x P) (sym is) tt

appends_is : (variable : VarState) (cell : ℕ) (set : Bool) (n : ℕ) (old mid new : View) → variable ≡ var.Cell cell → mid ≡ old → is_some (get old.cells cell) ≡ set
    → (1 < n → IsTrue set → AppendsTop mid (Cell cell) (n - 1) new) → 1 < n → Appends variable old (n - 1) new
unfolding Appends
appends_is variable cell set n old mid new v m s h some =
    let given : Appends (var.Cell cell) old (n - 1) new = λ there. subst (λ (x : View). AppendsTop x (Cell cell) (n - 1) new) m (h some (subst (λ (b : Bool). IsTrue b) s there)) in
    subst (λ (x : VarState). Appends x old (n - 1) new) (sym v) given

-- where the variable is that of the cell, and nothing changed before
pub appends_in : (r : Result (Unit {0}) CmdFault) (variable : VarState) (cell : ℕ) (set : Bool) (n : ℕ) (old mid new : View) → variable ≡ var.Cell cell → mid ≡ old → is_some (get old.cells cell) ≡ set
    → OnOk r (1 < n → IsTrue set → AppendsTop mid (Cell cell) (n - 1) new) → OnOk r (1 < n → Appends variable old (n - 1) new)
appends_in r variable cell set n old mid new v m s = on_ok_then r _ _ (appends_is variable cell set n old mid new v m s)

pub unset : (set : Bool) → set ≡ false → IsTrue set → ⊥
unset true e h = cc
unset false e h = cc
