-- A cell has a text exactly where it holds a variable's value.
use Rattle.std.proofs.Common.{◌≡◌, ℕ, ◌<◌, length, arith, List, Bool, sym, ap, ◌∙◌, subst, refl, true, false, is_some, cond, nat_eq, rules, Option, Some, None, Result, Ok, Err}
use Rattle.std.specs.Prelude.{◌||◌, IfErr, slice_index_or, []}
use Rattle.tclv_value.specs.View.{View, text_at, HasPlace}
use Rattle.tclv_value.specs.declared.places.At.{At}
use Rattle.tclv_value.specs.declared.places.At.TheVariants.{Stack, Cell}
use Rattle.std.specs.Option.{unwrap_or}
use Rattle.std.specs.Ordering.{nat_cmp, eq_by_cmp}
use Rattle.std.proofs.lemmas.Cmp.{nat_cmp_total}
use Rattle.std.specs.FinMap.{FinMap, get, insert, empty, get-empty, get-insert}
use Rattle.tclv_vars.specs.declared.parts.Content.{Content}
use Rattle.tclv_vars.specs.declared.parts.Content.TheVariants.{Plain, Array}
use Rattle.tclv_vars.specs.declared.faults.VarFault.{VarFault}
use Rattle.tclv_vars.specs.Table.{Table, Spot, has_value, holds_value, no_variables, set_spot, set_cell, plain, Refuses}
use Rattle.std.specs.Str.{chars}
use Rattle.tclv_text.specs.Texts.{IsText}
use Rattle.tclv_vars.specs.declared.places.Place.TheVariants as place
use Rattle.tclv_vars.specs.declared.places.Missing.{Missing}
use Rattle.tclv_vars.specs.Sound.{Sound}
use Rattle.tclv_vars.specs.Undo.{FreshWrite, missing}
use Rattle.tclv_reply.specs.Names.{naming}
use Rattle.tclv_engine.specs.Names.{write_named}
use Rattle.tclv_engine.proofs.NameLemmas.{bytes-are}
use Rattle.tclv_engine.specs.Holdings.{IsTied}

at_start : IsTied no_variables empty
at_start cell = ap is_some (get-empty nat_cmp cell) ∙ sym (ap holds_value (get-empty nat_cmp cell))

pub tied_at_start : {vars : Table} {cells : FinMap nat_cmp (List ℕ)} → vars ≡ no_variables → cells ≡ empty → IsTied vars cells
tied_at_start {vars} {cells} e f =
    let h : IsTied vars empty = subst (λ v. IsTied v empty) (sym e) at_start in
    subst (λ c. IsTied vars c) (sym f) h

some-cond : (b : Bool) (x : List ℕ) (o : Option (List ℕ)) → is_some (cond b (Some x) o) ≡ (b || is_some o)
some-cond true x o = refl
some-cond false x o = refl

pub nat_eq-same : (n : ℕ) → nat_eq n n ≡ true
nat_eq-same n = search rules

same-test : (q k : ℕ) → eq_by_cmp nat_cmp q k ≡ nat_eq q k
same-test q k = search rules

-- a cell was filled
pub tied_put : (vars vars' : Table) (cells cells' : FinMap nat_cmp (List ℕ)) (cell : ℕ) (text : List ℕ) → IsTied vars cells →
    ((c : ℕ) → has_value vars' c ≡ (nat_eq c cell || has_value vars c)) → cells' ≡ insert cells cell text → IsTied vars' cells'
tied_put vars vars' cells cells' cell text tied value e c =
    ap (λ m. is_some (get m c)) e
    ∙ ap is_some (get-insert nat_cmp_total cells cell text c)
    ∙ some-cond (eq_by_cmp nat_cmp c cell) text (get cells c)
    ∙ ap (λ b. b || is_some (get cells c)) (same-test c cell)
    ∙ ap (λ b. nat_eq c cell || b) (tied c)
    ∙ sym (value c)

-- what was put is there
pub get-put : (cells : FinMap nat_cmp (List ℕ)) (cell : ℕ) (text : List ℕ) → get (insert cells cell text) cell ≡ Some text
get-put cells cell text =
    get-insert nat_cmp_total cells cell text cell ∙ ap (λ b. cond b (Some text) (get cells cell)) (same-test cell cell ∙ nat_eq-same cell)

-- a write that isn't fresh changes nothing
cell-kept : (t : Table) (c : ℕ) (content : Option Content) (p : Spot) → set_cell t c content ≡ Ok p → p.fresh ≡ false → p.after ≡ t
cell-kept t c None p e h = cc
cell-kept t c (Some Plain) p e h = cc
cell-kept t c (Some (Array es)) p e h = cc

spot-kept : (t : Table) (s p : Spot) (fresh : Bool) (r : Result Spot VarFault) → r ≡ cond fresh (Ok (record s { after = plain s.after s.cell })) (set_cell t s.cell (get t.contents s.cell)) → r ≡ Ok p → s.fresh ≡ fresh → p.fresh ≡ false → p.after ≡ t
spot-kept t s p true r d e k h = cc
spot-kept t s p false r d e k h = cell-kept t s.cell _ p (sym d ∙ e) h

pub write-kept : (t : Table) (r : Result Spot VarFault) (p : Spot) → set_spot t r ≡ Ok p → p.fresh ≡ false → p.after ≡ t
write-kept t (Ok s) p e h = spot-kept t s p s.fresh _ refl e refl h
write-kept t (Err f) p e h = cc

-- a place keeps its text where stack and cells stay
pub same_text : (v v' : View) (at : At) → v'.stack ≡ v.stack → v'.cells ≡ v.cells → text_at v' at ≡ text_at v at
same_text v v' (Stack i) e f = ap (λ s. slice_index_or s i []) e
same_text v v' (Cell cell) e f = ap (λ m. unwrap_or (get m cell) []) f

pub refused_at : (r : Result ℕ VarFault) (f : VarFault) (m m' : Result Spot VarFault) → r ≡ Err f → m ≡ m' → Refuses m f → IfErr r (Refuses m')
refused_at r f m m' e d h =
    let P : Result ℕ VarFault → Type 0 = λ x. IfErr x (Refuses m') in
    let Q : Result Spot VarFault → Type 0 = λ x. Refuses x f in
    subst P (sym e) (subst Q d h)

-- a place that keeps its text is lent as the same bytes
pub same_lent : (v v' : View) (at : At) (x y : List ℕ) → v'.stack ≡ v.stack → v'.cells ≡ v.cells → IsText x → IsText y → chars x ≡ text_at v' at → chars y ≡ text_at v at → x ≡ y
same_lent v v' at x y e f u w p q = bytes-are x _ u (p ∙ same_text v v' at e f) ∙ sym (bytes-are y _ w q)

pub fresh_write : (t now : Table) (x y z : List ℕ) (cell : ℕ) (fresh : Bool) (lacked : Missing) →
    write_named t (naming y) ≡ Ok (record { cell = cell; fresh = fresh; after = now }) → fresh ≡ true → lacked ≡ missing t place.Frame (naming x).name (naming x).index → Sound t → z ≡ x → z ≡ y →
    FreshWrite t place.Frame (naming z).name (naming z).index lacked now
fresh_write t now x y z cell fresh lacked w f l s e d = record {
  cell = cell;
  wrote = ap (λ b. write_named t (naming b)) d ∙ w ∙ ap (λ v. Ok (record { cell = cell; fresh = v; after = now })) f;
  lacks = l ∙ ap (λ b. missing t place.Frame (naming b).name (naming b).index) (sym e);
  sound = s;
}

pub same_place : (v v' : View) (at : At) → v'.stack ≡ v.stack → v'.cells ≡ v.cells → HasPlace v at → HasPlace v' at
same_place v v' (Stack i) e f h = omega (arith, h, ap length e)
same_place v v' (Cell cell) e f h = ap (λ m. is_some (get m cell)) f ∙ h
