-- Laws of the clause that is chosen.
use Rattle.std.proofs.Common.{◌≡◌, ℕ, ◌+◌, ◌-◌, ◌<◌, Bool, false, ◌&&◌, ◌||◌, cond, eqb, List, [], ◌∷◌, length, drop, get_or, map, Option, Some, sym, ap, ◌∙◌, arith}
use Rattle.std.specs.Prelude.{codes}
use Rattle.std.specs.Str.{bytes_eq}
use Rattle.std.proofs.lemmas.Bool.{eq-eqb, ne_eqb}
use Rattle.std.proofs.lemmas.List.{drop_more, length-drop}
use Rattle.tclv_reply.specs.Comparing.{fits_pattern}
use Rattle.tclv_ctl.specs.declared.switching.ClausePlaces.{ClausePlaces}
use Rattle.tclv_ctl.specs.Switching.{Text, SwitchClause, Manner, is_default, fitting_body, clause_in}

default_by : (c : SwitchClause) (s : List Text) (k n : ℕ) (rest : List ClausePlaces) → length rest ≡ n - (k + 1) → k < n → is_default c (map (clause_in s) rest) ≡ (eqb (k + 1) n && bytes_eq c.0 (codes "default"))
default_by c s k n [] e h = ap (λ (b : Bool). b && bytes_eq c.0 (codes "default")) (sym (eq-eqb (k + 1) n (omega arith)))
default_by c s k n (r ∷ rest) e h = ap (λ (b : Bool). b && bytes_eq c.0 (codes "default")) (sym (ne_eqb (k + 1) n (λ (f : k + 1 ≡ n). omega arith)))

-- the choice among the clauses from a place on
pub chosen_at : (m : Manner) (string : Text) (s : List Text) (items : List ClausePlaces) (k : ℕ) (d : ClausePlaces) → k < length items →
    let c = get_or items k d in
    fitting_body m string (map (clause_in s) (drop k items))
    ≡ cond ((eqb (k + 1) (length items) && bytes_eq (get_or s c.pattern []) (codes "default")) || fits_pattern m.matching m.nocase (get_or s c.pattern []) string) (Some (get_or s c.body [])) (fitting_body m string (map (clause_in s) (drop (k + 1) items)))
chosen_at m string s items k d h =
    let c = get_or items k d in
    let rest = drop (k + 1) items in
    let text = clause_in s c in
    ap (λ (xs : List ClausePlaces). fitting_body m string (map (clause_in s) xs)) (drop_more items k d h)
    ∙ ap (λ (b : Bool). cond (b || fits_pattern m.matching m.nocase text.0 string) (Some text.1) (fitting_body m string (map (clause_in s) rest))) (default_by text s k (length items) rest (length-drop (k + 1) items) h)

-- whether the clause at a place is the one, where none before it is
abbrev pub is_taken : Manner → ℕ → ℕ → List Text → List ClausePlaces → Bool
is_taken m string k u xs =
    let pattern = (get_or xs k (record { pattern = 0; body = 0 })).pattern in
    (eqb (k + 1) (length xs) && bytes_eq (get_or u pattern []) (codes "default")) || fits_pattern m.matching m.nocase (get_or u pattern []) (get_or u string [])

module _ (m : Manner) (string k : ℕ) (s cur : List Text) (items slice : List ClausePlaces) (x : Bool) (says : x ≡ is_taken m string k cur slice) (same : cur ≡ s) (all : slice ≡ items) (h : k < length items) where
  abbrev pub rest : Option Text
  rest = fitting_body m (get_or s string []) (map (clause_in s) (drop (k + 1) items))

  abbrev pub body : Option Text
  body = Some (get_or s (get_or items k (record { pattern = 0; body = 0 })).body [])

  there : fitting_body m (get_or s string []) (map (clause_in s) (drop k items)) ≡ cond x body rest
  there = chosen_at m (get_or s string []) s items k (record { pattern = 0; body = 0 }) h ∙ ap (λ (b : Bool). cond b body rest) (sym (says ∙ ap (λ (u : List Text). is_taken m string k u slice) same ∙ ap (is_taken m string k s) all))

  pub goes_on : x ≡ false → fitting_body m (get_or s string []) (map (clause_in s) (drop k items)) ≡ rest
  goes_on e = there ∙ ap (λ (b : Bool). cond b body rest) e
