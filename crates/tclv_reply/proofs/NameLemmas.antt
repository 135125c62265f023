-- Names that are read: a step in a name, and the place of the first `(`.
use Rattle.std.proofs.Common.{◌≡◌, ℕ, ◌+◌, ◌-◌, ◌<◌, List, ◌∷◌, length, take, drop, get_or, sym, ap, ◌∙◌, refl, arith, Bool, true, false, not, nat_eq, eqb, length-drop, length-take, Option, Some, None, if◌then◌else◌}
use Rattle.std.specs.Prelude.{◌||◌, ◌&&◌, codes}
use Rattle.std.specs.List.{starts_with, prefix_len}
use Rattle.std.specs.Str.{IsUtf8}
use Rattle.std.proofs.lemmas.Bool.{and_parts, eqb-true, ltb-true}
use Rattle.std.proofs.lemmas.List.{drop_more, take_all, get_or-take}
use Rattle.std.proofs.lemmas.List.Sums.{prefix_len_stops}
use Rattle.std.proofs.lemmas.Option.{none-some, same_Some}
use Rattle.std.proofs.lemmas.Str.{IsUtf8-take, IsUtf8-drop, IsCharBoundary-before_ascii, IsCharBoundary-after_ascii}
use Rattle.tclv_text.specs.Texts.{IsText}
use Rattle.tclv_reply.specs.Names.{is_qualified, before_open, ends_in_close, open_of, index_behind, IsOpen, named_by, shape_of}

first-step : (bs rest : List ℕ) (x : ℕ) → bs ≡ x ∷ rest → is_qualified bs ≡ (starts_with nat_eq bs (codes "::") || is_qualified rest)
first-step bs rest x e = ap is_qualified e ∙ ap (λ y. starts_with nat_eq y (codes "::") || is_qualified rest) (sym e)

pub qualified-step : (bs : List ℕ) (i : ℕ) (b : Bool) → i < length bs → b ≡ starts_with nat_eq (take (length bs - i) (drop i bs)) (codes "::") →
    is_qualified (drop i bs) ≡ (b || is_qualified (drop (i + 1) bs))
qualified-step bs i b h e =
    let whole : take (length bs - i) (drop i bs) ≡ drop i bs = take_all (length bs - i) (drop i bs) (omega (arith, length-drop i bs)) in
    first-step (drop i bs) (drop (i + 1) bs) (get_or bs i 0) (drop_more bs i 0 h)
    ∙ ap (λ c. c || is_qualified (drop (i + 1) bs)) (sym (e ∙ ap (λ y. starts_with nat_eq y (codes "::")) whole))

-- ---- the place of the first `(`

some_if : (b : Bool) (n k : ℕ) → (if b then Some n else None) ≡ Some k → (b ≡ true) × (n ≡ k)
some_if true n k e = (refl, same_Some n k e)
some_if false n k e = absurd (none-some k e)

is_not : (b : Bool) → not b ≡ false → b ≡ true
is_not true h = refl
is_not false h = sym h

-- what stands at the place and at the end
pub record Stands (name : List ℕ) (place : ℕ) : Type 0 where
  pub within : place + 1 < length name
  pub opens : get_or name place 0 ≡ 40
  pub closes : get_or name (length name - 1) 0 ≡ 41

pub stands : (name : List ℕ) (place : ℕ) → IsOpen name place → Stands name place
stands name place h =
    let parts = some_if _ (before_open name) place h in
    let both = and_parts (ends_in_close name) _ parts.0 in
    let inside : before_open name < length name = ltb-true _ _ both.1 in
    let opens : get_or name place 0 ≡ 40 =
    ap (λ k. get_or name k 0) (sym parts.1) ∙ eqb-true _ 40 (is_not _ (prefix_len_stops (λ b. not (nat_eq b 40)) name 0 inside)) in
    let closes : get_or name (length name - 1) 0 ≡ 41 = eqb-true _ 41 both.0 in
    let apart : place ≡ length name - 1 → ⊥ = λ e. omega (arith, sym opens ∙ ap (λ k. get_or name k 0) e ∙ closes) in
    record { within = omega (arith, inside, parts.1, apart); opens = opens; closes = closes }

pub front_text : (name : List ℕ) (place : ℕ) → IsText name → IsOpen name place → IsText (take place name)
front_text name place t h =
    let s = stands name place h in
    record { utf8 = IsUtf8-take name place t.utf8 (IsCharBoundary-before_ascii name place (omega (arith, s.within)) (omega (arith, s.opens))) }

pub index_text : (name : List ℕ) (place : ℕ) → IsText name → IsOpen name place → IsText (index_behind place name)
index_text name place t h =
    let s = stands name place h in
    let last = length name - 1 in
    let front = take last name in
    let front_is : IsUtf8 front = IsUtf8-take name last t.utf8 (IsCharBoundary-before_ascii name last (omega (arith, s.within)) (omega (arith, s.closes))) in
    let within : place < length front = omega (arith, s.within, length-take last name) in
    let opens : get_or front place 0 ≡ 40 = get_or-take last name place 0 (omega (arith, s.within)) ∙ s.opens in
    record { utf8 = IsUtf8-drop front (place + 1) front_is (IsCharBoundary-after_ascii front place front_is within (omega (arith, opens))) }

-- what is read of a name is its shape
pub shape_read : (name : List ℕ) (o : Option ℕ) (q : Bool) → open_of name ≡ o → q ≡ (named_by o name).qualified → record { place = o; qualified = q } ≡ shape_of name
shape_read name o q e h = ap (λ x. record { place = o; qualified = x }) h ∙ ap (λ x. record { place = x; qualified = (named_by x name).qualified }) (sym e)
