-- Places, and what is still to come there.
use Rattle.std.proofs.Common.{◌≡◌, ℕ, zero, suc, ◌+◌, ◌-◌, ◌<◌, ◌≤◌, true, false, List, ◌∷◌, length, get_or, set, take, drop, refl, sym, ap, ap₂, subst, ◌∙◌, arith, nat_lt, get_or-set_same, get_or-set_other, Result, Ok, Option}
use Rattle.std.proofs.lemmas.Bool.Decides.{nat_tests}
use Rattle.std.specs.Str.{chars}
use Rattle.tclv_parse.specs.declared.runs.Form.{Form}
use Rattle.tclv_parse.specs.declared.runs.Form.TheVariants as form
use Rattle.tclv_parse.specs.declared.modes.Mode.{Mode}
use Rattle.tclv_parse.specs.declared.modes.Mode.TheVariants as m
use Rattle.tclv_parse.specs.declared.pieces.Piece.{Piece}
use Rattle.tclv_parse.specs.declared.pieces.PieceKind.{PieceKind}
use Rattle.tclv_parse.specs.declared.pieces.PieceKind.TheVariants as k
use Rattle.tclv_parse.specs.declared.faults.ParseFault.{ParseFault}
use Rattle.tclv_parse.specs.declared.faults.ParseFault.TheVariants as f
use Rattle.tclv_parse.specs.declared.tokens.Place.{Place}
use Rattle.tclv_parse.specs.Runs.{Text}
use Rattle.tclv_parse.specs.Readings.{before}
use Rattle.tclv_parse.specs.Grammar.{deeper_by}
use Rattle.tclv_parse.specs.Places.{Out, halt, stop, rest_of, opening, is_inside, behind, coming, frames}
use Rattle.tclv_parse.specs.Steps.{levels, depth, deeper, inner, all_behind, here_in, here, opening_in, IsLevel, closing, Takes, Moves, Steps}
use Rattle.tclv_parse.proofs.Rules.{IsDeeper, deeper-is}
use Rattle.tclv_parse.proofs.Moves.{behind-before, behind-halt, behind-stop, closes, opens-script, opens-index, deep-script, deep-index}

pub inside-frames : (forms : List Form) (n : ℕ) → is_inside (frames forms n) ≡ nat_lt 0 n
inside-frames forms zero = refl
inside-frames forms (suc n) = grind (arith, nat_tests)

pub inside-some : (forms : List Form) (n : ℕ) → is_inside (frames forms n) ≡ true → 0 < n
inside-some forms zero e = cc
inside-some forms (suc n) e = omega arith

pub inside-none : (forms : List Form) (n : ℕ) → is_inside (frames forms n) ≡ false → n ≡ 0
inside-none forms zero e = refl
inside-none forms (suc n) e = cc

pub readers : (p : Place) → IsDeeper (deeper p)
readers p = deeper-is 0 (depth p)

-- ---- one step of a place

pub piece-moves : (p q : Place) (piece : Piece) (kind : PieceKind) (n : ℕ) (from to : Mode) → Takes p piece q kind n to
    → rest_of (deeper p) (inner p) from p.cursor ≡ before (kind, take n p.cursor) (rest_of (deeper p) (inner p) to (drop n p.cursor)) → Moves (here_in from p) (Ok piece) (here q)
unfolding all_behind
piece-moves p q piece kind n from to h e = (
  ap (behind (depth p) (levels p)) e
      ∙ behind-before (depth p) (levels p) (kind, take n p.cursor) (rest_of (deeper p) (inner p) to (drop n p.cursor))
      ∙ ap₂ (λ a b. before (a, b) (coming (depth p) to (levels p) (drop n p.cursor))) (sym h.kind_is) (sym h.text)
      ∙ ap (before (piece.kind, chars piece.text.now)) (sym (ap here h.place)),
  h.utf8,
)

-- a piece of what is behind the parts of a word
pub behind-moves : (p q : Place) (piece : Piece) (kind : PieceKind) (n : ℕ) (r : Out) (to : Mode) → Takes p piece q kind n to
    → r ≡ before (kind, take n p.cursor) (rest_of (deeper p) (inner p) to (drop n p.cursor)) → Moves (all_behind p r) (Ok piece) (here q)
unfolding all_behind
behind-moves p q piece kind n r to h e = (
  ap (behind (depth p) (levels p)) e
      ∙ behind-before (depth p) (levels p) (kind, take n p.cursor) (rest_of (deeper p) (inner p) to (drop n p.cursor))
      ∙ ap₂ (λ a b. before (a, b) (coming (depth p) to (levels p) (drop n p.cursor))) (sym h.kind_is) (sym h.text)
      ∙ ap (before (piece.kind, chars piece.text.now)) (sym (ap here h.place)),
  h.utf8,
)

pub halts-here : (p : Place) (r : Out) (e : ParseFault) → r ≡ halt e → all_behind p r ≡ halt e
unfolding all_behind
halts-here p r e h = ap (behind (depth p) (levels p)) h ∙ behind-halt (depth p) (levels p) e

stops_by : (n : ℕ) (forms : List Form) (t : Text) → n ≡ 0 → behind (100 - n) (frames forms n) (stop t) ≡ stop t
stops_by zero forms t e = behind-stop 100 t
stops_by (suc n) forms t e = absurd (omega arith)

pub stops-here : (p : Place) (r : Out) (t : Text) → inner p ≡ false → r ≡ stop t → all_behind p r ≡ stop t
unfolding all_behind
stops-here p r t i h = ap (behind (depth p) (levels p)) h ∙ stops_by p.open p.around t (inside-none p.around p.open i)

pub moves-from : (old old' : Out) (r : Result Piece ParseFault) (new : Out) → old ≡ old' → Moves old' r new → Moves old r new
moves-from old old' r new e h = subst (λ o. Moves o r new) (sym e) h

pub steps-from : (old old' : Out) (r : Option (Result Piece ParseFault)) (new : Out) → old ≡ old' → Steps old' r new → Steps old r new
steps-from old old' r new e h = subst (λ o. Steps o r new) (sym e) h

-- ---- levels

frames-set : (forms : List Form) (n at : ℕ) (held : Form) → n ≤ at → frames (set forms at held) n ≡ frames forms n
frames-set forms zero at held p = refl
frames-set forms (suc n) at held p = let ne : ¬ (n ≡ at) = λ e. omega arith in ap₂ (λ x xs. x ∷ xs) (get_or-set_other forms at n held form.Bare ne) (frames-set forms n at held (omega arith))

pub frames-push : (forms : List Form) (n : ℕ) (held : Form) → n < length forms → frames (set forms n held) (suc n) ≡ held ∷ frames forms n
frames-push forms n held p = ap₂ (λ x xs. x ∷ xs) (get_or-set_same forms n held form.Bare p) (frames-set forms n n held (omega arith))

opens_by : (e : ℕ) (forms : List Form) (inside : Mode) (held : Form) (t : Text) → IsLevel inside
    → behind (suc e) forms (opening (deeper_by 0 (suc e)) (is_inside forms) inside held t) ≡ before (k.Open, take 1 t) (coming e inside (held ∷ forms) (drop 1 t))
opens_by e forms m.Begin held t h = opens-script e held forms t
opens_by e forms (m.Parts form.Index) held t h = opens-index e held forms t
opens_by e forms _ held t h = absurd h

pub opens : (n : ℕ) (forms : List Form) (inside : Mode) (held : Form) (t : Text) → n < 100 → IsLevel inside
    → behind (100 - n) forms (opening (deeper_by 0 (100 - n)) (is_inside forms) inside held t) ≡ before (k.Open, take 1 t) (coming (100 - (n + 1)) inside (held ∷ forms) (drop 1 t))
opens n forms inside held t p h =
    let d : 100 - n ≡ suc (100 - (n + 1)) = omega arith in
    ap (λ i. behind i forms (opening (deeper_by 0 i) (is_inside forms) inside held t)) d ∙ opens_by (100 - (n + 1)) forms inside held t h

deep_by : (forms : List Form) (inside : Mode) (held : Form) (t : Text) → IsLevel inside → behind 0 forms (opening (deeper_by 0 0) (is_inside forms) inside held t) ≡ halt f.TooDeep
deep_by forms m.Begin held t h = deep-script held forms t
deep_by forms (m.Parts form.Index) held t h = deep-index held forms t
deep_by forms _ held t h = absurd h

pub too-deep : (p : Place) (inside : Mode) (held : Form) → p.open ≡ 100 → IsLevel inside → opening_in inside held p ≡ halt f.TooDeep
unfolding all_behind
too-deep p inside held e h =
    let d : 100 - p.open ≡ 0 = omega arith in
    ap (λ i. behind i (levels p) (opening (deeper_by 0 i) (inner p) inside held p.cursor)) d ∙ deep_by (levels p) inside held p.cursor h

-- a place where a level was opened
pub opened : (p q mid : Place) (piece : Piece) (inside : Mode) (held : Form) → p.open < 100 → p.open < length p.around → IsLevel inside
    → mid.cursor ≡ p.cursor → mid.around ≡ set p.around p.open held → mid.open ≡ p.open + 1 → Takes mid piece q k.Open 1 inside → Moves (opening_in inside held p) (Ok piece) (here q)
unfolding all_behind
opened p q mid piece inside held room long level ec ea eo h =
    let one : p.open + 1 ≡ suc p.open = omega arith in
    let grown : levels mid ≡ held ∷ levels p = ap₂ frames ea (eo ∙ one) ∙ frames-push p.around p.open held long in
    let text : chars piece.text.now ≡ take 1 p.cursor = h.text ∙ ap (take 1) ec in
    let now : here q ≡ coming (100 - (p.open + 1)) inside (held ∷ levels p) (drop 1 p.cursor)
    = ap here h.place ∙ ap (λ n. coming (100 - n) inside (levels mid) (drop 1 mid.cursor)) eo ∙ ap₂ (λ l t. coming (100 - (p.open + 1)) inside l (drop 1 t)) grown ec in (
      opens p.open (levels p) inside held p.cursor room level
          ∙ ap₂ (λ a b. before (a, b) (coming (100 - (p.open + 1)) inside (held ∷ levels p) (drop 1 p.cursor))) (sym h.kind_is) (sym text)
          ∙ ap (before (piece.kind, chars piece.text.now)) (sym now),
      h.utf8,
    )

closes_by : (n : ℕ) (forms : List Form) (t : Text) → 0 < n → n ≤ 100
    → behind (100 - n) (frames forms n) (before (k.Close, take 1 t) (stop (drop 1 t))) ≡ before (k.Close, take 1 t) (coming (100 - (n - 1)) (m.Parts (get_or forms (n - 1) form.Bare)) (frames forms (n - 1)) (drop 1 t))
closes_by zero forms t p b = absurd (omega arith)
closes_by (suc n) forms t p b =
    let one : suc n - 1 ≡ n = omega arith in
    let d : suc (100 - suc n) ≡ 100 - n = omega arith in
    rw one (closes (100 - suc n) (get_or forms n form.Bare) (frames forms n) (k.Close, take 1 t) (drop 1 t) ∙ ap (λ i. before (k.Close, take 1 t) (coming i (m.Parts (get_or forms n form.Bare)) (frames forms n) (drop 1 t))) d)

-- a place where a level was closed
pub closed-level : (p q mid : Place) (piece : Piece) (held : Form) → inner p ≡ true → p.open ≤ 100
    → mid.cursor ≡ p.cursor → mid.around ≡ p.around → mid.open ≡ p.open - 1 → held ≡ get_or p.around (p.open - 1) form.Bare → Takes mid piece q k.Close 1 (m.Parts held) → Moves (closing p) (Ok piece) (here q)
unfolding all_behind
closed-level p q mid piece held i b ec ea eo eh h =
    let text : chars piece.text.now ≡ take 1 p.cursor = h.text ∙ ap (take 1) ec in
    let outer : Out = coming (100 - (p.open - 1)) (m.Parts (get_or p.around (p.open - 1) form.Bare)) (frames p.around (p.open - 1)) (drop 1 p.cursor) in
    let now : here q ≡ outer
    = ap here h.place
    ∙ ap (λ n. coming (100 - n) (m.Parts held) (frames mid.around n) (drop 1 mid.cursor)) eo
    ∙ ap₂ (λ l t. coming (100 - (p.open - 1)) (m.Parts held) (frames l (p.open - 1)) (drop 1 t)) ea ec
    ∙ ap (λ w. coming (100 - (p.open - 1)) (m.Parts w) (frames p.around (p.open - 1)) (drop 1 p.cursor)) eh in (
      closes_by p.open p.around p.cursor (inside-some p.around p.open i) b
          ∙ ap₂ (λ a b. before (a, b) outer) (sym h.kind_is) (sym text)
          ∙ ap (before (piece.kind, chars piece.text.now)) (sym now),
      h.utf8,
    )
