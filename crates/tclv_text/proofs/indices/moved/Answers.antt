use Rattle.std.proofs.Common.{◌≡◌, ℕ, ◌+◌, ◌-◌, sym, ap, ◌∙◌, arith, Some, None, List, length, drop, take, get_or, ◌+ℤ◌, ◌-ℤ◌, refl}
use Rattle.std.proofs.lemmas.Bool.{cond-true, cond-false, eq-eqb, ne_eqb}
use Rattle.tclv_text.specs.Indices.{moved, behind}
use Rattle.tclv_text.proofs.IndexLemmas.{no_cut, cut_here, small_sum, small_difference}
use Rattle.tclv_text.proofs.indices.moved.Goals as goal

-- what stands behind a sign
abbrev rest : List ℕ → ℕ → List ℕ
rest t n = take (length t - (n + 1)) (drop (n + 1) t)

pub returns-then-at-text : goal.returns-then-at-text
returns-then-at-text c = no_cut c.args.len c.sign_place-at.result c.args.text.now c.sign_place-at.ensures.place c.if-at-text.true

pub returns-in_err-place : goal.returns-in_err-place
returns-in_err-place c =
    let w = behind (rest c.args.text.now c.sign_place-at.result) in
    c.from_residual.ensures ∙ cut_here c.args.len c.sign_place-at.result c.args.text.now None w c.sign_place-at.ensures.place (omega arith) c.in_err-place.ensures.value refl

pub returns-in_err-by : goal.returns-in_err-by
returns-in_err-by c =
    c.from_residual-in_err-by.ensures
    ∙ cut_here c.args.len c.sign_place-at.result c.args.text.now (Some c.in_ok-place.place) None c.sign_place-at.ensures.place (omega arith) c.in_ok-place.ensures.value c.in_err-by.ensures.value

pub returns-then-text-at-eq43 : goal.returns-then-text-at-eq43
returns-then-text-at-eq43 c =
    let a = c.in_ok-place.place in
    let b = c.in_ok-by.by in
    let sign = get_or c.args.text.now c.sign_place-at.result 0 in
    let m : moved (Some a) sign (Some b) ≡ Some (a +ℤ b) = cond-true _ _ _ (eq-eqb sign 43 c.if-text-at-eq43.true) in
    ap Some (small_sum a b c.in_ok-place.ensures.low c.in_ok-place.ensures.high c.in_ok-by.ensures.low c.in_ok-by.ensures.high)
    ∙ sym m
    ∙ cut_here c.args.len c.sign_place-at.result c.args.text.now (Some a) (Some b) c.sign_place-at.ensures.place (omega arith) c.in_ok-place.ensures.value c.in_ok-by.ensures.value

pub returns-then-text-at-eq45 : goal.returns-then-text-at-eq45
returns-then-text-at-eq45 c =
    let a = c.in_ok-place.place in
    let b = c.in_ok-by.by in
    let sign = get_or c.args.text.now c.sign_place-at.result 0 in
    let m : moved (Some a) sign (Some b) ≡ Some (a -ℤ b) = cond-false _ _ _ (ne_eqb sign 43 c.if-text-at-eq43.false) ∙ cond-true _ _ _ (eq-eqb sign 45 c.if-text-at-eq45.true) in
    ap Some (small_difference a b c.in_ok-place.ensures.low c.in_ok-place.ensures.high c.in_ok-by.ensures.low c.in_ok-by.ensures.high)
    ∙ sym m
    ∙ cut_here c.args.len c.sign_place-at.result c.args.text.now (Some a) (Some b) c.sign_place-at.ensures.place (omega arith) c.in_ok-place.ensures.value c.in_ok-by.ensures.value

pub returns-else-text-at-eq45 : goal.returns-else-text-at-eq45
returns-else-text-at-eq45 c =
    let a = c.in_ok-place.place in
    let b = c.in_ok-by.by in
    let sign = get_or c.args.text.now c.sign_place-at.result 0 in
    let m : moved (Some a) sign (Some b) ≡ None = cond-false _ _ _ (ne_eqb sign 43 c.if-text-at-eq43.false) ∙ cond-false _ _ _ (ne_eqb sign 45 c.if-text-at-eq45.false) in
    sym m
    ∙ cut_here c.args.len c.sign_place-at.result c.args.text.now (Some a) (Some b) c.sign_place-at.ensures.place (omega arith) c.in_ok-place.ensures.value c.in_ok-by.ensures.value
