use Rattle.std.proofs.Common.{◌≡◌, ◌<◌, true, false, length, sym, ap, ◌∙◌, arith, length-drop}
use Rattle.tclv_text.specs.Cursors.{sign}
use Rattle.tclv_exprp.specs.Fronts.{is_blank}
use Rattle.tclv_exprp.proofs.FrontLemmas.{blanks_on, blanks_less, blanks_done}
use Rattle.tclv_exprp.proofs.fronts.blanks.Goals as goal

pub blanks-smaller : goal.blanks-smaller
blanks-smaller c =
    let h : is_blank (sign c.blanks.cursor) ≡ true = ap is_blank (sym c.peek.ensures) ∙ sym c.is_blank.ensures ∙ c.blanks-test.true in
    let l : length c.skip.new.self < length c.blanks.cursor = omega (arith, ap length c.skip.ensures, blanks_less c.blanks.cursor h) in l

pub blanks-preserved : goal.blanks-preserved
blanks-preserved c =
    let h : is_blank (sign c.blanks.cursor) ≡ true = ap is_blank (sym c.peek.ensures) ∙ sym c.is_blank.ensures ∙ c.blanks-test.true in
    record {
      behind = c.blanks.invariant.behind ∙ blanks_on c.blanks.cursor c.skip.new.self h c.skip.ensures;
      left = omega (arith, c.blanks.invariant.left, ap length c.skip.ensures, length-drop 1 c.blanks.cursor);
    }

pub returns-clause-rest : goal.returns-clause-rest
returns-clause-rest c =
    let h : is_blank (sign c.blanks.cursor) ≡ false = ap is_blank (sym c.peek.ensures) ∙ sym c.is_blank.ensures ∙ c.blanks-test.false in
    blanks_done c.blanks.cursor h ∙ sym c.blanks.invariant.behind
