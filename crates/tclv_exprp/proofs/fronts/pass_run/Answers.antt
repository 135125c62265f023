use Rattle.std.proofs.Common.{◌≡◌, ◌<◌, true, false, length, drop, sym, ap, ◌∙◌, arith}
use Rattle.tclv_exprp.specs.Fronts.{first, is_in}
use Rattle.tclv_exprp.proofs.FrontLemmas.{drop-next, run_on, run_less, run_done}
use Rattle.tclv_exprp.proofs.fronts.pass_run.Goals as goal

pub run-smaller : goal.run-smaller
run-smaller c =
    let h : is_in c.args.class (first c.run.cursor) ≡ true = ap (is_in c.args.class) (sym c.first.ensures) ∙ sym c.is_in.ensures ∙ c.run-test.true in
    let l : length c.skip.new.self < length c.run.cursor = omega (arith, ap length c.skip.ensures, run_less c.args.class c.run.cursor h) in l

pub run-preserved : goal.run-preserved
run-preserved c =
    let h : is_in c.args.class (first c.run.cursor) ≡ true = ap (is_in c.args.class) (sym c.first.ensures) ∙ sym c.is_in.ensures ∙ c.run-test.true in
    let i = c.run.invariant in
    record {
      place = c.skip.ensures ∙ ap (drop 1) i.place ∙ drop-next c.run.len c.args.cursor.now;
      run = omega (arith, i.run, run_on c.args.class c.run.cursor c.skip.new.self h c.skip.ensures);
      left = omega (arith, i.left, ap length c.skip.ensures, run_less c.args.class c.run.cursor h);
    }

pub returns-clause-len : goal.returns-clause-len
returns-clause-len c =
    let h : is_in c.args.class (first c.run.cursor) ≡ false = ap (is_in c.args.class) (sym c.first.ensures) ∙ sym c.is_in.ensures ∙ c.run-test.false in
    omega (arith, c.run.invariant.run, run_done c.args.class c.run.cursor h)

pub returns-clause-rest : goal.returns-clause-rest
returns-clause-rest c =
    let h : is_in c.args.class (first c.run.cursor) ≡ false = ap (is_in c.args.class) (sym c.first.ensures) ∙ sym c.is_in.ensures ∙ c.run-test.false in
    c.run.invariant.place ∙ ap (λ k. drop k c.args.cursor.now) (omega (arith, c.run.invariant.run, run_done c.args.class c.run.cursor h))
