use Rattle.std.proofs.Common.{rules, ap, ◌∙◌, ◌≡◌, ◌-◌, arith, to_z, of_z, w64, FitsSigned, length}
use Rattle.std.proofs.lemmas.Int.{ints}
use Rattle.tclv_exprp.specs.Operators.{apply2}
use Rattle.tclv_engine.specs.State.{state_of}
use Rattle.tclv_engine.specs.Operations.{calculated}
use Rattle.tclv_engine.proofs.Binds.{runs_as, bind_ok, then_stop}
use Rattle.tclv_engine.proofs.OperationLemmas.{operand_at}
use Rattle.tclv_engine.proofs.machine.Machine.arithmetic.Goals as goal

pub returns-in_err-m-clause-answer : goal.returns-in_err-m-clause-answer
returns-in_err-m-clause-answer g c here w told =
    let stack = c.args.self.now.values.store.stack in
    then_stop _ (search rules)
    (runs_as (operand_at c.args.op c.sign.result.now stack stack (c.height.result - 2) (length stack - 2) (state_of c.args.self.now w) c.sign.ensures.text (search rules) (ap (λ l. l - 2) c.height.ensures))
    (c.in_err-m.ensures.answer here w told))

pub returns-in_err-n-clause-answer : goal.returns-in_err-n-clause-answer
returns-in_err-n-clause-answer g c here w told =
    let stack = c.args.self.now.values.store.stack in
    bind_ok _
    (runs_as (operand_at c.args.op c.sign.result.now stack stack (c.height.result - 2) (length stack - 2) (state_of c.args.self.now w) c.sign.ensures.text (search rules) (ap (λ l. l - 2) c.height.ensures))
    (c.in_ok-m.ensures.answer here w told))
    (λ m v e shown. then_stop _ (search rules)
    (runs_as (operand_at c.args.op c.sign-2.result.now c.operand.new.self.values.store.stack stack (c.height-2.result - 1) (length stack - 1) (state_of c.operand.new.self v) c.sign-2.ensures.text c.in_ok-m.ensures.stack (ap (λ l. l - 1) c.height-2.ensures))
    (c.in_err-n.ensures.answer here v e)))

pub returns-clause-answer : goal.returns-clause-answer
returns-clause-answer g c here w told =
    let stack = c.args.self.now.values.store.stack in
    let fits-m : FitsSigned w64 c.in_ok-m.m = search rules in
    let same-m : to_z w64 (of_z w64 c.in_ok-m.m) ≡ c.in_ok-m.m = omega (arith, ints) in
    let fits-n : FitsSigned w64 c.in_ok-n.n = search rules in
    let same-n : to_z w64 (of_z w64 c.in_ok-n.n) ≡ c.in_ok-n.n = omega (arith, ints) in
    bind_ok _
    (runs_as (operand_at c.args.op c.sign.result.now stack stack (c.height.result - 2) (length stack - 2) (state_of c.args.self.now w) c.sign.ensures.text (search rules) (ap (λ l. l - 2) c.height.ensures))
    (c.in_ok-m.ensures.answer here w told))
    (λ m v e shown. bind_ok _
    (runs_as (operand_at c.args.op c.sign-2.result.now c.operand.new.self.values.store.stack stack (c.height-2.result - 1) (length stack - 1) (state_of c.operand.new.self v) c.sign-2.ensures.text c.in_ok-m.ensures.stack (ap (λ l. l - 1) c.height-2.ensures))
    (c.in_ok-n.ensures.answer here v e))
    (λ n v2 e2 shown2. runs_as (ap (λ x. calculated x (state_of c.operand-2.new.self v2)) (c.apply2.ensures ∙ ap (λ x. apply2 c.args.op x (to_z w64 (of_z w64 c.in_ok-n.n))) (same-m ∙ shown) ∙ ap (apply2 c.args.op m) (same-n ∙ shown2)))
    (c.calculated.ensures.answer here v2 e2)))
