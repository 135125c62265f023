use Rattle.std.proofs.Common.{length, rules, ap, ◌∙◌, ◌≡◌, ◌-◌, [], get_or, arith, to_z, of_z, w64, FitsSigned}
use Rattle.std.proofs.lemmas.Int.{ints}
use Rattle.tclv_exprp.specs.Operators.{apply1}
use Rattle.tclv_engine.specs.State.{state_of}
use Rattle.tclv_engine.specs.Operations.{operand, calculated}
use Rattle.tclv_engine.proofs.Binds.{runs_as, bind_ok, then_stop}
use Rattle.tclv_engine.proofs.OperationLemmas.{unary_sign-chars}
use Rattle.std.specs.Str.{chars}
use Rattle.tclv_engine.proofs.machine.Machine.signed.Goals as goal

pub returns-in_err-n-clause-answer : goal.returns-in_err-n-clause-answer
returns-in_err-n-clause-answer g c here w told =
    let stack = c.args.self.now.values.store.stack in
    then_stop _ (search rules)
    (runs_as (ap (λ l. operand (chars c.unary_sign.result.now) (get_or stack (l - 1) []) (state_of c.args.self.now w)) c.height.ensures
    ∙ ap (λ x. operand x (get_or stack (length stack - 1) []) (state_of c.args.self.now w)) (ap chars c.unary_sign.ensures.text ∙ unary_sign-chars c.args.op))
    (c.in_err-n.ensures.answer here w told))

pub returns-clause-answer : goal.returns-clause-answer
returns-clause-answer g c here w told =
    let stack = c.args.self.now.values.store.stack in
    let fits : FitsSigned w64 c.in_ok-n.n = search rules in
    let same : to_z w64 (of_z w64 c.in_ok-n.n) ≡ c.in_ok-n.n = omega (arith, ints) in
    bind_ok _
    (runs_as (ap (λ l. operand (chars c.unary_sign.result.now) (get_or stack (l - 1) []) (state_of c.args.self.now w)) c.height.ensures
    ∙ ap (λ x. operand x (get_or stack (length stack - 1) []) (state_of c.args.self.now w)) (ap chars c.unary_sign.ensures.text ∙ unary_sign-chars c.args.op))
    (c.in_ok-n.ensures.answer here w told))
    (λ n v e shown. runs_as (ap (λ x. calculated x (state_of c.operand.new.self v)) (c.apply1.ensures ∙ ap (apply1 c.args.op) (same ∙ shown))) (c.calculated.ensures.answer here v e))
