use Rattle.std.proofs.Common.{rules, ap, sym, ◌∙◌, ◌≡◌, arith, to_z, of_z, w64, FitsSigned}
use Rattle.std.proofs.lemmas.Int.{ints}
use Rattle.tclv_engine.specs.State.{state_of}
use Rattle.tclv_engine.specs.Operations.{number, calculated}
use Rattle.tclv_engine.proofs.Binds.{runs_as}
use Rattle.tclv_engine.proofs.Leaves.{raise_bare}
use Rattle.tclv_engine.proofs.machine.Machine.calculated.Goals as goal

pub returns-in-Ok-clause-answer : goal.returns-in-Ok-clause-answer
returns-in-Ok-clause-answer g c here w told =
    let fits : FitsSigned w64 c.in-Ok.value = search rules in
    let same : to_z w64 (of_z w64 c.in-Ok.value) ≡ c.in-Ok.value = omega (arith, ints) in
    runs_as (ap (λ z. number z (state_of c.args.self.now w)) same ∙ ap (λ x. calculated x (state_of c.args.self.now w)) (sym c.in-Ok.is)) (c.number.ensures.answer here w told)

pub returns-in-Err-clause-answer : goal.returns-in-Err-clause-answer
returns-in-Err-clause-answer g c here w told =
    runs_as (ap (λ x. calculated x (state_of c.args.self.now w)) (sym c.in-Err.is))
    (raise_bare c.args.self.now _ _ _ _ told c.raise.ensures.same c.fault_message.ensures c.fault_code.ensures c.raise.ensures.raises)
