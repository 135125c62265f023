use Rattle.std.proofs.Common.{rules, refl, ap, sym}
use Rattle.tclv_engine.specs.State.{state_of}
use Rattle.tclv_engine.specs.Results.{outcome}
use Rattle.tclv_engine.specs.Answers.{last_of}
use Rattle.tclv_engine.specs.Evaluation.{end_of}
use Rattle.tclv_model.specs.declared.error_codes.ErrorCode.TheVariants.{NoCode}
use Rattle.tclv_engine.proofs.Binds.{runs_as}
use Rattle.tclv_engine.proofs.Leaves.{value_runs, raise_bare}
use Rattle.tclv_engine.proofs.machine.Machine.end_script.Goals as goal

pub returns-in-None-clause-answer : goal.returns-in-None-clause-answer
returns-in-None-clause-answer g c here w told =
    runs_as (ap (λ f. end_of f (outcome c.args.last (last_of c.args.self.now.values.store.stack)) (state_of c.args.self.now w)) (sym c.in-None.is))
    (value_runs c.args.self.now told (search rules) (refl, refl))

pub returns-in-Some-clause-answer : goal.returns-in-Some-clause-answer
returns-in-Some-clause-answer g c here w told =
    runs_as (ap (λ f. end_of f (outcome c.args.last (last_of c.args.self.now.values.store.stack)) (state_of c.args.self.now w)) (sym c.in-Some.is))
    (raise_bare c.args.self.now _ _ NoCode NoCode told c.raise.ensures.same c.fault_message.ensures refl c.raise.ensures.raises)
