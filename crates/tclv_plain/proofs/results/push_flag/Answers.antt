use Rattle.std.proofs.Common.{ap}
use Rattle.tclv_engine.specs.Results.{ok}
use Rattle.tclv_engine.specs.State.{state_of}
use Rattle.tclv_engine.proofs.Binds.{runs_as}
use Rattle.tclv_plain.proofs.SubcommandLemmas.{flag_yes, flag_no}
use Rattle.tclv_plain.proofs.results.push_flag.Goals as goal

pub returns-then-is-clause-answer : goal.returns-then-is-clause-answer
returns-then-is-clause-answer g c here w told =
    runs_as (ap (λ t. ok t (state_of c.args.machine.now w)) (flag_yes c.args.is c.if-is.true)) (c.push_result.ensures.answer here w told)

pub returns-else-is-clause-answer : goal.returns-else-is-clause-answer
returns-else-is-clause-answer g c here w told =
    runs_as (ap (λ t. ok t (state_of c.args.machine.now w)) (flag_no c.args.is c.if-is.false)) (c.push_result-else-is.ensures.answer here w told)
