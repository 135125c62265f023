use Rattle.std.proofs.Common.{rules, ap}
use Rattle.std.proofs.lemmas.Str.{chars-nil}
use Rattle.tclv_engine.specs.Results.{ok}
use Rattle.tclv_engine.specs.State.{state_of}
use Rattle.tclv_engine.proofs.Binds.{runs_as, bind_ok, then_stop}
use Rattle.tclv_plain.proofs.unset_commands.unset_all.Goals as goal

pub returns-in_err-unset_each-clause-answer : goal.returns-in_err-unset_each-clause-answer
returns-in_err-unset_each-clause-answer g c here w told = then_stop _ (search rules) (c.in_err-unset_each.ensures.answer here w told)

pub returns-clause-answer : goal.returns-clause-answer
returns-clause-answer g c here w told =
    bind_ok _ (c.in_ok-unset_each.ensures.answer here w told)
    (λ u v e shown. runs_as (ap (λ t. ok t (state_of c.unset_each.new.machine v)) chars-nil) (c.push_result.ensures.answer here v e))
