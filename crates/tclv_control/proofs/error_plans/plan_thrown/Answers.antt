use Rattle.std.proofs.Common.{rules, ap}
use Rattle.tclv_engine.specs.State.{state_of}
use Rattle.tclv_engine.specs.Plans.{placed}
use Rattle.tclv_engine.proofs.Binds.{runs_as, bind_ok, then_stop}
use Rattle.tclv_control.specs.ErrorRows.{thrown}
use Rattle.tclv_control.proofs.ErrorLemmas.{thrown_runs}
use Rattle.tclv_control.proofs.error_plans.plan_thrown.Goals as goal

pub returns-in_err-len-clause-answer : goal.returns-in_err-len-clause-answer
returns-in_err-len-clause-answer g c here w told = then_stop _ (search rules) (c.in_err-len.ensures.answer here w told)

pub returns-clause-answer : goal.returns-clause-answer
returns-clause-answer g c here w told =
    bind_ok _ (c.in_ok-len.ensures.answer here w told)
    (λ parts v e shown. runs_as
    (ap (λ s. thrown parts (placed s c.args.errorcode) (placed s c.args.message) (state_of c.list_len.new.self v)) c.in_ok-len.ensures.stack)
    (thrown_runs g.row.K.Denot parts _ _ _ _ c.list_len.new.self c.raise_thrown.new.machine v e c.raise_thrown.ensures.same shown.1 c.raise_thrown.ensures.raises))
