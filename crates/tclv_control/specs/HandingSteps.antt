-- What the code hands on of a script that ended.
use Rattle.std.specs.Prelude.{Result, Ok, Err}
use Rattle.tclv_model.specs.declared.outcomes.Code.TheVariants as code
use Rattle.tclv_engine.specs.declared.endings.End.{End}
use Rattle.tclv_engine.specs.declared.endings.End.TheVariants as end
use Rattle.tclv_engine.specs.declared.endings.Ended.{Ended}
use Rattle.tclv_engine.specs.declared.endings.Ended.TheVariants as ended
use Rattle.tclv_engine.specs.declared.endings.Leaving.TheVariants as leaving
use Rattle.tclv_engine.specs.declared.plans.Plan.{Plan}
use Rattle.tclv_engine.specs.declared.plans.Plan.TheVariants as plan

-- how a script ended, handed on
abbrev pub handed_on : {K : Type 0} → Ended → Result (Plan K) End
handed_on (ended.Ok kept) = Ok (plan.Finished kept)
handed_on (ended.Left (leaving.Other code.Ok kept)) = Ok (plan.Finished kept)
handed_on (ended.Left l) = Err (end.Left l)
