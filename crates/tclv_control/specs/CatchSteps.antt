-- What the code does behind the script of a `catch`, step by step.
use Rattle.std.specs.Prelude.{Option}
use Rattle.tclv_text.specs.Quotes.{list_text}
use Rattle.tclv_model.specs.declared.outcomes.Code.{Code}
use Rattle.tclv_engine.specs.declared.endings.Ended.{Ended}
use Rattle.tclv_engine.specs.State.{Text, State}
use Rattle.tclv_engine.specs.Results.{Res, bind, done, plain, code_text}
use Rattle.tclv_engine.specs.Plans.{Wanted, Finished}
use Rattle.tclv_control.specs.declared.behind.Behind.{Behind}
use Rattle.tclv_control.specs.CatchRows.{note}
use Rattle.tclv_control.specs.Outcomes.{option_words}
use Rattle.tclv_control.specs.OutcomeSteps.{code_ended, options_ended}

-- the number of a code as the result
abbrev pub numbered : {W : Type 0} → Code → (State W) → Res W (Wanted Behind)
numbered c st = done (Finished (plain (code_text c))) st

-- the options of how a script ended are noted, and the number of its code is the result
abbrev pub options_caught : {W : Type 0} → Option Text → Ended → (State W) → Res W (Wanted Behind)
options_caught options e st = bind (note options (list_text (option_words (options_ended e))) st) (λ os s1. numbered (code_ended e) s1)
