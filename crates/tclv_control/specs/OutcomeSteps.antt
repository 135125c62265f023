-- How a script ended, in the code: its code and its options.
use Rattle.std.specs.Prelude.{List}
use Rattle.tclv_model.specs.declared.outcomes.Code.{Code}
use Rattle.tclv_model.specs.declared.outcomes.Code.TheVariants as code
use Rattle.tclv_model.specs.declared.outcomes.Pair.{Pair}
use Rattle.tclv_engine.specs.declared.endings.Ended.{Ended}
use Rattle.tclv_engine.specs.declared.endings.Ended.TheVariants as ended
use Rattle.tclv_engine.specs.Results.{carried}
use Rattle.tclv_engine.specs.Answers.{code_of, options_of}

-- the code that a script ended with
abbrev pub code_ended : Ended → Code
code_ended (ended.Ok kept) = code.Ok
code_ended (ended.Left leaving) = code_of leaving

-- its options
abbrev pub options_ended : Ended → List Pair
options_ended (ended.Ok kept) = carried code.Ok kept
options_ended (ended.Left leaving) = options_of leaving
