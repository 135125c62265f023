-- The row of `catch`, and what is done behind its script.
use Rattle.std.specs.Prelude.{List, [], ◌∷◌, Option, Some, None}
use Rattle.tclv_text.specs.Quotes.{list_text}
use Rattle.tclv_model.specs.declared.usages.Usage.TheVariants as command
use Rattle.tclv_model.specs.Usages.{usage_of}
use Rattle.tclv_engine.specs.State.{Text, State}
use Rattle.tclv_engine.specs.Results.{Res, bind, done, plain, code_text}
use Rattle.tclv_engine.specs.Usages.{usage}
use Rattle.tclv_engine.specs.Variables.{assign}
use Rattle.tclv_engine.specs.Plans.{Wanted, Run, Finished, Conclusion}
use Rattle.tclv_control.specs.declared.behind.Behind.{Behind}
use Rattle.tclv_control.specs.declared.behind.Behind.TheVariants as behind
use Rattle.tclv_control.specs.Outcomes.{option_words}

-- `catch script ?resultVarName? ?optionsVarName?`: the script runs, and behind it the variables are set.
abbrev pub wanted_catch : {W : Type 0} → List Text → (State W) → Res W (Wanted Behind)
wanted_catch (word ∷ script ∷ []) st = done (Run script (behind.Catch None None)) st
wanted_catch (word ∷ script ∷ name ∷ []) st = done (Run script (behind.Catch (Some name) None)) st
wanted_catch (word ∷ script ∷ name ∷ options ∷ []) st = done (Run script (behind.Catch (Some name) (Some options))) st
wanted_catch words st = usage (usage_of command.Catch) words st

-- A text is noted in the variable of a name, if there is one.
abbrev pub note : {W : Type 0} → Option Text → Text → (State W) → Res W Text
note None text st = done text st
note (Some name) text st = assign name text st

-- However the script ended, the variables get its result and its options, from the left, and the result is the number of its code.
abbrev pub caught : {W : Type 0} → Option Text → Option Text → Conclusion → (State W) → Res W (Wanted Behind)
caught name options e st =
    bind (note name e.text st) (λ t s1. bind (note options (list_text (option_words e.options)) s1) (λ os s2. done (Finished (plain (code_text e.code))) s2))
