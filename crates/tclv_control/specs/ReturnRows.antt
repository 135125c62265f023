-- The row of `return`.
use Rattle.std.specs.Prelude.{ℕ, zero, suc, ◌%◌, ◌==◌, if◌then◌else◌, List, [], ◌∷◌, ◌++◌, length, map, pos, codes}
use Rattle.tclv_text.specs.Numbers.{whole_text}
use Rattle.tclv_model.specs.declared.outcomes.Code.{Code}
use Rattle.tclv_model.specs.declared.outcomes.Code.TheVariants as code
use Rattle.tclv_model.specs.declared.outcomes.Pair.{Pair}
use Rattle.tclv_ctl.specs.Returns.{Return, return_of}
use Rattle.tclv_engine.specs.State.{Text, State}
use Rattle.tclv_engine.specs.Results.{Res, bind, option, code_text}
use Rattle.tclv_engine.specs.Answers.{last_of}
use Rattle.tclv_engine.specs.DataAnswers.{of_answer, arguments}
use Rattle.tclv_engine.specs.Plans.{Wanted}
use Rattle.tclv_control.specs.declared.behind.Behind.{Behind}
use Rattle.tclv_control.specs.HandingOn.{hand_on}

-- The result that words give which are odd in number; else it is empty.
abbrev pub result_of : List Text → Text
result_of words = if length words % 2 == 1 then last_of words else []

-- a pair as an option
abbrev pub as_option : Text × Text → Pair
as_option p = option p.0 p.1

-- the options of a code and of a level
abbrev pub first_options : Code → Text → List Pair
first_options c level = option (codes "-code") (code_text c) ∷ option (codes "-level") level ∷ []

-- All options of the outcome: first the code that is stored, and the level.
abbrev pub all_options : Return → List Pair
all_options r = first_options r.code (whole_text (pos r.level)) ++ map as_option r.options

-- At level 0 the stored code comes at once; else the code is that of a return.
abbrev pub coming : ℕ → Code → Code
coming zero c = c
coming (suc n) c = code.Return

-- the outcome that is asked for, with this result
abbrev pub returned : {W : Type 0} → Return → Text → (State W) → Res W (Wanted Behind)
returned r text st = hand_on (coming r.level r.code) text (all_options r) st

-- `return ?option value ...? ?result?`
abbrev pub wanted_return : {W : Type 0} → List Text → (State W) → Res W (Wanted Behind)
wanted_return words st = bind (of_answer (return_of (arguments words)) st) (λ r s1. returned r (result_of (arguments words)) s1)
