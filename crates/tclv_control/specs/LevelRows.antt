-- The row of `uplevel`.
use Rattle.std.specs.Prelude.{ℕ, List, [], ◌∷◌, if◌then◌else◌}
use Rattle.tclv_model.specs.declared.usages.Usage.TheVariants as command
use Rattle.tclv_model.specs.Usages.{usage_of}
use Rattle.tclv_lists.specs.Joining.{concatenated}
use Rattle.tclv_engine.specs.State.{Text, State}
use Rattle.tclv_engine.specs.Results.{Res, bind, done}
use Rattle.tclv_engine.specs.Names.{bytes_of}
use Rattle.tclv_engine.specs.Usages.{usage}
use Rattle.tclv_engine.specs.Links.{is_level, level, outer_level}
use Rattle.tclv_engine.specs.Plans.{Wanted, AtLevel}

-- the words are joined as `concat` joins them, and the text runs in the frame of the level
abbrev pub run_at : {W K : Type 0} → K → List Text → Res W ℕ → Res W (Wanted K)
run_at hand_on words found = bind found (λ l s1. done (AtLevel l (concatenated words) hand_on) s1)

-- `uplevel ?level? command ?arg ...?`: a first word in the form of a level names it, where others follow; else it is that of the caller.
abbrev pub wanted_uplevel : {W K : Type 0} → K → List Text → (State W) → Res W (Wanted K)
wanted_uplevel hand_on (word ∷ only ∷ []) st = run_at hand_on (only ∷ []) (outer_level st)
wanted_uplevel hand_on (word ∷ first ∷ arg ∷ args) st =
    if is_level (bytes_of first) then run_at hand_on (arg ∷ args) (level first st) else run_at hand_on (first ∷ arg ∷ args) (outer_level st)
wanted_uplevel hand_on words st = usage (usage_of command.Uplevel) words st
