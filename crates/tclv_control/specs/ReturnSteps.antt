-- What the code keeps of what `return` is asked for, and the outcome of that.
use Rattle.std.specs.Prelude.{List, ◌++◌, pos}
use Rattle.tclv_text.specs.Numbers.{whole_text}
use Rattle.tclv_model.specs.declared.outcomes.Pair.{Pair}
use Rattle.tclv_ctl.specs.declared.returns.Ret.{Ret}
use Rattle.tclv_ctl.specs.Returns.{Return, IsReturn}
use Rattle.tclv_engine.specs.State.{Text, State}
use Rattle.tclv_engine.specs.Results.{Res}
use Rattle.tclv_engine.specs.Plans.{Wanted}
use Rattle.tclv_control.specs.declared.behind.Behind.{Behind}
use Rattle.tclv_control.specs.HandingOn.{hand_on}
use Rattle.tclv_control.specs.ReturnRows.{coming, first_options}

-- the call returns what is asked for
abbrev pub as_return : Return → Ret → List Text → Type 0
as_return r ret stack = IsReturn r ret

-- all options of what the call returns
abbrev pub asked_options : Ret → List Pair
asked_options ret = first_options ret.code (whole_text (pos ret.level)) ++ ret.options

-- the outcome that it asks for
abbrev pub outcome_asked : {W : Type 0} → Ret → Text → (State W) → Res W (Wanted Behind)
outcome_asked ret text st = hand_on (coming ret.level ret.code) text (asked_options ret) st
