-- The row of `exit`.
use Rattle.std.specs.Prelude.{ℕ, List, [], ◌∷◌, ℤ, pos, unsigned_abs}
use Rattle.std.specs.Int.{int_rem_euclid}
use Rattle.tclv_model.specs.declared.usages.Usage.TheVariants as command
use Rattle.tclv_model.specs.Usages.{usage_of}
use Rattle.tclv_engine.specs.State.{Text, State}
use Rattle.tclv_engine.specs.Results.{Res, Exit, Outcome, bind, ends}
use Rattle.tclv_engine.specs.Usages.{usage}
use Rattle.tclv_engine.specs.WholeNumbers.{whole_number}

-- The status of a number is what it leaves modulo 256, from 0 to 255, also of negative numbers.
abbrev pub status_of : ℤ → ℕ
status_of n = unsigned_abs (int_rem_euclid n (pos 256))

-- The run ends with the status of the number that a text is.
abbrev pub exit_with : {W : Type 0} → Text → (State W) → Res W Outcome
exit_with code st = bind (whole_number code st) (λ n after. ends (Exit (status_of n)) after)

-- `exit ?returnCode?`: the run ends, with status 0 where there is no number.
abbrev pub row_exit : {W : Type 0} → List Text → (State W) → Res W Outcome
row_exit (word ∷ []) st = ends (Exit 0) st
row_exit (word ∷ code ∷ []) st = exit_with code st
row_exit words st = usage (usage_of command.Exit) words st
