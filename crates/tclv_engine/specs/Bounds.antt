-- The meaning of a script, and of words, is one, and no bound on the units shows in it.
use Rattle.std.specs.Prelude.{◌≡◌, ℕ, ◌≤◌, List}
use Rattle.tclv_parse.specs.declared.tree.Script.{Script}
use Rattle.tclv_engine.specs.State.{Text, State}
use Rattle.tclv_engine.specs.Evaluation.{Given, evaluate, evaluate_words, evaluator, whole}

-- A script does what its commands do, whose inner scripts have the same meaning.
abbrev pub IsWhole : {W K : Type 0} → Given W K → Script → (State W) → Type 0
IsWhole given s st = (whole given).script s st ≡ evaluate given (whole given) s st

-- Every bound that is at least the units left gives that meaning.
abbrev pub BoundsAgree : {W K : Type 0} → Given W K → Script → (State W) → Type 0
BoundsAgree given s st = (bound : ℕ) → st.units ≤ bound → (evaluator given bound).script s st ≡ (whole given).script s st

-- Words do what a command does, whose inner scripts have the same meaning.
abbrev pub IsWholeOfWords : {W K : Type 0} → Given W K → List Text → (State W) → Type 0
IsWholeOfWords given ws st = (whole given).words ws st ≡ evaluate_words given (whole given) ws st

abbrev pub BoundsAgreeOnWords : {W K : Type 0} → Given W K → List Text → (State W) → Type 0
BoundsAgreeOnWords given ws st = (bound : ℕ) → st.units ≤ bound → (evaluator given bound).words ws st ≡ (whole given).words ws st
