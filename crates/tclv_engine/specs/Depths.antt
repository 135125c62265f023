-- At most 200 evaluations stand in one another. The depth of a state is how many do.
use Rattle.std.specs.Prelude.{◌≡◌, ◌+◌, ◌<◌, ◌≤◌, List, []}
use Rattle.tclv_parse.specs.declared.tree.Script.{Script, out-Script}
use Rattle.tclv_model.specs.declared.messages.MessageId.TheVariants as message
use Rattle.tclv_model.specs.declared.error_codes.ErrorCode.TheVariants.{NoCode}
use Rattle.tclv_engine.specs.State.{Text, State}
use Rattle.tclv_engine.specs.Results.{plain, raise}
use Rattle.tclv_engine.specs.Evaluation.{Given, whole, sequence, paid_call, back_to}

-- Where 200 stand in one another no more begins: that is an error, which takes no unit and changes nothing.
abbrev pub IsFull : {W K : Type 0} → Given W K → Script → State W → Type 0
IsFull given s st = 200 ≤ st.depth → (whole given).script s st ≡ raise message.TooManyNestedEvaluations [] [] NoCode st

-- Else the commands run with one more, and behind them as many stand in one another as before, however they ended.
abbrev pub IsOneMore : {W K : Type 0} → Given W K → Script → State W → Type 0
IsOneMore given s st = st.depth < 200 →
    (whole given).script s st ≡ back_to st.depth (sequence given (whole given) (plain []) (out-Script s).commands (out-Script s).fault (record st { depth = st.depth + 1 }))

-- The same of words that are run as one command.
abbrev pub IsFullOfWords : {W K : Type 0} → Given W K → List Text → State W → Type 0
IsFullOfWords given ws st = 200 ≤ st.depth → (whole given).words ws st ≡ raise message.TooManyNestedEvaluations [] [] NoCode st

abbrev pub IsOneMoreOfWords : {W K : Type 0} → Given W K → List Text → State W → Type 0
IsOneMoreOfWords given ws st = st.depth < 200 → (whole given).words ws st ≡ back_to st.depth (paid_call given (whole given) ws (record st { depth = st.depth + 1 }))
