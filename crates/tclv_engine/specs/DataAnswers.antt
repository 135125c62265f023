-- What the answer of a data command's row does in a script: a refusal is an error.
use Rattle.std.specs.Prelude.{List, drop}
use Rattle.tclv_model.specs.Rows.{Answer, Gives, Refuses}
use Rattle.tclv_engine.specs.State.{Text, State}
use Rattle.tclv_engine.specs.Results.{Res, done, error}

-- an answer, as a computation: a refusal is an error
abbrev pub of_answer : {W A : Type 0} → Answer A → (State W) → Res W A
of_answer (Gives a) st = done a st
of_answer (Refuses kind message errorcode) st = error message errorcode st

-- the words behind the word of the call
abbrev pub arguments : List Text → List Text
arguments words = drop 1 words
