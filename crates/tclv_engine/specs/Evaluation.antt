-- The evaluation of a script.
use Rattle.std.specs.Prelude.{ℕ, zero, suc, ◌+◌, nat_lt, if◌then◌else◌, List, [], ◌∷◌, Option, Some, None}
use Rattle.tclv_parse.specs.Grammar.{commands}
use Rattle.tclv_parse.specs.declared.faults.ParseFault.{ParseFault}
use Rattle.tclv_parse.specs.declared.faults.ParseFault.TheVariants as parse_fault
use Rattle.tclv_parse.specs.declared.tree.Command.{Command, out-Command}
use Rattle.tclv_parse.specs.declared.tree.Script.{Script, out-Script}
use Rattle.tclv_model.specs.declared.outcomes.Code.TheVariants as code
use Rattle.tclv_model.specs.declared.messages.MessageId.{MessageId}
use Rattle.tclv_model.specs.declared.messages.MessageId.TheVariants as message
use Rattle.tclv_model.specs.declared.error_codes.ErrorCode.TheVariants.{NoCode}
use Rattle.tclv_engine.specs.State.{Text, State}
use Rattle.tclv_engine.specs.Results.{Ending, Done, Left, Budget, Exit, Res, Outcome, ends, done, ok, plain, bind, raise}
use Rattle.tclv_engine.specs.Units.{take_unit}
use Rattle.tclv_engine.specs.Words.{Evaluator, words}
use Rattle.tclv_engine.specs.Expressions.{condition, evaluated}
use Rattle.tclv_engine.specs.TestedLoops.{tested_loop, started_loop}
use Rattle.tclv_engine.specs.EachLoops.{each_of, result_of}
use Rattle.tclv_engine.specs.Frames.{framed, level_current, entered}
use Rattle.tclv_value.specs.Procedures.{Procedure}
use Rattle.tclv_engine.specs.Plans.{Lead, Script as ScriptLead, Refused, Nothing, Alternative, Inner, Here, Body, There, Wanted, Finished, Run, Called, AtLevel, Value, Choice, Tested, Started, Each, Conclusion}

-- What the evaluation is given: what the words of a command want done, and what is done behind a script that ended. Neither evaluates anything.
pub record Given (W K : Type 0) : Type 0 where
  pub plan : List Text → (State W) → Res W (Wanted K)
  pub finish : K → Conclusion → (State W) → Res W (Wanted K)

-- A step that takes no unit: the units after it are those before.
abbrev pub steady : {W A : Type 0} → ((State W) → Res W A) → (State W) → Res W A
steady step st = let r = step st in record r { after = record r.after { units = st.units } }

-- ---- how a script ended, as a value

-- Each code is a conclusion; nothing concludes a stop.
abbrev pub conclusion : Ending Outcome → Ending Conclusion
conclusion (Done o) = Done (record { code = code.Ok; text = o.text; options = o.options })
conclusion (Left c text options) = Done (record { code = c; text = text; options = options })
conclusion Budget = Budget
conclusion (Exit n) = Exit n

abbrev pub concluding : {W : Type 0} → Res W Outcome → Res W Conclusion
concluding r = record { ending = conclusion r.ending; after = r.after; events = r.events }

-- ---- performing what is wanted

-- a text as a script
abbrev pub text : {W : Type 0} → (Evaluator W) → Text → (State W) → Res W Outcome
text ev t st = ev.script (commands t) st

-- the value of an expression, as a result
abbrev pub value_result : {W : Type 0} → (Evaluator W) → Text → (State W) → Res W Outcome
value_result ev t st = bind (evaluated ev t st) ok

-- what a true test leads to
abbrev pub lead : {W : Type 0} → (Evaluator W) → Lead → (State W) → Res W Outcome
lead ev (ScriptLead t) st = text ev t st
lead ev (Refused kind first) st = raise kind first [] NoCode st
lead ev Nothing st = ok [] st

-- Tests are evaluated one after another, up to the first that is true; where none is, the last lead counts.
unfoldable pub choose : {W : Type 0} → (Evaluator W) → List Alternative → Lead → (State W) → Res W Outcome
choose ev [] last st = lead ev last st
choose ev (a ∷ rest) last st = bind (condition ev a.test st) (λ b s1. if b then lead ev a.lead s1 else choose ev rest last s1)

-- The body of a procedure, in a frame of its own, in which its parameters have these texts.
abbrev pub body_inside : {W : Type 0} → (Evaluator W) → Procedure → List Text → (State W) → Res W Outcome
body_inside ev d texts st = bind (steady (entered d texts) st) (λ u s1. text ev d.body s1)

abbrev pub body : {W : Type 0} → (Evaluator W) → Procedure → List Text → (State W) → Res W Outcome
body ev d texts st = framed (body_inside ev d texts) st

-- A script in the frame of a level.
abbrev pub at_level : {W : Type 0} → (Evaluator W) → ℕ → Text → (State W) → Res W Outcome
at_level ev level t st = framed (λ s. text ev t (level_current level s)) st

abbrev pub inner : {W : Type 0} → (Evaluator W) → Inner → (State W) → Res W Outcome
inner ev (Here t) st = text ev t st
inner ev (Body d texts) st = body ev d texts st
inner ev (There level t) st = at_level ev level t st

-- what is wanted, where `run` runs a script or a body with something behind it
abbrev pub perform_by : {W K : Type 0} → (Evaluator W) → (Inner → K → (State W) → Res W Outcome) → Wanted K → (State W) → Res W Outcome
perform_by ev run (Finished o) st = done o st
perform_by ev run (Run t behind) st = run (Here t) behind st
perform_by ev run (Called d texts behind) st = run (Body d texts) behind st
perform_by ev run (AtLevel level t behind) st = run (There level t) behind st
perform_by ev run (Value t) st = value_result ev t st
perform_by ev run (Choice alternatives last) st = choose ev alternatives last st
perform_by ev run (Tested test body) st = tested_loop ev test body st
perform_by ev run (Started start test next body) st = started_loop ev start test next body st
perform_by ev run (Each groups body keep) st = each_of (result_of keep) ev body groups st

-- A script or a body, and then what is wanted behind it, however it ended. No command wants more than three of them one behind another.
abbrev pub around : {W K : Type 0} → ℕ → Given W K → (Evaluator W) → Inner → K → (State W) → Res W Outcome
around zero given ev i behind st = ends Budget st
around (suc left) given ev i behind st =
    bind (concluding (inner ev i st)) (λ e s1. bind (steady (given.finish behind e) s1) (λ p s2. perform_by ev (around left given ev) p s2))

abbrev pub perform : {W K : Type 0} → ℕ → Given W K → (Evaluator W) → Wanted K → (State W) → Res W Outcome
perform left given ev p st = perform_by ev (around left given ev) p st

-- ---- commands

-- What the words of a command do: the first names the command. A command left with no words gives the empty text.
unfoldable pub call : {W K : Type 0} → Given W K → (Evaluator W) → List Text → (State W) → Res W Outcome
call given ev [] st = ok [] st
call given ev (name ∷ args) st = bind (steady (given.plan (name ∷ args)) st) (λ p s1. perform 3 given ev p s1)

-- A command takes its unit first. Then its words are substituted, and then it runs.
unfoldable pub command : {W K : Type 0} → Given W K → (Evaluator W) → Command → (State W) → Res W Outcome
command given ev c st =
    bind (take_unit st) (λ u s1. bind (words ev [] (out-Command c).words s1) (λ texts s2. call given ev texts s2))

-- ---- scripts

-- the message of a fault of the grammar
abbrev pub fault_message : ParseFault → MessageId
fault_message parse_fault.CloseBrace = message.MissingCloseBrace
fault_message parse_fault.CloseQuote = message.MissingCloseQuote
fault_message parse_fault.CloseBracket = message.MissingCloseBracket
fault_message parse_fault.AfterBrace = message.ExtraAfterCloseBrace
fault_message parse_fault.AfterQuote = message.ExtraAfterCloseQuote
fault_message parse_fault.CloseParen = message.MissingCloseParenthesis
fault_message parse_fault.VarBrace = message.MissingVariableCloseBrace
fault_message parse_fault.TooDeep = message.TooManyNestedBrackets

-- Behind the last command a fault is an error, which costs no unit; else the outcome is that of the last command.
abbrev pub end_of : {W : Type 0} → Option ParseFault → Outcome → (State W) → Res W Outcome
end_of None last st = done last st
end_of (Some fault) last st = raise (fault_message fault) [] [] NoCode st

-- The commands in order; `last` is the outcome of the one before. An outcome that isn't ok ends the script.
unfoldable pub sequence : {W K : Type 0} → Given W K → (Evaluator W) → Outcome → List Command → Option ParseFault → (State W) → Res W Outcome
sequence given ev last [] fault st = end_of fault last st
sequence given ev last (c ∷ cs) fault st = bind (command given ev c st) (λ o s1. sequence given ev o cs fault s1)

-- ---- evaluations

-- the number of the evaluation goes back to n
abbrev pub back_to : {W : Type 0} → ℕ → Res W Outcome → Res W Outcome
back_to n r = record { ending = r.ending; after = record r.after { depth = n }; events = r.events }

-- An evaluation of its own. There are at most 200; that is tested before all else.
unfoldable pub nested : {W : Type 0} → ((State W) → Res W Outcome) → (State W) → Res W Outcome
nested body st =
    if nat_lt st.depth 200 then back_to st.depth (body (record st { depth = st.depth + 1 })) else raise message.TooManyNestedEvaluations [] [] NoCode st

-- A script runs its commands in an evaluation of its own. A script without a command gives the empty text.
abbrev pub evaluate : {W K : Type 0} → Given W K → (Evaluator W) → Script → (State W) → Res W Outcome
evaluate given ev s st = nested (sequence given ev (plain []) (out-Script s).commands (out-Script s).fault) st

-- Words are run as one command, which takes its unit, in an evaluation of its own.
abbrev pub paid_call : {W K : Type 0} → Given W K → (Evaluator W) → List Text → (State W) → Res W Outcome
paid_call given ev ws st = bind (take_unit st) (λ u s1. call given ev ws s1)

abbrev pub evaluate_words : {W K : Type 0} → Given W K → (Evaluator W) → List Text → (State W) → Res W Outcome
evaluate_words given ev ws st = nested (paid_call given ev ws) st

-- scripts and words, over what evaluates inside them
abbrev pub evaluating : {W K : Type 0} → Given W K → (Evaluator W) → (Evaluator W)
evaluating given ev = record { script = evaluate given ev; words = evaluate_words given ev }

-- where no unit is left, no command runs, so what its inner scripts do doesn't count
abbrev pub none_left : {W : Type 0} → (Evaluator W)
none_left = record { script = λ s st. ends Budget st; words = λ ws st. ends Budget st }

-- The evaluator at a bound on the units: a command takes a unit, so what it evaluates is at the bound below.
unfoldable pub evaluator : {W K : Type 0} → Given W K → ℕ → (Evaluator W)
evaluator given zero = evaluating given none_left
evaluator given (suc bound) = evaluating given (evaluator given bound)

-- The meaning of a script, and of words: at the units that are left. By a law they do what their commands do whose inner scripts have this
-- meaning again, and every bound that is at least the units left gives the same; so no bound shows.
unfoldable pub whole_script : {W K : Type 0} → Given W K → Script → (State W) → Res W Outcome
whole_script given s st = (evaluator given st.units).script s st

unfoldable pub whole_words : {W K : Type 0} → Given W K → List Text → (State W) → Res W Outcome
whole_words given ws st = (evaluator given st.units).words ws st

abbrev pub whole : {W K : Type 0} → Given W K → (Evaluator W)
whole given = record { script = whole_script given; words = whole_words given }
