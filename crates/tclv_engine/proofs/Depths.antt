-- An evaluation is one of at most 200.
use Rattle.std.proofs.Common.{◌≡◌, ◌≤◌, ◌<◌, ◌+◌, ℕ, List, [], rules, sym, ap, ◌∙◌, true, false, nat_lt, if◌then◌else◌, Result, Ok, Err}
use Rattle.tclv_io.specs.World.{World}
use Rattle.tclv_parse.specs.declared.tree.Script.{Script, out-Script}
use Rattle.tclv_model.specs.declared.messages.MessageId.TheVariants as message
use Rattle.tclv_model.specs.declared.error_codes.ErrorCode.TheVariants.{NoCode}
use Rattle.tclv_engine.specs.declared.endings.Carried.{Carried}
use Rattle.tclv_engine.specs.declared.endings.End.{End}
use Rattle.tclv_engine.specs.declared.endings.End.TheVariants as end
use Rattle.tclv_engine.specs.declared.machine.Machine.{Machine}
use Rattle.tclv_engine.specs.State.{Text, State}
use Rattle.tclv_engine.specs.Results.{Ending, Res, Outcome, raise, plain}
use Rattle.tclv_engine.specs.Evaluation.{Given, whole, nested, sequence, paid_call, back_to}
use Rattle.tclv_engine.specs.Answers.{Outer, Start, Ends, Cut, Says, Runs, as_outcome}
use Rattle.tclv_engine.proofs.BoundLemmas.{is_whole, is_whole_of_words}

-- the commands of a script, in the state that its evaluation begins in
abbrev pub inside : {W K : Type 0} → Given W K → Script → State W → Res W Outcome
inside given s st = sequence given (whole given) (plain []) (out-Script s).commands (out-Script s).fault (record st { depth = st.depth + 1 })

-- an evaluation past the limit
pub over_limit : {W K : Type 0} → (given : Given W K) (s : Script) (st : State W) → 200 ≤ st.depth → raise message.TooManyNestedEvaluations [] [] NoCode st ≡ (whole given).script s st
unfolding nested
over_limit given s st h =
    let no : nat_lt st.depth 200 ≡ false = search (rules, h) in
    sym (is_whole given s st ∙ ap (λ b. if b then back_to st.depth (inside given s st) else raise message.TooManyNestedEvaluations [] [] NoCode st) no)

-- and one within it
pub under_limit : {W K : Type 0} → (given : Given W K) (s : Script) (st : State W) → st.depth < 200 → back_to st.depth (inside given s st) ≡ (whole given).script s st
unfolding nested
under_limit given s st h =
    let yes : nat_lt st.depth 200 ≡ true = search (rules, h) in
    sym (is_whole given s st ∙ ap (λ b. if b then back_to st.depth (inside given s st) else raise message.TooManyNestedEvaluations [] [] NoCode st) yes)

-- the same of words
pub words_over_limit : {W K : Type 0} → (given : Given W K) (ws : List Text) (st : State W) → 200 ≤ st.depth → (whole given).words ws st ≡ raise message.TooManyNestedEvaluations [] [] NoCode st
unfolding nested
words_over_limit given ws st h =
    let no : nat_lt st.depth 200 ≡ false = search (rules, h) in
    is_whole_of_words given ws st
    ∙ ap (λ b. if b then back_to st.depth (paid_call given (whole given) ws (record st { depth = st.depth + 1 })) else raise message.TooManyNestedEvaluations [] [] NoCode st) no

pub words_under_limit : {W K : Type 0} → (given : Given W K) (ws : List Text) (st : State W) → st.depth < 200 →
    (whole given).words ws st ≡ back_to st.depth (paid_call given (whole given) ws (record st { depth = st.depth + 1 }))
unfolding nested
words_under_limit given ws st h =
    let yes : nat_lt st.depth 200 ≡ true = search (rules, h) in
    is_whole_of_words given ws st
    ∙ ap (λ b. if b then back_to st.depth (paid_call given (whole given) ws (record st { depth = st.depth + 1 })) else raise message.TooManyNestedEvaluations [] [] NoCode st) yes

abbrev pub depth_is : {W : Type 0} → ℕ → (Machine W) → (Machine W)
depth_is n s = record s { depth = n }

abbrev pub state_depth : {W : Type 0} → ℕ → (State W) → (State W)
state_depth n s = record s { depth = n }

back-ends : {W : Type 0} → (n : ℕ) (m : Res W Outcome) (s : Start) (e : Ending Outcome) (after : (Machine W)) (w : World) (torn : ℕ) → Ends m s e after w torn → Ends (back_to n m) s e (depth_is n after) w torn
back-ends n m s e after w torn h = record { ending = h.ending; state = ap (state_depth n) h.state; out = h.out; whole = h.whole; counted = h.counted }

back-cut : {W : Type 0} → (n : ℕ) (m : Res W Outcome) (s : Start) (part : ℕ) (after : (Machine W)) (w : World) (torn : ℕ) → Cut m s part after w torn → Cut (back_to n m) s part (depth_is n after) w torn
back-cut n m s part after w torn h = record { first = h.first; rest = h.rest; split = h.split; out = h.out; within = h.within; part_is = h.part_is; counted = h.counted }

back-says : {W : Type 0} → (n : ℕ) (m : Res W Outcome) (s : Start) (r : Result Carried End) (after : (Machine W)) (w : World) (torn : ℕ) →
    Says m as_outcome s r after w torn → Says (back_to n m) as_outcome s r (depth_is n after) w torn
back-says n m s (Ok u) after w torn h = record { value = h.value; ends = back-ends n m s _ after w torn h.ends; shown = h.shown }
back-says n m s (Err (end.Left l)) after w torn h = back-ends n m s _ after w torn h
back-says n m s (Err end.Budget) after w torn h = back-ends n m s _ after w torn h
back-says n m s (Err (end.Exit k)) after w torn h = back-ends n m s _ after w torn h
back-says n m s (Err end.Device) after w torn h = (h.0, back-cut n m s h.0 after w torn h.1)
back-says n m s (Err end.Memory) after w torn h = back-cut n m s 0 after w torn h

pub back_runs : {W : Type 0} → (n : ℕ) (m : Res W Outcome) (s : Start) (r : Result Carried End) (after : (Machine W)) (now : Outer) → Runs m as_outcome s r after now → Runs (back_to n m) as_outcome s r (depth_is n after) now
back_runs n m s r after now h = record { world = h.world; told = h.told; says = back-says n m s r after h.world now.torn h.says }
