-- A text that becomes a result, and a result that becomes a text.
use Rattle.std.proofs.Common.{◌≡◌, List, refl, Result, Ok, Err}
use Rattle.tclv_engine.specs.declared.endings.End.{End}
use Rattle.tclv_engine.specs.declared.endings.End.TheVariants as end
use Rattle.tclv_engine.specs.declared.machine.Machine.{Machine}
use Rattle.tclv_engine.specs.State.{Text, State}
use Rattle.tclv_engine.specs.Results.{Res, Outcome, done, ok, bind}
use Rattle.tclv_engine.specs.Answers.{Outer, Start, Runs, Pushes, as_result, on_top}
use Rattle.tclv_engine.proofs.Binds.{bind_ok, bind_stop}
use Rattle.tclv_engine.proofs.Leaves.{done_runs}

-- the text on top is the result
pub result_runs : {W : Type 0} → (m : Res W Text) (s : Start) (r : Result (Unit {0}) End) (after : (Machine W)) (now : Outer) → Runs m on_top s r after now → Runs (bind m (λ t st. ok t st)) as_result s r after now
result_runs m s (Ok u) after now h = bind_ok _ h (λ t v e shown. done_runs e refl (shown, refl))
result_runs m s (Err x) after now h = bind_stop _ h

-- the result is a text
pub text_runs : {W : Type 0} → (m : Res W Outcome) (s : Start) (r : Result (Unit {0}) End) (after : (Machine W)) (now : Outer) → Runs m as_result s r after now → Runs (bind m (λ o st. done o.text st)) on_top s r after now
text_runs m s (Ok u) after now h = bind_ok _ h (λ o v e shown. done_runs e refl shown.0)
text_runs m s (Err x) after now h = bind_stop _ h

-- a value alone is handed on
pub ok-done : {W : Type 0} → (t : Text) (st : (State W)) → bind (done t st) (λ a s. ok a s) ≡ ok t st
unfolding bind
ok-done t st = refl

-- a push that isn't ok ran out of memory
pub push-memory : (text : Text) (base : List Text) (e : End) (stack : List Text) → Pushes {T = Unit {0}} text base (Err e) stack → e ≡ end.Memory
push-memory text base (end.Left l) stack h = absurd h
push-memory text base end.Budget stack h = absurd h
push-memory text base (end.Exit n) stack h = absurd h
push-memory text base end.Device stack h = absurd h
push-memory text base end.Memory stack h = refl
