-- Three scripts one behind another are enough for what a command wants.
use Rattle.std.proofs.Common.{◌≡◌, ◌≤◌, ◌++◌, ℕ, zero, suc, List, arith, refl, ap, Option, Some, None}
use Rattle.tclv_text.specs.Quotes.{list_text}
use Rattle.tclv_model.specs.declared.outcomes.Code.{Code}
use Rattle.tclv_model.specs.declared.outcomes.Code.TheVariants as code
use Rattle.tclv_model.specs.declared.outcomes.Pair.{Pair}
use Rattle.tclv_engine.specs.Results.{Ending, Done, Left, Budget, Exit, Outcome, go_on, bind, plain, code_text}
use Rattle.tclv_engine.specs.State.{Text}
use Rattle.tclv_engine.specs.Plans.{Inner, Here, There, Conclusion, Wanted, Finished, Run, Called, AtLevel, Value, Choice, Tested, Started, Each}
use Rattle.tclv_engine.specs.Plans as plans
use Rattle.tclv_control.specs.declared.behind.Behind.{Behind}
use Rattle.tclv_control.specs.declared.behind.Behind.TheVariants.{HandOn, Catch, Body, Handler, Finally, Procedure}
use Rattle.tclv_ctl.specs.Handlers.{Handler as TryHandler, handlers_of, handler_for}
use Rattle.tclv_engine.specs.DataAnswers.{of_answer}
use Rattle.tclv_control.specs.CatchRows.{note, caught}
use Rattle.tclv_control.specs.TryRows.{at_last, error_code_of, handled, note_both, settled, started_by, unless}
use Rattle.tclv_control.specs.Finishing.{finish}
use Rattle.tclv_control.specs.HandingOn.{hand_on}
use Rattle.tclv_control.specs.Levels.{leveled, level_of, returned_from, stored_code, with_level}
use Rattle.tclv_control.specs.Outcomes.{option_words}
use Rattle.tclv_engine.specs.Evaluation.{steady, concluding, inner, around, perform, perform_by}
use Rattle.tclv_interp.specs.Commands.{Evaluator, State, Res, shell}
use Rattle.tclv_interp.specs.Counts.{ThreeAreEnough}

go-same : {A B : Type 0} (e : Ending A) (st : State) (next next' : A → State → Res B) → ((a : A) (s : State) → next a s ≡ next' a s) → go_on e st next ≡ go_on e st next'
go-same (Done a) st next next' h = h a st
go-same (Left c text options) st next next' h = refl
go-same Budget st next next' h = refl
go-same (Exit n) st next next' h = refl

bind-same : {A B : Type 0} (m : Res A) (next next' : A → State → Res B) → ((a : A) (s : State) → next a s ≡ next' a s) → bind m next ≡ bind m next'
unfolding bind
bind-same m next next' h =
    let put : Res _ → Res _ = λ r. record r { events = m.events ++ r.events } in
    ap put (go-same m.ending m.after next next' h)

-- ---- how many scripts are run at most

-- each value that comes is one of these
abbrev IsWithin : (Wanted Behind → Type 0) → Ending (Wanted Behind) → Type 0
IsWithin P (Done p) = P p
IsWithin P (Left c t os) = Unit {0}
IsWithin P Budget = Unit {0}
IsWithin P (Exit n) = Unit {0}

-- What is wanted leads to so many scripts at most, however each of them ends.
abbrev Within : ℕ → Wanted Behind → Type 0
Within zero (Run t b) = ⊥
Within zero (Called d texts b) = ⊥
Within zero (AtLevel level t b) = ⊥
Within (suc n) (Run t b) = (e : Conclusion) (st : State) → IsWithin (Within n) (finish b e st).ending
Within (suc n) (Called d texts b) = (e : Conclusion) (st : State) → IsWithin (Within n) (finish b e st).ending
Within (suc n) (AtLevel level t b) = (e : Conclusion) (st : State) → IsWithin (Within n) (finish b e st).ending
Within n (Finished o) = Unit {0}
Within n (Value t) = Unit {0}
Within n (Choice list last) = Unit {0}
Within n (Tested test body) = Unit {0}
Within n (Started start test next body) = Unit {0}
Within n (Each groups body keep) = Unit {0}

within-next : (P : Wanted Behind → Type 0) (run run' : Inner → Behind → State → Res Outcome) (ev : Evaluator) → ((p : Wanted Behind) → P p → (st : State) → perform_by ev run p st ≡ perform_by ev run' p st) →
    (e : Ending (Wanted Behind)) (st : State) → IsWithin P e → go_on e st (λ p s. perform_by ev run p s) ≡ go_on e st (λ p s. perform_by ev run' p s)
within-next P run run' ev same (Done p) st h = same p h st
within-next P run run' ev same (Left c t os) st h = refl
within-next P run run' ev same Budget st h = refl
within-next P run run' ev same (Exit n) st h = refl

within-same : (P : Wanted Behind → Type 0) (run run' : Inner → Behind → State → Res Outcome) (ev : Evaluator) → ((p : Wanted Behind) → P p → (st : State) → perform_by ev run p st ≡ perform_by ev run' p st) →
    (m : Res (Wanted Behind)) → IsWithin P m.ending → bind m (λ p s. perform_by ev run p s) ≡ bind m (λ p s. perform_by ev run' p s)
unfolding bind
within-same P run run' ev same m h =
    let put : Res _ → Res _ = λ r. record r { events = m.events ++ r.events } in
    ap put (within-next P run run' ev same m.ending m.after h)

-- two bounds by one higher give the same of what is run, where they give the same of what stands behind it
run-same : (n k j : ℕ) (ev : Evaluator) → ((p : Wanted Behind) → Within n p → (st : State) → perform_by ev (around k shell ev) p st ≡ perform_by ev (around j shell ev) p st) →
    (i : Inner) (b : Behind) → ((e : Conclusion) (st : State) → IsWithin (Within n) (finish b e st).ending) → (st : State) → around (suc k) shell ev i b st ≡ around (suc j) shell ev i b st
run-same n k j ev same i b w st =
    bind-same (concluding (inner ev i st)) _ _
    (λ e s. within-same (Within n) (around k shell ev) (around j shell ev) ev same (steady (finish b e) s) (w e s))

-- every bound that is at least so many gives the same
same-at : (n left right : ℕ) (ev : Evaluator) → n ≤ left → n ≤ right → (p : Wanted Behind) → Within n p → (st : State) → perform_by ev (around left shell ev) p st ≡ perform_by ev (around right shell ev) p st
same-at zero left right ev l r (Run t b) w st = absurd w
same-at zero left right ev l r (Called d texts b) w st = absurd w
same-at zero left right ev l r (AtLevel level t b) w st = absurd w
same-at (suc n) zero right ev l r (Run t b) w st = absurd (omega (arith, l))
same-at (suc n) zero right ev l r (Called d texts b) w st = absurd (omega (arith, l))
same-at (suc n) zero right ev l r (AtLevel level t b) w st = absurd (omega (arith, l))
same-at (suc n) (suc k) zero ev l r (Run t b) w st = absurd (omega (arith, r))
same-at (suc n) (suc k) zero ev l r (Called d texts b) w st = absurd (omega (arith, r))
same-at (suc n) (suc k) zero ev l r (AtLevel level t b) w st = absurd (omega (arith, r))
same-at (suc n) (suc k) (suc j) ev l r (Run t b) w st =
    run-same n k j ev (λ p h s1. same-at n k j ev (omega (arith, l)) (omega (arith, r)) p h s1) (Here t) b w st
same-at (suc n) (suc k) (suc j) ev l r (Called d texts b) w st =
    run-same n k j ev (λ p h s1. same-at n k j ev (omega (arith, l)) (omega (arith, r)) p h s1) (plans.Body d texts) b w st
same-at (suc n) (suc k) (suc j) ev l r (AtLevel level t b) w st =
    run-same n k j ev (λ p h s1. same-at n k j ev (omega (arith, l)) (omega (arith, r)) p h s1) (There level t) b w st
same-at n left right ev l r (Finished o) w st = refl
same-at n left right ev l r (Value t) w st = refl
same-at n left right ev l r (Choice list last) w st = refl
same-at n left right ev l r (Tested test body) w st = refl
same-at n left right ev l r (Started start test next body) w st = refl
same-at n left right ev l r (Each groups body keep) w st = refl

-- ---- what stands behind a script

go-within : {A : Type 0} (P : Wanted Behind → Type 0) (e : Ending A) (st : State) (next : A → State → Res (Wanted Behind)) → ((a : A) (s : State) → IsWithin P (next a s).ending) → IsWithin P (go_on e st next).ending
go-within P (Done a) st next h = h a st
go-within P (Left c t os) st next h = tt
go-within P Budget st next h = tt
go-within P (Exit n) st next h = tt

bind-within : {A : Type 0} (P : Wanted Behind → Type 0) (m : Res A) (next : A → State → Res (Wanted Behind)) → ((a : A) (s : State) → IsWithin P (next a s).ending) → IsWithin P (bind m next).ending
unfolding bind
bind-within P m next h = go-within P m.ending m.after next h

finished-within : (n : ℕ) (o : Outcome) → Within n (Finished o)
finished-within zero o = tt
finished-within (suc n) o = tt

handed-within : (n : ℕ) (c : Code) (t : Text) (os : List Pair) (st : State) → IsWithin (Within n) (hand_on c t os st).ending
handed-within n code.Ok t os st = finished-within n (record { text = t; options = os })
handed-within n code.Error t os st = tt
handed-within n code.Return t os st = tt
handed-within n code.Break t os st = tt
handed-within n code.Continue t os st = tt
handed-within n (code.Other m) t os st = tt

caught-within : (n : ℕ) (name options : Option Text) (e : Conclusion) (st : State) → IsWithin (Within n) (caught name options e st).ending
caught-within n name options e st =
    bind-within (Within n) (note name e.text st) _
    (λ t s1. bind-within (Within n) (note options (list_text (option_words e.options)) s1) _ (λ os s2. finished-within n (plain (code_text e.code))))

unless-within : (n : ℕ) (k c : Code) (t : Text) (os : List Pair) (e : Conclusion) (st : State) → IsWithin (Within n) (unless k c t os e st).ending
unless-within n code.Ok c t os e st = handed-within n c t os st
unless-within n code.Error c t os e st = handed-within n e.code e.text e.options st
unless-within n code.Return c t os e st = handed-within n e.code e.text e.options st
unless-within n code.Break c t os e st = handed-within n e.code e.text e.options st
unless-within n code.Continue c t os e st = handed-within n e.code e.text e.options st
unless-within n (code.Other m) c t os e st = handed-within n e.code e.text e.options st

last-within : (n : ℕ) (finally : Option Text) (e : Conclusion) (st : State) → IsWithin (Within (suc n)) (at_last finally e st).ending
last-within n None e st = handed-within (suc n) e.code e.text e.options st
last-within n (Some script) e st = λ f s. unless-within n f.code e.code e.text e.options f s

started-within : (n : ℕ) (script : Text) (finally : Option Text) (left : Option Conclusion) (st : State) → IsWithin (Within (suc (suc n))) (started_by script finally left st).ending
started-within n script finally None st = λ e s. last-within n finally e s
started-within n script finally (Some e) st = last-within (suc n) finally e st

handled-within : (n : ℕ) (found : Option TryHandler) (finally : Option Text) (e : Conclusion) (st : State) → IsWithin (Within (suc (suc n))) (handled found finally e st).ending
handled-within n None finally e st = last-within (suc n) finally e st
handled-within n (Some h) finally e st = bind-within (Within (suc (suc n))) (settled (note_both h.names e.text e.options st)) _ (λ left s. started-within n h.script finally left s)

returned-within : (k : ℕ) (n : ℕ) (t : Text) (os : List Pair) (st : State) → IsWithin (Within k) (returned_from n t os st).ending
returned-within k zero t os st = finished-within k (plain t)
returned-within k (suc zero) t os st = handed-within k (stored_code os) t (with_level 0 os) st
returned-within k (suc (suc n)) t os st = tt

leveled-within : (k : ℕ) (c : Code) (t : Text) (os : List Pair) (st : State) → IsWithin (Within k) (leveled c t os st).ending
leveled-within k code.Ok t os st = handed-within k code.Ok t os st
leveled-within k code.Error t os st = handed-within k code.Error t os st
leveled-within k code.Return t os st = returned-within k (level_of os) t os st
leveled-within k code.Break t os st = tt
leveled-within k code.Continue t os st = tt
leveled-within k (code.Other n) t os st = handed-within k (code.Other n) t os st

-- behind each script two more at most
two-behind : (b : Behind) (e : Conclusion) (st : State) → IsWithin (Within 2) (finish b e st).ending
two-behind HandOn e st = handed-within 2 e.code e.text e.options st
two-behind (Catch name options) e st = caught-within 2 name options e st
two-behind (Body call words) e st =
    bind-within (Within 2) (of_answer (handlers_of call words) st) _ (λ said s. handled-within 0 (handler_for e.code (error_code_of e.options) said.handlers) said.finally e s)
two-behind (Handler finally) e st = last-within 1 finally e st
two-behind (Finally c t os) e st = unless-within 2 e.code c t os e st
two-behind Procedure e st = leveled-within 2 e.code e.text e.options st

three-within : (p : Wanted Behind) → Within 3 p
three-within (Run t b) = two-behind b
three-within (Called d texts b) = two-behind b
three-within (AtLevel level t b) = two-behind b
three-within (Finished o) = tt
three-within (Value t) = tt
three-within (Choice list last) = tt
three-within (Tested test body) = tt
three-within (Started start test next body) = tt
three-within (Each groups body keep) = tt

pub three_are_enough : (ev : Evaluator) (p : Wanted Behind) (st : State) → ThreeAreEnough ev p st
three_are_enough ev p st left h = same-at 3 left 3 ev h (omega arith) p (three-within p) st
