-- Frames that bodies and scripts run in.
use Rattle.std.proofs.Common.{◌≡◌, ℕ, zero, suc, ◌+◌, ◌-◌, ◌<◌, ◌≤◌, List, [], ◌∷◌, refl, if◌then◌else◌, length, map, drop, get_or, Result, Ok, Err, ap, sym, subst, ◌∙◌, rules, arith, Bool, true, false}
use Rattle.std.specs.Prelude.{codes}
use Rattle.std.specs.Str.{chars}
use Rattle.std.proofs.lemmas.List.{get_or-drop, length-map, drop-drop}
use Rattle.tclv_value.specs.declared.procedures.Param.{Param}
use Rattle.tclv_io.specs.World.{World}
use Rattle.tclv_vars.specs.Scoping.{at_level}
use Rattle.tclv_vars.specs.Table.{Table, at_scopes, begun}
use Rattle.tclv_engine.specs.declared.endings.Carried.{Carried}
use Rattle.tclv_engine.specs.declared.endings.End.{End}
use Rattle.tclv_engine.specs.declared.endings.End.TheVariants as end
use Rattle.tclv_engine.specs.declared.machine.Machine.{Machine}
use Rattle.tclv_engine.specs.Holdings.{Holdings}
use Rattle.tclv_engine.specs.State.{Text, State, state_of, variables_in}
use Rattle.tclv_engine.specs.Results.{Ending, Left, Res, Outcome, bind, done}
use Rattle.tclv_engine.specs.Variables.{assign}
use Rattle.tclv_engine.specs.ListAssignment.{assign_each, unseen}
use Rattle.tclv_engine.specs.Answers.{Outer, Start, Ends, Cut, Says, Runs, PushesOne, as_outcome, code_of, options_of, last_of}
use Rattle.tclv_engine.proofs.Binds.{bind_ok, bind_stop}
use Rattle.tclv_engine.proofs.Leaves.{done_runs}
use Rattle.tclv_engine.specs.Frames.{in_frame, back_from, framed, level_current, new_frame, names_of, rest_name, Restored}

-- by the count of frames and the current one
pub framed_by : {W : Type 0} → (body : State W → Res W Outcome) (count frame : ℕ) (st : State W) → count ≡ length (variables_in st).scopes.frames → frame ≡ (variables_in st).scopes.current →
    back_from count frame (body st) ≡ framed body st
framed_by body count frame st c f = ap (λ n. back_from n frame (body st)) c ∙ ap (λ n. back_from (length (variables_in st).scopes.frames) n (body st)) f

restored-state : {W : Type 0} → (count frame : ℕ) (old new : Machine W) (w : World) → Restored count frame old new → in_frame count frame (state_of old w) ≡ state_of new w
restored-state count frame old new w r = sym (rw (r.vars, r.cells, r.own, r.units, r.depth, r.events))

restored-ends : {W : Type 0} → (count frame : ℕ) (m : Res W Outcome) (s : Start) (e : Ending Outcome) (old new : Machine W) (w : World) (torn : ℕ) → Restored count frame old new → Ends m s e old w torn →
    Ends (back_from count frame m) s e new w torn
restored-ends count frame m s e old new w torn r h =
    record { ending = h.ending; state = ap (in_frame count frame) h.state ∙ restored-state count frame old new w r; out = h.out; whole = h.whole; counted = r.events ∙ h.counted }

restored-cut : {W : Type 0} → (count frame : ℕ) (m : Res W Outcome) (s : Start) (part : ℕ) (old new : Machine W) (w : World) (torn : ℕ) → Restored count frame old new → Cut m s part old w torn →
    Cut (back_from count frame m) s part new w torn
restored-cut count frame m s part old new w torn r h =
    record { first = h.first; rest = h.rest; split = h.split; out = h.out; within = h.within; part_is = h.part_is; counted = r.events ∙ h.counted }

restored-says : {W : Type 0} → (count frame : ℕ) (m : Res W Outcome) (s : Start) (x : Result Carried End) (old new : Machine W) (w : World) (torn : ℕ) → Restored count frame old new →
    Says m as_outcome s x old w torn → Says (back_from count frame m) as_outcome s x new w torn
restored-says count frame m s (Ok kept) old new w torn r h =
    record { value = h.value; ends = restored-ends count frame m s _ old new w torn r h.ends; shown = subst (λ stack. as_outcome h.value kept stack) (sym r.stack) h.shown }
restored-says count frame m s (Err (end.Left l)) old new w torn r h =
    subst (λ stack. Ends (back_from count frame m) s (Left (code_of l) (last_of stack) (options_of l)) new w torn) (sym r.stack) (restored-ends count frame m s _ old new w torn r h)
restored-says count frame m s (Err end.Budget) old new w torn r h = restored-ends count frame m s _ old new w torn r h
restored-says count frame m s (Err (end.Exit n)) old new w torn r h = restored-ends count frame m s _ old new w torn r h
restored-says count frame m s (Err end.Device) old new w torn r h = (h.0, restored-cut count frame m s h.0 old new w torn r h.1)
restored-says count frame m s (Err end.Memory) old new w torn r h = restored-cut count frame m s 0 old new w torn r h

-- a computation went on to the frames before
pub restored_runs : {W : Type 0} {count frame : ℕ} {m : Res W Outcome} {s : Start} {x : Result Carried End} {old new : Machine W} {now : Outer} → Restored count frame old new →
    Runs m as_outcome s x old now → Runs (back_from count frame m) as_outcome s x new now
restored_runs {count = count} {frame = frame} {m = m} {s = s} {x = x} {old = old} {new = new} {now = now} r h =
    record { world = h.world; told = h.told; says = restored-says count frame m s x old new h.world now.torn r h.says }

pub restored_pushes : {T : Type 0} (r : Result T End) (base mid new : List Text) → new ≡ mid → PushesOne base r mid → PushesOne base r new
restored_pushes r base mid new e h = subst (λ s. PushesOne base r s) (sym e) h

-- the frame of a level is current
pub level_state : {W : Type 0} → (old : Machine W) (values : Holdings) (level : ℕ) (w : World) → values.vars ≡ at_scopes old.values.vars (at_level old.values.vars.scopes level) →
    values.store.cells ≡ old.values.store.cells → state_of (record old { values = values }) w ≡ level_current level (state_of old w)
level_state old values level w v c = rw (v, c)

-- a new frame is current
pub new_frame_state : {W : Type 0} → (old : Machine W) (values : Holdings) (w : World) → values.vars ≡ begun old.values.vars 0 true → values.store.cells ≡ old.values.store.cells →
    state_of (record old { values = values }) w ≡ new_frame (state_of old w)
new_frame_state old values w v c = rw (v, c)

-- ---- parameters

pub names_length : (ps : List Param) → length (names_of ps) ≡ length ps
names_length ps = length-map {B = Text} ps (λ (p : Param). p.name)

-- the name of a parameter
pub name_at : (ps : List Param) (i : ℕ) (d : Param) → i < length ps → (get_or ps i d).name ≡ get_or (names_of ps) i []
name_at [] i d h = absurd (omega (arith, h))
name_at (p ∷ ps) zero d h = refl
name_at (p ∷ ps) (suc i) d h = name_at ps i d (omega (arith, h))

pub args_text : chars (codes "args") ≡ codes "args"
unfolding chars
args_text = refl

-- an assignment, of which nothing shows
pub unit_runs : {W : Type 0} {m : Res W Text} {s : Start} {after : Machine W} {now : Outer} (r : Result (Unit {0}) End) → Runs {T = Unit {0}} m unseen s r after now →
    Runs {T = Unit {0}} (bind m (λ kept s1. done (tt {0}) s1)) unseen s r after now
unit_runs (Ok u) h = bind_ok _ h (λ a v e shown. done_runs e refl tt)
unit_runs (Err e) h = bind_stop {S = Unit {0}} {T = Unit {0}} (λ kept s1. done (tt {0}) s1) h

pub rest_some : {W : Type 0} → (rest : Bool) (from : ℕ) (stack : List Text) (st : State W) → rest ≡ true →
    bind (assign (codes "args") (get_or stack from []) st) (λ kept s1. done tt s1) ≡ assign_each (rest_name rest) (drop from stack) st
unfolding assign_each
rest_some rest from stack st h =
    ap (λ v. bind (assign (codes "args") v st) (λ kept s1. done tt s1)) (sym (get_or-drop from stack 0 [] ∙ ap (λ k. get_or stack k []) (omega arith)))
    ∙ ap (λ b. assign_each (rest_name b) (drop from stack) st) (sym h)

pub rest_none : {W : Type 0} → (rest : Bool) (from : ℕ) (stack : List Text) (st : State W) → rest ≡ false → done tt st ≡ assign_each (rest_name rest) (drop from stack) st
unfolding assign_each
rest_none rest from stack st h = ap (λ b. assign_each (rest_name b) (drop from stack) st) (sym h)

-- the texts of parameters, by the place behind those that have names
pub texts_from : (rest : Bool) (end count : ℕ) (stack : List Text) → count + (if rest then 1 else 0) ≤ length stack → end ≡ length stack - (if rest then 1 else 0) →
    drop (end - count) stack ≡ drop (length stack - (count + (if rest then 1 else 0))) stack
texts_from true end count stack h e = ap (λ k. drop k stack) (omega (arith, h, e))
texts_from false end count stack h e = ap (λ k. drop k stack) (omega (arith, h, e))

pub drops_both : (n m : ℕ) (stack : List Text) → drop (n + m) stack ≡ drop m (drop n stack)
drops_both n m stack = sym (drop-drop m n stack)
