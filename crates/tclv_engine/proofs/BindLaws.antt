-- The laws of `bind`.
use Rattle.std.proofs.Common.{◌≡◌, List, [], ◌++◌, refl, ap, ◌∙◌}
use Rattle.std.proofs.lemmas.List.{append_assoc, append-nil}
use Rattle.tclv_io.specs.Events.{Event}
use Rattle.tclv_engine.specs.State.{State}
use Rattle.tclv_engine.specs.Results.{Ending, Done, Left, Budget, Exit, Res, done, go_on, bind}

abbrev res : {W A : Type 0} → Ending A → (State W) → List Event → Res W A
res e st es = record { ending = e; after = st; events = es }

-- a value without events is handed on
pub bind_value : {W A B : Type 0} (a : A) (st : (State W)) (f : A → (State W) → Res W B) → bind (done a st) f ≡ f a st
unfolding bind
bind_value a st f = refl

assoc-by : {W A B C : Type 0} (e : Ending A) (st : (State W)) (es : List Event) (f : A → (State W) → Res W B) (g : B → (State W) → Res W C) →
    bind (bind (res e st es) f) g ≡ bind (res e st es) (λ a s. bind (f a s) g)
unfolding bind
assoc-by (Done a) st es f g =
    let second = f a st in
    let third = go_on second.ending second.after g in
    ap (λ x. res third.ending third.after x) (append_assoc es second.events third.events)
assoc-by (Left c t os) st es f g = ap (λ x. res (Left c t os) st x) (append-nil (es ++ []))
assoc-by Budget st es f g = ap (λ x. res Budget st x) (append-nil (es ++ []))
assoc-by (Exit n) st es f g = ap (λ x. res (Exit n) st x) (append-nil (es ++ []))

pub bind_assoc : {W A B C : Type 0} (m : Res W A) (f : A → (State W) → Res W B) (g : B → (State W) → Res W C) → bind (bind m f) g ≡ bind m (λ a s. bind (f a s) g)
bind_assoc m f g = assoc-by m.ending m.after m.events f g

cong-by : {W A B : Type 0} (e : Ending A) (st : (State W)) (es : List Event) (f g : A → (State W) → Res W B) → ((a : A) (s : (State W)) → f a s ≡ g a s) → bind (res e st es) f ≡ bind (res e st es) g
unfolding bind
cong-by {W} {A} {B} (Done a) st es f g h =
    let behind : Res W B → Res W B = λ r. res r.ending r.after (es ++ r.events) in
    ap behind (h a st)
cong-by (Left c t os) st es f g h = refl
cong-by Budget st es f g h = refl
cong-by (Exit n) st es f g h = refl

-- what follows is the same where it is the same at each value
pub bind_cong : {W A B : Type 0} (m : Res W A) (f g : A → (State W) → Res W B) → ((a : A) (s : (State W)) → f a s ≡ g a s) → bind m f ≡ bind m g
bind_cong m f g h = cong-by m.ending m.after m.events f g h

-- two steps and what is behind them
pub bind_then : {W A B C : Type 0} (m : Res W A) (f : A → (State W) → Res W B) (g : B → (State W) → Res W C) (h : A → (State W) → Res W C) → ((a : A) (s : (State W)) → bind (f a s) g ≡ h a s) →
    bind (bind m f) g ≡ bind m h
bind_then m f g h k = bind_assoc m f g ∙ bind_cong m (λ a s. bind (f a s) g) h k
