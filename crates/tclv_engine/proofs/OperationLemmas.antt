-- What operators give, by what their operands are.
use Rattle.std.specs.Prelude.{◌||◌}
use Rattle.std.specs.Ordering.{is_eq}
use Rattle.std.proofs.lemmas.List.{at_drop_all}
use Rattle.tclv_engine.proofs.Walks.{drops_one}
use Rattle.std.proofs.Common.{◌+◌, ◌<◌, ◌≤◌, drop, get_or, [], subst, Err, Some, refl, ℕ, ◌≡◌, ◌∙◌, sym, ap, Bool, false, List, length, Result, Option}
use Rattle.std.specs.Prelude.{ℤ}
use Rattle.std.specs.Str.{chars}
use Rattle.tclv_text.specs.declared.numbers.WholeFault.{WholeFault}
use Rattle.tclv_text.specs.Numbers.{whole}
use Rattle.tclv_text.specs.Truths.{truth}
use Rattle.tclv_exprp.specs.declared.operators.Op1.{Op1}
use Rattle.tclv_exprp.specs.declared.operators.Op1.TheVariants as u
use Rattle.tclv_exprp.specs.declared.operators.Op2.{Op2}
use Rattle.tclv_exprp.specs.declared.operators.Op2.TheVariants as o
use Rattle.tclv_io.specs.World.{World}
use Rattle.tclv_model.specs.declared.messages.MessageId.{MessageId}
use Rattle.tclv_model.specs.Message.{text_of}
use Rattle.tclv_model.specs.declared.error_codes.ErrorCode.{ErrorCode}
use Rattle.tclv_engine.specs.declared.endings.End.{End}
use Rattle.tclv_engine.specs.declared.machine.Machine.{Machine}
use Rattle.tclv_model.specs.ErrorCodes.{error_code}
use Rattle.tclv_engine.specs.Answers.{Outer, Runs, Raises, SameState}
use Rattle.tclv_engine.proofs.Leaves.{raise_runs}
use Rattle.tclv_engine.specs.State.{Text, State, state_of}
use Rattle.tclv_engine.specs.Operations.{operand_message, operand_code, operand_by, operand, truth_by, truth_of, unary_sign, sign, order, is_among}

-- the signs as the code writes them
pub unary_sign-chars : (op : Op1) → chars (unary_sign op) ≡ unary_sign op
unfolding chars
unary_sign-chars u.Minus = refl
unary_sign-chars u.Plus = refl
unary_sign-chars u.Invert = refl
unary_sign-chars u.Not = refl

pub sign-chars : (op : Op2) → chars (sign op) ≡ sign op
unfolding chars
sign-chars o.Power = refl
sign-chars o.Times = refl
sign-chars o.Divide = refl
sign-chars o.Remainder = refl
sign-chars o.Add = refl
sign-chars o.Subtract = refl
sign-chars o.ShiftLeft = refl
sign-chars o.ShiftRight = refl
sign-chars o.BitAnd = refl
sign-chars o.BitXor = refl
sign-chars o.BitOr = refl
sign-chars o.Equal = refl
sign-chars o.NotEqual = refl
sign-chars o.Less = refl
sign-chars o.Greater = refl
sign-chars o.LessEqual = refl
sign-chars o.GreaterEqual = refl

-- an operand, by what it is as a number
pub operand_is : {W : Type 0} → (sign text : Text) (r : Result ℤ WholeFault) (st : (State W)) → r ≡ whole text → operand_by sign text r st ≡ operand sign text st
operand_is sign text r st e = ap (λ x. operand_by sign text x st) e

pub truth_is : {W : Type 0} → (text : Text) (r : Option Bool) (st : (State W)) → r ≡ truth text → truth_by text r st ≡ truth_of text st
truth_is text r st e = ap (λ x. truth_by text x st) e

-- the operand at a place of the stack, with the sign as the code writes it
pub operand_at : {W : Type 0} → (op : Op2) (written : List ℕ) (now stack : List Text) (i k : ℕ) (st : (State W)) → written ≡ sign op → now ≡ stack → i ≡ k →
    operand (chars written) (get_or now i []) st ≡ operand (sign op) (get_or stack k []) st
operand_at op written now stack i k st e h j =
    ap (λ x. operand (chars x) (get_or now i []) st) e ∙ ap (λ x. operand x (get_or now i []) st) (sign-chars op)
    ∙ ap (λ s. operand (sign op) (get_or s i []) st) h ∙ ap (λ n. operand (sign op) (get_or stack n []) st) j

-- an operand that is no number
pub operand_refused : {W T : Type 0} {e : End} {shows : ℤ → T → List Text → Type 0} {new : (Machine W)} {w : World} {here : Outer} (old : (Machine W)) (why : WholeFault) (kind : MessageId) (errorcode : ErrorCode) (first first' sign : Text) →
    here.told ≡ Some w → SameState old new → kind ≡ operand_message why → errorcode ≡ operand_code why → first ≡ first' →
    Raises (text_of kind first sign) (error_code errorcode first) new.values.store.stack e →
    Runs {T = T} (operand_by sign first' (Err why) (state_of old w)) shows (record { world = w; torn = here.torn; events = old.writes }) (Err e) new here
operand_refused {e = e} {new = new} old why kind errorcode first first' sign told same p q h k =
    let P : MessageId → Type 0 = λ x. Raises (text_of x first sign) (error_code errorcode first) new.values.store.stack e in
    let Q : ErrorCode → Type 0 = λ x. Raises (text_of (operand_message why) first sign) (error_code x first) new.values.store.stack e in
    let R : Text → Type 0 = λ x. Raises (text_of (operand_message why) x sign) (error_code (operand_code why) x) new.values.store.stack e in
    raise_runs old told same (subst R h (subst Q q (subst P p k)))

-- ---- elements

pub among-step : (x : Text) (ts : List Text) (i : ℕ) (t : Text) → i < length ts → get_or ts i t ≡ t → is_among x (drop i ts) ≡ (is_eq (order x t) || is_among x (drop (i + 1) ts))
unfolding is_among
among-step x ts i t h e = ap (λ xs. is_among x xs) (sym (drops_one ts i t h e))

pub among-end : (x : Text) (ts : List Text) (i : ℕ) → length ts ≤ i → is_among x (drop i ts) ≡ false
unfolding is_among
among-end x ts i h = at_drop_all (λ xs. is_among x xs) ts i h
