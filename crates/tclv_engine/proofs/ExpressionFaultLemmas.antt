-- The errors of texts that are no expressions.
use Rattle.std.specs.List.{prefix_len}
use Rattle.std.proofs.Common.{arith, ◌+◌, ◌≡◌, ℕ, zero, suc, ◌<◌, List, [], ◌∷◌, take, nat_lt, if◌then◌else◌, Bool, true, false, sym, ap, refl, subst, Err, Some, IsAscii}
use Rattle.std.proofs.lemmas.Str.Ascii.{IsAscii-nil}
use borrow.Author.Tests.{ltb-true}
use Rattle.tclv_io.specs.World.{World}
use Rattle.tclv_exprp.specs.declared.faults.ExprFault.{ExprFault}
use Rattle.tclv_exprp.specs.declared.faults.ExprFault.TheVariants as f
use Rattle.tclv_exprp.specs.declared.tree.ExprTree.{ExprTree}
use Rattle.tclv_exprp.specs.ExpressionGrammar.{expression}
use Rattle.tclv_exprp.specs.ExpressionGrammar as grammar
use Rattle.tclv_model.specs.declared.messages.MessageId.TheVariants as message
use Rattle.tclv_model.specs.declared.error_codes.ErrorCode.TheVariants.{NoCode, Overflow}
use Rattle.tclv_engine.specs.declared.endings.End.{End}
use Rattle.tclv_engine.specs.declared.machine.Machine.{Machine}
use Rattle.tclv_engine.specs.State.{Text, state_of}
use Rattle.tclv_engine.specs.Answers.{Outer, Runs, SameState}
use Rattle.tclv_engine.specs.ExpressionFaults.{is_ascii, ascii_front, Refuses}
use Rattle.tclv_engine.specs.Expressions.{parsed_by, parsed}
use Rattle.tclv_engine.proofs.Binds.{runs_as}
use Rattle.tclv_engine.proofs.Leaves.{raise_first, raise_bare, raise_runs, memory_runs}

-- ---- the word or number at fault

one-more : (n b : ℕ) (bs : List ℕ) → take (1 + n) (b ∷ bs) ≡ b ∷ take n bs
one-more n b bs = let e : 1 + n ≡ suc n = omega arith in ap (λ k. take k (b ∷ bs)) e

front-step : (b : ℕ) (bs : List ℕ) (r : Bool) → nat_lt b 128 ≡ r → ascii_front (b ∷ bs) ≡ (if r then b ∷ ascii_front bs else [])
front-step b bs true e = rw e (one-more (prefix_len is_ascii bs) b bs)
front-step b bs false e = rw e refl

ascii-cons : (b : ℕ) (bs : List ℕ) → b < 128 → IsAscii bs → IsAscii (b ∷ bs)
ascii-cons b bs h k zero = h
ascii-cons b bs h k (suc i) = k i

front-by : (b : ℕ) (bs : List ℕ) (r : Bool) → nat_lt b 128 ≡ r → IsAscii (ascii_front bs) → IsAscii (ascii_front (b ∷ bs))
front-by b bs true e h = subst IsAscii (sym (front-step b bs true e)) (ascii-cons b _ (ltb-true b 128 e) h)
front-by b bs false e h = subst IsAscii (sym (front-step b bs false e)) IsAscii-nil

pub front_ascii : (bs : List ℕ) → IsAscii (ascii_front bs)
front_ascii [] = IsAscii-nil
front_ascii (b ∷ bs) = front-by b bs (nat_lt b 128) refl (front_ascii bs)

-- ---- refusals

module _ {W : Type 0} (T : Type 0) (e : End) (shows : ExprTree → T → List Text → Type 0) (new : (Machine W)) (w : World) (here : Outer) (old : (Machine W)) (text : Text) (told : here.told ≡ Some w) (same : SameState old new) where
  told_by : (why : ExprFault) → Refuses why text new.values.store.stack e → Runs {T = T} (parsed_by text (Err why) (state_of old w)) shows (record { world = w; torn = here.torn; events = old.writes }) (Err e) new here
  told_by (f.Syntax at) k = raise_first old message.ExpressionSyntax message.ExpressionSyntax text NoCode NoCode told same refl refl k
  told_by (f.Bareword at len) k = raise_runs old told same k
  told_by (f.UnknownFunction at len) k = raise_first old message.UnknownMathFunction message.UnknownMathFunction _ NoCode NoCode told same refl refl k
  told_by (f.WrongCount at len) k = raise_first old message.WrongMathFunctionArguments message.WrongMathFunctionArguments _ NoCode NoCode told same refl refl k
  told_by (f.FloatLiteral at len) k = raise_first old message.FloatValue message.FloatValue _ NoCode NoCode told same refl refl k
  told_by f.TooDeep k = raise_first old message.ExpressionTooDeep message.ExpressionTooDeep text NoCode NoCode told same refl refl k
  told_by f.TooLarge k = raise_bare old message.IntegerTooLarge message.IntegerTooLarge Overflow Overflow told same refl refl k
  told_by f.NoMemory k = memory_runs (ap Err k) told same.events

  refused-as : (why : ExprFault) → expression text ≡ Err why → Refuses why text new.values.store.stack e → Runs {T = T} (parsed text (state_of old w)) shows (record { world = w; torn = here.torn; events = old.writes }) (Err e) new here
  refused-as why h k = runs_as (ap (λ r. parsed_by text r (state_of old w)) (sym h)) (told_by why k)

  -- a text that is no expression
  pub refused_runs : (why : ExprFault) → grammar.Answers (expression text) (Err why) → Refuses why text new.values.store.stack e → Runs {T = T} (parsed text (state_of old w)) shows (record { world = w; torn = here.torn; events = old.writes }) (Err e) new here
  refused_runs (f.Syntax at) h k = refused-as (f.Syntax at) h k
  refused_runs (f.Bareword at len) h k = refused-as (f.Bareword at len) h k
  refused_runs (f.UnknownFunction at len) h k = refused-as (f.UnknownFunction at len) h k
  refused_runs (f.WrongCount at len) h k = refused-as (f.WrongCount at len) h k
  refused_runs (f.FloatLiteral at len) h k = refused-as (f.FloatLiteral at len) h k
  refused_runs f.TooDeep h k = refused-as f.TooDeep h k
  refused_runs f.TooLarge h k = refused-as f.TooLarge h k
  refused_runs f.NoMemory h k = memory_runs (ap Err k) told same.events
