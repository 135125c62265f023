-- What a write on a channel does to the outside, and which channel has which name.
use Rattle.std.proofs.Common.{◌≡◌, ℕ, ◌+◌, ◌<◌, ◌≤◌, List, [], ◌∷◌, ◌++◌, length, take, sym, ap, ◌∙◌, refl, subst, arith, Option, Some, Result, Ok, Err, Bool, true, false}
use Rattle.std.specs.Prelude.{codes}
use Rattle.std.specs.Option.{option_map}
use Rattle.std.specs.Str.{chars, bytes_eq}
use Rattle.std.proofs.lemmas.Bool.Decides.{same_from_decides, Decides-like}
use Rattle.std.proofs.lemmas.Slice.Eq.{bytes_eq-Decides}
use Rattle.std.proofs.lemmas.Str.{encodes-chars, encodes-append}
use lib.Utf8.{encodes, encode}
use Rattle.tclv_text.specs.Texts.{IsText}
use Rattle.tclv_io.specs.declared.outside.WriteFault.{WriteFault}
use Rattle.tclv_io.specs.declared.outside.WriteFault.TheVariants as fault
use Rattle.tclv_io.specs.World.{World, add, written_to, after_write}
use Rattle.tclv_io.specs.Events.{Event}
use Rattle.tclv_io.specs.Causes.{WriteCause, TakesAtMost, torn_by}
use Rattle.tclv_model.specs.declared.messages.MessageId.TheVariants.{NotOpenForWriting, NoSuchChannel}
use Rattle.tclv_plain.specs.declared.channels.Channel.{Channel}
use Rattle.tclv_plain.specs.declared.channels.Channel.TheVariants as channel
use Rattle.tclv_engine.specs.declared.endings.End.{End}
use Rattle.tclv_engine.specs.declared.endings.End.TheVariants as end
use Rattle.tclv_engine.specs.declared.machine.Machine.{Machine}
use Rattle.tclv_engine.specs.Results.{Res, bind}
use Rattle.tclv_engine.specs.State.{Text, State, state_of}
use Rattle.tclv_engine.specs.Surroundings.{surroundings_of}
use Rattle.tclv_engine.specs.Names.{bytes_of}
use Rattle.tclv_engine.specs.Answers.{outer, start, Runs, returned, Caused, PushesOne}
use Rattle.tclv_engine.proofs.Binds.{answers_as}
use Rattle.tclv_plain.specs.ChannelRows.{HasNoCode, stop_of, events_of, write, target_of, number_of, channel_named, is_nonewline, line}
use Rattle.tclv_engine.proofs.EventLemmas.{no_part}

-- ---- the outside

number_written : (c : Channel) (piece : List ℕ) (w : World) → written_to (number_of c) piece w ≡ record w { out = add w.out (target_of c) piece }
number_written channel.Output piece w = refl
number_written channel.Errors piece w = refl

written_on : (to : ℕ) (c : Channel) (piece : List ℕ) (w : World) → to ≡ number_of c → written_to to piece w ≡ record w { out = add w.out (target_of c) piece }
written_on to c piece w e = ap (λ n. written_to n piece w) e ∙ number_written c piece w

told_on : (told now : Option World) (step : World → World) (w v : World) → told ≡ Some w → now ≡ option_map step told → step w ≡ v → now ≡ Some v
told_on told now step w v h e k = e ∙ ap (option_map step) h ∙ ap (λ x. Some x) k

-- ---- one event

-- nothing to write
pub writes_none : {W : Type 0} → (c : Channel) (m : (Machine W)) (piece : List ℕ) (told : Option World) (torn : ℕ) (w : World) → told ≡ Some w → length piece ≡ 0 →
    Runs {T = Unit {0}} (write (target_of c) piece (state_of m w)) returned (start m w torn) (Ok tt) m (outer told torn)
writes_none c m [] told torn w h e =
    let same : m.writes + 0 ≡ m.writes = omega arith in record {
      world = w;
      told = h;
      says = record {
        value = tt;
        ends = record { ending = refl; state = ap (λ n. record (state_of m w) { events = n }) same; out = refl; whole = refl; counted = sym same };
        shown = refl;
      };
    }
writes_none c m (b ∷ bs) told torn w h e = absurd (omega (arith, e))

-- the piece was written
pub writes_all : {W : Type 0} → (to : ℕ) (c : Channel) (m : (Machine W)) (count : ℕ) (piece : List ℕ) (told now : Option World) (torn after : ℕ) (w : World) →
    to ≡ number_of c → 0 < length piece → count ≡ m.writes + 1 → told ≡ Some w → now ≡ option_map (after_write {T = Unit {0}} to piece (Ok tt)) told → after ≡ torn + 0 →
    Runs {T = Unit {0}} (write (target_of c) piece (state_of m w)) returned (start m w torn) (Ok tt) (record m { writes = count }) (outer now after)
writes_all to c m count [] told now torn after w t l k h e s = absurd (omega (arith, l))
writes_all to c m count (b ∷ bs) told now torn after w t l k h e s = record {
  world = record w { out = add w.out (target_of c) (b ∷ bs) };
  told = told_on told now (after_write {T = Unit {0}} to (b ∷ bs) (Ok tt)) w _ h e (written_on to c (b ∷ bs) w t);
  says = record {
    value = tt;
    ends = record {
      ending = refl;
      state = ap (λ n. record (state_of m w) { surroundings = surroundings_of (record w { out = add w.out (target_of c) (b ∷ bs) }); events = n }) (sym k);
      out = refl;
      whole = omega (arith, s);
      counted = k;
    };
    shown = refl;
  };
}

-- the device failed, after it had taken some of the piece
pub writes_part : {W : Type 0} → (to : ℕ) (c : Channel) (m : (Machine W)) (part : ℕ) (piece : List ℕ) (told now : Option World) (torn after : ℕ) (w : World) →
    to ≡ number_of c → 0 < length piece → part ≤ length piece → told ≡ Some w → now ≡ option_map (after_write {T = Unit {0}} to piece (Err (fault.Partly part))) told → after ≡ torn + part →
    Runs {T = Unit {0}} (write (target_of c) piece (state_of m w)) returned (start m w torn) (Err end.Device) m (outer now after)
writes_part to c m part [] told now torn after w t l p h e s = absurd (omega (arith, l))
writes_part to c m part (b ∷ bs) told now torn after w t l p h e s = record {
  world = record w { out = add w.out (target_of c) (take part (b ∷ bs)) };
  told = told_on told now (after_write {T = Unit {0}} to (b ∷ bs) (Err (fault.Partly part))) w _ h e (written_on to c (take part (b ∷ bs)) w t);
  says = (part, record { first = []; rest = events_of (target_of c) (b ∷ bs); split = refl; out = refl; within = p; part_is = s; counted = omega arith });
}

-- nothing was written, for want of memory
pub writes_nothing : {W : Type 0} → (to : ℕ) (c : Channel) (m : (Machine W)) (piece : List ℕ) (told now : Option World) (torn after : ℕ) (w : World) →
    told ≡ Some w → now ≡ option_map (after_write {T = Unit {0}} to piece (Err fault.NoMemory)) told → after ≡ torn + 0 →
    Runs {T = Unit {0}} (write (target_of c) piece (state_of m w)) returned (start m w torn) (Err end.Memory) m (outer now after)
writes_nothing to c m piece told now torn after w h e s =
    let es = events_of (target_of c) piece in record {
      world = w;
      told = told_on told now (after_write {T = Unit {0}} to piece (Err fault.NoMemory)) w w h e refl;
      says = record { first = []; rest = es; split = refl; out = sym (no_part w.out es); within = omega arith; part_is = s; counted = omega arith };
    }

-- what a failed write leaves
pub writes_stopped : {W : Type 0} → (to : ℕ) (c : Channel) (m : (Machine W)) (f : WriteFault) (e : End) (piece : List ℕ) (told now : Option World) (torn after : ℕ) (w : World) →
    to ≡ number_of c → 0 < length piece → TakesAtMost {T = Unit {0}} piece (Err f) → e ≡ stop_of f → told ≡ Some w →
    now ≡ option_map (after_write {T = Unit {0}} to piece (Err f)) told → after ≡ torn + torn_by {T = Unit {0}} (Err f) →
    Runs {T = Unit {0}} (write (target_of c) piece (state_of m w)) returned (start m w torn) (Err e) m (outer now after)
writes_stopped to c m (fault.Partly part) e piece told now torn after w t l p s h k r = answers_as (ap Err s) (writes_part to c m part piece told now torn after w t l p h k r)
writes_stopped to c m fault.NoMemory e piece told now torn after w t l p s h k r = answers_as (ap Err s) (writes_nothing to c m piece told now torn after w h k r)

pub stop_caused : (f : WriteFault) (e : End) (before now : ℕ) → e ≡ stop_of f → WriteCause {T = Unit {0}} before now (Err f) → Caused {T = Unit {0}} before now (Err e)
stop_caused (fault.Partly part) e before now s h = subst (λ x. Caused {T = Unit {0}} before now (Err x)) (sym s) h
stop_caused fault.NoMemory e before now s h = subst (λ x. Caused {T = Unit {0}} before now (Err x)) (sym s) h

pub stop_has_no_code : (f : WriteFault) (e : End) → e ≡ stop_of f → HasNoCode {T = Unit {0}} (Err e)
stop_has_no_code (fault.Partly part) e s = subst (λ x. HasNoCode {T = Unit {0}} (Err x)) (sym s) tt
stop_has_no_code fault.NoMemory e s = subst (λ x. HasNoCode {T = Unit {0}} (Err x)) (sym s) tt

-- after a stop nothing is said of the stack
stop-pushes : (base now : List Text) (e : End) → HasNoCode {T = Unit {0}} (Err e) → PushesOne {T = Unit {0}} base (Err e) now
stop-pushes base now (end.Left l) h = absurd h
stop-pushes base now end.Budget h = tt
stop-pushes base now (end.Exit status) h = tt
stop-pushes base now end.Device h = tt
stop-pushes base now end.Memory h = tt

pub stop_pushes : (base now : List Text) (r : Result (Unit {0}) End) (e : End) → r ≡ Err e → HasNoCode {T = Unit {0}} (Err e) → PushesOne base r now
stop_pushes base now r e s h = subst (λ x. PushesOne base x now) (sym s) (stop-pushes base now e h)

-- ---- words

-- A text is an ASCII word exactly where its bytes are.
pub same_word : (bs word : List ℕ) → IsText bs → encodes word ≡ word → chars word ≡ word → bytes_eq bs word ≡ bytes_eq (chars bs) word
same_word bs word u e h =
    same_from_decides _ _ (bytes_eq-Decides bs word)
    (Decides-like (bytes_eq (chars bs) word) (λ p. sym (encodes-chars bs u.utf8) ∙ ap encodes p ∙ e) (λ q. ap chars q ∙ h) (bytes_eq-Decides (chars bs) word))

pub is_stdout : (bs : List ℕ) → IsText bs → bytes_eq bs (codes "stdout") ≡ bytes_eq (chars bs) (codes "stdout")
unfolding chars encode
is_stdout bs u = same_word bs (codes "stdout") u refl refl

pub is_stderr : (bs : List ℕ) → IsText bs → bytes_eq bs (codes "stderr") ≡ bytes_eq (chars bs) (codes "stderr")
unfolding chars encode
is_stderr bs u = same_word bs (codes "stderr") u refl refl

pub is_stdin : (bs : List ℕ) → IsText bs → bytes_eq bs (codes "stdin") ≡ bytes_eq (chars bs) (codes "stdin")
unfolding chars encode
is_stdin bs u = same_word bs (codes "stdin") u refl refl

pub is_option : (bs : List ℕ) → IsText bs → bytes_eq bs (codes "-nonewline") ≡ is_nonewline (chars bs)
unfolding chars encode
is_option bs u = same_word bs (codes "-nonewline") u refl refl

-- the bytes of a line
pub line_bytes : (bs : List ℕ) → IsText bs → bs ++ 10 ∷ [] ≡ bytes_of (line true (chars bs))
unfolding encode
line_bytes bs u = sym (encodes-append (chars bs) (10 ∷ []) ∙ ap (λ x. x ++ 10 ∷ []) (encodes-chars bs u.utf8))

-- ---- names of channels

pub named_output : (bs : List ℕ) (a : Bool) → IsText bs → a ≡ bytes_eq bs (codes "stdout") → a ≡ true → Ok channel.Output ≡ channel_named (chars bs)
named_output bs a u p h =
    let t : bytes_eq (chars bs) (codes "stdout") ≡ true = sym (is_stdout bs u) ∙ sym p ∙ h in rw t

pub named_errors : (bs : List ℕ) (a b : Bool) → IsText bs → a ≡ bytes_eq bs (codes "stdout") → a ≡ false → b ≡ bytes_eq bs (codes "stderr") → b ≡ true →
    Ok channel.Errors ≡ channel_named (chars bs)
named_errors bs a b u p h q k =
    let s : bytes_eq (chars bs) (codes "stdout") ≡ false = sym (is_stdout bs u) ∙ sym p ∙ h in
    let t : bytes_eq (chars bs) (codes "stderr") ≡ true = sym (is_stderr bs u) ∙ sym q ∙ k in rw (s, t)

pub named_input : (bs : List ℕ) (a b d : Bool) → IsText bs → a ≡ bytes_eq bs (codes "stdout") → a ≡ false → b ≡ bytes_eq bs (codes "stderr") → b ≡ false →
    d ≡ bytes_eq bs (codes "stdin") → d ≡ true → Err NotOpenForWriting ≡ channel_named (chars bs)
named_input bs a b d u p h q k r l =
    let s : bytes_eq (chars bs) (codes "stdout") ≡ false = sym (is_stdout bs u) ∙ sym p ∙ h in
    let t : bytes_eq (chars bs) (codes "stderr") ≡ false = sym (is_stderr bs u) ∙ sym q ∙ k in
    let v : bytes_eq (chars bs) (codes "stdin") ≡ true = sym (is_stdin bs u) ∙ sym r ∙ l in rw (s, t, v)

pub named_none : (bs : List ℕ) (a b d : Bool) → IsText bs → a ≡ bytes_eq bs (codes "stdout") → a ≡ false → b ≡ bytes_eq bs (codes "stderr") → b ≡ false →
    d ≡ bytes_eq bs (codes "stdin") → d ≡ false → Err NoSuchChannel ≡ channel_named (chars bs)
named_none bs a b d u p h q k r l =
    let s : bytes_eq (chars bs) (codes "stdout") ≡ false = sym (is_stdout bs u) ∙ sym p ∙ h in
    let t : bytes_eq (chars bs) (codes "stderr") ≡ false = sym (is_stderr bs u) ∙ sym q ∙ k in
    let v : bytes_eq (chars bs) (codes "stdin") ≡ false = sym (is_stdin bs u) ∙ sym r ∙ l in rw (s, t, v)

-- ---- no events

first_quiet : (xs ys : List Event) → xs ++ ys ≡ [] → xs ≡ []
first_quiet [] ys e = refl
first_quiet (x ∷ xs) ys e = cc

-- a computation has no events only where its first part has none
pub bind_quiet : {W A B : Type 0} (m : Res W A) (next : A → (State W) → Res W B) → (bind m next).events ≡ [] → m.events ≡ []
unfolding bind
bind_quiet m next e = first_quiet m.events _ e
