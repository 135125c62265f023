-- How the evaluation of a script ends a run.
use Rattle.std.proofs.Common.{◌≡◌, ℕ, List, [], ◌++◌, sym, ◌∙◌, ap, refl, subst, arith, Some, None, Err, append-nil}
use Rattle.std.specs.Prelude.{Option, Result, Ok}
use Rattle.tclv_io.specs.World.{World}
use Rattle.tclv_io.specs.Events.{Event, shown}
use Rattle.tclv_model.specs.declared.reports.Report.{Report}
use Rattle.tclv_model.specs.declared.reports.End.TheVariants as end
use Rattle.tclv_model.specs.declared.outcomes.Code.{Code}
use Rattle.tclv_model.specs.declared.outcomes.Code.TheVariants as code
use Rattle.tclv_model.specs.declared.outcomes.Pair.{Pair}
use Rattle.tclv_model.specs.declared.messages.MessageId.TheVariants as message
use Rattle.tclv_model.specs.Message.{text_of}
use Rattle.tclv_interp.specs.declared.interpreters.Interp.{Interp}
use Rattle.tclv_interp.specs.declared.interpreters.Stop.{Stop}
use Rattle.tclv_interp.specs.declared.interpreters.Stop.TheVariants as stop
use Rattle.tclv_engine.specs.State.{Text}
use Rattle.tclv_engine.specs.Results.{Ending, Outcome}
use Rattle.tclv_interp.specs.Commands.{Res}
use Rattle.tclv_engine.specs.Results as ending
use Rattle.tclv_engine.specs.Answers.{outer, AtWorld}
use Rattle.tclv_interp.specs.Interpreters.{state_over, writes_of, evaluation, EndsWith, Happened, CutShort, Evaluates, StopCause, options_at, result_of}
use Rattle.tclv_shell.specs.declared.halts.Halt.TheVariants.{Device, Memory}
use Rattle.tclv_shell.specs.Halts.{Seen, seen}
use Rattle.tclv_shell.specs.FileEnds.{file_error}
use Rattle.tclv_shell.specs.Run.{Meaning, Follows, FollowsBehind, at_file_end, with_message, without_message, meaning_of_ending, meaning_of_evaluation}
use Rattle.tclv_shell.proofs.Joins.{GoesOn, CutAt, goes_on_follows, cut_at_follows}

-- a meaning is that of these events and of another behind them
record Joined (meaning : Meaning) (events : List Event) (inner : Meaning) : Type 0 where
  events_are : meaning.events ≡ events ++ inner.events
  end_is : meaning.end ≡ inner.end
  status_is : meaning.status ≡ inner.status

file_joined : (es : List Event) (units : ℕ) (error : Option (List ℕ)) → Joined (at_file_end es units error) es (at_file_end [] 0 error)
file_joined es units None = record { events_are = sym (append-nil es); end_is = refl; status_is = refl }
file_joined es units (Some text) = record { events_are = refl; end_is = refl; status_is = refl }

code_joined : (es : List Event) (units : ℕ) (e : Ending Outcome) (c : Code) (text : Text) (options : List Pair) → EndsWith e c text options → Joined (meaning_of_ending es units e) es (at_file_end [] 0 (file_error c options text))
code_joined es units (ending.Done o) c text options is =
    subst (λ x. Joined (at_file_end es units (file_error code.Ok o.options o.text)) es (at_file_end [] 0 x))
    (ap (λ c. file_error c o.options o.text) (sym is.0) ∙ ap (λ t. file_error c o.options t) (sym is.1) ∙ ap (λ os. file_error c os text) (sym is.2))
    (file_joined es units (file_error code.Ok o.options o.text))
code_joined es units (ending.Left d t os) c text options is =
    subst (λ x. Joined (at_file_end es units (file_error d os t)) es (at_file_end [] 0 x))
    (ap (λ c. file_error c os t) (sym is.0) ∙ ap (λ t. file_error c os t) (sym is.1) ∙ ap (λ os. file_error c os text) (sym is.2))
    (file_joined es units (file_error d os t))
code_joined es units ending.Budget c text options is = absurd is
code_joined es units (ending.Exit n) c text options is = absurd is

budget_joined : (es : List Event) (units : ℕ) (e : Ending Outcome) → e ≡ ending.Budget → Joined (meaning_of_ending es units e) es (with_message [] 0 (text_of message.CommandLimitExceeded [] []) end.Budget)
budget_joined es units e is = rw is (record { events_are = refl; end_is = refl; status_is = refl })

exit_joined : (es : List Event) (units n : ℕ) (e : Ending Outcome) → e ≡ ending.Exit n → Joined (meaning_of_ending es units e) es (without_message [] 0 n)
exit_joined es units n e is = rw is (record { events_are = sym (append-nil es); end_is = refl; status_is = refl })

-- what happened before the end
goes : (m : Res Outcome) (meaning : Meaning) (inner : World → Meaning) (w v : World) (torn events : ℕ) (after : Interp) (tells : Option World) (faults now : ℕ) → events ≡ 0 → Happened m w torn events after.machine v now → tells ≡ Some v → ((u : World) → Joined meaning m.events (inner u)) → GoesOn meaning inner w.out torn tells (seen tells faults now) (writes_of after)
goes m meaning inner w v torn events after tells faults now none h told joined = record {
  events = m.events;
  world = v;
  told = told;
  out = h.out;
  torn = h.whole;
  count = omega (arith, h.counted);
  joined = (joined v).events_are;
  end = (joined v).end_is;
  status = (joined v).status_is;
}

code_goes : (script : Text) (w : World) (torn : ℕ) (before after : Interp) (c : Code) (tells : Option World) (faults now : ℕ) → writes_of before ≡ 0 → Evaluates (evaluation script (state_over before w)) w torn (writes_of before) (Ok c) (result_of after) (options_at after) after.machine (outer tells now) → GoesOn (meaning_of_evaluation script (state_over before w)) (λ u. at_file_end [] 0 (file_error c (options_at after) (result_of after))) w.out torn tells (seen tells faults now) (writes_of after)
code_goes script w torn before after c tells faults now none e =
    goes (evaluation script (state_over before w)) _ _ w e.world torn _ after tells faults now none e.says.1 e.told (λ u. code_joined _ _ _ c (result_of after) (options_at after) e.says.0)

budget_goes : (script : Text) (w : World) (torn : ℕ) (before after : Interp) (tells : Option World) (faults now : ℕ) → writes_of before ≡ 0 → Evaluates (evaluation script (state_over before w)) w torn (writes_of before) (Err stop.Budget) (result_of after) (options_at after) after.machine (outer tells now) → GoesOn (meaning_of_evaluation script (state_over before w)) (λ u. with_message [] 0 (text_of message.CommandLimitExceeded [] []) end.Budget) w.out torn tells (seen tells faults now) (writes_of after)
budget_goes script w torn before after tells faults now none e =
    goes (evaluation script (state_over before w)) _ _ w e.world torn _ after tells faults now none e.says.1 e.told (λ u. budget_joined _ _ _ e.says.0)

exit_goes : (script : Text) (w : World) (torn : ℕ) (before after : Interp) (n : ℕ) (tells : Option World) (faults now : ℕ) → writes_of before ≡ 0 → Evaluates (evaluation script (state_over before w)) w torn (writes_of before) (Err (stop.Exit n)) (result_of after) (options_at after) after.machine (outer tells now) → GoesOn (meaning_of_evaluation script (state_over before w)) (λ u. without_message [] 0 n) w.out torn tells (seen tells faults now) (writes_of after)
exit_goes script w torn before after n tells faults now none e =
    goes (evaluation script (state_over before w)) _ _ w e.world torn _ after tells faults now none e.says.1 e.told (λ u. exit_joined _ _ n _ e.says.0)

-- ---- cut short

-- the events of a meaning are those of the evaluation, and then some or none
record More (meaning : Meaning) (events : List Event) : Type 0 where
  more : List Event
  all : meaning.events ≡ events ++ more

file_more : (es : List Event) (units : ℕ) (error : Option (List ℕ)) → More (at_file_end es units error) es
file_more es units error = record { more = (at_file_end [] 0 error).events; all = (file_joined es units error).events_are }

ending_more : (es : List Event) (units : ℕ) (e : Ending Outcome) → More (meaning_of_ending es units e) es
ending_more es units (ending.Done o) = file_more es units (file_error code.Ok o.options o.text)
ending_more es units (ending.Left c text options) = file_more es units (file_error c options text)
ending_more es units ending.Budget = record { more = (with_message [] 0 (text_of message.CommandLimitExceeded [] []) end.Budget).events; all = refl }
ending_more es units (ending.Exit n) = record { more = []; all = sym (append-nil es) }

cut_goes : (script : Text) (w v : World) (torn part : ℕ) (before after : Interp) (tells : Option World) (faults now : ℕ) → writes_of before ≡ 0 → CutShort (evaluation script (state_over before w)) w torn (writes_of before) part after.machine v now → tells ≡ Some v → CutAt (meaning_of_evaluation script (state_over before w)) w.out torn (seen tells faults now) (writes_of after) part
cut_goes script w v torn part before after tells faults now none c told =
    let m = evaluation script (state_over before w) in
    let more = ending_more m.events _ m.ending in
    record {
      first = c.first;
      rest = c.rest;
      more = more.more;
      split = more.all ∙ ap (λ xs. xs ++ more.more) c.split;
      out = ap shown told ∙ ap Some c.out;
      within = c.within;
      torn = c.part_is;
      count = omega (arith, c.counted);
    }

-- ---- the run

-- what `eval` says of a script that ran from a state without events
pub record Ran (script : Text) (before after : Interp) (r : Result Code Stop) (told tells : Option World) (torn now : ℕ) (faults risen : ℕ) : Type 0 where
  pub fresh : writes_of before ≡ 0
  pub answer : AtWorld (outer told torn) (λ w. Evaluates (evaluation script (state_over before w)) w torn (writes_of before) r (result_of after) (options_at after) after.machine (outer tells now))
  pub cause : StopCause faults risen r

pub code_follows : (script : Text) (before after : Interp) (c : Code) (told tells : Option World) (torn now faults risen : ℕ) (a : Seen) (report : Report) → Ran script before after (Ok c) told tells torn now faults risen → FollowsBehind (writes_of after) (λ u. at_file_end [] 0 (file_error c (options_at after) (result_of after))) tells (seen tells risen now) a report → Follows (λ w. meaning_of_evaluation script (state_over before w)) told (seen told faults torn) a report
code_follows script before after c told tells torn now faults risen a report ran f =
    goes_on_follows (λ w. meaning_of_evaluation script (state_over before w)) (λ u. at_file_end [] 0 (file_error c (options_at after) (result_of after))) told tells (seen told faults torn) (seen tells risen now) a (writes_of after) f.own report
    (λ w e. code_goes script w torn before after c tells risen now ran.fresh (ran.answer w e)) ran.cause f.follows f.end f.status f.writes

pub budget_follows : (script : Text) (before after : Interp) (told tells : Option World) (torn now faults risen : ℕ) (a : Seen) (report : Report) → Ran script before after (Err stop.Budget) told tells torn now faults risen → FollowsBehind (writes_of after) (λ u. with_message [] 0 (text_of message.CommandLimitExceeded [] []) end.Budget) tells (seen tells risen now) a report → Follows (λ w. meaning_of_evaluation script (state_over before w)) told (seen told faults torn) a report
budget_follows script before after told tells torn now faults risen a report ran f =
    goes_on_follows (λ w. meaning_of_evaluation script (state_over before w)) (λ u. with_message [] 0 (text_of message.CommandLimitExceeded [] []) end.Budget) told tells (seen told faults torn) (seen tells risen now) a (writes_of after) f.own report
    (λ w e. budget_goes script w torn before after tells risen now ran.fresh (ran.answer w e)) ran.cause f.follows f.end f.status f.writes

pub exit_follows : (script : Text) (before after : Interp) (n : ℕ) (told tells : Option World) (torn now faults risen : ℕ) (a : Seen) (report : Report) → Ran script before after (Err (stop.Exit n)) told tells torn now faults risen → FollowsBehind (writes_of after) (λ u. without_message [] 0 n) tells (seen tells risen now) a report → Follows (λ w. meaning_of_evaluation script (state_over before w)) told (seen told faults torn) a report
exit_follows script before after n told tells torn now faults risen a report ran f =
    goes_on_follows (λ w. meaning_of_evaluation script (state_over before w)) (λ u. without_message [] 0 n) told tells (seen told faults torn) (seen tells risen now) a (writes_of after) f.own report
    (λ w e. exit_goes script w torn before after n tells risen now ran.fresh (ran.answer w e)) ran.cause f.follows f.end f.status f.writes

pub device_follows : (script : Text) (before after : Interp) (told tells : Option World) (torn now faults risen : ℕ) (report : Report) → Ran script before after (Err stop.Device) told tells torn now faults risen → report.end ≡ end.Device → report.status ≡ 124 → report.writes ≡ writes_of after → Follows (λ w. meaning_of_evaluation script (state_over before w)) told (seen told faults torn) (seen tells risen now) report
device_follows script before after told tells torn now faults risen report ran is status writes =
    cut_at_follows (λ w. meaning_of_evaluation script (state_over before w)) told Device (seen told faults torn) (seen tells risen now) report
    (λ w e.
    let says = (ran.answer w e).says in
    let cut = cut_goes script w (ran.answer w e).world torn says.0 before after tells risen now ran.fresh says.1 (ran.answer w e).told in
    (says.0, subst (λ n. CutAt (meaning_of_evaluation script (state_over before w)) w.out torn (seen tells risen now) n says.0) (sym writes) cut, tt))
    ran.cause is status

pub memory_follows : (script : Text) (before after : Interp) (told tells : Option World) (torn now faults risen : ℕ) (report : Report) → Ran script before after (Err stop.Memory) told tells torn now faults risen → report.end ≡ end.Memory → report.status ≡ 123 → report.writes ≡ writes_of after → Follows (λ w. meaning_of_evaluation script (state_over before w)) told (seen told faults torn) (seen tells risen now) report
memory_follows script before after told tells torn now faults risen report ran is status writes =
    cut_at_follows (λ w. meaning_of_evaluation script (state_over before w)) told Memory (seen told faults torn) (seen tells risen now) report
    (λ w e.
    let cut = cut_goes script w (ran.answer w e).world torn 0 before after tells risen now ran.fresh (ran.answer w e).says (ran.answer w e).told in
    (0, subst (λ n. CutAt (meaning_of_evaluation script (state_over before w)) w.out torn (seen tells risen now) n 0) (sym writes) cut, refl))
    ran.cause is status
