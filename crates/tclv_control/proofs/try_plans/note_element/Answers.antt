use Rattle.std.proofs.Common.{rules, sym, ap, refl, ◌≡◌, ◌<◌, ◌≤◌, ◌-◌, length}
use Rattle.std.specs.Prelude.{slice_get}
use Rattle.tclv_reply.proofs.Laws.{get_none}
use Rattle.tclv_engine.specs.State.{state_of}
use Rattle.tclv_engine.specs.Answers.{last_of}
use Rattle.tclv_engine.specs.Plans.{placed}
use Rattle.tclv_engine.specs.ListAssignment.{listed}
use Rattle.tclv_engine.proofs.Binds.{runs_as}
use Rattle.tclv_engine.proofs.Leaves.{memory_runs, value_runs, from_same}
use Rattle.tclv_engine.proofs.ListLemmas.{one_pushed}
use Rattle.tclv_control.specs.CatchRows.{note}
use Rattle.tclv_control.proofs.CatchLemmas.{one_above, words_over}
use Rattle.tclv_control.proofs.TryLemmas.{noted_at}
use Rattle.tclv_control.proofs.try_plans.note_element.Goals as goal

pub returns-in_err-found-clause-answer : goal.returns-in_err-found-clause-answer
returns-in_err-found-clause-answer g c here w told = memory_runs (search rules) told c.push_element.ensures.same.events

pub returns-then-found-clause-answer : goal.returns-then-found-clause-answer
returns-then-found-clause-answer g c here w told =
    let old = c.args.machine.now.values.store.stack in
    let mid = c.push_element.new.self in
    let t = placed old c.args.names in
    let inside : c.args.k < length (listed t) = search rules in
    let pushed = one_pushed t t old mid.values.store.stack c.args.k refl inside c.in_ok-found.ensures.pushed in
    from_same c.args.machine.now mid (note (slice_get (listed t) c.args.k) (last_of old)) c.push_element.ensures.same
    (runs_as (noted_at old mid.values.store.stack (listed t) c.args.k (c.height-last.result - 1) (state_of mid w) c.requires.some inside (ap (λ n. n - 1) c.height-last.ensures) pushed)
    (c.note_over.ensures.answer here w told))

pub returns-then-found-clause-stack : goal.returns-then-found-clause-stack
returns-then-found-clause-stack g c =
    let old = c.args.machine.now.values.store.stack in
    let mid = c.push_element.new.self.values.store.stack in
    let t = placed old c.args.names in
    let inside : c.args.k < length (listed t) = search rules in
    let pushed = one_pushed t t old mid c.args.k refl inside c.in_ok-found.ensures.pushed in
    words_over old mid c.note_over.result c.note_over.new.machine.values.store.stack (one_above old mid _ pushed) c.note_over.ensures.stack

pub returns-clause-answer : goal.returns-clause-answer
returns-clause-answer g c here w told =
    let old = c.args.machine.now.values.store.stack in
    let t = placed old c.args.names in
    let past : length (listed t) ≤ c.args.k = search rules in
    runs_as (sym (ap (λ o. note o (last_of old) (state_of c.args.machine.now w)) (get_none (listed t) c.args.k past)))
    (value_runs c.args.machine.now told c.push_element.ensures.same tt)
