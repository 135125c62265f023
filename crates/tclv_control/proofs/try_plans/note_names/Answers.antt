use Rattle.std.proofs.Common.{rules, ap, subst, ◌∙◌, ◌≡◌, Bool, true, false, sym, []}
use Rattle.tclv_model.specs.Values.{list_of}
use Rattle.tclv_ctl.specs.Switching.{given_words}
use Rattle.tclv_engine.specs.State.{state_of}
use Rattle.tclv_engine.specs.Plans.{placed}
use Rattle.tclv_engine.specs.ListAssignment.{IsList, listed}
use Rattle.tclv_engine.proofs.Binds.{runs_as}
use Rattle.tclv_engine.proofs.Leaves.{memory_runs, value_runs, from_same}
use Rattle.tclv_control.specs.TryRows.{note_both}
use Rattle.tclv_control.specs.TrySteps.{IsListed}
use Rattle.tclv_control.proofs.TryLemmas.{words_listed, none_noted}
use Rattle.tclv_control.proofs.try_plans.note_names.Goals as goal

pub returns-in_err-listed-clause-answer : goal.returns-in_err-listed-clause-answer
returns-in_err-listed-clause-answer g c here w told = memory_runs (search rules) told c.in_err-listed.ensures.same.events

pub returns-then-listed-clause-answer : goal.returns-then-listed-clause-answer
returns-then-listed-clause-answer g c here w told =
    let old = c.args.machine.now.values.store.stack in
    let mid = c.is_list.new.machine in
    let t = placed old c.args.names in
    let on : c.in_ok-listed.listed ≡ true = search (rules, c.if-listed.true) in
    let P : Bool → Type 0 = λ b. IsListed t b in
    let list : IsList t = subst P on c.in_ok-listed.ensures.says in
    let os = c.args.options.now in
    from_same c.args.machine.now mid (note_both (given_words (list_of t)) (placed old c.args.text) os) c.in_ok-listed.ensures.same
    (runs_as
    (ap (λ s. note_both (listed (placed s c.args.names)) (placed s c.args.text) os (state_of mid w)) c.in_ok-listed.ensures.stack
    ∙ sym (ap (λ ns. note_both ns (placed old c.args.text) os (state_of mid w)) (words_listed t list)))
    (c.note_listed.ensures.answer here w told))

pub returns-else-listed-clause-answer : goal.returns-else-listed-clause-answer
returns-else-listed-clause-answer g c here w told =
    let old = c.args.machine.now.values.store.stack in
    let t = placed old c.args.names in
    let off : c.in_ok-listed.listed ≡ false = search (rules, c.if-listed.false) in
    let P : Bool → Type 0 = λ b. IsListed t b in
    let none : given_words (list_of t) ≡ [] = subst P off c.in_ok-listed.ensures.says in
    runs_as (none_noted (given_words (list_of t)) (placed old c.args.text) c.args.options.now (state_of c.args.machine.now w) none)
    (value_runs c.args.machine.now told c.in_ok-listed.ensures.same tt)
