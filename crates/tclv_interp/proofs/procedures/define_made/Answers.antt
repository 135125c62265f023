use Rattle.std.proofs.Common.{rules, refl, sym, ap, ◌∙◌, []}
use Rattle.std.proofs.lemmas.Str.{chars-nil}
use Rattle.tclv_value.specs.View.{text_at}
use Rattle.tclv_engine.specs.State.{state_of}
use Rattle.tclv_engine.specs.Results.{ok, plain, done}
use Rattle.tclv_engine.proofs.Binds.{runs_as}
use Rattle.tclv_engine.proofs.Leaves.{done_runs, memory_runs, raise_runs}
use Rattle.tclv_engine.proofs.NameLemmas.{bytes-are}
use Rattle.tclv_engine.proofs.StackLemmas.{last-pushed}
use Rattle.tclv_interp.proofs.ProcLemmas.{own_state, defined-qualified, defined-plain}
use Rattle.tclv_interp.proofs.procedures.define_made.Goals as goal

pub returns-then-is_qualified-clause-answer : goal.returns-then-is_qualified-clause-answer
returns-then-is_qualified-clause-answer c here w told =
    runs_as (defined-qualified c.lend.result.now (text_at c.args.machine.now.values.store c.args.name) c.args.def.value (state_of c.args.machine.now w) (bytes-are _ _ c.lend.ensures.utf8 c.lend.ensures.text) (sym c.is_qualified.ensures ∙ c.if-is_qualified.true))
    (raise_runs c.args.machine.now told c.not_built.ensures.same c.not_built.ensures.raises)

pub returns-in_err-put-clause-answer : goal.returns-in_err-put-clause-answer
returns-in_err-put-clause-answer c here w told = memory_runs (search rules) told refl

pub returns-in_err-push_text-clause-answer : goal.returns-in_err-push_text-clause-answer
returns-in_err-push_text-clause-answer c here w told = memory_runs (search rules) told refl

pub returns-clause-answer : goal.returns-clause-answer
returns-clause-answer c here w told =
    let old = c.args.machine.now in
    runs_as
    (ap (ok []) (own_state old c.push_text.new.self (record { commands = c.put.new.self }) w c.push_text.ensures.same)
    ∙ defined-plain c.lend.result.now (text_at old.values.store c.args.name) c.args.def.value (state_of old w) (bytes-are _ _ c.lend.ensures.utf8 c.lend.ensures.text)
    c.lend-text.result.now c.put.new.self (bytes-are _ _ c.lend-text.ensures.utf8 c.lend-text.ensures.text) (sym c.is_qualified.ensures ∙ c.if-is_qualified.false) (search rules))
    (done_runs {a = plain []} told refl (last-pushed _ _ _ c.in_ok-push_text.ensures.pushed ∙ chars-nil, refl))
