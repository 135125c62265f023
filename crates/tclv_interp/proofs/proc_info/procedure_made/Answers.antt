use Rattle.std.proofs.Common.{rules, refl, ◌∙◌, sym, ap, subst, Option, Some, None, Global}
use Rattle.std.specs.declared.rc.Rc.{Rc}
use Rattle.tclv_value.specs.Procedures.{Procedure}
use Rattle.tclv_value.specs.View.{text_at}
use Rattle.tclv_engine.specs.State.{state_of}
use Rattle.tclv_model.specs.declared.messages.MessageId.TheVariants as message
use Rattle.tclv_model.specs.declared.error_codes.ErrorCode.TheVariants.{NoCode}
use Rattle.tclv_engine.proofs.Binds.{runs_as}
use Rattle.tclv_engine.proofs.Leaves.{memory_runs, value_runs, raise_runs, raise_first}
use Rattle.tclv_engine.proofs.NameLemmas.{bytes-are}
use Rattle.tclv_interp.specs.ProcInfoRows.{target_at, ShowsFound}
use Rattle.tclv_interp.proofs.ProcInfoLemmas.{given_by, none_by, procedure-qualified, procedure-plain}
use Rattle.tclv_interp.proofs.proc_info.procedure_made.Goals as goal

pub returns-then-is_qualified-clause-answer : goal.returns-then-is_qualified-clause-answer
returns-then-is_qualified-clause-answer c here w told =
    let old = c.args.machine.now in
    runs_as (procedure-qualified c.lend.result.now (text_at old.values.store c.args.name) (state_of old w) (bytes-are _ _ c.lend.ensures.utf8 c.lend.ensures.text) (sym c.is_qualified.ensures ∙ c.if-is_qualified.true))
    (raise_runs old told c.not_built.ensures.same c.not_built.ensures.raises)

pub returns-in_err-def-clause-answer : goal.returns-in_err-def-clause-answer
returns-in_err-def-clause-answer c here w told = memory_runs (search rules) told refl

pub returns-in-Some-clause-answer : goal.returns-in-Some-clause-answer
returns-in-Some-clause-answer c here w told =
    let old = c.args.machine.now in
    let name = text_at old.values.store c.args.name in
    let P : Option (Rc Procedure Global) → Type 0 = λ x. ShowsFound (target_at old.own name) x in
    runs_as (given_by (target_at old.own name) name (state_of old w) c.in-Some.def (subst P c.in-Some.is c.in_ok-def.ensures)
    ∙ procedure-plain c.lend.result.now name (state_of old w) (bytes-are _ _ c.lend.ensures.utf8 c.lend.ensures.text) (sym c.is_qualified.ensures ∙ c.if-is_qualified.false))
    (value_runs old told (search rules) refl)

pub returns-in-None-clause-answer : goal.returns-in-None-clause-answer
returns-in-None-clause-answer c here w told =
    let old = c.args.machine.now in
    let name = text_at old.values.store c.args.name in
    let P : Option (Rc Procedure Global) → Type 0 = λ x. ShowsFound (target_at old.own name) x in
    runs_as (none_by Global (target_at old.own name) name (state_of old w) (subst P c.in-None.is c.in_ok-def.ensures)
    ∙ procedure-plain c.lend.result.now name (state_of old w) (bytes-are _ _ c.lend.ensures.utf8 c.lend.ensures.text) (sym c.is_qualified.ensures ∙ c.if-is_qualified.false))
    (raise_first old message.NotProcedure message.NotProcedure _ NoCode NoCode told c.raise_at.ensures.same refl refl c.raise_at.ensures.raises)
