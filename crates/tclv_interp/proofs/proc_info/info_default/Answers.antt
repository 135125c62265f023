use Rattle.std.proofs.Common.{rules, arith, refl, ap, ◌∙◌, [], get_or, length}
use Rattle.tclv_value.specs.declared.places.At.TheVariants.{Stack}
use Rattle.tclv_engine.specs.State.{state_of}
use Rattle.tclv_engine.proofs.Binds.{runs_as, bind_ok, then_stop}
use Rattle.tclv_engine.proofs.Leaves.{memory_runs, from_same}
use Rattle.tclv_engine.proofs.WordLemmas.{values_same}
use Rattle.tclv_interp.specs.ProcInfoRows.{default_of}
use Rattle.tclv_interp.proofs.proc_info.info_default.Goals as goal

pub returns-in_err-def-clause-answer : goal.returns-in_err-def-clause-answer
returns-in_err-def-clause-answer c here w told = then_stop _ (search rules) (c.in_err-def.ensures.answer here w told)

pub returns-in_err-make_text-clause-answer : goal.returns-in_err-make_text-clause-answer
returns-in_err-make_text-clause-answer c here w told =
    bind_ok _ (c.in_ok-def.ensures.answer here w told) (λ d v e shown. memory_runs (search rules) e refl)

pub returns-in_err-make_text-2-clause-answer : goal.returns-in_err-make_text-2-clause-answer
returns-in_err-make_text-2-clause-answer c here w told =
    bind_ok _ (c.in_ok-def.ensures.answer here w told) (λ d v e shown. memory_runs (search rules) e refl)

pub default_made-requires-clause-name_made : goal.default_made-requires-clause-name_made
default_made-requires-clause-name_made c = c.in_ok-make_text-2.ensures.stays (Stack c.args.name) (omega (arith, c.requires.name, ap length c.in_ok-make_text.ensures.stack, ap length c.in_ok-def.ensures.stack)) c.in_ok-make_text.ensures.made

pub returns-clause-answer : goal.returns-clause-answer
returns-clause-answer c here w told =
    let old = c.args.machine.now.values.store.stack in
    let first = c.procedure_at.new.machine in
    let mid = record first { values = c.make_text-2.new.self } in
    let name = get_or old c.args.name [] in
    let arg = get_or old c.args.arg [] in
    let var = get_or old c.args.var [] in
    bind_ok _ (c.in_ok-def.ensures.answer here w told)
    (λ d v e shown. from_same first mid (default_of d name arg var)
    (values_same first c.make_text-2.new.self (record { vars = c.in_ok-make_text-2.ensures.same.vars ∙ c.in_ok-make_text.ensures.same.vars; cells = c.in_ok-make_text-2.ensures.same.cells ∙ c.in_ok-make_text.ensures.same.cells }))
    (runs_as
    (ap (λ s. default_of c.deref.result.now (get_or s c.args.name []) (get_or s c.args.arg []) (get_or s c.args.var []) (state_of mid v)) (c.in_ok-make_text-2.ensures.stack ∙ c.in_ok-make_text.ensures.stack ∙ c.in_ok-def.ensures.stack)
    ∙ ap (λ p. default_of p name arg var (state_of mid v)) (c.deref.ensures ∙ shown))
    (c.default_made.ensures.answer here v e)))
