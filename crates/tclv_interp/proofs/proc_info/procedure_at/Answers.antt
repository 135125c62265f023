use Rattle.std.proofs.Common.{rules, refl, ap, [], get_or}
use Rattle.tclv_value.specs.declared.places.At.TheVariants.{Stack}
use Rattle.tclv_engine.specs.State.{state_of}
use Rattle.tclv_engine.proofs.Binds.{runs_as}
use Rattle.tclv_engine.proofs.Leaves.{memory_runs, from_same}
use Rattle.tclv_engine.proofs.HoldingsLemmas.{same_text}
use Rattle.tclv_interp.specs.ProcInfoRows.{procedure}
use Rattle.tclv_interp.proofs.proc_info.procedure_at.Goals as goal

pub returns-in_err-make_text-clause-answer : goal.returns-in_err-make_text-clause-answer
returns-in_err-make_text-clause-answer c here w told = memory_runs (search rules) told refl

pub returns-clause-answer : goal.returns-clause-answer
returns-clause-answer c here w told =
    let old = c.args.machine.now in
    let mid = record old { values = c.make_text.new.self } in
    from_same old mid (procedure (get_or old.values.store.stack c.args.name [])) (search rules)
    (runs_as (ap (λ t. procedure t (state_of mid w)) (same_text old.values.store c.make_text.new.self.store (Stack c.args.name) c.in_ok-make_text.ensures.stack c.in_ok-make_text.ensures.same.cells))
    (c.procedure_made.ensures.answer here w told))
