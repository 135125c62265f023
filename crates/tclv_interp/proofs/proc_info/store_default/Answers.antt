use Rattle.std.proofs.Common.{◌∙◌, sym, ap, [], get_or, true, false, None}
use Rattle.tclv_engine.specs.State.{state_of}
use Rattle.tclv_engine.proofs.Binds.{runs_as}
use Rattle.tclv_interp.specs.ProcInfoRows.{stored, stored_default}
use Rattle.tclv_interp.proofs.ProcInfoLemmas.{default_in, no_text}
use Rattle.tclv_interp.proofs.proc_info.store_default.Goals as goal

pub returns-in-Some-clause-answer : goal.returns-in-Some-clause-answer
returns-in-Some-clause-answer c here w told =
    let st = state_of c.args.machine.now w in
    let var = get_or c.args.machine.now.values.store.stack c.args.var [] in
    runs_as (ap (λ t. stored var t true st) c.bytes.ensures.text ∙ ap (λ x. stored_default var x st) (sym c.in-Some.is ∙ default_in c.args.params.now c.args.i _ c.requires.number))
    (c.store.ensures.answer here w told)

pub returns-in-None-clause-answer : goal.returns-in-None-clause-answer
returns-in-None-clause-answer c here w told =
    let st = state_of c.args.machine.now w in
    let var = get_or c.args.machine.now.values.store.stack c.args.var [] in
    runs_as (ap (λ t. stored var t false st) no_text ∙ ap (λ x. stored_default var x st) (sym c.in-None.is ∙ default_in c.args.params.now c.args.i _ c.requires.number))
    (c.store-in-None.ensures.answer here w told)
