use Rattle.std.proofs.Common.{◌≡◌, sym, ap, ◌∙◌, [], get_or, true, false, Bool}
use Rattle.tclv_engine.specs.Names.{bytes_of}
use Rattle.tclv_engine.specs.State.{state_of}
use Rattle.tclv_engine.proofs.Binds.{runs_as}
use Rattle.tclv_engine.proofs.Leaves.{raise_runs}
use Rattle.tclv_engine.proofs.NameLemmas.{bytes-are}
use Rattle.tclv_interp.specs.ProcInfoRows.{is_rest, stored, unnamed}
use Rattle.tclv_interp.proofs.ProcInfoLemmas.{no_text}
use Rattle.tclv_interp.proofs.proc_info.unnamed_default.Goals as goal

pub returns-then-is_rest-clause-answer : goal.returns-then-is_rest-clause-answer
returns-then-is_rest-clause-answer c here w told =
    let stack = c.args.machine.now.values.store.stack in
    let st = state_of c.args.machine.now w in
    let arg = get_or stack c.args.arg [] in
    let is : is_rest c.args.def.now.rest (bytes_of arg) ≡ true =
    ap (λ r. is_rest r (bytes_of arg)) (sym c.has_rest.ensures) ∙ ap (λ b. is_rest c.has_rest.result b) (sym (bytes-are c.lend.result.now arg c.lend.ensures.utf8 c.lend.ensures.text)) ∙ sym c.is_rest.ensures ∙ c.if-is_rest.true in
    runs_as (ap (λ t. stored (get_or stack c.args.var []) t false st) no_text ∙ sym (ap (λ b. unnamed b (get_or stack c.args.name []) arg (get_or stack c.args.var []) st) is))
    (c.store.ensures.answer here w told)

pub returns-clause-answer : goal.returns-clause-answer
returns-clause-answer c here w told =
    let stack = c.args.machine.now.values.store.stack in
    let st = state_of c.args.machine.now w in
    let arg = get_or stack c.args.arg [] in
    let isnt : is_rest c.args.def.now.rest (bytes_of arg) ≡ false =
    ap (λ r. is_rest r (bytes_of arg)) (sym c.has_rest.ensures) ∙ ap (λ b. is_rest c.has_rest.result b) (sym (bytes-are c.lend.result.now arg c.lend.ensures.utf8 c.lend.ensures.text)) ∙ sym c.is_rest.ensures ∙ c.if-is_rest.false in
    runs_as (sym (ap (λ b. unnamed b (get_or stack c.args.name []) arg (get_or stack c.args.var []) st) isnt))
    (raise_runs c.args.machine.now told c.no_parameter.ensures.same c.no_parameter.ensures.raises)
