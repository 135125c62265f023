use Rattle.std.proofs.Common.{◌≡◌, sym, ap, ◌∙◌, [], get_or, Some, None, arith, length, Option, ℕ}
use Rattle.tclv_engine.specs.Frames.{names_of}
use Rattle.tclv_engine.specs.Names.{bytes_of}
use Rattle.tclv_engine.specs.State.{state_of}
use Rattle.tclv_engine.proofs.Binds.{runs_as}
use Rattle.tclv_engine.proofs.FrameLemmas.{names_length}
use Rattle.tclv_engine.proofs.NameLemmas.{bytes-are}
use Rattle.tclv_interp.specs.ProcInfoRows.{place_from, default_at, stored_default, defaults_of}
use Rattle.tclv_interp.proofs.ProcInfoLemmas.{place_inside}
use Rattle.tclv_interp.proofs.proc_info.default_made.Goals as goal

pub store_default-requires-clause-number : goal.store_default-requires-clause-number
store_default-requires-clause-number c =
    let params = c.params.result.now in
    omega (arith, place_inside (names_of params) c.lend.result.now 0 c.in-Some.i (sym c.place_of.ensures ∙ c.in-Some.is), names_length params, ap length (c.params.ensures ∙ sym c.params-in-Some.ensures))

pub returns-in-Some-clause-answer : goal.returns-in-Some-clause-answer
returns-in-Some-clause-answer c here w told =
    let stack = c.args.machine.now.values.store.stack in
    let st = state_of c.args.machine.now w in
    let arg = get_or stack c.args.arg [] in
    let var = get_or stack c.args.var [] in
    let found : place_from (names_of c.args.def.now.params) (bytes_of arg) 0 ≡ Some c.in-Some.i =
    ap (λ ps. place_from (names_of ps) (bytes_of arg) 0) (sym c.params.ensures)
    ∙ ap (λ b. place_from (names_of c.params.result.now) b 0) (sym (bytes-are c.lend.result.now arg c.lend.ensures.utf8 c.lend.ensures.text)) ∙ sym c.place_of.ensures ∙ c.in-Some.is in
    runs_as (ap (λ ps. stored_default var (get_or (defaults_of ps) c.in-Some.i None) st) c.params-in-Some.ensures
    ∙ sym (ap (λ x. default_at c.args.def.now x (get_or stack c.args.name []) arg var st) found))
    (c.store_default.ensures.answer here w told)

pub returns-in-None-clause-answer : goal.returns-in-None-clause-answer
returns-in-None-clause-answer c here w told =
    let stack = c.args.machine.now.values.store.stack in
    let st = state_of c.args.machine.now w in
    let arg = get_or stack c.args.arg [] in
    let found : place_from (names_of c.args.def.now.params) (bytes_of arg) 0 ≡ None =
    ap (λ ps. place_from (names_of ps) (bytes_of arg) 0) (sym c.params.ensures)
    ∙ ap (λ b. place_from (names_of c.params.result.now) b 0) (sym (bytes-are c.lend.result.now arg c.lend.ensures.utf8 c.lend.ensures.text)) ∙ sym c.place_of.ensures ∙ c.in-None.is in
    runs_as (sym (ap (λ x. default_at c.args.def.now x (get_or stack c.args.name []) arg (get_or stack c.args.var []) st) found))
    (c.unnamed_default.ensures.answer here w told)
