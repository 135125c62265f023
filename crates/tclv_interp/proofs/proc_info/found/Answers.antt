use Rattle.std.proofs.Common.{◌≡◌, ◌∙◌, sym, ap, subst, Option, None, Global}
use Rattle.std.specs.Prelude.{IfOk}
use Rattle.std.specs.FinMap.{get}
use Rattle.std.specs.Option.{option_copied}
use Rattle.std.specs.declared.rc.Rc.{Rc}
use Rattle.tclv_value.specs.Procedures.{Procedure}
use Rattle.tclv_value.specs.View.{text_at}
use Rattle.tclv_engine.proofs.NameLemmas.{bytes-are}
use Rattle.tclv_interp.specs.declared.builtins.Target.{Target}
use Rattle.tclv_interp.specs.ProcInfoRows.{target_at, ShowsFound}
use Rattle.tclv_interp.proofs.proc_info.found.Goals as goal

pub returns-in-Some : goal.returns-in-Some
returns-in-Some c =
    let name = text_at c.args.machine.now.values.store c.args.name in
    let P : Option Target → Type 0 = λ x. IfOk c.shared.result (λ def. ShowsFound x def) in
    subst P (sym (ap (λ b. get c.args.machine.now.own.commands b) (sym (bytes-are c.lend.result.now name c.lend.ensures.utf8 c.lend.ensures.text)) ∙ sym c.lend-2.ensures.value ∙ ap option_copied c.in-Some.is)) c.shared.ensures

pub returns-in-None : goal.returns-in-None
returns-in-None c =
    let name = text_at c.args.machine.now.values.store c.args.name in
    let P : Option Target → Type 0 = λ x. ShowsFound {Z = Global} x None in
    subst P (sym (ap (λ b. get c.args.machine.now.own.commands b) (sym (bytes-are c.lend.result.now name c.lend.ensures.utf8 c.lend.ensures.text)) ∙ sym c.lend-2.ensures.value ∙ ap option_copied c.in-None.is)) tt
