use Rattle.std.proofs.Common.{sym, subst, Ok, Err, refl}
use Rattle.std.specs.Prelude.{IsTrue}
use Rattle.std.specs.FinMap as map
use Rattle.tclv_io.specs.World.{OpenAnswers, after_open, can_read, can_close}
use Rattle.tclv_io.specs.declared.outside.Mode.TheVariants.{Read}
use Rattle.tclv_shell.specs.Loaded.{Gives, IsWhole}
use Rattle.tclv_shell.specs.declared.script_files.Loaded.TheVariants.{Missing}
use Rattle.tclv_shell.proofs.Reading.{fresh, told_on, was_told, opened, found, reopened}
use Rattle.tclv_shell.proofs.script_files.load.Goals as goal

pub returns-in-Err-Missing-clause-gives : goal.returns-in-Err-Missing-clause-gives
returns-in-Err-Missing-clause-gives g c = λ w e.
    let none = subst (λ f. OpenAnswers c.args.name.now Read (Err f) w) c.in-Err-Missing.field-0-is (c.in-Err-Missing.ensures.answer w e) in
    subst (λ x. Gives x (Ok Missing)) (sym none.1) tt

pub read_all-requires-clause-is_open : goal.read_all-requires-clause-is_open
read_all-requires-clause-is_open g c = λ v e.
    let w = opened (g.O.Outside.told c.args.out.now) (g.O.Outside.told c.open.new.self) c.args.name.now c.in-Ok.file v c.in-Ok.ensures.world e in
    subst (λ u. IsTrue (can_read u c.in-Ok.file)) w.2 (fresh w.0 c.args.name.now c.in-Ok.file c.in-Ok.ensures.number).can

pub close-requires-clause-standard : goal.close-requires-clause-standard
close-requires-clause-standard g c = c.in-Ok.ensures.number

pub close-requires-clause-is_open : goal.close-requires-clause-is_open
close-requires-clause-is_open g c = λ u s.
    let v = was_told (g.O.Outside.told c.open.new.self) (g.O.Outside.told c.read_all.new.out) u c.in_ok-text.ensures.same.shown s in
    let w = opened (g.O.Outside.told c.args.out.now) (g.O.Outside.told c.open.new.self) c.args.name.now c.in-Ok.file v.0 c.in-Ok.ensures.world v.1 in
    c.in_ok-text.ensures.still_open v.0 v.1 (subst (λ u. IsTrue (can_close u c.in-Ok.file)) w.2 (fresh w.0 c.args.name.now c.in-Ok.file c.in-Ok.ensures.number).close) u s

pub returns-clause-gives : goal.returns-clause-gives
returns-clause-gives g c = λ w e.
    let now = told_on (after_open c.args.name.now Read (Ok c.in-Ok.file)) (g.O.Outside.told c.args.out.now) (g.O.Outside.told c.open.new.self) w c.in-Ok.ensures.world e in
    let whole = subst (λ rest. IsWhole rest c.in_ok-text.text.items) (fresh w c.args.name.now c.in-Ok.file c.in-Ok.ensures.number).left (c.in_ok-text.ensures.whole _ now) in
    found (map.get w.out.files c.args.name.now) c.in_ok-text.text.items c.judged.result ((c.in-Ok.ensures.answer w e).1 refl) whole c.judged.ensures

pub returns-clause-world : goal.returns-clause-world
returns-clause-world g c =
    reopened c.args.name.now c.in-Ok.file (g.O.Outside.told c.args.out.now) (g.O.Outside.told c.open.new.self) (g.O.Outside.told c.read_all.new.out) (g.O.Outside.told c.close.new.out)
    c.in-Ok.ensures.answer c.in-Ok.ensures.world c.in_ok-text.ensures.others c.in_ok-close.ensures.world
