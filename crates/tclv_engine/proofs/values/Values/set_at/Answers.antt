use Rattle.std.proofs.Common.{subst}
use Rattle.std.specs.Str.{chars}
use Rattle.tclv_vars.specs.Table.{Refuses}
use Rattle.tclv_engine.proofs.SettingLemmas.{sets, write-same, pushed-place}
use Rattle.tclv_engine.proofs.values.Values.set_at.Goals as goal

pub returns-in-Ok-clause-set : goal.returns-in-Ok-clause-set
returns-in-Ok-clause-set c =
    sets c.args.self.now c.push_text.new.self c.set_to_top.new.self c.args.name (chars c.args.value.now) c.in-Ok.field-0 c.requires.place c.in_ok-push_text.ensures.pushed c.in_ok-push_text.ensures.same c.in-Ok.ensures.assigned

pub returns-in-Err-clause-refused : goal.returns-in-Err-clause-refused
returns-in-Err-clause-refused c =
    subst (λ m. Refuses m c.in-Err.fault)
    (write-same c.args.self.now c.push_text.new.self c.args.name
    (pushed-place c.args.self.now.store c.push_text.new.self.store c.args.name (chars c.args.value.now) c.requires.place c.in_ok-push_text.ensures.pushed c.in_ok-push_text.ensures.same.cells)
    c.in_ok-push_text.ensures.same)
    c.in-Err.ensures.refused
