use Rattle.std.proofs.Common.{rules, refl, subst, ◌≡◌, Ok, Result}
use Rattle.std.specs.Prelude.{OnOk}
use Rattle.std.specs.Str.{chars}
use Rattle.tclv_vars.specs.declared.faults.VarFault.{VarFault}
use Rattle.tclv_reply.specs.Names.{naming}
use Rattle.tclv_engine.specs.Holdings.{Sets}
use Rattle.tclv_engine.proofs.SettingLemmas.{set-state}
use Rattle.tclv_interp.proofs.ArrayLemmas.{never_refused, none_kept, plain_is_built}
use Rattle.tclv_interp.proofs.interpreters.Interp.set_global.Goals as goal

pub returns-in-Ok-clause-state : goal.returns-in-Ok-clause-state
returns-in-Ok-clause-state c w =
    let old = c.args.self.now.machine in
    let P : Result (Unit {0}) VarFault → Type 0 = λ r. OnOk r (Sets old.values c.set_named.new.self (naming c.args.name.now) (chars c.args.value.now)) in
    let is : c.set_named.result ≡ Ok tt = search rules in
    set-state old (record old { values = c.set_named.new.self }) w c.args.name.now (chars c.args.value.now) c.requires.name (plain_is_built c.args.name.now c.requires.plain) (subst P is c.set_named.ensures.set) refl refl refl refl

pub returns-in-Ok-clause-arrays : goal.returns-in-Ok-clause-arrays
returns-in-Ok-clause-arrays c = none_kept c.set_named.result c.args.self.now.machine.values c.set_named.new.self c.args.name.now (chars c.args.value.now) c.requires.plain c.requires.arrays c.set_named.ensures.set c.set_named.ensures.same

pub returns-in-Err-NoMemory-clause-arrays : goal.returns-in-Err-NoMemory-clause-arrays
returns-in-Err-NoMemory-clause-arrays c = none_kept c.set_named.result c.args.self.now.machine.values c.set_named.new.self c.args.name.now (chars c.args.value.now) c.requires.plain c.requires.arrays c.set_named.ensures.set c.set_named.ensures.same
