use Rattle.std.proofs.Common.{sym, subst}
use Rattle.std.specs.Option.{option_copied}
use Rattle.tclv_vars.specs.Table.{Table, table_of}
use Rattle.tclv_vars.specs.Clearing.{Tied}
use Rattle.tclv_vars.specs.Sound.{Sound}
use Rattle.tclv_vars.specs.Unset.{variable}
use Rattle.tclv_vars.proofs.TiedLemmas.{Sound-unset, Tied-unset}
use Rattle.tclv_vars.proofs.variables.Vars.unset.Goals as goal

pub invariant_of-self : goal.invariant_of-self
invariant_of-self c =
    let t = table_of c.self.inside.tables in
    subst Sound (sym c.unset.ensures.unset) (Sound-unset t (variable t c.args.at c.args.name.now (option_copied c.args.index)) c.self.invariant)

pub returns-clause-tied : goal.returns-clause-tied
returns-clause-tied c = λ tie.
    let t = table_of c.self.inside.tables in
    Tied-unset t (table_of c.unset.new.self) c.args.store.now.cells c.unset.new.store.cells (variable t c.args.at c.args.name.now (option_copied c.args.index))
    c.unset.ensures.unset c.unset.ensures.texts
    (subst (λ (u : Table). Tied u c.args.store.now.cells) (sym c.self.view_is) tie)
