use Rattle.std.proofs.Common.{sym, subst, IfOk, IsTrue}
use Rattle.std.specs.Option.{option_copied}
use Rattle.tclv_vars.specs.Table.{Table, table_of, has_value}
use Rattle.tclv_vars.proofs.ValueLemmas.{read_value}
use Rattle.tclv_vars.proofs.variables.Vars.read.Goals as goal

pub returns-clause-value : goal.returns-clause-value
returns-clause-value c =
    let t = table_of c.self.inside.tables in
    subst (λ (t : Table). IfOk c.read.result (λ q. IsTrue (has_value t q))) c.self.view_is
    (subst (λ r. IfOk r (λ q. IsTrue (has_value t q))) (sym c.read.ensures) (read_value t c.args.at c.args.name.now (option_copied c.args.index)))
