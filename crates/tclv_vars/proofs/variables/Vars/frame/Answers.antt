use Rattle.std.proofs.Common.{◌<◌, length, sym, ap, subst, ◌∙◌}
use Rattle.tclv_vars.specs.Scoping.{Scoping}
use Rattle.tclv_vars.specs.Table.{Table}
use Rattle.tclv_vars.proofs.variables.Vars.frame.Goals as goal

pub returns-clause-there : goal.returns-clause-there
returns-clause-there c = subst (λ (t : Table). c.current.result < length t.scopes.frames) c.self.view_is
    (subst (λ n. n < length c.self.inside.tables.scopes.frames) (sym (c.current.ensures ∙ ap (λ (s : Scoping). s.current) c.scopes.ensures)) c.self.invariant.nested.current)
