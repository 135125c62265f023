use Rattle.std.proofs.Common.{◌<◌, length, sym, ap, subst, ◌∙◌, arith}
use Rattle.tclv_vars.specs.Scoping.{Scoping}
use Rattle.tclv_vars.proofs.variables.Vars.frame_count.Goals as goal

pub returns-clause-some : goal.returns-clause-some
returns-clause-some c =
    let there = c.self.invariant.nested.current in
    subst (λ n. 0 < n) (sym (c.count.ensures ∙ ap (λ (s : Scoping). length s.frames) c.scopes.ensures)) (omega (arith, there))
