use Rattle.std.proofs.Common.{sym, ap, subst}
use Rattle.tclv_vars.specs.Table.{Table, table_of}
use Rattle.tclv_vars.specs.Sound.{Sound}
use Rattle.tclv_vars.proofs.ScopeLemmas.{level_found, level_back}
use Rattle.tclv_vars.proofs.SoundLemmas.{Sound-at_level}
use Rattle.tclv_vars.proofs.variables.Vars.use_level.Goals as goal

pub invariant_of-self : goal.invariant_of-self
invariant_of-self c = subst Sound (sym c.use_level.ensures.current) (Sound-at_level (table_of c.self.inside.tables) c.args.level c.self.invariant)

pub returns-clause-level : goal.returns-clause-level
returns-clause-level c = level_found c.self.inside.tables.scopes c.args.level c.self.invariant.nested c.use_level.result c.use_level.new.self.scopes c.use_level.ensures.answer
    (ap (λ (t : Table). t.scopes) c.use_level.ensures.current)

pub returns-clause-back : goal.returns-clause-back
returns-clause-back c = level_back c.self.inside.tables.scopes c.args.level c.self.invariant.nested c.use_level.result c.use_level.new.self.scopes c.use_level.ensures.answer
    (ap (λ (t : Table). t.scopes) c.use_level.ensures.current)
