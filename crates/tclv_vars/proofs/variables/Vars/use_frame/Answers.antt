use Rattle.std.proofs.Common.{◌<◌, length, sym, subst}
use Rattle.tclv_vars.specs.Table.{Table, table_of}
use Rattle.tclv_vars.specs.Sound.{Sound}
use Rattle.tclv_vars.proofs.SoundLemmas.{Sound-at_frame}
use Rattle.tclv_vars.proofs.variables.Vars.use_frame.Goals as goal

pub invariant_of-self : goal.invariant_of-self
invariant_of-self c = subst Sound (sym c.use_frame.ensures)
    (Sound-at_frame (table_of c.self.inside.tables) c.args.frame (subst (λ (t : Table). c.args.frame < length t.scopes.frames) (sym c.self.view_is) c.requires.there) c.self.invariant)
