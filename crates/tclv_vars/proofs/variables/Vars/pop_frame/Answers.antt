use Rattle.std.proofs.Common.{◌≡◌, ◌+◌, ◌<◌, length, sym, ap, subst}
use Rattle.tclv_vars.specs.Scoping.{last_names}
use Rattle.tclv_vars.specs.Table.{Table, table_of}
use Rattle.tclv_vars.specs.Clearing.{Tied}
use Rattle.tclv_vars.specs.Sound.{Sound}
use Rattle.tclv_vars.proofs.TiedLemmas.{Apart-last, Sound-ended, Tied-names}
use Rattle.tclv_vars.proofs.variables.Vars.pop_frame.Goals as goal

pub pop_frame-requires : goal.pop_frame-requires
pop_frame-requires c = record { apart = Apart-last (table_of c.self.inside.tables) c.self.invariant }

pub invariant_of-self : goal.invariant_of-self
invariant_of-self c = subst Sound (sym c.pop_frame.ensures.ended)
    (Sound-ended (table_of c.self.inside.tables) (subst (λ (t : Table). t.scopes.current + 1 ≡ length t.scopes.frames) (sym c.self.view_is) c.requires.last)
    (subst (λ (t : Table). 0 < t.scopes.current) (sym c.self.view_is) c.requires.inner) c.self.invariant)

pub returns-clause-tied : goal.returns-clause-tied
returns-clause-tied c = λ tie.
    let t = table_of c.self.inside.tables in
    Tied-names t (table_of c.pop_frame.new.self) c.args.store.now.cells c.pop_frame.new.store.cells (last_names t.scopes)
    (ap (λ (u : Table). u.contents) c.pop_frame.ensures.ended) c.pop_frame.ensures.texts
    (subst (λ (u : Table). Tied u c.args.store.now.cells) (sym c.self.view_is) tie)
