use Rattle.std.proofs.Common.{◌≡◌, ℕ, Bool, sym, subst, OnOk, OnErr}
use Rattle.std.specs.Prelude.{Result, Ok, Err}
use Rattle.tclv_vars.specs.Table.{Table, table_of, begun}
use Rattle.tclv_vars.specs.Sound.{Sound}
use Rattle.tclv_vars.proofs.FrameLemmas.{begun_last, begun_inner}
use Rattle.tclv_vars.proofs.SoundLemmas.{Sound-pushed}
use Rattle.tclv_vars.proofs.variables.Vars.push_frame.Goals as goal

-- whichever way the call answers
by : {E : Type 0} (r : Result (Unit {0}) E) (t new : Table) (space : ℕ) (local : Bool) → Sound t → OnOk r (new ≡ begun t space local) → OnErr r (new ≡ t) → Sound new
by (Ok u) t new space local sound ok err = subst Sound (sym ok) (Sound-pushed t space local sound)
by (Err e) t new space local sound ok err = subst Sound (sym err) sound

pub invariant_of-self : goal.invariant_of-self
invariant_of-self c = by c.push_frame.result (table_of c.self.inside.tables) (table_of c.push_frame.new.self) c.args.space c.args.local c.self.invariant c.push_frame.ensures.pushed c.push_frame.ensures.refused

pub returns-clause-last : goal.returns-clause-last
returns-clause-last c = begun_last c.push_frame.result (table_of c.self.inside.tables) (table_of c.push_frame.new.self) c.args.space c.args.local c.push_frame.ensures.pushed

pub returns-clause-inner : goal.returns-clause-inner
returns-clause-inner c = begun_inner c.push_frame.result (table_of c.self.inside.tables) (table_of c.push_frame.new.self) c.args.space c.args.local c.self.invariant c.push_frame.ensures.pushed
