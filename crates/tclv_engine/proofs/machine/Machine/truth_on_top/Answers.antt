use Rattle.std.proofs.Common.{ap, ◌-◌, [], get_or}
use Rattle.tclv_engine.specs.State.{state_of}
use Rattle.tclv_engine.specs.Operations.{truth_of}
use Rattle.tclv_engine.proofs.Binds.{runs_as}
use Rattle.tclv_engine.proofs.machine.Machine.truth_on_top.Goals as goal

pub returns-clause-answer : goal.returns-clause-answer
returns-clause-answer g c here w told =
    let stack = c.args.self.now.values.store.stack in
    runs_as (ap (λ l. truth_of (get_or stack (l - 1) []) (state_of c.args.self.now w)) c.height-last.ensures) (c.truth_at.ensures.answer here w told)
