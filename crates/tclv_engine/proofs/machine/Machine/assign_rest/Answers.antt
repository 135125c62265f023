use Rattle.std.proofs.Common.{rules, ap, [], get_or, refl}
use Rattle.tclv_engine.specs.State.{state_of}
use Rattle.tclv_engine.specs.Variables.{assign}
use Rattle.tclv_engine.proofs.Binds.{runs_as}
use Rattle.tclv_engine.proofs.Leaves.{done_runs}
use Rattle.tclv_engine.proofs.FrameLemmas.{args_text, unit_runs, rest_some, rest_none}
use Rattle.tclv_engine.proofs.machine.Machine.assign_rest.Goals as goal

pub returns-then-rest-clause-answer : goal.returns-then-rest-clause-answer
returns-then-rest-clause-answer g c here w told =
    let stack = c.args.self.now.values.store.stack in
    runs_as (rest_some c.args.rest c.args.from stack (state_of c.args.self.now w) c.if-rest.true)
    (unit_runs c.assign_place.result
    (runs_as (ap (λ t. assign t (get_or stack c.args.from []) (state_of c.args.self.now w)) args_text) (c.assign_place.ensures.answer here w told)))

pub returns-clause-answer : goal.returns-clause-answer
returns-clause-answer g c here w told =
    runs_as (rest_none c.args.rest c.args.from c.args.self.now.values.store.stack (state_of c.args.self.now w) c.if-rest.false)
    (done_runs told refl tt)
