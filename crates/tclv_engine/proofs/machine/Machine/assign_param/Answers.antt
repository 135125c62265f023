use Rattle.std.proofs.Common.{ap, ◌∙◌, [], get_or}
use Rattle.tclv_value.specs.declared.procedures.Param.{Param}
use Rattle.tclv_engine.specs.State.{state_of}
use Rattle.tclv_engine.specs.Variables.{assign}
use Rattle.tclv_engine.proofs.Binds.{runs_as}
use Rattle.tclv_engine.proofs.FrameLemmas.{name_at}
use Rattle.tclv_engine.proofs.machine.Machine.assign_param.Goals as goal

pub returns-clause-answer : goal.returns-clause-answer
returns-clause-answer g c here w told =
    runs_as
    (ap (λ t. assign t (get_or c.args.self.now.values.store.stack c.args.from []) (state_of c.args.self.now w))
    (c.bytes.ensures.text ∙ name_at c.args.params.now c.args.i _ c.requires.number))
    (c.assign_place.ensures.answer here w told)
