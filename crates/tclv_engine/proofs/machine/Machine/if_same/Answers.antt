use Rattle.std.proofs.Common.{ap, ◌∙◌, sym}
use Rattle.tclv_engine.specs.State.{state_of}
use Rattle.tclv_engine.specs.Operations.{if_same, truth_number}
use Rattle.tclv_engine.proofs.Binds.{runs_as}
use Rattle.tclv_engine.proofs.Leaves.{raise_bare}
use Rattle.std.proofs.Common.{refl}
use Rattle.tclv_engine.proofs.machine.Machine.if_same.Goals as goal

pub returns-then-same-clause-answer : goal.returns-then-same-clause-answer
returns-then-same-clause-answer g c here w told =
    runs_as (ap (λ b. truth_number b (state_of c.args.self.now w)) c.holds.ensures ∙ ap (λ b. if_same b c.args.op c.args.by c.args.kind c.args.errorcode (state_of c.args.self.now w)) (sym c.if-same.true))
    (c.truth_number.ensures.answer here w told)

pub returns-else-same-clause-answer : goal.returns-else-same-clause-answer
returns-else-same-clause-answer g c here w told =
    runs_as (ap (λ b. if_same b c.args.op c.args.by c.args.kind c.args.errorcode (state_of c.args.self.now w)) (sym c.if-same.false))
    (raise_bare c.args.self.now c.args.kind c.args.kind c.args.errorcode c.args.errorcode told c.raise.ensures.same refl refl c.raise.ensures.raises)
