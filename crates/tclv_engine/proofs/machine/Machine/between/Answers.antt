use Rattle.std.proofs.Common.{ap, ◌∙◌, sym, if◌then◌else◌}
use Rattle.tclv_engine.specs.State.{state_of}
use Rattle.tclv_engine.specs.Operations.{comparison, arithmetic, second_of}
use Rattle.tclv_engine.specs.Answers.{last_of}
use Rattle.tclv_engine.proofs.Binds.{runs_as}
use Rattle.tclv_engine.proofs.machine.Machine.between.Goals as goal

pub returns-then-compares-clause-answer : goal.returns-then-compares-clause-answer
returns-then-compares-clause-answer g c here w told =
    let x = second_of c.args.self.now.values.store.stack in
    let y = last_of c.args.self.now.values.store.stack in
    let st = state_of c.args.self.now w in
    runs_as (ap (λ b. if b then comparison c.args.op x y st else arithmetic c.args.op x y st) (sym c.if-compares.true ∙ c.compares.ensures)) (c.compare.ensures.answer here w told)

pub returns-else-compares-clause-answer : goal.returns-else-compares-clause-answer
returns-else-compares-clause-answer g c here w told =
    let x = second_of c.args.self.now.values.store.stack in
    let y = last_of c.args.self.now.values.store.stack in
    let st = state_of c.args.self.now w in
    runs_as (ap (λ b. if b then comparison c.args.op x y st else arithmetic c.args.op x y st) (sym c.if-compares.false ∙ c.compares.ensures)) (c.arithmetic.ensures.answer here w told)
