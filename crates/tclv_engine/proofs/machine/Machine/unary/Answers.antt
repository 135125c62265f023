use Rattle.std.proofs.Common.{ap, sym, ◌∙◌}
use Rattle.tclv_engine.specs.State.{state_of}
use Rattle.tclv_engine.specs.Operations.{signed, unary}
use Rattle.tclv_engine.specs.Answers.{last_of}
use Rattle.tclv_engine.proofs.Binds.{runs_as}
use Rattle.tclv_engine.proofs.machine.Machine.unary.Goals as goal

pub returns-in-Minus-clause-answer : goal.returns-in-Minus-clause-answer
returns-in-Minus-clause-answer g c here w told =
    let x = last_of c.args.self.now.values.store.stack in
    let st = state_of c.args.self.now w in
    runs_as (ap (λ op. signed op x st) c.in-Minus.is ∙ ap (λ op. unary op x st) (sym c.in-Minus.is)) (c.signed.ensures.answer here w told)

pub returns-in-Plus-clause-answer : goal.returns-in-Plus-clause-answer
returns-in-Plus-clause-answer g c here w told =
    let x = last_of c.args.self.now.values.store.stack in
    let st = state_of c.args.self.now w in
    runs_as (ap (λ op. signed op x st) c.in-Plus.is ∙ ap (λ op. unary op x st) (sym c.in-Plus.is)) (c.signed-in-Plus.ensures.answer here w told)

pub returns-in-Invert-clause-answer : goal.returns-in-Invert-clause-answer
returns-in-Invert-clause-answer g c here w told =
    let x = last_of c.args.self.now.values.store.stack in
    let st = state_of c.args.self.now w in
    runs_as (ap (λ op. signed op x st) c.in-Invert.is ∙ ap (λ op. unary op x st) (sym c.in-Invert.is)) (c.signed-in-Invert.ensures.answer here w told)

pub returns-in-Not-clause-answer : goal.returns-in-Not-clause-answer
returns-in-Not-clause-answer g c here w told =
    runs_as (ap (λ op. unary op (last_of c.args.self.now.values.store.stack) (state_of c.args.self.now w)) (sym c.in-Not.is)) (c.negation.ensures.answer here w told)
