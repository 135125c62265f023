use Rattle.std.proofs.Common.{ap, sym}
use Rattle.std.specs.Str.{chars}
use Rattle.tclv_value.specs.Stacks.{top}
use Rattle.tclv_engine.specs.State.{state_of}
use Rattle.tclv_engine.specs.Functions.{apply}
use Rattle.tclv_engine.proofs.Binds.{runs_as}
use Rattle.tclv_engine.proofs.machine.Machine.apply_function.Goals as goal

pub returns-in-Absolute-clause-answer : goal.returns-in-Absolute-clause-answer
returns-in-Absolute-clause-answer g c here w told =
    runs_as (ap (λ f. apply f (chars c.args.name.now) (top c.args.n c.args.self.now.values.store.stack) (state_of c.args.self.now w)) (sym c.in-Absolute.is)) (c.absolute.ensures.answer here w told)

pub returns-in-Truth-clause-answer : goal.returns-in-Truth-clause-answer
returns-in-Truth-clause-answer g c here w told =
    runs_as (ap (λ f. apply f (chars c.args.name.now) (top c.args.n c.args.self.now.values.store.stack) (state_of c.args.self.now w)) (sym c.in-Truth.is)) (c.truth.ensures.answer here w told)

pub returns-in-Whole-clause-answer : goal.returns-in-Whole-clause-answer
returns-in-Whole-clause-answer g c here w told =
    runs_as (ap (λ f. apply f (chars c.args.name.now) (top c.args.n c.args.self.now.values.store.stack) (state_of c.args.self.now w)) (sym c.in-Whole.is)) (c.whole.ensures.answer here w told)

pub returns-in-Greatest-clause-answer : goal.returns-in-Greatest-clause-answer
returns-in-Greatest-clause-answer g c here w told =
    runs_as (ap (λ f. apply f (chars c.args.name.now) (top c.args.n c.args.self.now.values.store.stack) (state_of c.args.self.now w)) (sym c.in-Greatest.is)) (c.extreme.ensures.answer here w told)

pub returns-in-Least-clause-answer : goal.returns-in-Least-clause-answer
returns-in-Least-clause-answer g c here w told =
    runs_as (ap (λ f. apply f (chars c.args.name.now) (top c.args.n c.args.self.now.values.store.stack) (state_of c.args.self.now w)) (sym c.in-Least.is)) (c.extreme-in-Least.ensures.answer here w told)
