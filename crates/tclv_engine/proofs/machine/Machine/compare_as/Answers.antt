use Rattle.std.proofs.Common.{rules, ap, ◌∙◌, sym, ◌≡◌, arith, to_z, of_z, w64, FitsSigned}
use Rattle.std.proofs.lemmas.Int.{ints}
use Rattle.tclv_exprp.specs.Operators.{apply2}
use Rattle.tclv_engine.specs.State.{state_of}
use Rattle.tclv_engine.specs.Answers.{last_of}
use Rattle.tclv_engine.specs.Operations.{calculated, compared, second_of}
use Rattle.tclv_engine.proofs.Binds.{runs_as}
use Rattle.tclv_engine.proofs.machine.Machine.compare_as.Goals as goal

pub returns-in-Numbers-clause-answer : goal.returns-in-Numbers-clause-answer
returns-in-Numbers-clause-answer g c here w told =
    let stack = c.args.self.now.values.store.stack in
    let st = state_of c.args.self.now w in
    let fits-m : FitsSigned w64 c.in-Numbers.m = search rules in
    let same-m : to_z w64 (of_z w64 c.in-Numbers.m) ≡ c.in-Numbers.m = omega (arith, ints) in
    let fits-n : FitsSigned w64 c.in-Numbers.n = search rules in
    let same-n : to_z w64 (of_z w64 c.in-Numbers.n) ≡ c.in-Numbers.n = omega (arith, ints) in
    runs_as (ap (λ x. calculated x st) (c.apply2.ensures ∙ ap (λ x. apply2 c.args.op x (to_z w64 (of_z w64 c.in-Numbers.n))) same-m ∙ ap (apply2 c.args.op c.in-Numbers.m) same-n)
    ∙ ap (λ x. compared c.args.op (second_of stack) (last_of stack) x st) (sym c.in-Numbers.is)) (c.calculated.ensures.answer here w told)

pub returns-in-Texts-clause-answer : goal.returns-in-Texts-clause-answer
returns-in-Texts-clause-answer g c here w told =
    let stack = c.args.self.now.values.store.stack in
    runs_as (ap (λ x. compared c.args.op (second_of stack) (last_of stack) x (state_of c.args.self.now w)) (sym c.in-Texts.is)) (c.compare_texts.ensures.answer here w told)

pub returns-in-Floats-clause-answer : goal.returns-in-Floats-clause-answer
returns-in-Floats-clause-answer g c here w told =
    let stack = c.args.self.now.values.store.stack in
    runs_as (ap (λ x. compared c.args.op (second_of stack) (last_of stack) x (state_of c.args.self.now w)) (sym c.in-Floats.is)) (c.compare_floats.ensures.answer here w told)

pub returns-in-LargeNumbers-clause-answer : goal.returns-in-LargeNumbers-clause-answer
returns-in-LargeNumbers-clause-answer g c here w told =
    let stack = c.args.self.now.values.store.stack in
    runs_as (ap (λ x. compared c.args.op (second_of stack) (last_of stack) x (state_of c.args.self.now w)) (sym c.in-LargeNumbers.is)) (c.compare_large.ensures.answer here w told)
