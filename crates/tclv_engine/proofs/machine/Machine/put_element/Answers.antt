use Rattle.std.proofs.Common.{rules, refl, ap, arith, length}
use Rattle.std.specs.Str.{chars}
use Rattle.tclv_engine.specs.State.{state_of}
use Rattle.tclv_engine.specs.Answers.{last_of}
use Rattle.tclv_engine.specs.Variables.{element_value}
use Rattle.tclv_engine.proofs.Binds.{runs_as}
use Rattle.tclv_engine.proofs.Leaves.{memory_runs, from_same}
use Rattle.tclv_engine.proofs.machine.Machine.put_element.Goals as goal

pub returns-in_err-make_text-clause-answer : goal.returns-in_err-make_text-clause-answer
returns-in_err-make_text-clause-answer g c here w told = memory_runs (search rules) told refl

pub returns-clause-answer : goal.returns-clause-answer
returns-clause-answer g c here w told =
    let mid = record c.args.self.now { values = c.make_text.new.self } in
    from_same c.args.self.now mid (element_value (chars c.args.array.now) (last_of c.args.self.now.values.store.stack)) (search rules)
    (runs_as (ap (λ s. element_value (chars c.args.array.now) (last_of s) (state_of mid w)) c.in_ok-make_text.ensures.stack)
    (c.put_made_element.ensures.answer here w told))
