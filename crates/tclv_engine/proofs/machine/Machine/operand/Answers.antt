use Rattle.std.proofs.Common.{rules, ◌∙◌, sym, ◌≡◌, arith, to_z, of_z, w64, FitsSigned}
use Rattle.std.proofs.lemmas.Int.{ints}
use Rattle.std.specs.Str.{chars}
use Rattle.tclv_value.specs.View.{text_at}
use Rattle.tclv_engine.specs.State.{state_of}
use Rattle.tclv_engine.proofs.Binds.{runs_as}
use Rattle.tclv_engine.proofs.Leaves.{value_runs, memory_runs}
use Rattle.tclv_engine.proofs.WordLemmas.{text_kept, same_then}
use Rattle.tclv_engine.proofs.OperationLemmas.{operand_is, operand_refused}
use Rattle.tclv_engine.proofs.machine.Machine.operand.Goals as goal

pub returns-in_err-n-clause-answer : goal.returns-in_err-n-clause-answer
returns-in_err-n-clause-answer g c here w told = memory_runs (search rules) told (search rules)

pub returns-in-Ok-clause-answer : goal.returns-in-Ok-clause-answer
returns-in-Ok-clause-answer g c here w told =
    let fits : FitsSigned w64 c.in-Ok.n = search rules in
    let same : to_z w64 (of_z w64 c.in-Ok.n) ≡ c.in-Ok.n = omega (arith, ints) in
    runs_as (operand_is (chars c.args.sign.now) _ _ (state_of c.args.self.now w) (sym c.in-Ok.is ∙ c.in_ok-n.ensures.reading))
    (value_runs c.args.self.now told c.in_ok-n.ensures.same same)

pub returns-in-Err-clause-answer : goal.returns-in-Err-clause-answer
returns-in-Err-clause-answer g c here w told =
    let kept = text_kept c.args.self.now.values.store c.reading.new.self.values.store c.args.at c.in_ok-n.ensures.stack c.in_ok-n.ensures.same.variables.cells in
    runs_as (operand_is (chars c.args.sign.now) (text_at c.args.self.now.values.store c.args.at) _ (state_of c.args.self.now w) (sym c.in-Err.is ∙ c.in_ok-n.ensures.reading))
    (operand_refused c.args.self.now c.in-Err.why _ _ _ _ _ told (same_then c.args.self.now c.reading.new.self c.raise_at.new.self c.in_ok-n.ensures.same c.raise_at.ensures.same) c.operand_message.ensures c.operand_code.ensures kept c.raise_at.ensures.raises)
