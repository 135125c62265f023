use Rattle.std.proofs.Common.{rules, refl, ◌≡◌, arith, to_z, of_z, w64, FitsSigned}
use Rattle.std.proofs.lemmas.Int.{ints}
use Rattle.tclv_value.specs.View.{text_at}
use Rattle.tclv_model.specs.declared.messages.MessageId.TheVariants.{NotInteger, IntegerTooLarge}
use Rattle.tclv_model.specs.declared.error_codes.ErrorCode.TheVariants.{NotNumber, Overflow}
use Rattle.tclv_engine.specs.State.{state_of}
use Rattle.tclv_engine.proofs.Binds.{runs_as}
use Rattle.tclv_engine.proofs.Leaves.{value_runs, memory_runs}
use Rattle.tclv_engine.proofs.WholeLemmas.{whole_read, refused_as}
use Rattle.tclv_engine.proofs.WordLemmas.{text_kept, raise_at_runs, values_then}
use Rattle.tclv_engine.proofs.machine.Machine.whole_at.Goals as goal

pub returns-in-Ok-clause-answer : goal.returns-in-Ok-clause-answer
returns-in-Ok-clause-answer g c here w told =
    let fits : FitsSigned w64 c.in-Ok.n = search rules in
    let same : to_z w64 (of_z w64 c.in-Ok.n) ≡ c.in-Ok.n = omega (arith, ints) in
    runs_as (whole_read _ _ (state_of c.args.self.now w) c.in-Ok.ensures.number) (value_runs c.args.self.now told (search rules) same)

pub returns-in-Err-NotWhole-clause-answer : goal.returns-in-Err-NotWhole-clause-answer
returns-in-Err-NotWhole-clause-answer g c here w told =
    let kept = c.in-Err-NotWhole.ensures in
    runs_as (whole_read (text_at c.args.self.now.values.store c.args.at) _ (state_of c.args.self.now w) (refused_as _ _ _ c.in-Err-NotWhole.field-0-is kept.refused))
    (raise_at_runs c.args.self.now NotInteger _ _ NotNumber told (values_then c.args.self.now _ c.whole.new.self kept.same c.raise_at.ensures.same) (text_kept c.args.self.now.values.store c.whole.new.self.store c.args.at kept.stack kept.same.cells) c.raise_at.ensures.raises)

pub returns-in-Err-FloatForm-clause-answer : goal.returns-in-Err-FloatForm-clause-answer
returns-in-Err-FloatForm-clause-answer g c here w told =
    let kept = c.in-Err-FloatForm.ensures in
    runs_as (whole_read (text_at c.args.self.now.values.store c.args.at) _ (state_of c.args.self.now w) (refused_as _ _ _ c.in-Err-FloatForm.field-0-is kept.refused))
    (raise_at_runs c.args.self.now NotInteger _ _ NotNumber told (values_then c.args.self.now _ c.whole.new.self kept.same c.raise_at-in-Err-FloatForm.ensures.same) (text_kept c.args.self.now.values.store c.whole.new.self.store c.args.at kept.stack kept.same.cells) c.raise_at-in-Err-FloatForm.ensures.raises)

pub returns-in-Err-TooLarge-clause-answer : goal.returns-in-Err-TooLarge-clause-answer
returns-in-Err-TooLarge-clause-answer g c here w told =
    let kept = c.in-Err-TooLarge.ensures in
    runs_as (whole_read (text_at c.args.self.now.values.store c.args.at) _ (state_of c.args.self.now w) (refused_as _ _ _ c.in-Err-TooLarge.field-0-is kept.refused))
    (raise_at_runs c.args.self.now IntegerTooLarge _ _ Overflow told (values_then c.args.self.now _ c.whole.new.self kept.same c.raise_at-in-Err-TooLarge.ensures.same) (text_kept c.args.self.now.values.store c.whole.new.self.store c.args.at kept.stack kept.same.cells) c.raise_at-in-Err-TooLarge.ensures.raises)

pub returns-in-Err-NoMemory-clause-answer : goal.returns-in-Err-NoMemory-clause-answer
returns-in-Err-NoMemory-clause-answer g c here w told = memory_runs refl told refl
