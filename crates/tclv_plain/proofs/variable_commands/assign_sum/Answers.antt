use Rattle.std.proofs.Common.{rules, sym, ap, ◌∙◌, ◌≡◌, [], arith, to_z, of_z, w64, FitsSigned}
use Rattle.std.specs.Str.{chars}
use Rattle.tclv_value.specs.View.{text_at}
use Rattle.tclv_engine.specs.State.{state_of}
use Rattle.std.proofs.Common.{◌+ℤ◌}
use Rattle.std.proofs.lemmas.Int.{ints}
use Rattle.std.proofs.lemmas.Str.{chars-nil}
use Rattle.tclv_text.specs.Numbers.{whole_text}
use Rattle.tclv_value.specs.declared.places.At.TheVariants.{Stack}
use Rattle.tclv_model.specs.declared.messages.MessageId.TheVariants.{IntegerTooLarge}
use Rattle.tclv_model.specs.declared.error_codes.ErrorCode.TheVariants.{Overflow}
use Rattle.tclv_plain.specs.VariableRows.{assign_result}
use Rattle.tclv_engine.proofs.Binds.{runs_as}
use Rattle.tclv_engine.proofs.WordLemmas.{raise_at_runs}
use Rattle.tclv_plain.proofs.VariableRowLemmas.{real2, sum_of, sum_fits, sum_too_large}
use Rattle.tclv_plain.proofs.variable_commands.assign_sum.Goals as goal

pub returns-in-Some-clause-answer : goal.returns-in-Some-clause-answer
returns-in-Some-clause-answer g c here w told =
    let name = text_at c.args.machine.now.values.store (Stack c.args.name) in
    let fits : FitsSigned w64 c.in-Some.sum = search rules in
    let same : to_z w64 (of_z w64 c.in-Some.sum) ≡ c.in-Some.sum = omega (arith, ints) in
    let found = real2 (λ a b. c.sum.result ≡ sum_of (a +ℤ b)) _ _ c.ranges.n c.ranges.increment c.sum.ensures in
    runs_as (ap (λ z. assign_result name (whole_text z) (state_of c.args.machine.now w)) same
    ∙ sum_fits (c.args.n +ℤ c.args.increment) c.in-Some.sum name (state_of c.args.machine.now w) (sym found ∙ c.in-Some.is))
    (c.assign_whole.ensures.answer here w told)

pub returns-in-None-clause-answer : goal.returns-in-None-clause-answer
returns-in-None-clause-answer g c here w told =
    let found = real2 (λ a b. c.sum.result ≡ sum_of (a +ℤ b)) _ _ c.ranges.n c.ranges.increment c.sum.ensures in
    runs_as (sum_too_large (c.args.n +ℤ c.args.increment) (text_at c.args.machine.now.values.store (Stack c.args.name)) (state_of c.args.machine.now w) (sym found ∙ c.in-None.is))
    (raise_at_runs c.args.machine.now IntegerTooLarge (chars []) [] Overflow told c.raise.ensures.same chars-nil c.raise.ensures.raises)
