use Rattle.std.proofs.Common.{refl, ap, sym, ◌∙◌}
use Rattle.std.specs.Str.{chars}
use Rattle.tclv_value.specs.Stacks.{top}
use Rattle.tclv_model.specs.declared.messages.MessageId.TheVariants.{UnknownMathFunction}
use Rattle.tclv_model.specs.declared.error_codes.ErrorCode.TheVariants.{NoCode}
use Rattle.tclv_engine.specs.State.{state_of}
use Rattle.tclv_engine.specs.Functions.{function_of, call_by}
use Rattle.tclv_engine.proofs.Binds.{runs_as}
use Rattle.tclv_engine.proofs.Leaves.{raise_first}
use Rattle.tclv_engine.proofs.NameLemmas.{bytes-are}
use Rattle.tclv_engine.proofs.machine.Machine.apply.Goals as goal

pub returns-in-Some-clause-answer : goal.returns-in-Some-clause-answer
returns-in-Some-clause-answer g c here w told =
    runs_as (ap (λ o. call_by o (chars c.args.name.now) (top c.args.n c.args.self.now.values.store.stack) (state_of c.args.self.now w)) (sym c.in-Some.is ∙ c.function_of.ensures ∙ ap function_of (bytes-are _ _ c.requires.name refl)))
    (c.apply_function.ensures.answer here w told)

pub returns-in-None-clause-answer : goal.returns-in-None-clause-answer
returns-in-None-clause-answer g c here w told =
    runs_as (ap (λ o. call_by o (chars c.args.name.now) (top c.args.n c.args.self.now.values.store.stack) (state_of c.args.self.now w)) (sym c.in-None.is ∙ c.function_of.ensures ∙ ap function_of (bytes-are _ _ c.requires.name refl)))
    (raise_first c.args.self.now UnknownMathFunction UnknownMathFunction _ NoCode NoCode told c.raise.ensures.same refl refl c.raise.ensures.raises)
