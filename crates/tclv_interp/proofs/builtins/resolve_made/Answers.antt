use Rattle.std.proofs.Common.{rules, refl, ◌∙◌, sym, ap}
use Rattle.std.specs.Option.{option_copied}
use Rattle.tclv_value.specs.View.{text_at}
use Rattle.tclv_engine.specs.State.{state_of}
use Rattle.tclv_model.specs.declared.messages.MessageId.TheVariants as message
use Rattle.tclv_model.specs.declared.error_codes.ErrorCode.TheVariants.{UnknownCommand}
use Rattle.tclv_engine.proofs.Binds.{runs_as}
use Rattle.tclv_engine.proofs.Leaves.{memory_runs, value_runs, raise_runs, raise_first}
use Rattle.tclv_engine.proofs.NameLemmas.{bytes-are}
use Rattle.tclv_interp.proofs.CommandLemmas.{resolve-qualified, resolve-plain}
use Rattle.tclv_interp.proofs.builtins.resolve_made.Goals as goal

pub returns-then-is_qualified-clause-answer : goal.returns-then-is_qualified-clause-answer
returns-then-is_qualified-clause-answer c here w told =
    runs_as (resolve-qualified c.lend.result.now (text_at c.args.machine.now.values.store c.args.name) (state_of c.args.machine.now w) (bytes-are _ _ c.lend.ensures.utf8 c.lend.ensures.text) (sym c.is_qualified.ensures ∙ c.if-is_qualified.true))
    (raise_runs c.args.machine.now told c.not_built.ensures.same c.not_built.ensures.raises)

pub returns-in_err-called-in-Some-clause-answer : goal.returns-in_err-called-in-Some-clause-answer
returns-in_err-called-in-Some-clause-answer c here w told = memory_runs (search rules) told refl

pub returns-in_ok-called-in-Some-clause-answer : goal.returns-in_ok-called-in-Some-clause-answer
returns-in_ok-called-in-Some-clause-answer c here w told =
    runs_as (resolve-plain c.lend.result.now c.lend-2.result.now (text_at c.args.machine.now.values.store c.args.name) (state_of c.args.machine.now w) _ (bytes-are _ _ c.lend.ensures.utf8 c.lend.ensures.text) (bytes-are _ _ c.lend-2.ensures.utf8 c.lend-2.ensures.text) (sym c.is_qualified.ensures ∙ c.if-is_qualified.false) (sym c.lend-3.ensures.value ∙ ap option_copied c.in-Some.is))
    (value_runs c.args.machine.now told (search rules) c.in_ok-called-in-Some.ensures)

pub returns-in-None-clause-answer : goal.returns-in-None-clause-answer
returns-in-None-clause-answer c here w told =
    runs_as (resolve-plain c.lend.result.now c.lend-2.result.now (text_at c.args.machine.now.values.store c.args.name) (state_of c.args.machine.now w) _ (bytes-are _ _ c.lend.ensures.utf8 c.lend.ensures.text) (bytes-are _ _ c.lend-2.ensures.utf8 c.lend-2.ensures.text) (sym c.is_qualified.ensures ∙ c.if-is_qualified.false) (sym c.lend-3.ensures.value ∙ ap option_copied c.in-None.is))
    (raise_first c.args.machine.now message.UnknownCommand message.UnknownCommand _ UnknownCommand UnknownCommand told c.raise_at.ensures.same refl refl c.raise_at.ensures.raises)
