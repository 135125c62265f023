use Rattle.std.proofs.Common.{rules, refl, ap, sym}
use Rattle.std.specs.Str.{chars}
use Rattle.tclv_engine.specs.declared.functions.Function.TheVariants as f
use Rattle.tclv_model.specs.declared.messages.MessageId.TheVariants.{WrongMathFunctionArguments}
use Rattle.tclv_model.specs.declared.error_codes.ErrorCode.TheVariants.{NoCode}
use Rattle.tclv_engine.specs.State.{state_of}
use Rattle.tclv_engine.specs.Operations.{truth_number}
use Rattle.tclv_engine.specs.Functions.{apply}
use Rattle.tclv_engine.proofs.Binds.{runs_as, bind_ok, then_stop}
use Rattle.tclv_engine.proofs.Leaves.{raise_first}
use Rattle.tclv_engine.proofs.FunctionLemmas.{truth_refused, argument}
use Rattle.tclv_engine.proofs.machine.Machine.truth.Goals as goal

pub returns-then-n-ne1-clause-answer : goal.returns-then-n-ne1-clause-answer
returns-then-n-ne1-clause-answer g c here w told =
    runs_as (truth_refused (chars c.args.name.now) c.args.self.now.values.store.stack c.args.n (state_of c.args.self.now w) c.requires.arguments (λ e. search (rules, e, c.if-n-ne1.true)))
    (raise_first c.args.self.now WrongMathFunctionArguments WrongMathFunctionArguments _ NoCode NoCode told c.wrong_count.ensures.same refl refl c.wrong_count.ensures.raises)

pub returns-in_err-b-clause-answer : goal.returns-in_err-b-clause-answer
returns-in_err-b-clause-answer g c here w told =
    let stack = c.args.self.now.values.store.stack in
    let one = argument stack c.args.n (search (rules, c.if-n-ne1.false)) c.requires.arguments in
    runs_as (sym (ap (λ xs. apply f.Truth (chars c.args.name.now) xs (state_of c.args.self.now w)) one))
    (then_stop _ (search rules) (c.in_err-b.ensures.answer here w told))

pub returns-clause-answer : goal.returns-clause-answer
returns-clause-answer g c here w told =
    let stack = c.args.self.now.values.store.stack in
    let one = argument stack c.args.n (search (rules, c.if-n-ne1.false)) c.requires.arguments in
    runs_as (sym (ap (λ xs. apply f.Truth (chars c.args.name.now) xs (state_of c.args.self.now w)) one))
    (bind_ok _ (c.in_ok-b.ensures.answer here w told)
    (λ b v e shown. runs_as (ap (λ x. truth_number x (state_of c.truth_on_top.new.self v)) shown) (c.truth_number.ensures.answer here v e)))
