use Rattle.std.proofs.Common.{rules, refl, ap, ◌∙◌, sym, ◌≡◌, ◌-◌, [], get_or, arith, to_z, of_z, w64, FitsSigned}
use Rattle.std.proofs.lemmas.Int.{ints}
use Rattle.std.specs.Str.{chars}
use Rattle.tclv_engine.specs.declared.functions.Function.TheVariants as f
use Rattle.tclv_model.specs.declared.messages.MessageId.TheVariants.{WrongMathFunctionArguments}
use Rattle.tclv_model.specs.declared.error_codes.ErrorCode.TheVariants.{NoCode}
use Rattle.tclv_engine.specs.State.{state_of}
use Rattle.tclv_engine.specs.Operations.{operand, calculated}
use Rattle.tclv_engine.specs.Functions.{apply, size}
use Rattle.tclv_engine.proofs.Binds.{runs_as, bind_ok, then_stop}
use Rattle.tclv_engine.proofs.Leaves.{raise_first}
use Rattle.tclv_engine.proofs.FunctionLemmas.{absolute_refused, argument}
use Rattle.tclv_engine.proofs.machine.Machine.absolute.Goals as goal

pub returns-then-n-ne1-clause-answer : goal.returns-then-n-ne1-clause-answer
returns-then-n-ne1-clause-answer g c here w told =
    runs_as (absolute_refused (chars c.args.name.now) c.args.self.now.values.store.stack c.args.n (state_of c.args.self.now w) c.requires.arguments (λ e. search (rules, e, c.if-n-ne1.true)))
    (raise_first c.args.self.now WrongMathFunctionArguments WrongMathFunctionArguments _ NoCode NoCode told c.wrong_count.ensures.same refl refl c.wrong_count.ensures.raises)

pub returns-in_err-m-clause-answer : goal.returns-in_err-m-clause-answer
returns-in_err-m-clause-answer g c here w told =
    let stack = c.args.self.now.values.store.stack in
    let one = argument stack c.args.n (search (rules, c.if-n-ne1.false)) c.requires.arguments in
    runs_as (sym (ap (λ xs. apply f.Absolute (chars c.args.name.now) xs (state_of c.args.self.now w)) one))
    (then_stop _ (search rules) (runs_as (ap (λ l. operand (chars c.args.name.now) (get_or stack (l - 1) []) (state_of c.args.self.now w)) c.height.ensures) (c.in_err-m.ensures.answer here w told)))

pub returns-clause-answer : goal.returns-clause-answer
returns-clause-answer g c here w told =
    let stack = c.args.self.now.values.store.stack in
    let one = argument stack c.args.n (search (rules, c.if-n-ne1.false)) c.requires.arguments in
    let fits : FitsSigned w64 c.in_ok-m.m = search rules in
    let same : to_z w64 (of_z w64 c.in_ok-m.m) ≡ c.in_ok-m.m = omega (arith, ints) in
    runs_as (sym (ap (λ xs. apply f.Absolute (chars c.args.name.now) xs (state_of c.args.self.now w)) one))
    (bind_ok _ (runs_as (ap (λ l. operand (chars c.args.name.now) (get_or stack (l - 1) []) (state_of c.args.self.now w)) c.height.ensures) (c.in_ok-m.ensures.answer here w told))
    (λ m v e shown. runs_as (ap (λ x. calculated x (state_of c.operand.new.self v)) (c.size.ensures ∙ ap size (same ∙ shown))) (c.calculated.ensures.answer here v e)))
