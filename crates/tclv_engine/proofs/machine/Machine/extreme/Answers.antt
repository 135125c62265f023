use Rattle.std.proofs.Common.{rules, refl, ap, ◌∙◌, ◌≡◌, ◌-◌, ◌+◌, [], get_or, drop, arith, to_z, of_z, w64, FitsSigned}
use Rattle.std.proofs.lemmas.Int.{ints}
use Rattle.std.specs.Str.{chars}
use Rattle.tclv_model.specs.declared.messages.MessageId.TheVariants.{WrongMathFunctionArguments}
use Rattle.tclv_model.specs.declared.error_codes.ErrorCode.TheVariants.{NoCode}
use Rattle.tclv_engine.specs.State.{state_of}
use Rattle.tclv_engine.specs.Operations.{operand}
use Rattle.tclv_engine.specs.Functions.{picked}
use Rattle.tclv_engine.proofs.Binds.{runs_as, bind_ok, then_stop}
use Rattle.tclv_engine.proofs.Leaves.{raise_first}
use Rattle.tclv_engine.proofs.FunctionLemmas.{extreme_none, extreme_some}
use Rattle.tclv_engine.proofs.machine.Machine.extreme.Goals as goal

pub returns-then-n-eq0-clause-answer : goal.returns-then-n-eq0-clause-answer
returns-then-n-eq0-clause-answer g c here w told =
    runs_as (extreme_none c.args.pick (chars c.args.name.now) c.args.self.now.values.store.stack c.args.n (state_of c.args.self.now w) c.if-n-eq0.true)
    (raise_first c.args.self.now WrongMathFunctionArguments WrongMathFunctionArguments _ NoCode NoCode told c.wrong_count.ensures.same refl refl c.wrong_count.ensures.raises)

pub returns-in_err-first-clause-answer : goal.returns-in_err-first-clause-answer
returns-in_err-first-clause-answer g c here w told =
    let stack = c.args.self.now.values.store.stack in
    runs_as (extreme_some c.args.pick (chars c.args.name.now) stack c.args.n (state_of c.args.self.now w) (search (rules, c.if-n-eq0.false)) c.requires.arguments)
    (then_stop _ (search rules) (runs_as (ap (λ l. operand (chars c.args.name.now) (get_or stack (l - c.args.n) []) (state_of c.args.self.now w)) c.height.ensures) (c.in_err-first.ensures.answer here w told)))

pub returns-clause-answer : goal.returns-clause-answer
returns-clause-answer g c here w told =
    let stack = c.args.self.now.values.store.stack in
    let fits : FitsSigned w64 c.in_ok-first.first = search rules in
    let same : to_z w64 (of_z w64 c.in_ok-first.first) ≡ c.in_ok-first.first = omega (arith, ints) in
    let st = state_of c.operand.new.self in
    runs_as (extreme_some c.args.pick (chars c.args.name.now) stack c.args.n (state_of c.args.self.now w) (search (rules, c.if-n-eq0.false)) c.requires.arguments)
    (bind_ok _ (runs_as (ap (λ l. operand (chars c.args.name.now) (get_or stack (l - c.args.n) []) (state_of c.args.self.now w)) c.height.ensures) (c.in_ok-first.ensures.answer here w told))
    (λ m v e shown. runs_as (ap (λ z. picked c.args.pick (chars c.args.name.now) z (drop (c.height.result - c.args.n + 1) c.operand.new.self.values.store.stack) (state_of c.operand.new.self v)) (same ∙ shown)
    ∙ ap (λ s. picked c.args.pick (chars c.args.name.now) m (drop (c.height.result - c.args.n + 1) s) (state_of c.operand.new.self v)) c.in_ok-first.ensures.stack
    ∙ ap (λ l. picked c.args.pick (chars c.args.name.now) m (drop (l - c.args.n + 1) stack) (state_of c.operand.new.self v)) c.height.ensures)
    (c.picked.ensures.answer here v e)))
