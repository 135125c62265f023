use Rattle.std.proofs.Common.{rules, ap, ◌∙◌, ◌≡◌, ◌-◌, [], get_or, arith, to_z, of_z, w64, FitsSigned}
use Rattle.tclv_value.specs.View.{text_at}
use Rattle.tclv_engine.specs.State.{state_of}
use Rattle.std.proofs.Common.{◌+ℤ◌}
use Rattle.std.proofs.lemmas.Int.{ints, to_z-of_z}
use Rattle.tclv_value.specs.declared.places.At.TheVariants.{Stack}
use Rattle.tclv_engine.specs.WholeNumbers.{whole_number}
use Rattle.tclv_plain.specs.VariableRows.{assign_sum}
use Rattle.tclv_engine.proofs.Binds.{runs_as, bind_ok, then_stop}
use Rattle.tclv_plain.proofs.variable_commands.increase_from.Goals as goal

pub returns-in_err-n-clause-answer : goal.returns-in_err-n-clause-answer
returns-in_err-n-clause-answer g c here w told =
    let stack = c.args.machine.now.values.store.stack in
    then_stop _ (search rules) (runs_as (ap (λ l. whole_number (get_or stack (l - 1) []) (state_of c.args.machine.now w)) c.height.ensures) (c.in_err-n.ensures.answer here w told))

pub returns-clause-answer : goal.returns-clause-answer
returns-clause-answer g c here w told =
    let stack = c.args.machine.now.values.store.stack in
    let fits : FitsSigned w64 c.in_ok-n.n = search rules in
    let same : to_z w64 (of_z w64 c.in_ok-n.n) ≡ c.in_ok-n.n = omega (arith, ints) in
    let by = to_z-of_z w64 c.args.increment c.ranges.increment in
    let name = text_at c.whole_at.new.self.values.store (Stack c.args.name) in
    bind_ok _ (runs_as (ap (λ l. whole_number (get_or stack (l - 1) []) (state_of c.args.machine.now w)) c.height.ensures) (c.in_ok-n.ensures.answer here w told))
    (λ a v e shown. runs_as (ap (λ z. assign_sum name (z +ℤ to_z w64 (of_z w64 c.args.increment)) (state_of c.whole_at.new.self v)) (same ∙ shown)
    ∙ ap (λ z. assign_sum name (a +ℤ z) (state_of c.whole_at.new.self v)) by
    ∙ ap (λ s. assign_sum (get_or s c.args.name []) (a +ℤ c.args.increment) (state_of c.whole_at.new.self v)) c.in_ok-n.ensures.stack)
    (c.assign_sum.ensures.answer here v e))
