use Rattle.std.proofs.Common.{rules, ap, ◌∙◌, ◌≡◌, [], get_or, arith, to_z, of_z, w64, FitsSigned}
use Rattle.tclv_value.specs.View.{text_at}
use Rattle.tclv_engine.specs.State.{state_of}
use Rattle.std.proofs.lemmas.Int.{ints}
use Rattle.tclv_value.specs.declared.places.At.TheVariants.{Stack}
use Rattle.tclv_plain.specs.VariableRows.{increase}
use Rattle.tclv_engine.proofs.Binds.{runs_as, bind_ok, then_stop}
use Rattle.tclv_plain.proofs.variable_commands.increase_by.Goals as goal

pub returns-in_err-n-clause-answer : goal.returns-in_err-n-clause-answer
returns-in_err-n-clause-answer g c here w told = then_stop _ (search rules) (c.in_err-n.ensures.answer here w told)

pub returns-clause-answer : goal.returns-clause-answer
returns-clause-answer g c here w told =
    let fits : FitsSigned w64 c.in_ok-n.n = search rules in
    let same : to_z w64 (of_z w64 c.in_ok-n.n) ≡ c.in_ok-n.n = omega (arith, ints) in
    bind_ok _ (c.in_ok-n.ensures.answer here w told)
    (λ a v e shown. runs_as (ap (λ z. increase (text_at c.whole_at.new.self.values.store (Stack c.args.name)) z (state_of c.whole_at.new.self v)) (same ∙ shown)
    ∙ ap (λ s. increase (get_or s c.args.name []) a (state_of c.whole_at.new.self v)) c.in_ok-n.ensures.stack)
    (c.increase.ensures.answer here v e))
