use Rattle.std.proofs.Common.{rules, ap, sym, ◌∙◌, ◌≡◌, arith, to_z, of_z, w64, FitsSigned, [], get_or, ◌-◌}
use Rattle.std.proofs.lemmas.Int.{ints}
use Rattle.tclv_text.specs.declared.numbers.WholeFault.TheVariants.{NotWhole, TooLarge, FloatForm}
use Rattle.std.proofs.Common.{Err}
use Rattle.tclv_text.specs.Numbers.{whole, whole_text}
use Rattle.tclv_model.specs.declared.messages.MessageId.TheVariants.{FloatValue}
use Rattle.tclv_model.specs.declared.error_codes.ErrorCode.TheVariants.{NoCode}
use Rattle.tclv_engine.specs.State.{state_of}
use Rattle.tclv_engine.specs.Results.{done}
use Rattle.tclv_engine.specs.Answers.{last_of}
use Rattle.tclv_engine.specs.Expressions.{settled}
use Rattle.tclv_engine.proofs.Binds.{runs_as}
use Rattle.tclv_engine.proofs.Leaves.{value_runs, memory_runs, from_same}
use Rattle.tclv_engine.proofs.WordLemmas.{raise_at_runs, same_then}
use Rattle.tclv_engine.proofs.ExpressionLemmas.{settled_is, last_kept}
use Rattle.tclv_engine.proofs.machine.Machine.settled.Goals as goal

pub returns-in_err-n-clause-answer : goal.returns-in_err-n-clause-answer
returns-in_err-n-clause-answer g c here w told = memory_runs (search rules) told (search rules)

pub returns-in-Ok-clause-answer : goal.returns-in-Ok-clause-answer
returns-in-Ok-clause-answer g c here w told =
    let fits : FitsSigned w64 c.in-Ok.n = search rules in
    let same : to_z w64 (of_z w64 c.in-Ok.n) ≡ c.in-Ok.n = omega (arith, ints) in
    let x = last_of c.args.self.now.values.store.stack in
    from_same c.args.self.now c.reading.new.self (settled x) c.in_ok-n.ensures.same
    (runs_as (ap (λ z. done (whole_text z) (state_of c.reading.new.self w)) same
    ∙ settled_is x _ (state_of c.reading.new.self w) (sym c.in-Ok.is ∙ c.in_ok-n.ensures.reading ∙ ap (λ l. whole (get_or c.args.self.now.values.store.stack (l - 1) [])) c.height.ensures)) (c.number.ensures.answer here w told))

pub returns-in-Err-NotWhole-clause-answer : goal.returns-in-Err-NotWhole-clause-answer
returns-in-Err-NotWhole-clause-answer g c here w told =
    let x = last_of c.args.self.now.values.store.stack in
    runs_as (settled_is x (Err NotWhole) (state_of c.args.self.now w) (sym (c.in-Err-NotWhole.is ∙ ap Err c.in-Err-NotWhole.field-0-is) ∙ c.in_ok-n.ensures.reading ∙ ap (λ l. whole (get_or c.args.self.now.values.store.stack (l - 1) [])) c.height.ensures))
    (value_runs c.args.self.now told c.in_ok-n.ensures.same (last_kept _ _ c.in_ok-n.ensures.stack))

pub returns-in-Err-TooLarge-clause-answer : goal.returns-in-Err-TooLarge-clause-answer
returns-in-Err-TooLarge-clause-answer g c here w told =
    let x = last_of c.args.self.now.values.store.stack in
    runs_as (settled_is x (Err TooLarge) (state_of c.args.self.now w) (sym (c.in-Err-TooLarge.is ∙ ap Err c.in-Err-TooLarge.field-0-is) ∙ c.in_ok-n.ensures.reading ∙ ap (λ l. whole (get_or c.args.self.now.values.store.stack (l - 1) [])) c.height.ensures))
    (value_runs c.args.self.now told c.in_ok-n.ensures.same (last_kept _ _ c.in_ok-n.ensures.stack))

pub returns-in-Err-FloatForm-clause-answer : goal.returns-in-Err-FloatForm-clause-answer
returns-in-Err-FloatForm-clause-answer g c here w told =
    let stack = c.args.self.now.values.store.stack in
    let x = last_of stack in
    runs_as (settled_is x (Err FloatForm) (state_of c.args.self.now w) (sym (c.in-Err-FloatForm.is ∙ ap Err c.in-Err-FloatForm.field-0-is) ∙ c.in_ok-n.ensures.reading ∙ ap (λ l. whole (get_or stack (l - 1) [])) c.height.ensures))
    (raise_at_runs c.args.self.now FloatValue _ _ NoCode told (same_then c.args.self.now c.reading.new.self c.raise_at.new.self c.in_ok-n.ensures.same c.raise_at.ensures.same)
    (ap (λ s. get_or s (c.height.result - 1) []) c.in_ok-n.ensures.stack ∙ ap (λ l. get_or stack (l - 1) []) c.height.ensures) c.raise_at.ensures.raises)
