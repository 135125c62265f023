use Rattle.std.proofs.Common.{◌-◌, true≢false, sym, ◌∙◌}
use Rattle.tclv_model.specs.declared.data_commands.VarState.TheVariants as var
use Rattle.tclv_lists.specs.Variables.{SetsOpen}
use Rattle.tclv_lists.proofs.AtOnceLemmas.{set_gives, set_after}
use Rattle.tclv_lists.proofs.VariableLemmas.{on_ok}
use Rattle.tclv_lists.proofs.setting.set_in_cell.Goals as goal

pub returns-in-Ok-true-clause-answer : goal.returns-in-Ok-true-clause-answer
returns-in-Ok-true-clause-answer c = set_gives c.args.cell c.args.n c.args.store.now c.set_at_once.new.store c.requires.some c.requires.words (c.in-Ok-true.ensures.set c.in-Ok-true.field-0-test)

pub returns-in-Ok-false-clause-answer : goal.returns-in-Ok-false-clause-answer
returns-in-Ok-false-clause-answer c = set_after c.args.cell c.args.n c.args.store.now c.set_at_once.new.store c.set_by_steps.new.store c.set_by_steps.result (c.in-Ok-false.ensures.kept (λ is. true≢false (sym is ∙ c.in-Ok-false.field-0-test))) c.set_by_steps.ensures

pub returns-in-Ok-false-clause-object : goal.returns-in-Ok-false-clause-object
unfolding SetsOpen
returns-in-Ok-false-clause-object c = on_ok c.set_by_steps.result _ (λ opens. absurd (c.in-Ok-false.ensures.shut (λ is. true≢false (sym is ∙ c.in-Ok-false.field-0-test)) opens))
