use Rattle.std.proofs.Common.{◌∙◌, sym, ap, refl}
use Rattle.tclv_value.specs.View.{text_at}
use Rattle.tclv_engine.specs.State.{state_of}
use Rattle.tclv_engine.specs.Names.{bytes_of}
use Rattle.tclv_engine.proofs.Binds.{runs_as}
use Rattle.tclv_engine.proofs.Leaves.{raise_runs, raise_first}
use Rattle.tclv_engine.proofs.VariableLemmas.{variable-unbuilt, variable-read}
use Rattle.tclv_engine.proofs.machine.Machine.push_made_variable.Goals as goal

pub returns-then-shape-clause-answer : goal.returns-then-shape-clause-answer
returns-then-shape-clause-answer g c here w told =
    let name = text_at c.args.self.now.values.store c.args.name in
    runs_as (variable-unbuilt (bytes_of name) name (state_of c.args.self.now w) refl (sym (ap (λ s. s.qualified) c.shape_at-shape.ensures) ∙ c.if-shape.true))
    (raise_runs c.args.self.now told c.not_built.ensures.same c.not_built.ensures.raises)

pub returns-in-Ok-clause-answer : goal.returns-in-Ok-clause-answer
returns-in-Ok-clause-answer g c here w told =
    let name = text_at c.args.self.now.values.store c.args.name in
    runs_as (variable-read (bytes_of name) name (state_of c.args.self.now w) _ refl (sym (ap (λ s. s.qualified) c.shape_at-shape.ensures) ∙ c.if-shape.false) (sym c.cell_at.ensures.answer ∙ c.in-Ok.is))
    (c.push_cell.ensures.answer here w told)

pub returns-in-Err-clause-answer : goal.returns-in-Err-clause-answer
returns-in-Err-clause-answer g c here w told =
    let name = text_at c.args.self.now.values.store c.args.name in
    runs_as (variable-read (bytes_of name) name (state_of c.args.self.now w) _ refl (sym (ap (λ s. s.qualified) c.shape_at-shape.ensures) ∙ c.if-shape.false) (sym c.cell_at.ensures.answer ∙ c.in-Err.is))
    (raise_first c.args.self.now _ _ _ _ _ told c.raise_at.ensures.same c.unreadable-kind.ensures.message c.unreadable-kind.ensures.code c.raise_at.ensures.raises)
