use Rattle.std.proofs.Common.{refl, ◌∙◌, sym, ap}
use Rattle.std.specs.Str.{chars}
use Rattle.tclv_engine.specs.State.{state_of}
use Rattle.tclv_engine.proofs.Binds.{runs_as}
use Rattle.tclv_engine.proofs.Leaves.{raise_runs, raise_first}
use Rattle.tclv_engine.proofs.NameLemmas.{bytes-are}
use Rattle.tclv_engine.proofs.VariableLemmas.{variable-unbuilt, variable-read}
use Rattle.tclv_engine.proofs.machine.Machine.push_variable.Goals as goal

pub returns-then-shape-clause-answer : goal.returns-then-shape-clause-answer
returns-then-shape-clause-answer g c here w told =
    runs_as (variable-unbuilt c.args.name.now (chars c.args.name.now) (state_of c.args.self.now w) (bytes-are _ _ c.requires refl) (sym (ap (λ s. s.qualified) c.of-shape.ensures) ∙ c.if-shape.true))
    (raise_runs c.args.self.now told c.not_built.ensures.same c.not_built.ensures.raises)

pub returns-in-Ok-clause-answer : goal.returns-in-Ok-clause-answer
returns-in-Ok-clause-answer g c here w told =
    runs_as (variable-read c.args.name.now (chars c.args.name.now) (state_of c.args.self.now w) _ (bytes-are _ _ c.requires refl) (sym (ap (λ s. s.qualified) c.of-shape.ensures) ∙ c.if-shape.false) (sym c.cell_named.ensures.answer ∙ c.in-Ok.is))
    (c.push_cell.ensures.answer here w told)

pub returns-in-Err-clause-answer : goal.returns-in-Err-clause-answer
returns-in-Err-clause-answer g c here w told =
    runs_as (variable-read c.args.name.now (chars c.args.name.now) (state_of c.args.self.now w) _ (bytes-are _ _ c.requires refl) (sym (ap (λ s. s.qualified) c.of-shape.ensures) ∙ c.if-shape.false) (sym c.cell_named.ensures.answer ∙ c.in-Err.is))
    (raise_first c.args.self.now _ _ _ _ _ told c.raise.ensures.same c.unreadable-kind.ensures.message c.unreadable-kind.ensures.code c.raise.ensures.raises)
