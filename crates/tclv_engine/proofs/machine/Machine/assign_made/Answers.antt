use Rattle.std.proofs.Common.{rules, ◌∙◌, sym, ap, subst, refl, List, ℕ}
use Rattle.tclv_value.specs.View.{text_at}
use Rattle.tclv_engine.specs.State.{state_of}
use Rattle.tclv_engine.specs.Names.{bytes_of}
use Rattle.tclv_engine.specs.Answers.{last_of}
use Rattle.tclv_engine.proofs.Binds.{runs_as}
use Rattle.tclv_engine.proofs.Leaves.{raise_runs}
use Rattle.tclv_engine.proofs.VariableLemmas.{assign-unbuilt, assign-write, written-cell}
use Rattle.tclv_engine.proofs.AssignLemmas.{refused-runs}
use Rattle.tclv_engine.proofs.StackLemmas.{repushed}
use Rattle.tclv_engine.proofs.HoldingsLemmas.{get-put, same_text}
use Rattle.tclv_engine.specs.Variables.{RefusesSetting}
use Rattle.std.specs.FinMap.{get}
use Rattle.std.specs.Option.{unwrap_or}
use Rattle.std.specs.Prelude.{[]}
use Rattle.tclv_value.specs.declared.places.At.TheVariants.{Cell}
use Rattle.tclv_engine.proofs.machine.Machine.assign_made.Goals as goal

pub returns-then-shape-clause-answer : goal.returns-then-shape-clause-answer
returns-then-shape-clause-answer g c here w told =
    let text = text_at c.args.self.now.values.store c.args.name in
    runs_as (assign-unbuilt (bytes_of text) text _ (state_of c.args.self.now w) refl (sym (ap (λ s. s.qualified) c.shape_at-shape.ensures) ∙ c.if-shape.true))
    (raise_runs c.args.self.now told c.not_built.ensures.same c.not_built.ensures.raises)

pub returns-in-Ok-clause-answer : goal.returns-in-Ok-clause-answer
returns-in-Ok-clause-answer g c here w told =
    let text = text_at c.args.self.now.values.store c.args.name in
    let value = last_of c.args.self.now.values.store.stack in
    runs_as (written-cell text value (state_of c.args.self.now w) c.write_top.new.self.vars c.write_top.new.self.store.cells c.in-Ok.cell c.in-Ok.ensures.assigned.fresh c.in-Ok.ensures.assigned.cells
    ∙ assign-write (bytes_of text) text value (state_of c.args.self.now w) _ refl (sym (ap (λ s. s.qualified) c.shape_at-shape.ensures) ∙ c.if-shape.false) c.in-Ok.ensures.assigned.wrote)
    (c.push_cell.ensures.answer here w told)

pub returns-in-Ok-clause-stack : goal.returns-in-Ok-clause-stack
returns-in-Ok-clause-stack g c =
    let text = text_at c.write_top.new.self.store (Cell c.in-Ok.cell) in
    repushed text c.args.self.now.values.store.stack c.write_top.new.self.store.stack c.push_cell.result c.push_cell.new.self.values.store.stack c.requires.some c.in-Ok.ensures.assigned.stack
    (ap (λ m. unwrap_or (get m c.in-Ok.cell) []) c.in-Ok.ensures.assigned.cells ∙ ap (λ o. unwrap_or o []) (get-put c.args.self.now.values.store.cells c.in-Ok.cell (last_of c.args.self.now.values.store.stack)))
    c.push_cell.ensures.stack

pub returns-in-Err-clause-answer : goal.returns-in-Err-clause-answer
returns-in-Err-clause-answer g c here w told =
    let P : List ℕ → Type 0 = λ t. RefusesSetting c.in-Err.fault t c.refuse_write.new.self.values.store.stack c.refuse_write.result in
    refused-runs c.args.self.now c.refuse_write.new.self w here (bytes_of (text_at c.args.self.now.values.store c.args.name)) (text_at c.args.self.now.values.store c.args.name) (last_of c.args.self.now.values.store.stack) c.in-Err.fault c.refuse_write.result
    told (search rules) refl (sym (ap (λ s. s.qualified) c.shape_at-shape.ensures) ∙ c.if-shape.false) c.in-Err.ensures.refused
    (subst P (same_text c.args.self.now.values.store c.write_top.new.self.store c.args.name c.in-Err.ensures.stack c.in-Err.ensures.same.cells) c.refuse_write.ensures.refuses)
