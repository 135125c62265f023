use Rattle.std.proofs.Common.{◌≡◌, ◌∙◌, sym, ap, subst, ◌-◌, [], length, Ok, refl}
use Rattle.std.specs.Prelude.{slice_index_or}
use Rattle.std.specs.Option.{IsSome}
use Rattle.std.specs.FinMap.{get}
use Rattle.tclv_reply.specs.Names.{naming, shape_of}
use Rattle.tclv_value.specs.Stacks.{top}
use Rattle.tclv_reply.specs.Replies as replies
use Rattle.tclv_engine.specs.Holdings.{Holdings}
use Rattle.tclv_engine.specs.Names.{bytes_of, read_named}
use Rattle.tclv_plain.specs.CellRows as cells
use Rattle.tclv_plain.specs.CellSteps as steps
use Rattle.tclv_plain.proofs.CellLemmas.{found, tied_set}
use Rattle.tclv_plain.proofs.cell_commands.change.Goals as goal

pub cell_at-requires-clause-shape : goal.cell_at-requires-clause-shape
cell_at-requires-clause-shape c = c.requires.shape ∙ ap (λ k. shape_of (bytes_of (slice_index_or c.args.values.now.store.stack (k - c.args.n) []))) (sym c.height.ensures)

pub invariant_of-values : goal.invariant_of-values
invariant_of-values c =
    let P : Holdings → Type 0 = λ h. IsSome (get h.store.cells c.in-Ok.cell) in
    let there = subst P (sym c.values.view_is) c.in-Ok.ensures.there in
    tied_set _ c.args.n c.values.inside.vars c.values.inside.store c.run_cell.new.store c.in-Ok.cell c.run_cell.result c.run_cell.ensures (sym (c.values.invariant c.in-Ok.cell) ∙ there) c.values.invariant

pub returns-in-Ok : goal.returns-in-Ok
returns-in-Ok c =
    let inside : Holdings = record { store = c.values.inside.store; vars = c.values.inside.vars } in
    let now : Holdings = record { store = c.run_cell.new.store; vars = c.values.inside.vars } in
    let P : Holdings → Type 0 = λ h. steps.Changes (cells.row_of c.args.command (replies.call_word c.args.n h.store.stack) (top c.args.n h.store.stack)) c.args.n (naming (bytes_of (slice_index_or h.store.stack (length h.store.stack - c.args.n) []))) h now c.run_cell.result in
    let Q : Holdings → Type 0 = λ h. Ok c.in-Ok.cell ≡ read_named h.vars (naming (bytes_of (slice_index_or h.store.stack (length h.store.stack - c.args.n) []))) in
    let seen = c.in-Ok.ensures.answer ∙ ap (λ k. read_named c.args.values.now.vars (naming (bytes_of (slice_index_or c.args.values.now.store.stack (k - c.args.n) [])))) c.height.ensures in
    let stack = c.values.inside.store.stack in
    subst P c.values.view_is
    (found (cells.row_of c.args.command (replies.call_word c.args.n stack) (top c.args.n stack)) c.args.n (naming (bytes_of (slice_index_or stack (length stack - c.args.n) []))) inside now
    c.in-Ok.cell c.run_cell.result (sym (subst Q (sym c.values.view_is) seen)) refl c.run_cell.ensures)
