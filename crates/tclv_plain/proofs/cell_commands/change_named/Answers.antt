use Rattle.std.proofs.Common.{◌≡◌, ◌∙◌, sym, ap, subst, refl, Ok, Err}
use Rattle.tclv_value.specs.Stacks.{top}
use Rattle.tclv_reply.specs.Names.{naming}
use Rattle.tclv_reply.specs.Replies as replies
use Rattle.tclv_vars.specs.Table.{has_value}
use Rattle.tclv_engine.specs.Holdings.{Holdings}
use Rattle.tclv_plain.specs.CellRows as cells
use Rattle.tclv_plain.specs.CellSteps as steps
use Rattle.tclv_engine.proofs.HoldingsLemmas.{tied_put, fresh_write}
use Rattle.tclv_plain.proofs.CellLemmas.{changed, declined, same_tied, untold, untold_cells, has_name, whole_refused, plain_refused}
use Rattle.tclv_plain.proofs.cell_commands.change_named.Goals as goal
use Rattle.tclv_plain.proofs.cell_commands.change_named.Goals.{After-take_back_named}

pub invariant_of-values : goal.invariant_of-values
invariant_of-values c =
    tied_put c.values.inside.vars c.write_named.new.vars c.values.inside.store.cells c.run_cell.new.store.cells c.in-Ok.cell c.in-Ok-run_cell.ensures.gives.kept c.values.invariant c.in-Ok.ensures.value c.in-Ok-run_cell.ensures.gives.cells

pub take_back_named-requires-clause-wrote : goal.take_back_named-requires-clause-wrote
take_back_named-requires-clause-wrote c = (
  c.values.inside.vars,
  fresh_write c.values.inside.vars c.write_named.new.vars c.args.name.now c.args.name.now c.args.name.now c.in-Ok.cell c.in-Ok.fresh c.missing_named-lacked.result c.in-Ok.ensures.written c.if-fresh.true c.missing_named-lacked.ensures.answer c.missing_named-lacked.ensures.sound refl refl,
)

-- the variables are as before the write
back : (c : After-take_back_named) → c.take_back_named.new.vars ≡ c.values.inside.vars
back c =
    c.take_back_named.ensures.before c.values.inside.vars
    (fresh_write c.values.inside.vars c.write_named.new.vars c.args.name.now c.args.name.now c.args.name.now c.in-Ok.cell c.in-Ok.fresh c.missing_named-lacked.result c.in-Ok.ensures.written c.if-fresh.true c.missing_named-lacked.ensures.answer c.missing_named-lacked.ensures.sound refl refl)

pub invariant_of-values-then-fresh : goal.invariant_of-values-then-fresh
invariant_of-values-then-fresh c cell =
    same_tied c.values.inside.vars c.values.inside.store c.run_cell.new.store c.in-Err-run_cell.ensures.kept c.values.invariant cell ∙ ap (λ t. has_value t cell) (sym (back c))

pub returns-in-Ok-run_cell : goal.returns-in-Ok-run_cell
returns-in-Ok-run_cell c =
    let now : Holdings = record { store = c.run_cell.new.store; vars = c.write_named.new.vars } in
    let P : Holdings → Type 0 = λ h. steps.Changes (cells.row_of c.args.command (replies.call_word c.args.n h.store.stack) (top c.args.n h.store.stack)) c.args.n (naming c.args.name.now) h now (Ok tt) in
    subst P c.values.view_is
    (changed (cells.row_of c.args.command (replies.call_word c.args.n c.values.inside.store.stack) (top c.args.n c.values.inside.store.stack)) c.args.n (naming c.args.name.now) (record { store = c.values.inside.store; vars = c.values.inside.vars }) now
    (record { cell = c.in-Ok.cell; fresh = c.in-Ok.fresh; after = c.write_named.new.vars }) c.in-Ok.ensures.written refl c.in-Ok-run_cell.ensures.gives)

pub returns-then-fresh : goal.returns-then-fresh
returns-then-fresh c =
    let now : Holdings = record { store = c.run_cell.new.store; vars = c.take_back_named.new.vars } in
    let kind = c.in-Err-run_cell.kind in
    let P : Holdings → Type 0 = λ h. steps.Changes (cells.row_of c.args.command (replies.call_word c.args.n h.store.stack) (top c.args.n h.store.stack)) c.args.n (naming c.args.name.now) h now (Err kind) in
    subst P c.values.view_is
    (declined (cells.row_of c.args.command (replies.call_word c.args.n c.values.inside.store.stack) (top c.args.n c.values.inside.store.stack)) c.args.n (naming c.args.name.now) (record { store = c.values.inside.store; vars = c.values.inside.vars }) now
    (record { cell = c.in-Ok.cell; fresh = c.in-Ok.fresh; after = c.write_named.new.vars }) kind c.in-Ok.ensures.written (back c) c.in-Err-run_cell.ensures)

pub run_cell-requires-in-Some-clause-named : goal.run_cell-requires-in-Some-clause-named
run_cell-requires-in-Some-clause-named c = has_name c.in-Err.fault c.in-Some.variable c.args.n (sym c.unsettable.ensures ∙ c.in-Some.is) c.requires.some

pub invariant_of-values-in-Some : goal.invariant_of-values-in-Some
invariant_of-values-in-Some c cell =
    same_tied c.values.inside.vars c.values.inside.store c.run_cell-in-Some.new.store (untold_cells c.in-Err.fault c.in-Some.variable _ c.args.n c.values.inside.store c.run_cell-in-Some.new.store c.run_cell-in-Some.result (sym c.unsettable.ensures ∙ c.in-Some.is) c.run_cell-in-Some.ensures) c.values.invariant cell
    ∙ ap (λ t. has_value t cell) (sym c.in-Err.ensures.same)

pub returns-in-Some : goal.returns-in-Some
returns-in-Some c =
    let now : Holdings = record { store = c.run_cell-in-Some.new.store; vars = c.write_named.new.vars } in
    let P : Holdings → Type 0 = λ h. steps.Changes (cells.row_of c.args.command (replies.call_word c.args.n h.store.stack) (top c.args.n h.store.stack)) c.args.n (naming c.args.name.now) h now c.run_cell-in-Some.result in
    let stack = c.values.inside.store.stack in
    subst P c.values.view_is
    (untold (cells.row_of c.args.command (replies.call_word c.args.n stack) (top c.args.n stack)) c.args.n (naming c.args.name.now) (record { store = c.values.inside.store; vars = c.values.inside.vars }) now
    c.in-Err.fault c.in-Some.variable c.run_cell-in-Some.result (sym c.unsettable.ensures ∙ c.in-Some.is) c.in-Err.ensures.refused
    (whole_refused c.args.command (replies.call_word c.args.n stack) (top c.args.n stack)) (plain_refused c.args.command (replies.call_word c.args.n stack) (top c.args.n stack)) c.in-Err.ensures.same c.run_cell-in-Some.ensures)
