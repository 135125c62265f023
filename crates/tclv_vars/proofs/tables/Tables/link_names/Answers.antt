use Rattle.std.proofs.Common.{ap, ◌∙◌}
use Rattle.std.specs.Option.{option_copied}
use Rattle.tclv_vars.specs.Scoping.{slot_of}
use Rattle.tclv_vars.specs.Table.{table_of, at_scopes}
use Rattle.tclv_vars.specs.Undo.{undone, missing_slot}
use Rattle.tclv_vars.proofs.UndoLemmas.{undo_locate}
use Rattle.tclv_vars.proofs.tables.Tables.link_names.Goals as goal

pub returns-then-fresh : goal.returns-then-fresh
returns-then-fresh c =
    let t = table_of c.args.self.now in
    let found = table_of c.locate.new.self in
    let index = option_copied c.args.index in
    let lacked = missing_slot t c.args.other (slot_of t.scopes c.args.other c.args.name.now) index in (
      tt,
      c.take_back_in.ensures ∙ ap (λ m. undone m (at_scopes found c.put.new.self) c.args.other c.args.name.now index) c.missing_in-lacked.ensures
          ∙ ap (λ s. undone lacked (at_scopes found s) c.args.other c.args.name.now index) c.in-Err.ensures.refused
          ∙ undo_locate t c.args.other c.args.name.now index (record { cell = c.in_ok-cell.cell; fresh = c.in_ok-cell.fresh; after = found }) c.in_ok-cell.ensures.found c.requires.sound c.if-fresh.true,
    )
