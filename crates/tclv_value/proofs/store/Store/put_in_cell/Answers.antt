use Rattle.std.proofs.Common.{◌≡◌, false, sym, ◌∙◌}
use Rattle.std.specs.Prelude.{is_err}
use Rattle.tclv_value.proofs.ChangeLemmas.{put_in_cell, not_refused}
use Rattle.tclv_value.proofs.store.Store.put_in_cell.Goals as goal

pub returns-clause-put : goal.returns-clause-put
returns-clause-put c =
    let r = c.put_cell-result.result in
    let ok : is_err r ≡ false = sym c.is_err.ensures.value ∙ c.if-is_err.false in
    put_in_cell c.args.self.now c.push_bytes.new.self c.put_cell-result.new.self c.pop-2.new.self c.args.n c.args.cell _ c.requires.place c.in_ok-push_bytes.ensures.pushed (not_refused r ok c.put_cell-result.ensures.popped) (not_refused r ok c.put_cell-result.ensures.put) c.put_cell-result.ensures.keeps c.pop-2.ensures.popped c.pop-2.ensures.cells c.pop-2.ensures.keeps
