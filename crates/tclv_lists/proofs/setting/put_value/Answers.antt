use Rattle.std.proofs.Common.{◌-◌, ◌∙◌, List, ℕ, [], take, drop, get_or, sym, ap}
use Rattle.tclv_model.specs.Rows.{and_then}
use Rattle.tclv_model.specs.declared.data_commands.VarState.TheVariants as var
use Rattle.tclv_value.specs.View.{text_at}
use Rattle.tclv_value.specs.declared.places.At.TheVariants.{Cell}
use Rattle.tclv_lists.specs.Paths.{put_along}
use Rattle.tclv_reply.specs.Variables.{both}
use Rattle.tclv_reply.proofs.Laws.{grows_trans, refused_on, refused_after, cells_text, part_kept}
use Rattle.tclv_lists.proofs.StoredLemmas.{stores_refused}
use Rattle.tclv_lists.proofs.setting.put_value.Goals as goal

pub returns-in-Err : goal.returns-in-Err
returns-in-Err c =
    let old = c.args.store.now in
    let mid = c.try_put.new.store in
    let last = c.refuse_along.new.store in
    let kind = c.refuse_along.result in
    let g = c.in-Err.ensures.grows in
    let r = c.refuse_along.ensures in
    let x = get_or old.stack c.args.value [] in
    let t = text_at old (Cell c.args.cell) in
    let path = take (c.args.to - c.args.from) (drop c.args.from mid.stack) in
    let text = cells_text old mid c.args.cell g.cells in
    let kept = part_kept old.stack mid.stack g.more c.args.from c.args.to g.stack c.requires.order c.requires.within in
    let same = ap (λ (q : List (List ℕ)). and_then (put_along t q x) both) (sym kept) ∙ ap (λ (u : List ℕ). and_then (put_along u path x) both) (sym text) in
    stores_refused _ (var.Cell c.args.cell) old last kind (grows_trans old mid last g r.grows)
    (refused_after _ (and_then (put_along (text_at mid (Cell c.args.cell)) path x) both) kind old mid last g same (refused_on (put_along (text_at mid (Cell c.args.cell)) path x) both kind mid.stack last.stack (r.refused x)))
