use Rattle.std.proofs.Common.{◌≤◌, ◌∙◌, ◌-◌, List, ℕ, ◌∷◌, ◌++◌, [], length, take, sym, ap, arith}
use Rattle.tclv_model.specs.Rows.{Answer, VarAnswer, and_then}
use Rattle.tclv_model.specs.Values.{list_of}
use Rattle.tclv_model.specs.declared.data_commands.VarState.TheVariants as var
use Rattle.tclv_value.specs.View.{text_at}
use Rattle.tclv_value.specs.declared.places.At.TheVariants.{Cell}
use Rattle.tclv_reply.specs.Variables.{both}
use Rattle.tclv_reply.proofs.Laws.{refused_on, cells_text, cell_kept, var_given, var_refused}
use Rattle.tclv_lists.proofs.variables.give_list.Goals as goal

pub returns-in-Ok : goal.returns-in-Ok
returns-in-Ok c =
    let old = c.args.store.now in
    let mid = c.list_len.new.store in
    let t = text_at old (Cell c.args.cell) in
    let f : List (List ℕ) → VarAnswer = λ ts. both t in
    let r = c.in-Ok.ensures in
    var_given (and_then (list_of t) f) (var.Cell c.args.cell) 1 old c.give_text.new.store t t _ (ap (λ (a : Answer (List (List ℕ))). and_then a f) r.gives.given)
    (c.give_text.ensures.stack ∙ ap (λ (s : List (List ℕ)). take (length s - 1) s ++ text_at mid (Cell c.args.cell) ∷ []) r.kept ∙ ap (λ (u : List ℕ). take (length old.stack - 1) old.stack ++ u ∷ []) (cells_text old mid c.args.cell r.grows.cells))
    (c.give_text.ensures.cells ∙ r.grows.cells ∙ sym (cell_kept old c.args.cell c.requires.cell))

pub returns-in-Err : goal.returns-in-Err
returns-in-Err c =
    let old = c.args.store.now in
    let mid = c.list_len.new.store in
    let t = text_at old (Cell c.args.cell) in
    let f : List (List ℕ) → VarAnswer = λ ts. both t in
    let r = c.in-Err.ensures in
    let h = c.height-height.ensures in
    let le : 1 ≤ c.height-height.result = omega arith in
    var_refused (and_then (list_of t) f) (var.Cell c.args.cell) 1 old mid c.settle.new.store c.height-height.result c.in-Err.kind c.settle.result h le r.grows (refused_on (list_of t) f c.in-Err.kind old.stack mid.stack r.refuses) c.settle.ensures.settles c.settle.ensures.same
