use Rattle.std.proofs.Common.{◌∙◌, ◌-◌, List, ℕ, ◌∷◌, ◌++◌, [], length, take, refl, ap}
use Rattle.tclv_text.specs.Quotes.{list_text}
use Rattle.tclv_model.specs.declared.data_commands.VarState.TheVariants as var
use Rattle.tclv_value.specs.View.{text_at}
use Rattle.tclv_value.specs.declared.places.At.TheVariants.{Cell}
use Rattle.tclv_value.specs.Stacks.{top}
use Rattle.tclv_reply.specs.Variables.{both}
use Rattle.tclv_reply.proofs.Laws.{cell_there, cell_text, var_given}
use Rattle.tclv_lists.proofs.variables.make_list.Goals as goal

pub give_text-requires-clause-cell : goal.give_text-requires-clause-cell
give_text-requires-clause-cell c = cell_there c.put_words.new.store c.args.store.now.cells c.args.cell _ c.in-Ok.ensures.cells

pub returns-in-Ok : goal.returns-in-Ok
returns-in-Ok c =
    let old = c.args.store.now in
    let n = c.args.n in
    let t = list_text (top (n - 1) old.stack) in
    var_given (both t) (var.Cell c.args.cell) n old c.give_text.new.store t t _ refl
    (c.give_text.ensures.stack ∙ ap (λ (s : List (List ℕ)). take (length s - n) s ++ text_at c.put_words.new.store (Cell c.args.cell) ∷ []) c.in-Ok.ensures.stack ∙ ap (λ (u : List ℕ). take (length old.stack - n) old.stack ++ u ∷ []) (cell_text c.put_words.new.store old.cells c.args.cell t c.in-Ok.ensures.cells))
    (c.give_text.ensures.cells ∙ c.in-Ok.ensures.cells)
