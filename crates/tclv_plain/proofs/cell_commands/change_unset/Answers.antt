use Rattle.std.proofs.Common.{◌∙◌, ap, sym, subst, ◌-◌, [], List, ℕ, length}
use Rattle.std.specs.Prelude.{slice_index_or}
use Rattle.tclv_value.specs.Stacks.{top}
use Rattle.tclv_reply.specs.Names.{naming, shape_of}
use Rattle.tclv_reply.specs.Replies as replies
use Rattle.tclv_plain.specs.CellRows as cells
use Rattle.tclv_plain.specs.CellSteps as steps
use Rattle.tclv_engine.proofs.NameLemmas.{bytes-are}
use Rattle.tclv_plain.proofs.cell_commands.change_unset.Goals as goal

pub change_named-requires-clause-shape : goal.change_named-requires-clause-shape
change_named-requires-clause-shape c =
    let stack = c.args.values.now.store.stack in
    let text = c.bytes.ensures.text ∙ c.in_ok-name.ensures ∙ ap (λ k. slice_index_or stack (k - c.args.n) []) c.height.ensures in
    c.requires.shape ∙ ap shape_of (sym (bytes-are c.bytes.result.now (slice_index_or stack (length stack - c.args.n) []) c.bytes.ensures.utf8 text))

pub returns : goal.returns
returns c =
    let stack = c.args.values.now.store.stack in
    let row = cells.row_of c.args.command (replies.call_word c.args.n stack) (top c.args.n stack) in
    let name = slice_index_or stack (length stack - c.args.n) [] in
    let P : List ℕ → Type 0 = λ b. steps.Changes row c.args.n (naming b) c.args.values.now c.change_named.new.values c.change_named.result in
    let text = c.bytes.ensures.text ∙ c.in_ok-name.ensures ∙ ap (λ k. slice_index_or stack (k - c.args.n) []) c.height.ensures in
    subst P (bytes-are c.bytes.result.now name c.bytes.ensures.utf8 text) c.change_named.ensures
