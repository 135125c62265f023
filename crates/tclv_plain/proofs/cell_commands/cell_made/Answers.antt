use Rattle.std.proofs.Common.{◌≡◌, false, rules, ap, ◌∙◌, sym, refl, length, ◌-◌, [], get_or}
use Rattle.tclv_value.specs.Stacks.{top}
use Rattle.tclv_reply.specs.Replies.{call_word}
use Rattle.tclv_engine.specs.State.{state_of}
use Rattle.tclv_engine.specs.Names.{bytes_of}
use Rattle.tclv_plain.specs.CellRows.{row_of}
use Rattle.tclv_engine.proofs.Binds.{runs_as}
use Rattle.tclv_reply.specs.Names.{naming, shape_of}
use Rattle.tclv_engine.specs.Variables.{is_unbuilt}
use Rattle.tclv_engine.proofs.DataLemmas.{ended_calm, over_call}
use Rattle.tclv_plain.proofs.CellLemmas.{kept_runs, kept_stack, kept_reply, on_unbuilt, on_built}
use Rattle.tclv_plain.proofs.cell_commands.cell_made.Goals as goal

pub end_data-requires : goal.end_data-requires
end_data-requires g c =
    let stack = c.args.machine.now.values.store.stack in
    kept_reply (row_of c.args.command (call_word (c.args.n - 1) stack) (top (c.args.n - 1) stack)) (c.args.n - 1) (naming (bytes_of (get_or stack (length stack - (c.args.n - 1)) []))) c.args.machine.now.values c.change-done.new.values c.change-done.result c.change-done.ensures

pub change-done-requires-clause-shape : goal.change-done-requires-clause-shape
change-done-requires-clause-shape g c =
    let stack = c.args.machine.now.values.store.stack in
    let k = c.args.n - 1 in
    c.shape_at-shape.ensures ∙ ap (λ l. shape_of (bytes_of (get_or stack (l - k) []))) c.height.ensures

pub returns-then-shape-clause-answer : goal.returns-then-shape-clause-answer
returns-then-shape-clause-answer g c here w told =
    let stack = c.args.machine.now.values.store.stack in
    let name = get_or stack (length stack - (c.args.n - 1)) [] in
    let shape = c.shape_at-shape.ensures ∙ ap (λ l. shape_of (bytes_of (get_or stack (l - (c.args.n - 1)) []))) c.height.ensures in
    runs_as (on_unbuilt (bytes_of name) name (row_of c.args.command (call_word (c.args.n - 1) stack) (top (c.args.n - 1) stack)) (state_of c.args.machine.now w) refl (sym (ap (λ s. s.qualified) shape) ∙ c.if-shape.true))
    (c.cell_unbuilt.ensures.answer here w told)

pub returns-clause-answer : goal.returns-clause-answer
returns-clause-answer g c here w told =
    let stack = c.args.machine.now.values.store.stack in
    let name = get_or stack (length stack - (c.args.n - 1)) [] in
    let shape = c.shape_at-shape.ensures ∙ ap (λ l. shape_of (bytes_of (get_or stack (l - (c.args.n - 1)) []))) c.height.ensures in
    let row = row_of c.args.command (call_word (c.args.n - 1) stack) (top (c.args.n - 1) stack) in
    let built : is_unbuilt (bytes_of name) ≡ false = sym (ap (λ s. s.qualified) shape) ∙ c.if-shape.false in
    runs_as (on_built name row (state_of c.args.machine.now w) built)
    (kept_runs row (c.args.n - 1) name c.args.machine.now (record c.args.machine.now { values = c.change-done.new.values }) c.end_data.new.self w here built told
    c.change-done.result c.end_data.result c.change-done.ensures refl refl refl refl (search rules) c.end_data.ensures.given c.end_data.ensures.refused)

pub returns-clause-stack : goal.returns-clause-stack
returns-clause-stack g c =
    let stack = c.args.machine.now.values.store.stack in
    over_call c.args.n stack c.end_data.result c.end_data.new.self.values.store.stack (search rules) c.requires.words
    (kept_stack (row_of c.args.command (call_word (c.args.n - 1) stack) (top (c.args.n - 1) stack)) (c.args.n - 1) (naming (bytes_of (get_or stack (length stack - (c.args.n - 1)) []))) c.args.machine.now.values c.change-done.new.values c.change-done.result c.end_data.result c.end_data.new.self.values.store.stack c.change-done.ensures c.end_data.ensures.given c.end_data.ensures.refused)

pub returns-clause-calm : goal.returns-clause-calm
returns-clause-calm g c = ended_calm c.change-done.result c.change-done.new.values.store.stack c.end_data.new.self.values.store.stack c.end_data.result c.end_data.ensures.given c.end_data.ensures.refused
