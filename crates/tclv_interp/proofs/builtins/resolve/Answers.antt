use Rattle.std.proofs.Common.{rules, refl, ap, ◌∙◌, ◌-◌, [], length}
use Rattle.std.specs.Prelude.{slice_index_or}
use Rattle.tclv_value.specs.declared.places.At.TheVariants.{Stack}
use Rattle.tclv_interp.specs.Builtins.{resolve}
use Rattle.tclv_engine.specs.State.{state_of}
use Rattle.tclv_engine.proofs.Binds.{runs_as}
use Rattle.tclv_engine.proofs.Leaves.{memory_runs, from_same}
use Rattle.tclv_engine.proofs.HoldingsLemmas.{same_text}
use Rattle.tclv_interp.proofs.builtins.resolve.Goals as goal

pub returns-in_err-make_text-clause-answer : goal.returns-in_err-make_text-clause-answer
returns-in_err-make_text-clause-answer c here w told = memory_runs (search rules) told refl

pub returns-clause-answer : goal.returns-clause-answer
returns-clause-answer c here w told =
    let mid = record c.args.machine.now { values = c.make_text.new.self } in
    let stack = c.args.machine.now.values.store.stack in
    from_same c.args.machine.now mid (resolve (slice_index_or stack (length stack - c.args.n) [])) (search rules)
    (runs_as (ap (λ t. resolve t (state_of mid w)) (same_text c.args.machine.now.values.store c.make_text.new.self.store (Stack (c.height.result - c.args.n)) c.in_ok-make_text.ensures.stack c.in_ok-make_text.ensures.same.cells
    ∙ ap (λ k. slice_index_or stack (k - c.args.n) []) c.height.ensures))
    (c.resolve_made.ensures.answer here w told))
