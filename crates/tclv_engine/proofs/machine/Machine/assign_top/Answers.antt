use Rattle.std.proofs.Common.{rules, refl, ap, ◌∙◌}
use Rattle.tclv_value.specs.View.{text_at}
use Rattle.tclv_engine.specs.State.{state_of}
use Rattle.tclv_engine.specs.Answers.{last_of}
use Rattle.tclv_engine.specs.Variables.{assign}
use Rattle.tclv_engine.proofs.Binds.{runs_as}
use Rattle.tclv_engine.proofs.Leaves.{memory_runs, from_same}
use Rattle.tclv_engine.proofs.HoldingsLemmas.{same_text}
use Rattle.tclv_engine.proofs.machine.Machine.assign_top.Goals as goal

pub returns-in_err-make_text-clause-answer : goal.returns-in_err-make_text-clause-answer
returns-in_err-make_text-clause-answer g c here w told = memory_runs (search rules) told refl

pub returns-clause-answer : goal.returns-clause-answer
returns-clause-answer g c here w told =
    let mid = record c.args.self.now { values = c.make_text.new.self } in
    let name = same_text c.args.self.now.values.store c.make_text.new.self.store c.args.name c.in_ok-make_text.ensures.stack c.in_ok-make_text.ensures.same.cells in
    from_same c.args.self.now mid (assign (text_at c.args.self.now.values.store c.args.name) (last_of c.args.self.now.values.store.stack)) (search rules)
    (runs_as (ap (λ t. assign t (last_of c.make_text.new.self.store.stack) (state_of mid w)) name
    ∙ ap (λ s. assign (text_at c.args.self.now.values.store c.args.name) (last_of s) (state_of mid w)) c.in_ok-make_text.ensures.stack)
    (c.assign_made.ensures.answer here w told))
