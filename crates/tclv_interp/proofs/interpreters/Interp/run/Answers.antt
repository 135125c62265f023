use Rattle.std.proofs.Common.{rules, ap, ◌∙◌, refl}
use Rattle.tclv_interp.proofs.interpreters.Interp.run.Goals as goal
use Rattle.tclv_engine.specs.Evaluation.{whole}
use Rattle.tclv_interp.specs.Commands.{shell}
use Rattle.tclv_engine.specs.State.{state_of}
use Rattle.tclv_parse.specs.Grammar.{commands}
use Rattle.tclv_interp.specs.Interpreters.{script_at}
use Rattle.tclv_engine.proofs.Binds.{runs_as}
use Rattle.tclv_engine.proofs.WordLemmas.{values_then}
use Rattle.tclv_engine.proofs.Leaves.{from_same}
use Rattle.tclv_interp.proofs.InterpreterLemmas.{evaluates, evaluates-nothing}

pub returns-in_err-tree-clause-answer : goal.returns-in_err-tree-clause-answer
returns-in_err-tree-clause-answer g t w told = evaluates-nothing (search rules) told refl

pub returns-in_err-forget_result-clause-answer : goal.returns-in_err-forget_result-clause-answer
returns-in_err-forget_result-clause-answer g t w told = evaluates-nothing (search rules) told t.in_err-forget_result.ensures.same.events

pub returns-clause-answer : goal.returns-clause-answer
returns-clause-answer g t w told =
    let same = values_then t.args.self.now.machine t.forget_result.new.machine t.script.new.self t.in_ok-tree.ensures.same t.in_ok-forget_result.ensures.same in
    let script = commands (script_at t.args.self.now t.args.at) in
    evaluates t.script-ended.new.self t.end.new.self.machine t.end.ensures.same t.end.ensures.shows
    (from_same t.args.self.now.machine t.forget_result.new.machine (λ st. (whole shell).script script st) same
    (runs_as (ap (λ s. (whole shell).script s (state_of t.forget_result.new.machine w)) (t.deref.ensures ∙ t.in_ok-tree.ensures.tree))
    (t.script-ended.ensures.answer w told)))
