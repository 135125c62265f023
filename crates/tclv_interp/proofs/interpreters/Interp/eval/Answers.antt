use Rattle.std.proofs.Common.{refl, ap, ap₂, sym, []}
use Rattle.std.specs.Prelude.{slice_index_or, if◌then◌else◌}
use Rattle.tclv_engine.specs.State.{state_of, with_variables}
use Rattle.tclv_interp.proofs.InterpreterLemmas.{evaluates_back}
use Rattle.tclv_interp.proofs.interpreters.Interp.eval.Goals as goal

pub returns-clause-answer : goal.returns-clause-answer
returns-clause-answer g c = λ running w told.
    let mid = c.run-ended.new.self.machine in
    evaluates_back mid (record mid { values = c.end_frames.new.self })
    (λ v. ap₂ (λ vars texts. with_variables vars texts (state_of mid v)) (sym c.end_frames.ensures.vars) (sym c.end_frames.ensures.cells)) refl
    (ap (λ s. if c.run-ended.new.self.stopped then [] else slice_index_or s 0 []) c.end_frames.ensures.stack)
    (c.run-ended.ensures.answer w told)
