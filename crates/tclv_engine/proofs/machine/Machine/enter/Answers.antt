use Rattle.std.proofs.Common.{◌≡◌, ◌-◌, ◌∙◌, rules, ap, drop, length, refl, if◌then◌else◌}
use Rattle.tclv_engine.specs.State.{state_of}
use Rattle.tclv_engine.specs.Frames.{text_count, with_arguments}
use Rattle.tclv_engine.proofs.Binds.{runs_as}
use Rattle.tclv_engine.proofs.Leaves.{memory_runs}
use Rattle.tclv_engine.proofs.FrameLemmas.{new_frame_state, texts_from}
use Rattle.tclv_engine.proofs.machine.Machine.enter.Goals as goal

pub returns-in_err-push_frame-clause-answer : goal.returns-in_err-push_frame-clause-answer
returns-in_err-push_frame-clause-answer g c here w told = memory_runs (search rules) told refl

pub returns-clause-answer : goal.returns-clause-answer
returns-clause-answer g c here w told =
    let old = c.args.self.now in
    let d = c.args.def.now in
    let stack = old.values.store.stack in
    let mid = record old { values = c.push_frame.new.self } in
    let end : c.named_end-end.result ≡ length stack - (if d.rest then 1 else 0) =
    c.named_end-end.ensures ∙ ap (λ n. n - (if d.rest then 1 else 0)) (c.height.ensures ∙ ap length c.in_ok-push_frame.ensures.stack) in
    runs_as
    (ap (λ s. with_arguments d (drop (c.named_end-end.result - length d.params) s) (state_of mid w)) c.in_ok-push_frame.ensures.stack
    ∙ ap (λ ts. with_arguments d ts (state_of mid w)) (texts_from d.rest c.named_end-end.result (length d.params) stack c.requires end)
    ∙ ap (with_arguments d (drop (length stack - text_count d) stack)) (new_frame_state old c.push_frame.new.self w c.in_ok-push_frame.ensures.vars c.in_ok-push_frame.ensures.cells))
    (c.assign_arguments.ensures.answer here w told)
