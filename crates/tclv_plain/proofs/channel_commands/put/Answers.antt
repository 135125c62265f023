use Rattle.std.proofs.Common.{rules, refl, ◌∙◌}
use Rattle.std.proofs.lemmas.Str.{chars-nil}
use Rattle.tclv_engine.proofs.Binds.{bind_ok, then_stop}
use Rattle.tclv_engine.proofs.Leaves.{value_runs, memory_runs}
use Rattle.tclv_engine.proofs.StackLemmas.{last-pushed}
use Rattle.tclv_plain.proofs.ChannelLemmas.{stop_pushes, bind_quiet}
use Rattle.tclv_plain.proofs.channel_commands.put.Goals as goal

pub returns-in_err-write_text-clause-answer : goal.returns-in_err-write_text-clause-answer
returns-in_err-write_text-clause-answer g c w told = then_stop _ (search rules) (c.in_err-write_text.ensures.answer w told)

pub returns-in_err-write_text-clause-stack : goal.returns-in_err-write_text-clause-stack
returns-in_err-write_text-clause-stack g c = stop_pushes c.args.machine.now.values.store.stack c.write_text.new.machine.values.store.stack c.from_residual.result c.in_err-write_text.field-0.0 (search rules) c.in_err-write_text.ensures.no_code

pub returns-in_err-push_text-clause-answer : goal.returns-in_err-push_text-clause-answer
returns-in_err-push_text-clause-answer g c w told = bind_ok _ (c.in_ok-write_text.ensures.answer w told) (λ a v e shown. memory_runs (search rules) e refl)

pub returns-clause-answer : goal.returns-clause-answer
returns-clause-answer g c w told =
    bind_ok _ (c.in_ok-write_text.ensures.answer w told)
    (λ a v e shown. value_runs c.write_text.new.machine e (search rules) (last-pushed _ _ _ c.in_ok-push_text.ensures.pushed ∙ chars-nil, refl))

pub returns-in_err-write_text-clause-quiet : goal.returns-in_err-write_text-clause-quiet
returns-in_err-write_text-clause-quiet g c st e = c.in_err-write_text.ensures.quiet st (bind_quiet _ _ e)

pub returns-in_err-push_text-clause-quiet : goal.returns-in_err-push_text-clause-quiet
returns-in_err-push_text-clause-quiet g c st e = c.in_ok-write_text.ensures.quiet st (bind_quiet _ _ e)

pub returns-clause-quiet : goal.returns-clause-quiet
returns-clause-quiet g c st e = c.in_ok-write_text.ensures.quiet st (bind_quiet _ _ e)
