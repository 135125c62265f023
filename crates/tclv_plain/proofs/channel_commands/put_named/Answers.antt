use Rattle.std.proofs.Common.{rules, refl, ◌∙◌}
use Rattle.tclv_value.specs.View.{text_at}
use Rattle.tclv_engine.specs.State.{state_of}
use Rattle.tclv_model.specs.declared.error_codes.ErrorCode.TheVariants.{NoCode}
use Rattle.tclv_plain.specs.ChannelRows.{put_named, line}
use Rattle.tclv_engine.proofs.Binds.{runs_as}
use Rattle.tclv_engine.proofs.Leaves.{memory_runs}
use Rattle.tclv_plain.proofs.PutLemmas.{named_found, named_refused}
use Rattle.tclv_engine.proofs.WordLemmas.{after_same, text_kept, raise_at_runs, values_then}
use Rattle.tclv_plain.proofs.channel_commands.put_named.Goals as goal

pub returns-in_err-make_text-clause-answer : goal.returns-in_err-make_text-clause-answer
returns-in_err-make_text-clause-answer g c w told = memory_runs (search rules) told refl

pub returns-in-Ok-clause-answer : goal.returns-in-Ok-clause-answer
returns-in-Ok-clause-answer g c w told =
    let store = c.args.machine.now.values.store in
    let kept = c.in_ok-make_text.ensures in
    after_same (λ st. put_named (text_at store c.args.name) (line c.args.newline (text_at store c.args.text)) st) c.args.machine.now (record c.args.machine.now { values = c.make_text.new.self })
    (runs_as (named_found c.in-Ok.channel _ _ _ _ c.args.newline _ c.in-Ok.ensures (c.lend.ensures.text ∙ text_kept store c.make_text.new.self.store c.args.name kept.stack kept.same.cells) (text_kept store c.make_text.new.self.store c.args.text kept.stack kept.same.cells))
    (c.put.ensures.answer w told))
    (search rules)

pub returns-in-Err-clause-answer : goal.returns-in-Err-clause-answer
returns-in-Err-clause-answer g c w told =
    let store = c.args.machine.now.values.store in
    let kept = c.in_ok-make_text.ensures in
    runs_as (named_refused c.in-Err.kind (text_at store c.args.name) _ _ (state_of c.args.machine.now w) c.in-Err.ensures (c.lend.ensures.text ∙ text_kept store c.make_text.new.self.store c.args.name kept.stack kept.same.cells))
    (raise_at_runs c.args.machine.now c.in-Err.kind _ _ NoCode told (values_then c.args.machine.now c.raise_at.new.self c.make_text.new.self kept.same c.raise_at.ensures.same) (text_kept store c.make_text.new.self.store c.args.name kept.stack kept.same.cells) c.raise_at.ensures.raises)
