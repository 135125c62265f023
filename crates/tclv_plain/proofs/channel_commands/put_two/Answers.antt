use Rattle.std.proofs.Common.{rules, sym, ◌∙◌}
use Rattle.tclv_value.specs.View.{text_at}
use Rattle.tclv_plain.specs.ChannelRows.{put_two}
use Rattle.tclv_engine.proofs.Binds.{runs_as}
use Rattle.tclv_engine.proofs.Leaves.{memory_runs}
use Rattle.tclv_plain.proofs.PutLemmas.{two_option, two_named}
use Rattle.tclv_engine.proofs.WordLemmas.{after_same, text_kept}
use Rattle.tclv_plain.proofs.channel_commands.put_two.Goals as goal

pub returns-in_err-is_option-clause-answer : goal.returns-in_err-is_option-clause-answer
returns-in_err-is_option-clause-answer g c w told = memory_runs (search rules) told c.in_err-is_option.ensures.same.events

pub returns-then-is_option-clause-answer : goal.returns-then-is_option-clause-answer
returns-then-is_option-clause-answer g c w told =
    let store = c.args.machine.now.values.store in
    let kept = c.in_ok-is_option.ensures in
    after_same (λ st. put_two (text_at store c.args.first) (text_at store c.args.text) st) c.args.machine.now c.is_nonewline_at.new.machine
    (runs_as (two_option (text_at store c.args.first) _ _ _ (sym kept.answer ∙ c.if-is_option.true) (text_kept store c.is_nonewline_at.new.machine.values.store c.args.text kept.stack kept.same.variables.cells)) (c.put.ensures.answer w told))
    kept.same

pub returns-else-is_option-clause-answer : goal.returns-else-is_option-clause-answer
returns-else-is_option-clause-answer g c w told =
    let store = c.args.machine.now.values.store in
    let kept = c.in_ok-is_option.ensures in
    after_same (λ st. put_two (text_at store c.args.first) (text_at store c.args.text) st) c.args.machine.now c.is_nonewline_at.new.machine
    (runs_as (two_named (text_at store c.args.first) _ _ _ _ (sym kept.answer ∙ c.if-is_option.false) (text_kept store c.is_nonewline_at.new.machine.values.store c.args.first kept.stack kept.same.variables.cells) (text_kept store c.is_nonewline_at.new.machine.values.store c.args.text kept.stack kept.same.variables.cells)) (c.put_named.ensures.answer w told))
    kept.same
