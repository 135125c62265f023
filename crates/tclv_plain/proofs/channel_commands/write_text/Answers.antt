use Rattle.std.proofs.Common.{rules, refl, ◌∙◌, ap}
use Rattle.tclv_value.specs.View.{text_at}
use Rattle.tclv_engine.specs.Names.{bytes_of}
use Rattle.tclv_plain.specs.ChannelRows.{write, target_of, line}
use Rattle.tclv_engine.proofs.Binds.{runs_as}
use Rattle.tclv_engine.proofs.Leaves.{memory_runs}
use Rattle.tclv_plain.proofs.PutLemmas.{line_written, text_written}
use Rattle.tclv_engine.proofs.WordLemmas.{after_same, text_kept}
use Rattle.tclv_plain.proofs.channel_commands.write_text.Goals as goal

pub returns-in_err-make_text-clause-answer : goal.returns-in_err-make_text-clause-answer
returns-in_err-make_text-clause-answer g c w told = memory_runs (search rules) told refl

pub returns-in_err-line-clause-answer : goal.returns-in_err-line-clause-answer
returns-in_err-line-clause-answer g c w told = memory_runs (search rules) told refl

pub returns-in_ok-line-clause-answer : goal.returns-in_ok-line-clause-answer
returns-in_ok-line-clause-answer g c w told =
    after_same (λ st. write (target_of c.args.channel) (bytes_of (line c.args.newline (text_at c.args.machine.now.values.store c.args.text))) st) c.args.machine.now (record c.args.machine.now { values = c.make_text.new.self })
    (runs_as (line_written c.args.channel _ c.lend.result.now c.args.newline _ _ c.if-newline.true c.lend.ensures.utf8 (c.lend.ensures.text ∙ text_kept c.args.machine.now.values.store c.make_text.new.self.store c.args.text c.in_ok-make_text.ensures.stack c.in_ok-make_text.ensures.same.cells) (c.deref.ensures.value ∙ c.in_ok-line.ensures))
    (c.write_on.ensures.answer w told))
    (search rules)

pub returns-else-newline-clause-answer : goal.returns-else-newline-clause-answer
returns-else-newline-clause-answer g c w told =
    after_same (λ st. write (target_of c.args.channel) (bytes_of (line c.args.newline (text_at c.args.machine.now.values.store c.args.text))) st) c.args.machine.now (record c.args.machine.now { values = c.make_text.new.self })
    (runs_as (text_written c.args.channel c.lend-else-newline.result.now c.args.newline _ _ c.if-newline.false c.lend-else-newline.ensures.utf8 (c.lend-else-newline.ensures.text ∙ text_kept c.args.machine.now.values.store c.make_text.new.self.store c.args.text c.in_ok-make_text.ensures.stack c.in_ok-make_text.ensures.same.cells))
    (c.write_piece.ensures.answer (record c.args.machine.now { values = c.make_text.new.self }) w told))
    (search rules)

pub returns-in_ok-line-clause-quiet : goal.returns-in_ok-line-clause-quiet
returns-in_ok-line-clause-quiet g c st e =
    c.write_on.ensures.quiet st
    (ap (λ r. r.events) (line_written c.args.channel c.deref.result.now c.lend.result.now c.args.newline _ st c.if-newline.true c.lend.ensures.utf8 (c.lend.ensures.text ∙ text_kept c.args.machine.now.values.store c.make_text.new.self.store c.args.text c.in_ok-make_text.ensures.stack c.in_ok-make_text.ensures.same.cells) (c.deref.ensures.value ∙ c.in_ok-line.ensures))
    ∙ e)

pub returns-else-newline-clause-quiet : goal.returns-else-newline-clause-quiet
returns-else-newline-clause-quiet g c st e =
    c.write_piece.ensures.quiet st
    (ap (λ r. r.events) (text_written c.args.channel c.lend-else-newline.result.now c.args.newline _ st c.if-newline.false c.lend-else-newline.ensures.utf8 (c.lend-else-newline.ensures.text ∙ text_kept c.args.machine.now.values.store c.make_text.new.self.store c.args.text c.in_ok-make_text.ensures.stack c.in_ok-make_text.ensures.same.cells))
    ∙ e)
