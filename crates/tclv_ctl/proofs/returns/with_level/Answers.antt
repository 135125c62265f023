use Rattle.std.proofs.Common.{rules, ap}
use Rattle.std.specs.Str.{chars}
use Rattle.tclv_model.specs.Rows.{Gives}
use Rattle.tclv_ctl.specs.Returns.{return_level}
use Rattle.tclv_ctl.specs.Returns.{with_level, asks_of}
use Rattle.tclv_ctl.proofs.ReadLemmas.{reads_stop, reads_map}
use Rattle.tclv_ctl.proofs.returns.with_level.Goals as goal

pub returns-in_err-level-clause-reads : goal.returns-in_err-level-clause-reads
returns-in_err-level-clause-reads c =
    reads_stop (return_level (chars c.args.word.now)) (λ x. Gives (with_level x (asks_of c.args.wanted))) _ _ c.args.store.now c.return_level.new.store c.in_err-level.field-0.0 c.from_residual.result (search rules) c.in_err-level.ensures.reads

pub returns-clause-reads : goal.returns-clause-reads
returns-clause-reads c =
    let s = asks_of c.args.wanted in
    reads_map (return_level (chars c.args.word.now)) (λ x. with_level x s) _ _ c.args.store.now c.return_level.new.store c.in_ok-level.level _ c.in_ok-level.ensures.reads (λ v e. ap (λ x. with_level x s) e)
