use Rattle.std.proofs.Common.{rules, ap}
use Rattle.std.specs.Str.{chars}
use Rattle.tclv_model.specs.Rows.{Gives}
use Rattle.tclv_ctl.specs.Codes.{completion_code}
use Rattle.tclv_ctl.specs.Returns.{with_code, asks_of}
use Rattle.tclv_ctl.proofs.ReadLemmas.{reads_stop, reads_map}
use Rattle.tclv_ctl.proofs.returns.with_code.Goals as goal

pub returns-in_err-code-clause-reads : goal.returns-in_err-code-clause-reads
returns-in_err-code-clause-reads c =
    reads_stop (completion_code (chars c.args.word.now)) (λ x. Gives (with_code x (asks_of c.args.wanted))) _ _ c.args.store.now c.completion_code.new.store c.in_err-code.field-0.0 c.from_residual.result (search rules) c.in_err-code.ensures

pub returns-clause-reads : goal.returns-clause-reads
returns-clause-reads c =
    let s = asks_of c.args.wanted in
    reads_map (completion_code (chars c.args.word.now)) (λ x. with_code x s) _ _ c.args.store.now c.completion_code.new.store c.in_ok-code.code _ c.in_ok-code.ensures (λ v e. ap (λ x. with_code x s) e)
