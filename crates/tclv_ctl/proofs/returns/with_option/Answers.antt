use Rattle.std.proofs.Common.{◌∙◌, ap, sym}
use Rattle.std.specs.Str.{chars}
use Rattle.tclv_model.specs.Rows.{Answer, Gives, and_then}
use Rattle.tclv_ctl.specs.Switching.{Text}
use Rattle.tclv_ctl.specs.declared.returns.Named.{Named}
use Rattle.tclv_ctl.specs.Codes.{completion_code}
use Rattle.tclv_ctl.specs.Returns.{Asks, with_code, with_option, asks_of}
use Rattle.tclv_ctl.proofs.ReadLemmas.{reads_as}
use Rattle.tclv_ctl.proofs.returns.with_option.Goals as goal

pub returns-in-Code-clause-reads : goal.returns-in-Code-clause-reads
returns-in-Code-clause-reads c =
    let s = asks_of c.args.wanted in
    let f : Text → Answer Asks = λ (t : Text). and_then (completion_code t) (λ x. Gives (with_code x s)) in
    reads_as (with_option c.args.named c.args.name c.args.value s) (f (chars c.bytes.result.now)) _ c.args.store.now c.with_code.new.store c.with_code.result
    (ap (λ (m : Named). with_option m c.args.name c.args.value s) c.in-Code.is ∙ ap f (sym c.bytes.ensures.text)) c.with_code.ensures.reads
