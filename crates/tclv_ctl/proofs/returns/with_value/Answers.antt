use Rattle.std.proofs.Common.{ap, sym, [], get_or}
use Rattle.tclv_ctl.specs.Switching.{Text}
use Rattle.tclv_ctl.specs.Returns.{with_option, asks_of}
use Rattle.tclv_ctl.proofs.ReadLemmas.{reads_after}
use Rattle.tclv_ctl.proofs.returns.with_value.Goals as goal

pub returns-clause-reads : goal.returns-clause-reads
returns-clause-reads c =
    let s = c.args.store.now in
    let x = asks_of c.args.wanted in
    reads_after (with_option c.args.named c.args.name (get_or s.stack c.args.at []) x) (with_option c.args.named c.args.name c.in_ok-value.value x) _ s c.copy_of.new.store c.with_option.new.store c.with_option.result c.in_ok-value.ensures.kept
    (ap (λ (t : Text). with_option c.args.named c.args.name t x) (sym c.in_ok-value.ensures.text)) c.with_option.ensures.reads
