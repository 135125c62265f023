use Rattle.std.proofs.Common.{◌∙◌, ap, sym, [], get_or}
use Rattle.std.specs.Str.{chars}
use Rattle.tclv_ctl.specs.Codes.{completion_code}
use Rattle.tclv_ctl.proofs.ReadLemmas.{reads_after}
use Rattle.tclv_ctl.proofs.handlers.code_at.Goals as goal

pub returns : goal.returns
returns c =
    let s = c.args.store.now in
    reads_after (completion_code (get_or s.stack c.args.at [])) (completion_code (chars c.bytes.result.now)) _ s c.copy_of.new.store c.completion_code.new.store c.completion_code.result c.in_ok-word.ensures.kept
    (ap completion_code (sym (c.bytes.ensures.text ∙ c.in_ok-word.ensures.text))) c.completion_code.ensures
