use Rattle.std.proofs.Common.{sym, ap, ◌∙◌, []}
use Rattle.std.specs.Str.{chars}
use Rattle.std.proofs.lemmas.Str.{chars-nil}
use Rattle.tclv_lists.specs.Searching.{not_found}
use Rattle.tclv_reply.proofs.Laws.{pushed_as}
use Rattle.tclv_lists.proofs.searching.push_none.Goals as goal

pub returns-then-inline-clause-pushed : goal.returns-then-inline-clause-pushed
returns-then-inline-clause-pushed c =
    pushed_as c.push_bytes.result c.args.store.now c.push_bytes.new.store (chars []) (not_found c.args.inline) (chars-nil ∙ sym (ap not_found c.if-inline.true)) c.push_bytes.ensures.pushed
