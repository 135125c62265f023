use Rattle.std.proofs.Common.{List, ℕ, [], ◌∷◌, ◌++◌, sym, ap, ◌∙◌}
use Rattle.std.specs.Str.{chars}
use Rattle.std.proofs.lemmas.Str.{chars-nil}
use Rattle.std.proofs.lemmas.Iterator.{YieldsList-from_chars}
use Rattle.std.proofs.lemmas.Iterator.Consumers.{YieldsList-end}
use Rattle.tclv_lists.specs.Joining.{is_one_of}
use Rattle.tclv_reply.proofs.Laws.{grows_none, grows_trans, grows_more}
use Rattle.tclv_lists.proofs.SplitLemmas.{all_yielded, parts_done}
use Rattle.tclv_lists.proofs.joining.push_parts.Goals as goal

pub loop-c-init : goal.loop-c-init
loop-c-init c = record {
  grows = grows_none c.args.store.now;
  parts = ap (λ (t : List ℕ). c.args.store.now.stack ++ t ∷ []) (sym (c.new-part.ensures ∙ ap chars c.new.ensures.items ∙ chars-nil));
}

pub loop-c-preserved : goal.loop-c-preserved
loop-c-preserved c = record {
  grows = grows_trans c.args.store.now c.loop-c.store c.split_on.new.store c.loop-c.invariant.grows c.in_ok-split_on.ensures.grows;
  parts = c.in_ok-split_on.ensures.split c.args.store.now.stack c.loop-c.yielded c.loop-c.invariant.parts;
}

pub returns-clause-grows : goal.returns-clause-grows
returns-clause-grows c = grows_more c.push_bytes.result c.args.store.now c.loop-c.store c.push_bytes.new.store _ c.loop-c.invariant.grows c.push_bytes.ensures.pushed c.push_bytes.ensures.kept

pub returns-clause-pushed : goal.returns-clause-pushed
returns-clause-pushed c =
    let e = YieldsList-end (YieldsList-from_chars c.as_str.result.now c.as_str.utf8 cc) c.loop-c.yielded _ c.loop-c.yielded_by _ _ c.in-None.is c.next.ensures.steps in
    let all = all_yielded c.loop-c.yielded (chars c.as_str.result.now) (chars c.args.text.now) e.0 (ap chars c.as_str.ensures) in
    parts_done (is_one_of (chars c.args.separators.now)) c.push_bytes.result c.args.store.now.stack c.loop-c.store c.push_bytes.new.store _ c.loop-c.part c.loop-c.yielded _ c.push_bytes.ensures.pushed c.bytes.ensures.text c.loop-c.invariant.parts all
