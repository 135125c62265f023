use Rattle.std.proofs.Common.{List, ℕ, ◌++◌, map, ap, ◌∙◌}
use Rattle.std.specs.Str.{chars}
use Rattle.std.proofs.lemmas.Iterator.{YieldsList-from_chars}
use Rattle.std.proofs.lemmas.Iterator.Consumers.{YieldsList-end}
use Rattle.tclv_lists.specs.Joining.{single}
use Rattle.tclv_lists.proofs.SplitLemmas.{all_yielded}
use Rattle.tclv_lists.proofs.joining.push_characters.Goals as goal

pub returns-clause-pushed : goal.returns-clause-pushed
returns-clause-pushed c =
    let e = YieldsList-end (YieldsList-from_chars c.as_str.result.now c.as_str.utf8 cc) c.loop-c.yielded _ c.loop-c.yielded_by _ _ c.in-None.is c.next.ensures.steps in
    let all = all_yielded c.loop-c.yielded (chars c.as_str.result.now) (chars c.args.text.now) e.0 (ap chars c.as_str.ensures) in
    c.loop-c.invariant.pushed ∙ ap (λ (t : List ℕ). c.args.store.now.stack ++ map single t) all
