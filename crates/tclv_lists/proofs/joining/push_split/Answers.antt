use Rattle.std.proofs.Common.{List, ℕ, ◌++◌, sym, ap, ◌∙◌, append-nil}
use Rattle.std.specs.Str.{chars}
use Rattle.tclv_lists.specs.Joining.{split_parts}
use Rattle.tclv_lists.proofs.JoinLemmas.{no_points, some_points, none_there, some_there}
use Rattle.tclv_lists.proofs.SplitLemmas.{parts_of_none, parts_without, parts_between, stack_as}
use Rattle.tclv_lists.proofs.joining.push_split.Goals as goal

pub returns-then-is_empty-clause-pushed : goal.returns-then-is_empty-clause-pushed
returns-then-is_empty-clause-pushed c =
    let s = c.args.store.now.stack in
    let separators = chars c.args.separators.now in
    let none = no_points c.args.text.now (none_there _ _ c.is_empty.ensures c.if-is_empty.true) in
    sym (ap (λ (t : List ℕ). s ++ split_parts separators t) none ∙ ap (λ (ts : List (List ℕ)). s ++ ts) (parts_of_none separators) ∙ append-nil s)

pub returns-then-is_empty-2-clause-pushed : goal.returns-then-is_empty-2-clause-pushed
returns-then-is_empty-2-clause-pushed c =
    let text = chars c.args.text.now in
    let none = no_points c.args.separators.now (none_there _ _ c.is_empty-2.ensures c.if-is_empty-2.true) in
    stack_as c.push_characters.result c.args.store.now.stack c.push_characters.new.store.stack _ _ (ap (λ (s : List ℕ). split_parts s text) none ∙ parts_without text) c.push_characters.ensures.pushed

pub returns-clause-pushed : goal.returns-clause-pushed
returns-clause-pushed c =
    let text = some_points c.args.text.now c.requires.text (some_there _ _ c.is_empty.ensures c.if-is_empty.false) in
    let separators = some_points c.args.separators.now c.requires.separators (some_there _ _ c.is_empty-2.ensures c.if-is_empty-2.false) in
    stack_as c.push_parts.result c.args.store.now.stack c.push_parts.new.store.stack _ _ (parts_between (chars c.args.separators.now) (chars c.args.text.now) separators text) c.push_parts.ensures.pushed
