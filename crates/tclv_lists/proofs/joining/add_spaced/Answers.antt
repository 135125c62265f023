use Rattle.std.proofs.Common.{ℕ, List, ◌++◌, [], ◌∷◌, ap, ◌∙◌, refl}
use Rattle.std.specs.Str.{chars}
use Rattle.tclv_reply.proofs.Laws.{ascii_points}
use Rattle.tclv_lists.proofs.JoinLemmas.{added_none, added_after, added_on, no_points, none_there, some_there}
use Rattle.tclv_lists.proofs.joining.add_spaced.Goals as goal

pub returns-then-is_empty : goal.returns-then-is_empty
returns-then-is_empty c = added_none c.args.text.now c.args.text.now (chars c.args.more.now) (no_points c.args.more.now (none_there _ _ c.is_empty.ensures c.if-is_empty.true)) refl

pub returns-then-is_empty-2 : goal.returns-then-is_empty-2
returns-then-is_empty-2 c =
    added_after c.push.result c.args.text.now c.push.new.self c.args.more.now c.bytes.result.now c.requires (some_there _ _ c.is_empty.ensures c.if-is_empty.false) c.bytes.ensures.text
    (none_there _ _ c.is_empty-2.ensures c.if-is_empty-2.true) c.push.ensures.ok

pub returns : goal.returns
returns c =
    added_on c.push-3.result c.args.text.now c.push-2.new.self c.push-3.new.self c.args.more.now c.bytes.result.now c.requires (some_there _ _ c.is_empty.ensures c.if-is_empty.false) c.bytes.ensures.utf8
    c.bytes.ensures.text (some_there _ _ c.is_empty-2.ensures c.if-is_empty-2.false) (c.in_ok-push.ensures.ok ∙ ap (λ (x : List ℕ). c.args.text.now ++ x) (ascii_points (32 ∷ []) refl)) c.push-3.ensures.ok
