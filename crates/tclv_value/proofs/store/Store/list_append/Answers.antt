use Rattle.std.proofs.Common.{true≢false, sym, ◌∙◌}
use Rattle.tclv_value.proofs.RetellLemmas.{unmade_top, changes_in_place, changes_in_copy}
use Rattle.tclv_value.proofs.CountLemmas.{read_then, read_in_copy, copied_in_place, copied_in_copy, shared_none, shared_copied}
use Rattle.tclv_value.proofs.store.Store.list_append.Goals as goal

pub returns-then-is_alone-clause-changed : goal.returns-then-is_alone-clause-changed
returns-then-is_alone-clause-changed c =
    let k = c.in_ok-keep_list_at.ensures in
    let t = c.in_ok-make_top_shallow.ensures in
    changes_in_place _ _ _ _ c.args.at 1 k.places k.stay k.count c.keep_list_at.ensures.unread t.retells (unmade_top _ _ t.shallow_before) c.in_ok-append_in_place.ensures.listed (c.is_alone.ensures.0 c.if-is_alone.true) c.in_ok-append_in_place.ensures.same

pub returns-clause-changed : goal.returns-clause-changed
returns-clause-changed c =
    let k = c.in_ok-keep_list_at.ensures in
    let t = c.in_ok-make_top_shallow.ensures in
    changes_in_copy _ _ _ _ c.args.at 1 k.places k.stay k.count c.keep_list_at.ensures.unread t.retells (unmade_top _ _ t.shallow_before) c.in_ok-append_to_copy.ensures.listed (λ alone. true≢false (sym (c.is_alone.ensures.1 alone) ∙ c.if-is_alone.false)) c.in_ok-append_to_copy.ensures.fresh

pub returns-then-is_alone-clause-shared : goal.returns-then-is_alone-clause-shared
returns-then-is_alone-clause-shared c =
    let k = c.in_ok-keep_list_at.ensures in
    shared_none _ _ _ _ c.args.at k.places k.count c.in_ok-make_top_shallow.ensures.retells (c.is_alone.ensures.0 c.if-is_alone.true)

pub returns-then-is_alone-clause-read : goal.returns-then-is_alone-clause-read
returns-then-is_alone-clause-read c = read_then _ _ _ _ c.args.at c.in_ok-keep_list_at.ensures.read c.in_ok-make_top_shallow.ensures.written c.in_ok-append_in_place.ensures.stats

pub returns-then-is_alone-clause-copied : goal.returns-then-is_alone-clause-copied
returns-then-is_alone-clause-copied c =
    let k = c.in_ok-keep_list_at.ensures in
    let t = c.in_ok-make_top_shallow.ensures in
    copied_in_place _ _ _ _ c.args.at k.places k.count t.retells k.copied t.written (c.is_alone.ensures.0 c.if-is_alone.true) c.in_ok-append_in_place.ensures.stats

pub returns-clause-shared : goal.returns-clause-shared
returns-clause-shared c = shared_copied _ _ _ _ c.args.at c.keep_list_at.ensures.unread c.in_ok-make_top_shallow.ensures.shallow_before c.in_ok-append_to_copy.ensures.stats

pub returns-clause-read : goal.returns-clause-read
returns-clause-read c = read_in_copy _ _ _ _ c.args.at c.in_ok-keep_list_at.ensures.read c.in_ok-make_top_shallow.ensures.written c.in_ok-append_to_copy.ensures.copies

pub returns-clause-copied : goal.returns-clause-copied
returns-clause-copied c =
    let k = c.in_ok-keep_list_at.ensures in
    let t = c.in_ok-make_top_shallow.ensures in
    copied_in_copy _ _ _ _ c.args.at k.places k.count t.retells k.copied t.written k.kept t.kept (λ alone. true≢false (sym (c.is_alone.ensures.1 alone) ∙ c.if-is_alone.false)) c.in_ok-append_to_copy.ensures.copies
