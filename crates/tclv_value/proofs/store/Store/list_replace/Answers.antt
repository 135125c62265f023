use Rattle.std.proofs.Common.{true≢false, sym, ◌∙◌}
use Rattle.tclv_value.proofs.RetellLemmas.{replaced_after, changes_in_place, changes_in_copy, shares_in_place, shares_in_copy}
use Rattle.tclv_value.proofs.store.Store.list_replace.Goals as goal

pub returns-then-is_alone-clause-replaced : goal.returns-then-is_alone-clause-replaced
returns-then-is_alone-clause-replaced c = replaced_after _ _ _ c.args.n c.args.from c.args.to c.args.at c.in_ok-keep_list_at.ensures.kept (replaced_after _ _ _ c.args.n c.args.from c.args.to c.args.at c.in_ok-make_shallow.ensures.kept c.in_ok-replace_in_place.ensures.replaced)

pub returns-then-is_alone-clause-changed : goal.returns-then-is_alone-clause-changed
returns-then-is_alone-clause-changed c =
    let k = c.in_ok-keep_list_at.ensures in
    changes_in_place _ _ _ _ c.args.at c.args.n k.places k.stay k.count c.keep_list_at.ensures.unread c.in_ok-make_shallow.ensures.retells c.in_ok-make_shallow.ensures.shallow_before c.in_ok-replace_in_place.ensures.listed (c.is_alone.ensures.0 c.if-is_alone.true) c.in_ok-replace_in_place.ensures.same

pub returns-then-is_alone-clause-shares : goal.returns-then-is_alone-clause-shares
returns-then-is_alone-clause-shares c =
    let k = c.in_ok-keep_list_at.ensures in
    shares_in_place _ _ _ _ c.args.at c.args.n k.places k.stay k.count c.keep_list_at.ensures.unread c.in_ok-make_shallow.ensures.retells c.in_ok-make_shallow.ensures.shallow_before c.in_ok-replace_in_place.ensures.listed c.args.from c.args.to c.in_ok-replace_in_place.ensures.elements (c.is_alone.ensures.0 c.if-is_alone.true) c.in_ok-replace_in_place.ensures.stats

pub returns-clause-replaced : goal.returns-clause-replaced
returns-clause-replaced c = replaced_after _ _ _ c.args.n c.args.from c.args.to c.args.at c.in_ok-keep_list_at.ensures.kept (replaced_after _ _ _ c.args.n c.args.from c.args.to c.args.at c.in_ok-make_shallow.ensures.kept c.in_ok-replace_in_copy.ensures.replaced)

pub returns-clause-changed : goal.returns-clause-changed
returns-clause-changed c =
    let k = c.in_ok-keep_list_at.ensures in
    changes_in_copy _ _ _ _ c.args.at c.args.n k.places k.stay k.count c.keep_list_at.ensures.unread c.in_ok-make_shallow.ensures.retells c.in_ok-make_shallow.ensures.shallow_before c.in_ok-replace_in_copy.ensures.listed (λ alone. true≢false (sym (c.is_alone.ensures.1 alone) ∙ c.if-is_alone.false)) c.in_ok-replace_in_copy.ensures.fresh

pub returns-clause-shares : goal.returns-clause-shares
returns-clause-shares c =
    let k = c.in_ok-keep_list_at.ensures in
    shares_in_copy _ _ _ _ c.args.at c.args.n k.places k.stay k.count c.keep_list_at.ensures.unread c.in_ok-make_shallow.ensures.retells c.in_ok-make_shallow.ensures.shallow_before c.in_ok-replace_in_copy.ensures.listed c.args.from c.args.to c.in_ok-replace_in_copy.ensures.elements (λ alone. true≢false (sym (c.is_alone.ensures.1 alone) ∙ c.if-is_alone.false)) c.in_ok-replace_in_copy.ensures.stats
