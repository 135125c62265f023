use Rattle.tclv_value.proofs.SharingLemmas.{shares_through}
use Rattle.tclv_value.proofs.store.Store.push_element.Goals as goal

pub returns-clause-shares : goal.returns-clause-shares
returns-clause-shares c = shares_through _ _ _ c.args.at c.args.k c.keep_list_at.ensures.places c.keep_list_at.ensures.kept c.keep_list_at.ensures.unread c.in_ok-keep_list_at.ensures.list c.in_ok-found.ensures.shares
