use Rattle.std.proofs.Common.{[], List, ℕ, get_or, ap, ◌∙◌}
use Rattle.tclv_lists.proofs.PathLemmas.{entered}
use Rattle.tclv_lists.proofs.paths.step_into.Goals as goal

pub returns-in-Ok : goal.returns-in-Ok
returns-in-Ok c =
    let s = c.args.store.now.stack in
    let r1 = c.in_ok-len.ensures in
    let r2 = c.in_ok-k.ensures in
    entered _ _ _ _ c.args.store.now c.list_len.new.store c.place_among.new.store c.push_element.new.self c.in_ok-len.len c.in-Some.k c.in_ok-k.field-0 r1 r2 c.in-Some.is
    (ap (λ (q : List (List ℕ)). get_or q c.args.index []) r1.kept)
    (ap (λ (q : List (List ℕ)). get_or q c.args.list []) (r2.kept ∙ r1.kept))
    c.in-Ok.ensures.pushed c.push_element.ensures.cells c.push_element.ensures.stays
