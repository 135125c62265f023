use Rattle.std.proofs.Common.{[], List, ℕ, get_or, ap, ◌∙◌, subst}
use Rattle.std.proofs.lemmas.Str.{chars-nil}
use Rattle.tclv_value.specs.Changes.{Pushes}
use Rattle.tclv_lists.proofs.AlongLemmas.{reached_element, reached_behind}
use Rattle.tclv_lists.proofs.setting.step_along.Goals as goal

pub returns-in-Ok-true : goal.returns-in-Ok-true
returns-in-Ok-true c =
    let old = c.args.store.now in
    let r1 = c.in_ok-len.ensures in
    let r2 = c.in_ok-k.ensures in
    reached_element _ _ _ old c.list_len.new.store c.place_within.new.store c.push_element.new.self c.in_ok-len.len c.in_ok-k.k r1 r2
    (ap (λ (q : List (List ℕ)). get_or q c.args.index []) r1.kept)
    (get_or c.place_within.new.store.stack c.args.list []) c.in-Ok-true.field-0
    (ap (λ (q : List (List ℕ)). get_or q c.args.list []) (r2.kept ∙ r1.kept))
    c.in-Ok-true.field-0-test c.in-Ok-true.ensures.found c.in-Ok-true.ensures.pushed c.push_element.ensures.cells c.push_element.ensures.stays

pub returns-in_ok-push_bytes-in-Ok-false : goal.returns-in_ok-push_bytes-in-Ok-false
returns-in_ok-push_bytes-in-Ok-false c =
    let old = c.args.store.now in
    let r1 = c.in_ok-len.ensures in
    let r2 = c.in_ok-k.ensures in
    reached_behind _ _ _ old c.list_len.new.store c.place_within.new.store c.push_bytes.new.store c.in_ok-len.len c.in_ok-k.k r1 r2
    (ap (λ (q : List (List ℕ)). get_or q c.args.index []) r1.kept)
    (get_or c.place_within.new.store.stack c.args.list []) c.in-Ok-false.field-0 c.push_element.new.self
    (ap (λ (q : List (List ℕ)). get_or q c.args.list []) (r2.kept ∙ r1.kept))
    c.in-Ok-false.field-0-test c.in-Ok-false.ensures.found c.in-Ok-false.ensures.pushed c.push_element.ensures.cells c.push_element.ensures.stays
    (subst (λ (u : List ℕ). Pushes c.push_element.new.self u c.push_bytes.new.store) chars-nil c.in_ok-push_bytes-in-Ok-false.ensures.pushed)
