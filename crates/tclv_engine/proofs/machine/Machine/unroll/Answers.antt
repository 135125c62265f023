use Rattle.std.proofs.Common.{rules, arith, ap, sym, ◌∙◌, ◌-◌, ◌+◌, ◌≡◌, ◌<◌, ◌++◌, ◌∷◌, [], length, take, drop, get_or, refl, length-append}
use Rattle.std.proofs.lemmas.List.{take_more, take_all, length-take}
use Rattle.tclv_value.specs.Stacks.{under}
use Rattle.tclv_engine.specs.ListAssignment.{listed}
use Rattle.tclv_engine.specs.Answers.{last_of}
use Rattle.tclv_engine.proofs.WordLemmas.{same_then}
use Rattle.tclv_engine.proofs.StackLemmas.{top-is}
use Rattle.tclv_engine.proofs.ListLemmas.{list_below, list_stays, one_pushed, first_in_place}
use Rattle.tclv_engine.proofs.machine.Machine.unroll.Goals as goal

pub push_element-requires-clause-place : goal.push_element-requires-clause-place
push_element-requires-clause-place g c =
    let stack = c.args.self.now.values.store.stack in
    omega (arith, c.requires.place, ap length c.in_ok-push_elements.ensures.pushed, length-append stack (drop 1 (listed (get_or stack c.args.list []))))

pub push_element-requires-clause-list : goal.push_element-requires-clause-list
push_element-requires-clause-list g c =
    let stack = c.args.self.now.values.store.stack in
    list_stays (get_or stack c.args.list []) _ (list_below stack _ c.push_elements.new.self.values.store.stack c.args.list c.in_ok-push_elements.ensures.pushed (omega (arith, c.requires.place))) c.requires.list

pub settle_on-requires : goal.settle_on-requires
settle_on-requires g c =
    let stack = c.args.self.now.values.store.stack in
    let one = c.push_elements.new.self.values.store.stack in
    let t = get_or stack c.args.list [] in
    let p = one_pushed t (get_or one c.args.list []) one c.push_element.new.self.values.store.stack 0 (list_below stack _ one c.args.list c.in_ok-push_elements.ensures.pushed (omega (arith, c.requires.place))) (omega (arith, c.requires.some, c.requires.len)) c.in_ok-push_element.ensures.pushed in
    omega (arith, c.requires.place, ap length c.in_ok-push_elements.ensures.pushed, length-append stack (drop 1 (listed t)), ap length p, length-append one (get_or (listed t) 0 [] ∷ []))

pub returns-clause-unrolled : goal.returns-clause-unrolled
returns-clause-unrolled g c =
    let stack = c.args.self.now.values.store.stack in
    let one = c.push_elements.new.self.values.store.stack in
    let two = c.push_element.new.self.values.store.stack in
    let t = get_or stack c.args.list [] in
    let p = one_pushed t (get_or one c.args.list []) one two 0 (list_below stack _ one c.args.list c.in_ok-push_elements.ensures.pushed (omega (arith, c.requires.place))) (omega (arith, c.requires.some, c.requires.len)) c.in_ok-push_element.ensures.pushed in
    let long : length (under 1 stack) ≡ length stack - 1 = omega (arith, length-take (length stack - 1) stack) in
    let whole = sym (top-is stack (omega (arith, c.requires.place))) in
    first_in_place (under 1 stack) one two c.settle_on.new.self.values.store.stack (listed t) (last_of stack) c.args.list (omega (arith, c.requires.some, c.requires.len)) (omega (arith, long, c.requires.place))
    (c.in_ok-push_elements.ensures.pushed ∙ ap (λ s. s ++ drop 1 (listed t)) whole) p c.settle_on.ensures.stack

pub returns-clause-same : goal.returns-clause-same
returns-clause-same g c =
    same_then c.args.self.now c.push_elements.new.self c.settle_on.new.self c.push_elements.ensures.same (same_then c.push_elements.new.self c.push_element.new.self c.settle_on.new.self c.push_element.ensures.same c.settle_on.ensures.same)
