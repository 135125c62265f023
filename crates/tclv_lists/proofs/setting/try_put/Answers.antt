use Rattle.std.proofs.Common.{◌≡◌, ◌≤◌, ◌-◌, List, ℕ, [], length, take, drop, get_or, arith}
use Rattle.std.proofs.lemmas.List.{length-take, length-drop}
use Rattle.tclv_lists.proofs.AlongLemmas.{put_there, put_stored}
use Rattle.tclv_lists.proofs.setting.try_put.Goals as goal

-- the part of a stack between two places
part_length : (s : List (List ℕ)) (from to : ℕ) → to ≤ length s → length (take (to - from) (drop from s)) ≡ to - from
part_length s from to h = omega (arith, length-take (to - from) (drop from s), length-drop from s)

pub give_text-requires-clause-cell : goal.give_text-requires-clause-cell
give_text-requires-clause-cell c =
    let s = c.args.store.now in
    let p = c.in_ok-push_path.ensures in
    let path = take (c.args.to - c.args.from) (drop c.args.from s.stack) in
    (put_there s c.push_path.new.store c.list_set.new.self c.args.cell (c.args.to - c.args.from) path (get_or s.stack c.args.value []) p.grows p.pushed (part_length s.stack c.args.from c.args.to c.requires.within) c.in_ok-list_set.ensures.set).0

pub give_text-requires-clause-height : goal.give_text-requires-clause-height
give_text-requires-clause-height c =
    let s = c.args.store.now in
    let p = c.in_ok-push_path.ensures in
    let path = take (c.args.to - c.args.from) (drop c.args.from s.stack) in
    (put_there s c.push_path.new.store c.list_set.new.self c.args.cell (c.args.to - c.args.from) path (get_or s.stack c.args.value []) p.grows p.pushed (part_length s.stack c.args.from c.args.to c.requires.within) c.in_ok-list_set.ensures.set).1

pub returns-clause-stored : goal.returns-clause-stored
returns-clause-stored c =
    let s = c.args.store.now in
    let p = c.in_ok-push_path.ensures in
    let path = take (c.args.to - c.args.from) (drop c.args.from s.stack) in
    put_stored s c.push_path.new.store c.list_set.new.self c.args.cell (c.args.to - c.args.from) path (get_or s.stack c.args.value []) p.grows p.pushed (part_length s.stack c.args.from c.args.to c.requires.within) c.in_ok-list_set.ensures.set
    c.give_text.new.store c.give_text.ensures.stack c.give_text.ensures.cells
