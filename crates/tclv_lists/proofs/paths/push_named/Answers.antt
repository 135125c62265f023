use Rattle.std.proofs.Common.{◌∙◌, ◌-◌, List, ℕ, [], take, drop, get_or, sym, ap}
use Rattle.tclv_lists.specs.Paths.{element_at}
use Rattle.tclv_reply.proofs.Laws.{leaves_after, word_kept}
use Rattle.tclv_lists.proofs.paths.push_named.Goals as goal

pub returns : goal.returns
returns c =
    let old = c.args.store.now in
    let mid = c.read_path.new.store in
    let e = c.in_ok-first.ensures in
    let g = e.grows in
    let p = e.path in
    let t = get_or old.stack c.args.list [] in
    leaves_after _ _ old mid c.push_at.new.store c.push_at.result g
    (ap (element_at t) (sym p.is) ∙ ap (λ (u : List ℕ). element_at u (take (c.in_ok-first.end - c.in_ok-first.first) (drop c.in_ok-first.first mid.stack))) (sym (word_kept old.stack mid.stack g.more c.args.list g.stack c.requires.list)))
    c.push_at.ensures
