use Rattle.std.proofs.Common.{ℕ, List, [], length, codes, get_or, ◌-◌, ap, sym, ◌∙◌}
use Rattle.tclv_lists.specs.Joining.{joined_of}
use Rattle.tclv_reply.proofs.Laws.{leaves_after, grows_pushed}
use Rattle.tclv_lists.proofs.JoinLemmas.{pushed_pair}
use Rattle.tclv_lists.proofs.joining.push_spaced.Goals as goal

pub returns : goal.returns
returns c =
    let old = c.args.store.now in
    let mid = c.push_ascii.new.store in
    let p = c.in_ok-push_ascii.ensures.pushed in
    let t = get_or old.stack (length old.stack - 1) [] in
    let height = c.height-height.result in
    let pair = pushed_pair old.stack mid.stack (codes " ") height c.requires p.stack c.height-height.ensures in
    let same = ap (λ (x : List ℕ). joined_of x (codes " ")) (sym pair.0) ∙ ap (joined_of (get_or mid.stack (height - 2) [])) (sym pair.1) in
    leaves_after (joined_of t (codes " ")) _ old mid _ _ (grows_pushed old mid (codes " ") p) same c.push_joined.ensures
