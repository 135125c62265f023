use Rattle.std.proofs.Common.{ℕ, List, [], length, get_or, ◌-◌, ap, sym, ◌∙◌}
use Rattle.tclv_strings.specs.Changing.{text_replaced}
use Rattle.tclv_reply.proofs.Laws.{leaves_after, grows_pushed}
use Rattle.tclv_strings.proofs.PartLemmas.{words_below}
use Rattle.tclv_strings.proofs.changing.push_without.Goals as goal

pub returns : goal.returns
returns c =
    let old = c.args.store.now in
    let mid = c.push_ascii.new.store in
    let p = c.in_ok-push_ascii.ensures.pushed in
    let s = old.stack in
    let h = c.height-height.result in
    let t : ℕ → List ℕ = λ k. get_or mid.stack (h - k) [] in
    let w = words_below s mid.stack [] h c.requires p.stack c.height-height.ensures in
    let same = ap (λ (x : List ℕ). text_replaced x (get_or s (length s - 2) []) (get_or s (length s - 1) []) []) (sym w.third)
    ∙ ap (λ (x : List ℕ). text_replaced (t 4) x (get_or s (length s - 1) []) []) (sym w.second)
    ∙ ap (λ (x : List ℕ). text_replaced (t 4) (t 3) x []) (sym w.first) ∙ ap (text_replaced (t 4) (t 3) (t 2)) (sym w.top) in
    leaves_after _ _ old mid _ _ (grows_pushed old mid [] p) same c.push_replaced.ensures
