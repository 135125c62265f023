use Rattle.std.proofs.Common.{◌≡◌, ◌∙◌, ◌+◌, ◌<◌, ℕ, List, [], ◌∷◌, ◌++◌, true, length, drop, map, get_or, sym, ap, subst, append_assoc}
use Rattle.std.proofs.lemmas.List.Elements.{All-get_or}
use Rattle.tclv_value.specs.View.{View}
use Rattle.tclv_reply.specs.Replies.{Grows}
use Rattle.tclv_lists.specs.declared.sorting.Entry.{Entry}
use Rattle.tclv_lists.specs.Sorting.{text_in, given, entry_before}
use Rattle.tclv_reply.proofs.Laws.{grows_trans, grows_pushed, word_kept}
use Rattle.tclv_lists.proofs.GivenLemmas.{given_step, passed}
use Rattle.tclv_lists.proofs.sorting.push_given.Goals as goal
use Rattle.tclv_lists.proofs.sorting.push_given.Goals.{then-is_given+in_ok-push_word, else-is_given}

pub loop-k-preserved : goal.loop-k-preserved
loop-k-preserved c =
    let old = c.args.store.now in
    let s = old.stack in
    let cur = c.loop-k.store in
    let k = c.loop-k.k in
    let es = c.args.entries.now in
    let v = c.loop-k.invariant in
    let before = entry_before c.args.order.direction in
    let u = c.args.order.unique in
    let rest = map (text_in s) (given u before (drop (k + 1) es)) in
    elim c.if-is_given.branch [
      | then-is_given+in_ok-push_word w ↦
          let d = w.index-entries-k.result in
          let e = get_or es k d in
          let new = w.push_word.new.store in
          let p = w.in_ok-push_word.ensures.pushed in
          let step = given_step before u es k d true c.loop-k-test.true (sym c.is_given.ensures ∙ w.if-is_given.true) in
          let inside : e.at < length s = All-get_or (λ x. x.at < length s) es k d c.loop-k-test.true c.requires in
          let text : get_or cur.stack e.at [] ≡ text_in s e = word_kept s cur.stack v.grows.more e.at v.grows.stack inside in
          record {
            grows = subst (λ (x : View). Grows old x) (sym w.store-is) (grows_trans old cur new v.grows (grows_pushed cur new (get_or cur.stack e.at []) p));
            pushed = ap (λ (x : View). x.stack ++ rest) w.store-is ∙ ap (λ (q : List (List ℕ)). q ++ rest) p.stack ∙ append_assoc cur.stack (get_or cur.stack e.at [] ∷ []) rest
                ∙ ap (λ (x : List ℕ). cur.stack ++ x ∷ rest) text ∙ ap (λ (l : List Entry). cur.stack ++ map (text_in s) l) (sym step) ∙ v.pushed;
          }
      | else-is_given w ↦
          record {
            grows = subst (λ (x : View). Grows old x) (sym w.store-is) v.grows;
            pushed = ap (λ (x : View). x.stack ++ rest) w.store-is ∙ ap (λ (l : List Entry). cur.stack ++ map (text_in s) l) (sym (passed before u es k c.loop-k-test.true (sym c.is_given.ensures ∙ w.if-is_given.false))) ∙ v.pushed;
          }
    ]
