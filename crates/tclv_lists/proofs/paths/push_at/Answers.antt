use Rattle.std.proofs.Common.{◌≡◌, ◌<◌, ◌≤◌, ◌-◌, ◌+◌, ◌∙◌, List, ℕ, Bool, true, false, [], ◌∷◌, length, take, drop, get_or, sym, ap, subst, arith}
use Rattle.std.proofs.lemmas.List.{get_or_push, length_push}
use Rattle.tclv_model.specs.Rows.{RowAnswer, Gives}
use Rattle.tclv_value.specs.View.{View}
use Rattle.tclv_reply.specs.Replies.{Grows}
use Rattle.tclv_lists.specs.Paths.{checked, element_at, WentInto}
use Rattle.tclv_reply.proofs.Laws.{grows_trans, refused_after, leaves_after, part_kept, words_step, word_kept}
use Rattle.tclv_lists.proofs.paths.push_at.Goals as goal

-- the row at a step, where the index is read from the stack of that time
came_to : (row : RowAnswer) (old cur : View) (t : List ℕ) (i to : ℕ) → Grows old cur → i < to → to ≤ length old.stack → row ≡ element_at t (take (to - i) (drop i old.stack)) → row ≡ element_at t (get_or cur.stack i [] ∷ take (to - (i + 1)) (drop (i + 1) old.stack))
came_to row old cur t i to g h l e =
    let path = take (to - (i + 1)) (drop (i + 1) old.stack) in
    e ∙ ap (element_at t) (words_step old.stack i to h l) ∙ ap (λ w. element_at t (w ∷ path)) (sym (word_kept old.stack cur.stack g.more i g.stack (omega arith)))

pub returns-in-Err : goal.returns-in-Err
returns-in-Err c =
    let old = c.args.store.now in
    let cur = c.loop-index.store in
    let new = c.step_into.new.store in
    let i = c.loop-index.index in
    let v = c.loop-index.invariant in
    let path = take (c.args.to - (i + 1)) (drop (i + 1) old.stack) in
    let t = get_or cur.stack c.loop-index.at [] in
    let e = came_to _ old cur t i c.args.to v.grows (omega arith) (omega arith) v.came in
    record { grows = grows_trans old cur new v.grows c.in-Err.ensures.grows; gives = tt; refuses = refused_after _ _ c.in-Err.kind old cur new v.grows e (c.in-Err.ensures.refuses path) }

pub returns-in-Ok-false : goal.returns-in-Ok-false
returns-in-Ok-false c =
    let old = c.args.store.now in
    let cur = c.loop-index.store in
    let new = c.step_into.new.store in
    let i = c.loop-index.index in
    let v = c.loop-index.invariant in
    let path = take (c.args.to - (i + 1)) (drop (i + 1) old.stack) in
    let t = get_or cur.stack c.loop-index.at [] in
    let e = came_to _ old cur t i c.args.to v.grows (omega arith) (omega arith) v.came in
    let g = grows_trans old cur new v.grows c.in-Ok-false.ensures.grows in
    let into = subst (λ (b : Bool). WentInto t (get_or cur.stack i []) b cur new) {y = false} c.in-Ok-false.field-0-test c.in-Ok-false.ensures.into in
    leaves_after _ _ old new c.push_past.new.store c.push_past.result g
    (e ∙ into path ∙ ap (λ (p : List (List ℕ)). let r : RowAnswer = checked p (Gives []) in r) (sym (part_kept old.stack new.stack g.more (i + 1) c.args.to g.stack (omega arith) (omega arith)))) c.push_past.ensures

pub loop-index-preserved : goal.loop-index-preserved
loop-index-preserved c =
    let old = c.args.store.now in
    let cur = c.loop-index.store in
    let new = c.step_into.new.store in
    let i = c.loop-index.index in
    let v = c.loop-index.invariant in
    let path = take (c.args.to - (i + 1)) (drop (i + 1) old.stack) in
    let t = get_or cur.stack c.loop-index.at [] in
    let e = came_to _ old cur t i c.args.to v.grows (omega arith) (omega arith) v.came in
    let into = subst (λ (b : Bool). WentInto t (get_or cur.stack i []) b cur new) {y = true} c.in-Ok-true.field-0-test c.in-Ok-true.ensures.into in
    let len : length new.stack ≡ length cur.stack + 1 = ap length into.top ∙ length_push cur.stack into.text in
    let at : length cur.stack ≡ c.height-at.result - 1 = omega (arith, c.height-at.ensures) in
    let top = ap (λ (s : List (List ℕ)). get_or s (c.height-at.result - 1) []) into.top ∙ get_or_push cur.stack into.text [] (c.height-at.result - 1) at in
    record {
      came = e ∙ into.rest path ∙ ap (λ (x : List ℕ). element_at x path) (sym top);
      grows = grows_trans old cur new v.grows c.in-Ok-true.ensures.grows;
      there = omega (arith, c.height-at.ensures);
    }
