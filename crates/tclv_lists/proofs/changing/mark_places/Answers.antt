use Rattle.std.proofs.Common.{rules, ◌-◌, ◌+◌, List, ℕ, [], take, drop, get_or, sym, ap, arith}
use Rattle.tclv_model.specs.Values.{place_of}
use Rattle.tclv_reply.proofs.Laws.{read_on, refused_there}
use Rattle.tclv_lists.proofs.RemoveLemmas.{rest_of, marked_step, one_marked, reads_refused}
use Rattle.tclv_lists.proofs.changing.mark_places.Goals as goal

pub returns-in_err-mark_place : goal.returns-in_err-mark_place
returns-in_err-mark_place c =
    let s = c.args.store.now.stack in
    let at = c.loop-at.at in
    let len = c.args.len in
    let m = c.loop-at.invariant in
    let rest = take (c.args.to - (at + 1)) (drop (at + 1) s) in
    let w = marked_step at c.args.to (omega arith) (omega arith) m in
    reads_refused _ _ c.args.store.now c.mark_place.new.store c.from_residual-in_err-mark_place.result c.in_err-mark_place.field-0.0 (search rules)
    (refused_there (place_of (get_or s at []) len) (rest_of m.ks rest len) w (place_of (get_or c.loop-at.store.stack at []) len) (ap (λ (q : List (List ℕ)). place_of (get_or q at []) len) (sym w.same)) c.in_err-mark_place.ensures)

pub loop-at-preserved : goal.loop-at-preserved
loop-at-preserved c =
    let s = c.args.store.now.stack in
    let at = c.loop-at.at in
    let len = c.args.len in
    let m = c.loop-at.invariant in
    let rest = take (c.args.to - (at + 1)) (drop (at + 1) s) in
    let w = marked_step at c.args.to (omega arith) (omega arith) m in
    let r = read_on (place_of (get_or s at []) len) (rest_of m.ks rest len) w (place_of (get_or c.loop-at.store.stack at []) len) (ap (λ (q : List (List ℕ)). place_of (get_or q at []) len) (sym w.same)) c.in_ok-mark_place.ensures in
    one_marked rest len m.ks c.loop-at.marks.items c.mark_place.new.marks.items r.value r.went m.marks_are r.shown
