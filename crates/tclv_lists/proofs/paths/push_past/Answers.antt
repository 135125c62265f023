use Rattle.std.proofs.Common.{◌≡◌, ◌-◌, ◌+◌, List, ℕ, [], ◌∷◌, take, drop, get_or, sym, ap, subst, arith}
use Rattle.std.proofs.lemmas.Str.{chars-nil}
use Rattle.tclv_value.specs.Changes.{Pushes}
use Rattle.std.specs.Prelude.{ℤ}
use Rattle.tclv_model.specs.Rows.{RowAnswer, Gives}
use Rattle.tclv_model.specs.Values.{place_of}
use Rattle.tclv_lists.specs.Paths.{checked}
use Rattle.tclv_reply.proofs.Laws.{read_on, leaves_there, leaves_text, went_as, words_step}
use Rattle.tclv_lists.proofs.paths.push_past.Goals as goal

pub returns-in-Err : goal.returns-in-Err
returns-in-Err c =
    let s = c.args.store.now.stack in
    let at = c.loop-at.at in
    let w = c.loop-at.invariant in
    let path = take (c.args.to - (at + 1)) (drop (at + 1) s) in
    let f : ℤ → RowAnswer = λ z. checked path (Gives []) in
    let v = went_as (checked (get_or s at [] ∷ path) (Gives [])) w (ap (λ (p : List (List ℕ)). let r : RowAnswer = checked p (Gives []) in r) (words_step s at c.args.to (omega arith) (omega arith))) in
    leaves_there (place_of (get_or s at []) 0) f _ v (ap (λ (q : List (List ℕ)). place_of (get_or q at []) 0) (sym w.same)) c.in-Err.ensures

pub loop-at-preserved : goal.loop-at-preserved
loop-at-preserved c =
    let s = c.args.store.now.stack in
    let at = c.loop-at.at in
    let w = c.loop-at.invariant in
    let path = take (c.args.to - (at + 1)) (drop (at + 1) s) in
    let f : ℤ → RowAnswer = λ z. checked path (Gives []) in
    let v = went_as (checked (get_or s at [] ∷ path) (Gives [])) w (ap (λ (p : List (List ℕ)). let r : RowAnswer = checked p (Gives []) in r) (words_step s at c.args.to (omega arith) (omega arith))) in
    (read_on (place_of (get_or s at []) 0) f v _ (ap (λ (q : List (List ℕ)). place_of (get_or q at []) 0) (sym w.same)) c.in_default.ensures).went

pub returns : goal.returns
returns c =
    let s = c.args.store.now.stack in
    let none : c.args.to - c.loop-at.at ≡ 0 = omega arith in
    leaves_text [] c.loop-at.invariant (ap (λ (k : ℕ). let r : RowAnswer = checked (take k (drop c.loop-at.at s)) (Gives []) in r) none) (subst (λ (u : List ℕ). Pushes c.loop-at.store u c.push_bytes.new.store) chars-nil c.in_ok-push_bytes.ensures.pushed)
