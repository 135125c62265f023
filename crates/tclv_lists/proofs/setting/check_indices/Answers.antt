use Rattle.std.proofs.Common.{◌≡◌, ◌-◌, ◌+◌, ◌∙◌, List, ℕ, [], ◌∷◌, take, drop, get_or, sym, ap, arith}
use Rattle.std.specs.Prelude.{ℤ}
use Rattle.tclv_model.specs.Rows.{Answer}
use Rattle.tclv_model.specs.Values.{place_of}
use Rattle.tclv_lists.specs.Paths.{forms_of}
use Rattle.tclv_reply.proofs.Laws.{read_on, refused_there, went_as, words_step}
use Rattle.tclv_lists.proofs.setting.check_indices.Goals as goal

pub returns-in-Err : goal.returns-in-Err
returns-in-Err c =
    let s = c.args.store.now.stack in
    let at = c.loop-at.at in
    let w = c.loop-at.invariant in
    let path = take (c.args.to - (at + 1)) (drop (at + 1) s) in
    let f : ℤ → Answer (Unit {0}) = λ z. forms_of path in
    let v = went_as (forms_of (get_or s at [] ∷ path)) w (ap forms_of (words_step s at c.args.to (omega arith) (omega arith))) in
    let r = refused_there (place_of (get_or s at []) 0) f v _ (ap (λ (q : List (List ℕ)). place_of (get_or q at []) 0) (sym w.same)) c.in-Err.ensures in
    record { grows = r.0; kept = tt; gives = tt; refuses = r.1 }

pub loop-at-preserved : goal.loop-at-preserved
loop-at-preserved c =
    let s = c.args.store.now.stack in
    let at = c.loop-at.at in
    let w = c.loop-at.invariant in
    let path = take (c.args.to - (at + 1)) (drop (at + 1) s) in
    let f : ℤ → Answer (Unit {0}) = λ z. forms_of path in
    let v = went_as (forms_of (get_or s at [] ∷ path)) w (ap forms_of (words_step s at c.args.to (omega arith) (omega arith))) in
    (read_on (place_of (get_or s at []) 0) f v _ (ap (λ (q : List (List ℕ)). place_of (get_or q at []) 0) (sym w.same)) c.in_default.ensures).went

pub returns : goal.returns
returns c =
    let s = c.args.store.now.stack in
    let w = c.loop-at.invariant in
    let none : c.args.to - c.loop-at.at ≡ 0 = omega arith in
    record {
      grows = w.grows;
      kept = w.same;
      gives = record { read = tt; given = w.is ∙ ap (λ (k : ℕ). forms_of (take k (drop c.loop-at.at s))) none; shown = tt };
      refuses = tt;
    }
