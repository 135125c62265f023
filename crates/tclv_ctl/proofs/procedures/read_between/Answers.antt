use Rattle.std.proofs.Common.{◌≡◌, ◌∙◌, ◌+◌, ◌-◌, ℕ, List, [], ◌∷◌, ◌++◌, take, drop, get_or, sym, ap, arith}
use Rattle.tclv_model.specs.Rows.{Answer, Gives, and_then}
use Rattle.tclv_value.specs.declared.procedures.Param.{Param}
use Rattle.tclv_ctl.specs.Parameters.{parameter, parameters}
use Rattle.tclv_reply.proofs.Laws.{read_on, refused_there, went_as, words_step, reads_refused}
use Rattle.tclv_ctl.proofs.CallLemmas.{one_more}
use Rattle.tclv_ctl.proofs.procedures.read_between.Goals as goal

pub returns-in-Err : goal.returns-in-Err
returns-in-Err c =
    let s = c.args.store.now.stack in
    let at = c.loop-at.at in
    let to = c.args.to in
    let w = c.loop-at.invariant.came in
    let done = c.loop-at.params.items in
    let rest = parameters (take (to - (at + 1)) (drop (at + 1) s)) in
    let f : Param → Answer (List Param) = λ p. and_then rest (λ ps. Gives ((done ++ p ∷ []) ++ ps)) in
    let v = went_as _ w (ap (λ (ws : List (List ℕ)). let a : Answer (List Param) = and_then (parameters ws) (λ ps. Gives (done ++ ps)) in a) (words_step s at to (omega (arith, c.loop-at-test.true)) c.requires.within) ∙ one_more (parameter (get_or s at [])) rest done) in
    let r = refused_there (parameter (get_or s at [])) f v (parameter (get_or c.loop-at.store.stack at [])) (ap (λ (q : List (List ℕ)). parameter (get_or q at [])) (sym w.same)) c.in-Err.ensures in
    reads_refused r.0 r.1

pub loop-at-preserved : goal.loop-at-preserved
loop-at-preserved c =
    let s = c.args.store.now.stack in
    let at = c.loop-at.at in
    let to = c.args.to in
    let w = c.loop-at.invariant.came in
    let done = c.loop-at.params.items in
    let rest = parameters (take (to - (at + 1)) (drop (at + 1) s)) in
    let f : Param → Answer (List Param) = λ p. and_then rest (λ ps. Gives ((done ++ p ∷ []) ++ ps)) in
    let v = went_as _ w (ap (λ (ws : List (List ℕ)). let a : Answer (List Param) = and_then (parameters ws) (λ ps. Gives (done ++ ps)) in a) (words_step s at to (omega (arith, c.loop-at-test.true)) c.requires.within) ∙ one_more (parameter (get_or s at [])) rest done) in
    let r = read_on (parameter (get_or s at [])) f v (parameter (get_or c.loop-at.store.stack at [])) (ap (λ (q : List (List ℕ)). parameter (get_or q at [])) (sym w.same)) c.in-Ok.ensures in
    let items : c.add_parameter.new.params.items ≡ done ++ c.in-Ok.param ∷ [] = c.in_ok-add_parameter-in-Ok.ensures in
    record {
      came = went_as _ r.went (ap f (sym r.shown) ∙ ap (λ (ps : List Param). let a : Answer (List Param) = and_then rest (λ es. Gives (ps ++ es)) in a) (sym items));
    }
