use Rattle.std.proofs.Common.{◌+◌, ◌≤◌, ◌∙◌, ap, rules, refl, List, [], length, drop, get_or, arith}
use Rattle.tclv_model.specs.Rows.{Answer, and_then}
use Rattle.tclv_ctl.specs.Switching.{SwitchClause, clause_words, clauses, choice, manner_of, IsPlanOf}
use Rattle.std.proofs.lemmas.List.{length-append}
use Rattle.tclv_reply.proofs.Laws.{grows_none, grows_kept, grows_trans, refused_after, refused_on, word_kept}
use Rattle.tclv_ctl.proofs.SwitchLemmas.{asking, behind, choice_at, behind_at}
use Rattle.tclv_ctl.proofs.PlanLemmas.{steps_failed}
use Rattle.tclv_ctl.proofs.switching.read_behind.Goals as goal

pub returns-in_err-from-clause-steps : goal.returns-in_err-from-clause-steps
returns-in_err-from-clause-steps c = λ call.
    let s = c.args.store.now in
    let k = c.args.asked.string in
    let m = manner_of c.args.asked in
    let kind = c.in_err-from.field-0.0 in
    let words = clause_words (drop (k + 1) s.stack) in
    let rest = behind m (get_or s.stack k []) in
    steps_failed (choice call m (drop k s.stack)) IsPlanOf s c.clause_words.new.store c.from_residual.result kind (search rules)
    c.in_err-from.ensures.steps.grows
    (refused_after (choice call m (drop k s.stack)) (and_then words rest) kind s s c.clause_words.new.store (grows_none s) (choice_at call m s.stack k c.requires) (refused_on words rest kind s.stack c.clause_words.new.store.stack c.in_err-from.ensures.steps.refuses))

pub returns-in_err-clauses-clause-steps : goal.returns-in_err-clauses-clause-steps
returns-in_err-clauses-clause-steps c = λ call.
    let s = c.args.store.now in
    let mid = c.clause_words.new.store in
    let new = c.read_clauses.new.store in
    let k = c.args.asked.string in
    let m = manner_of c.args.asked in
    let kind = c.in_err-clauses.field-0.0 in
    let words = drop c.in_ok-from.from mid.stack in
    let rest = asking m (get_or s.stack k []) in
    let sh = c.in_ok-from.ensures.steps.gives in
    steps_failed (choice call m (drop k s.stack)) IsPlanOf s new c.from_residual-in_err-clauses.result kind (search rules)
    (grows_trans s mid new sh.grows c.in_err-clauses.ensures.grows)
    (refused_after (choice call m (drop k s.stack)) (and_then (clauses words) rest) kind s mid new sh.grows (behind_at call m s.stack k sh.read words c.requires sh.given sh.shown.is) (refused_on (clauses words) rest kind mid.stack new.stack c.in_err-clauses.ensures.refuses))

pub returns-clause-steps : goal.returns-clause-steps
returns-clause-steps c = λ call.
    let s = c.args.store.now in
    let mid = c.clause_words.new.store in
    let new = c.read_clauses.new.store in
    let k = c.args.asked.string in
    let m = manner_of c.args.asked in
    let words = drop c.in_ok-from.from mid.stack in
    let string = get_or s.stack k [] in
    let sh = c.in_ok-from.ensures.steps.gives in
    let r = c.in_ok-clauses.ensures.gives in
    let grows = grows_trans s mid new sh.grows (grows_kept mid new r.kept) in
    let inside : k + 2 ≤ length s.stack = c.requires in
    let long : length s.stack ≤ length new.stack = omega (arith, ap length grows.stack, length-append s.stack grows.more) in
    record {
      grows = grows;
      gives = record {
        read = record { manner = m; string = string; clauses = r.read };
        given = behind_at call m s.stack k sh.read words c.requires sh.given sh.shown.is ∙ ap (λ (a : Answer (List SwitchClause)). and_then a (asking m string)) r.given;
        shown = record { matching = refl; nocase = refl; string_inside = omega (arith, long, inside); string = word_kept s.stack new.stack grows.more k grows.stack (omega (arith, inside)); clauses = r.shown };
        grows = grows;
      };
      refuses = tt;
    }

pub returns-clause-stack : goal.returns-clause-stack
returns-clause-stack c = c.in_ok-clauses.ensures.gives.kept.stack ∙ c.in_ok-from.ensures.stack
