use Rattle.std.proofs.Common.{◌≡◌, ◌+◌, ◌-◌, ◌*◌, ◌/◌, ◌∙◌, ap, sym, subst, List, ℕ, [], length, drop, get_or, Bool, true, false, cond, arith}
use Rattle.tclv_model.specs.declared.messages.MessageId.TheVariants.{SwitchPatternWithoutBody, NoBodyForPattern}
use Rattle.tclv_model.specs.Rows.{Answer, Gives, says}
use Rattle.tclv_ctl.specs.Switching.{Text, SwitchClause, is_dash, pairs, AreClausesAt}
use Rattle.tclv_reply.proofs.Laws.{grows_kept, keeps_none, keeps_trans}
use Rattle.tclv_ctl.proofs.SwitchLemmas.{odd_words, even_words, no_part}
use Rattle.tclv_ctl.proofs.PlanLemmas.{refused_at}
use Rattle.tclv_ctl.proofs.switching.read_clauses.Goals as goal

pub returns-then-height-from-eq1-clause-refuses : goal.returns-then-height-from-eq1-clause-refuses
returns-then-height-from-eq1-clause-refuses c =
    let s = c.args.store.now in
    let from = c.args.from in
    let at = c.height-height.result - 1 in
    let k = (length s.stack - from) / 2 in
    let odd : length s.stack - from ≡ 2 * k + 1 = omega (arith, c.height-height.ensures) in
    refused_at _ SwitchPatternWithoutBody s s c.refuse_on.new.store at c.refuse_on.result (keeps_none s)
    (odd_words s.stack from (Gives (pairs (drop from s.stack))) (omega arith) k odd ∙ sym (no_part (get_or s.stack at []))) c.refuse_on.ensures.tells

pub returns-then-branch-clause-refuses : goal.returns-then-branch-clause-refuses
returns-then-branch-clause-refuses c =
    let s = c.args.store.now in
    let from = c.args.from in
    let rest : Answer (List SwitchClause) = Gives (pairs (drop from s.stack)) in
    let k = (length s.stack - from) / 2 - 1 in
    let even : length s.stack - from ≡ 2 * k + 2 = omega (arith, c.height-height.ensures) in
    let dash : is_dash (get_or s.stack (length s.stack - 1) []) ≡ true = ap (λ (h : ℕ). is_dash (get_or s.stack (h - 1) [])) (sym c.height-height.ensures) ∙ sym c.in_ok-is_dash.ensures.says ∙ c.if-branch.true in
    let at : length s.stack - 2 ≡ c.height-height.result - 2 = omega (arith, c.height-height.ensures) in
    refused_at _ NoBodyForPattern s c.is_dash.new.store c.refuse_on-then-branch.new.store (c.height-height.result - 2) c.refuse_on-then-branch.result c.is_dash.ensures.kept
    (even_words s.stack from rest (omega arith) k even ∙ ap (λ (b : Bool). cond b (says NoBodyForPattern (get_or s.stack (length s.stack - 2) []) []) rest) dash ∙ ap (λ (i : ℕ). says {A = List SwitchClause} NoBodyForPattern (get_or s.stack i []) []) at) c.refuse_on-then-branch.ensures.tells

pub returns-clause-gives : goal.returns-clause-gives
returns-clause-gives c =
    let s = c.args.store.now in
    let from = c.args.from in
    let rest : Answer (List SwitchClause) = Gives (pairs (drop from s.stack)) in
    let k = (length s.stack - from) / 2 - 1 in
    let even : length s.stack - from ≡ 2 * k + 2 = omega (arith, c.height-height.ensures) in
    let body : is_dash (get_or s.stack (length s.stack - 1) []) ≡ false = ap (λ (h : ℕ). is_dash (get_or s.stack (h - 1) [])) (sym c.height-height.ensures) ∙ sym c.in_ok-is_dash.ensures.says ∙ c.if-branch.false in
    record {
      read = pairs (drop from s.stack);
      given = even_words s.stack from rest (omega arith) k even ∙ ap (λ (b : Bool). cond b (says NoBodyForPattern (get_or s.stack (length s.stack - 2) []) []) rest) body;
      shown = subst (λ (u : List Text). AreClausesAt (pairs (drop from u)) c.in_ok-found.found.items c.pair_clauses.new.store.stack) c.is_dash.ensures.kept.stack c.in_ok-found.ensures.clauses;
      kept = keeps_trans s c.is_dash.new.store c.pair_clauses.new.store c.is_dash.ensures.kept c.pair_clauses.ensures.kept;
    }

pub returns-in_err-found-clause-grows : goal.returns-in_err-found-clause-grows
returns-in_err-found-clause-grows c = grows_kept c.args.store.now c.pair_clauses.new.store (keeps_trans c.args.store.now c.is_dash.new.store c.pair_clauses.new.store c.is_dash.ensures.kept c.pair_clauses.ensures.kept)

pub returns-clause-grows : goal.returns-clause-grows
returns-clause-grows c = grows_kept c.args.store.now c.pair_clauses.new.store (keeps_trans c.args.store.now c.is_dash.new.store c.pair_clauses.new.store c.is_dash.ensures.kept c.pair_clauses.ensures.kept)
