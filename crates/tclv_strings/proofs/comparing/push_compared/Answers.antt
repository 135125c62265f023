use Rattle.std.proofs.Common.{◌∙◌, ◌-◌, ℕ, List, [], take, drop, get_or, refl, sym, ap}
use Rattle.tclv_model.specs.Rows.{RowAnswer, Gives}
use Rattle.tclv_strings.specs.declared.comparing.ComparedAs.{ComparedAs}
use Rattle.tclv_strings.specs.Comparing.{comparison_read, compared_whole, compared_by, verdict_count, verdict_on}
use Rattle.tclv_reply.proofs.Laws.{begun, read_on, leaves_on}
use Rattle.tclv_strings.proofs.comparing.push_compared.Goals as goal

pub returns : goal.returns
returns c =
    let s = c.args.store.now in
    let to = c.args.to in
    let v = c.args.verdict in
    let call = get_or s.stack c.args.call [] in
    let options = take (to - 2 - c.args.from) (drop c.args.from s.stack) in
    let row : List (List ℕ) → ComparedAs → RowAnswer = λ q x. Gives (verdict_on v x (get_or q (to - 2) []) (get_or q (to - 1) [])) in
    let a = comparison_read (verdict_count v call) options compared_whole in
    let r = read_on a (row s.stack) (begun (compared_by v call options (get_or s.stack (to - 2) []) (get_or s.stack (to - 1) [])) s) a refl c.in_ok-x.ensures in
    let mid = c.comparison.new.store.stack in
    let x = c.in_ok-x.x in
    leaves_on (row mid x) r.went (sym (ap (λ (q : List (List ℕ)). row q x) r.went.same ∙ ap (row s.stack) r.shown)) c.push_verdict.ensures
