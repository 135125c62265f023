use Rattle.std.proofs.Common.{◌≡◌, ◌++◌, List, ℕ, subst, sym, length, OnOk}
use Rattle.std.proofs.Common.{arith}
use Rattle.std.proofs.lemmas.Bool.Decides.{nat_tests}
use Rattle.tclv_text.proofs.QuoteLemmas.{quoted_empty}
use Rattle.tclv_text.proofs.quotes.quote_onto.Goals as goal

pub returns-then-is_empty-clause-ok : goal.returns-then-is_empty-clause-ok
returns-then-is_empty-clause-ok c =
    let l : length c.args.text.now ≡ 0 = grind (arith, nat_tests) in
    subst (λ (q : List ℕ). OnOk c.push_braced.result (c.push_braced.new.out.items ≡ c.args.out.now.items ++ q)) (sym (quoted_empty c.args.text.now c.args.first l)) c.push_braced.ensures.ok
