use Rattle.std.proofs.Common.{rules, ◌≡◌, ap, ◌∙◌, sym, true, false, arith, []}
use Rattle.std.proofs.lemmas.Str.{chars-nil}
use Rattle.tclv_engine.proofs.SettingLemmas.{on-ok}
use Rattle.tclv_engine.proofs.StackLemmas.{last-pushed}
use Rattle.tclv_control.proofs.ReturnLemmas.{result_odd, result_even, over_words, pushed_words}
use Rattle.tclv_control.proofs.return_plans.push_result.Goals as goal

pub returns-then-has_result-clause-shown : goal.returns-then-has_result-clause-shown
returns-then-has_result-clause-shown g c =
    let on : c.has_result.result ≡ true = search (rules, c.if-has_result.true) in
    result_odd c.args.machine.now.values.store.stack c.args.n (omega (arith, c.requires)) (c.has_result.ensures.some on) (sym c.has_result.ensures.says ∙ on)

pub returns-then-has_result-clause-stack : goal.returns-then-has_result-clause-stack
returns-then-has_result-clause-stack g c =
    let on : c.has_result.result ≡ true = search (rules, c.if-has_result.true) in
    over_words c.args.machine.now.values.store.stack c.args.n (c.has_result.ensures.some on) (omega (arith, c.requires))

pub returns-else-has_result-clause-shown : goal.returns-else-has_result-clause-shown
returns-else-has_result-clause-shown g c =
    let off : c.has_result.result ≡ false = search (rules, c.if-has_result.false) in
    let stack = c.args.machine.now.values.store.stack in
    on-ok c.push_text.result
    (λ h. last-pushed stack c.push_text.new.self.store.stack _ h ∙ chars-nil ∙ result_even stack c.args.n (omega (arith, c.requires)) (sym c.has_result.ensures.says ∙ off))
    c.push_text.ensures.pushed

pub returns-else-has_result-clause-stack : goal.returns-else-has_result-clause-stack
returns-else-has_result-clause-stack g c =
    let stack = c.args.machine.now.values.store.stack in
    on-ok c.push_text.result (λ h. pushed_words stack c.push_text.new.self.store.stack c.args.n _ h) c.push_text.ensures.pushed
