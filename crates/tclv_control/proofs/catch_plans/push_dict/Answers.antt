use Rattle.std.proofs.Common.{rules, arith, ◌≡◌, ◌-◌, length}
use Rattle.tclv_engine.proofs.SettingLemmas.{on-ok}
use Rattle.tclv_control.specs.Outcomes.{option_words}
use Rattle.tclv_control.proofs.CatchLemmas.{listed_over}
use Rattle.tclv_control.proofs.catch_plans.push_dict.Goals as goal

pub returns-clause-pushed : goal.returns-clause-pushed
returns-clause-pushed g c =
    let stack = c.args.machine.now.values.store.stack in
    let mid = c.push_pairs.new.machine.values.store.stack in
    let n = c.height.result - c.height-height.result in
    let count : n ≡ length mid - length stack = omega (arith, c.height-height.ensures, c.height.ensures) in
    on-ok c.push_list.result
    (λ h. listed_over stack mid c.push_list.new.self.store.stack (option_words c.args.pairs.now) n c.in_ok-push_pairs.ensures.pushed count h)
    c.push_list.ensures.pushed
