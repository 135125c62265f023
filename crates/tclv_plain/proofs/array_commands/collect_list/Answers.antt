use Rattle.std.proofs.Common.{rules, ap, ◌∙◌, ◌-◌, ◌≡◌, refl, length, arith}
use Rattle.tclv_text.specs.Quotes.{list_text}
use Rattle.tclv_engine.specs.Results.{plain}
use Rattle.tclv_engine.proofs.Binds.{bind_ok, then_stop}
use Rattle.tclv_engine.proofs.Leaves.{memory_runs, value_runs}
use Rattle.tclv_engine.proofs.StackLemmas.{last-pushed, top-stacked}
use Rattle.tclv_engine.proofs.WordLemmas.{values_same}
use Rattle.tclv_plain.proofs.array_commands.collect_list.Goals as goal

pub returns-in_err-collect-clause-answer : goal.returns-in_err-collect-clause-answer
returns-in_err-collect-clause-answer g c here w told = then_stop _ (search rules) (c.in_err-collect.ensures.answer here w told)

pub returns-in_err-push_list-clause-answer : goal.returns-in_err-push_list-clause-answer
returns-in_err-push_list-clause-answer g c here w told =
    bind_ok _ (c.in_ok-collect.ensures.answer here w told) (λ texts v e shown. memory_runs (search rules) e refl)

pub returns-clause-answer : goal.returns-clause-answer
returns-clause-answer g c here w told =
    let base = c.args.machine.now.values.store.stack in
    let mid = c.collect.new.machine in
    let count = c.height.result - c.height-height.result in
    let so_many : count ≡ length mid.values.store.stack - length base = omega (arith, c.height.ensures, c.height-height.ensures) in
    bind_ok _ (c.in_ok-collect.ensures.answer here w told)
    (λ texts v e shown. value_runs {a = plain (list_text texts)} mid e (values_same mid c.push_list.new.self c.push_list.ensures.same)
    (last-pushed _ _ _ c.in_ok-push_list.ensures.pushed ∙ ap list_text (top-stacked base texts mid.values.store.stack count shown so_many), refl))
