use Rattle.std.proofs.Common.{rules, ap, sym, ◌∙◌, [], length, get_or}
use Rattle.tclv_engine.specs.ListAssignment.{listed}
use Rattle.tclv_engine.proofs.ListLemmas.{list_stays}
use Rattle.tclv_engine.specs.State.{state_of}
use Rattle.tclv_engine.proofs.Binds.{runs_as, bind_ok, then_stop}
use Rattle.tclv_plain.specs.ArrayRows.{set_listed}
use Rattle.tclv_plain.proofs.array_setting.array_set.Goals as goal

pub returns-in_err-len-clause-answer : goal.returns-in_err-len-clause-answer
returns-in_err-len-clause-answer g c here w told = then_stop _ (search rules) (c.in_err-len.ensures.answer here w told)

pub set_listed-requires-clause-list : goal.set_listed-requires-clause-list
set_listed-requires-clause-list g c = list_stays _ _ (ap (λ s. get_or s c.args.list []) c.in_ok-len.ensures.stack) c.in_ok-len.ensures.list

pub set_listed-requires-clause-len : goal.set_listed-requires-clause-len
set_listed-requires-clause-len g c = c.in_ok-len.ensures.len ∙ ap (λ s. length (listed (get_or s c.args.list []))) (sym c.in_ok-len.ensures.stack)

pub returns-clause-answer : goal.returns-clause-answer
returns-clause-answer g c here w told =
    bind_ok _ (c.in_ok-len.ensures.answer here w told)
    (λ ts v e shown. runs_as
    (ap (λ s. set_listed (get_or s c.args.array []) (listed (get_or s c.args.list [])) (state_of c.list_len.new.self v)) c.in_ok-len.ensures.stack
    ∙ ap (λ vs. set_listed (get_or c.args.machine.now.values.store.stack c.args.array []) vs (state_of c.list_len.new.self v)) (sym shown.0))
    (c.set_listed.ensures.answer here v e))
