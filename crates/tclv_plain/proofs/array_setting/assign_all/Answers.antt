use Rattle.std.proofs.Common.{rules, ap, sym, ◌∙◌, [], length, get_or}
use Rattle.std.proofs.lemmas.Str.{chars-nil}
use Rattle.tclv_engine.specs.ListAssignment.{listed}
use Rattle.tclv_engine.specs.Results.{ok}
use Rattle.tclv_engine.specs.State.{state_of}
use Rattle.tclv_engine.proofs.ListLemmas.{list_stays}
use Rattle.tclv_engine.proofs.Binds.{runs_as, bind_ok, then_stop}
use Rattle.tclv_plain.specs.ArrayRows.{assign_pairs}
use Rattle.tclv_plain.proofs.array_setting.assign_all.Goals as goal

pub returns-in_err-settable-clause-answer : goal.returns-in_err-settable-clause-answer
returns-in_err-settable-clause-answer g c here w told = then_stop _ (search rules) (c.in_err-settable.ensures.answer here w told)

pub assign_pairs-requires-clause-list : goal.assign_pairs-requires-clause-list
assign_pairs-requires-clause-list g c = list_stays _ _ (ap (λ s. get_or s c.args.list []) c.in_ok-settable.ensures.stack) c.requires.list

pub assign_pairs-requires-clause-len : goal.assign_pairs-requires-clause-len
assign_pairs-requires-clause-len g c = c.requires.len ∙ ap (λ s. length (listed (get_or s c.args.list []))) (sym c.in_ok-settable.ensures.stack)

pub returns-in_err-assign_pairs-clause-answer : goal.returns-in_err-assign_pairs-clause-answer
returns-in_err-assign_pairs-clause-answer g c here w told =
    bind_ok _ (c.in_ok-settable.ensures.answer here w told)
    (λ u v e shown. then_stop _ (search rules)
    (runs_as (ap (λ s. assign_pairs (get_or s c.args.array []) (listed (get_or s c.args.list [])) (state_of c.settable.new.machine v)) c.in_ok-settable.ensures.stack) (c.in_err-assign_pairs.ensures.answer here v e)))

pub returns-clause-answer : goal.returns-clause-answer
returns-clause-answer g c here w told =
    bind_ok _ (c.in_ok-settable.ensures.answer here w told)
    (λ u v e shown. bind_ok _
    (runs_as (ap (λ s. assign_pairs (get_or s c.args.array []) (listed (get_or s c.args.list [])) (state_of c.settable.new.machine v)) c.in_ok-settable.ensures.stack) (c.in_ok-assign_pairs.ensures.answer here v e))
    (λ u2 v2 e2 shown2. runs_as (ap (λ t. ok t (state_of c.assign_pairs.new.machine v2)) chars-nil) (c.push_result.ensures.answer here v2 e2)))
