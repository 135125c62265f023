use Rattle.std.proofs.Common.{rules, ap, sym, ◌∙◌, ◌-◌, [], length, get_or}
use Rattle.tclv_model.specs.Values.{list_of}
use Rattle.tclv_engine.specs.DataAnswers.{of_answer}
use Rattle.tclv_engine.specs.ListAssignment.{listed}
use Rattle.tclv_engine.specs.State.{state_of}
use Rattle.tclv_engine.specs.Operations.{truth_number, as_asked, is_among, second_of}
use Rattle.tclv_engine.specs.Answers.{last_of}
use Rattle.tclv_engine.proofs.Binds.{runs_as, bind_ok, then_stop}
use Rattle.tclv_engine.proofs.Leaves.{memory_runs, from_same}
use Rattle.tclv_engine.proofs.WordLemmas.{values_then}
use Rattle.tclv_engine.proofs.ListLemmas.{list_stays}
use Rattle.tclv_engine.proofs.machine.Machine.membership.Goals as goal

pub returns-in_err-len-clause-answer : goal.returns-in_err-len-clause-answer
returns-in_err-len-clause-answer g c here w told =
    let stack = c.args.self.now.values.store.stack in
    then_stop _ (search rules) (runs_as (ap (λ l. of_answer (list_of (get_or stack (l - 1) [])) (state_of c.args.self.now w)) c.height-2.ensures) (c.in_err-len.ensures.answer here w told))

pub returns-in_err-make_text-clause-answer : goal.returns-in_err-make_text-clause-answer
returns-in_err-make_text-clause-answer g c here w told = memory_runs (search rules) told (search rules)

pub is_element-requires-clause-list : goal.is_element-requires-clause-list
is_element-requires-clause-list g c = list_stays _ _ (ap (λ s. get_or s (c.height-2.result - 1) []) (c.in_ok-make_text.ensures.stack ∙ c.in_ok-len.ensures.stack)) c.in_ok-len.ensures.list

pub is_element-requires-clause-len : goal.is_element-requires-clause-len
is_element-requires-clause-len g c = c.in_ok-len.ensures.len ∙ ap (λ s. length (listed (get_or s (c.height-2.result - 1) []))) (sym (c.in_ok-make_text.ensures.stack ∙ c.in_ok-len.ensures.stack))

pub returns-in_err-found-clause-answer : goal.returns-in_err-found-clause-answer
returns-in_err-found-clause-answer g c here w told = memory_runs (search rules) told (c.is_element.ensures.same.events ∙ c.in_ok-len.ensures.same.events)

pub returns-clause-answer : goal.returns-clause-answer
returns-clause-answer g c here w told =
    let stack = c.args.self.now.values.store.stack in
    let three = c.is_element.new.self in
    let x = second_of stack in
    let mid_is = c.in_ok-make_text.ensures.stack ∙ c.in_ok-len.ensures.stack in
    let left = ap (λ s. get_or s (c.height.result - 2) []) mid_is ∙ ap (λ l. get_or stack (l - 2) []) c.height.ensures in
    let right = ap (λ s. get_or s (c.height-2.result - 1) []) mid_is ∙ ap (λ l. get_or stack (l - 1) []) c.height-2.ensures in
    bind_ok _ (runs_as (ap (λ l. of_answer (list_of (get_or stack (l - 1) [])) (state_of c.args.self.now w)) c.height-2.ensures) (c.in_ok-len.ensures.answer here w told))
    (λ ts v e shown.
    let elements = shown.0 ∙ ap (λ l. listed (get_or stack (l - 1) [])) c.height-2.ensures in
    from_same c.list_len.new.self three (truth_number (as_asked c.args.wanted (is_among x ts))) (values_then c.list_len.new.self three c.make_text.new.self c.in_ok-make_text.ensures.same c.is_element.ensures.same)
    (runs_as (ap (λ b. truth_number b (state_of three v)) (c.as_asked.ensures ∙ ap (as_asked c.args.wanted) (c.in_ok-found.ensures.found ∙ ap (λ t. is_among t (listed (get_or c.make_text.new.self.store.stack (c.height-2.result - 1) []))) left ∙ ap (λ t. is_among x (listed t)) right ∙ ap (is_among x) (sym elements))))
    (c.truth_number.ensures.answer here v e)))
