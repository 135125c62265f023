use Rattle.std.proofs.Common.{rules, arith, ◌∙◌, ap, refl, length, get_or, []}
use Rattle.tclv_value.specs.declared.places.At.TheVariants.{Stack}
use Rattle.tclv_engine.specs.Answers.{last_of}
use Rattle.tclv_engine.specs.State.{state_of}
use Rattle.tclv_engine.proofs.Binds.{runs_as}
use Rattle.tclv_engine.proofs.Leaves.{memory_runs, from_same}
use Rattle.tclv_engine.proofs.WordLemmas.{values_same}
use Rattle.tclv_plain.specs.ArrayRows.{assign_element}
use Rattle.tclv_plain.proofs.ArrayLemmas.{same_on}
use Rattle.tclv_plain.proofs.array_setting.assign_element.Goals as goal

pub returns-in_err-make_text-clause-answer : goal.returns-in_err-make_text-clause-answer
returns-in_err-make_text-clause-answer g c here w told = memory_runs (search rules) told refl

pub returns-in_err-make_text-2-clause-answer : goal.returns-in_err-make_text-2-clause-answer
returns-in_err-make_text-2-clause-answer g c here w told = memory_runs (search rules) told refl

pub assign_made_element-requires-clause-array_made : goal.assign_made_element-requires-clause-array_made
assign_made_element-requires-clause-array_made g c =
    c.in_ok-make_text-2.ensures.stays (Stack c.args.array) (omega (arith, c.requires.array, c.requires.index, ap length c.in_ok-make_text.ensures.stack)) c.in_ok-make_text.ensures.made

pub returns-clause-answer : goal.returns-clause-answer
returns-clause-answer g c here w told =
    let old = c.args.machine.now in
    let mid = record old { values = c.make_text-2.new.self } in
    let stack = old.values.store.stack in
    let kept = c.in_ok-make_text-2.ensures.stack ∙ c.in_ok-make_text.ensures.stack in
    from_same old mid (assign_element (get_or stack c.args.array []) (get_or stack c.args.index []) (last_of stack))
    (values_same old c.make_text-2.new.self (same_on old.values c.make_text.new.self c.make_text-2.new.self c.in_ok-make_text.ensures.same c.in_ok-make_text-2.ensures.same))
    (runs_as (ap (λ s. assign_element (get_or s c.args.array []) (get_or s c.args.index []) (last_of s) (state_of mid w)) kept) (c.assign_made_element.ensures.answer here w told))
