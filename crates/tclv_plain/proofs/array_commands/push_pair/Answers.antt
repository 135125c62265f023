use Rattle.std.proofs.Common.{rules, ap, refl}
use Rattle.std.specs.Str.{chars}
use Rattle.tclv_engine.specs.State.{state_of}
use Rattle.tclv_engine.specs.Variables.{element_value}
use Rattle.tclv_engine.proofs.Binds.{runs_as, bind_ok, then_stop}
use Rattle.tclv_engine.proofs.Leaves.{memory_runs, from_same, done_runs}
use Rattle.tclv_engine.proofs.StackLemmas.{last-pushed}
use Rattle.tclv_engine.proofs.WordLemmas.{values_same}
use Rattle.tclv_plain.specs.ArrayRows.{pair}
use Rattle.tclv_plain.proofs.ArrayLemmas.{pair_pushed, pair_kept, pair_above, same_on}
use Rattle.tclv_plain.proofs.array_commands.push_pair.Goals as goal

pub returns-in_err-push_text-clause-answer : goal.returns-in_err-push_text-clause-answer
returns-in_err-push_text-clause-answer g c here w told = memory_runs (search rules) told refl

pub returns-in_err-push_text-2-clause-answer : goal.returns-in_err-push_text-2-clause-answer
returns-in_err-push_text-2-clause-answer g c here w told = memory_runs (search rules) told refl

pub returns-in_err-put_element-clause-answer : goal.returns-in_err-put_element-clause-answer
returns-in_err-put_element-clause-answer g c here w told =
    let old = c.args.machine.now in
    let mid = record old { values = c.push_text-2.new.self } in
    let name = chars c.args.array.now in
    let index = chars c.args.index.now in
    from_same old mid (pair name index) (values_same old c.push_text-2.new.self (same_on old.values c.push_text.new.self c.push_text-2.new.self c.push_text.ensures.same c.push_text-2.ensures.same))
    (then_stop _ (search rules)
    (runs_as (ap (λ t. element_value name t (state_of mid w)) (last-pushed c.push_text.new.self.store.stack c.push_text-2.new.self.store.stack index c.in_ok-push_text-2.ensures.pushed)) (c.in_err-put_element.ensures.answer here w told)))

pub returns-in_err-put_element-clause-stack : goal.returns-in_err-put_element-clause-stack
returns-in_err-put_element-clause-stack g c =
    pair_above c.args.machine.now.values.store.stack c.push_text.new.self.store.stack c.push_text-2.new.self.store.stack c.put_element.new.self.values.store.stack (chars c.args.index.now) _ _ (search rules)
    c.in_ok-push_text.ensures.pushed c.in_ok-push_text-2.ensures.pushed c.in_err-put_element.ensures.stack

pub returns-clause-answer : goal.returns-clause-answer
returns-clause-answer g c here w told =
    let old = c.args.machine.now in
    let mid = record old { values = c.push_text-2.new.self } in
    let name = chars c.args.array.now in
    let index = chars c.args.index.now in
    from_same old mid (pair name index) (values_same old c.push_text-2.new.self (same_on old.values c.push_text.new.self c.push_text-2.new.self c.push_text.ensures.same c.push_text-2.ensures.same))
    (bind_ok _
    (runs_as (ap (λ t. element_value name t (state_of mid w)) (last-pushed c.push_text.new.self.store.stack c.push_text-2.new.self.store.stack index c.in_ok-push_text-2.ensures.pushed)) (c.in_ok-put_element.ensures.answer here w told))
    (λ value v e shown. done_runs e refl
    (pair_pushed old.values.store.stack c.push_text.new.self.store.stack c.push_text-2.new.self.store.stack c.put_element.new.self.values.store.stack index value
    c.in_ok-push_text.ensures.pushed c.in_ok-push_text-2.ensures.pushed c.in_ok-put_element.ensures.stack shown)))

pub returns-clause-stack : goal.returns-clause-stack
returns-clause-stack g c =
    pair_kept c.args.machine.now.values.store.stack c.push_text.new.self.store.stack c.push_text-2.new.self.store.stack c.put_element.new.self.values.store.stack (chars c.args.index.now)
    c.in_ok-push_text.ensures.pushed c.in_ok-push_text-2.ensures.pushed c.in_ok-put_element.ensures.stack
