use Rattle.std.proofs.Common.{◌∙◌, List, sym, subst, refl, take, drop, get_or, []}
use Rattle.std.proofs.lemmas.List.{take-append-drop}
use Rattle.tclv_engine.specs.State.{Text, state_of}
use Rattle.tclv_engine.specs.Answers.{last_of}
use Rattle.tclv_engine.specs.Variables.{element_name, RefusesSetting}
use Rattle.tclv_engine.proofs.Binds.{runs_as}
use Rattle.tclv_engine.proofs.Leaves.{raise_runs, done_runs}
use Rattle.tclv_engine.proofs.NameLemmas.{bytes-are}
use Rattle.tclv_engine.proofs.WordLemmas.{values_then}
use Rattle.tclv_engine.proofs.ListLemmas.{kept_grown}
use Rattle.tclv_plain.proofs.ElementLemmas.{element-set_unbuilt, element-set, element_written, element_refused, both_off}
use Rattle.tclv_plain.proofs.array_setting.assign_made_element.Goals as goal

pub returns-then-is_qualified-clause-answer : goal.returns-then-is_qualified-clause-answer
returns-then-is_qualified-clause-answer g c here w told =
    let stack = c.args.machine.now.values.store.stack in
    let array = get_or stack c.args.array [] in
    runs_as (element-set_unbuilt c.lend.result.now array (get_or stack c.args.index []) (last_of stack) (state_of c.args.machine.now w) (bytes-are _ _ c.lend.ensures.utf8 c.lend.ensures.text) (sym c.is_qualified.ensures ∙ c.if-is_qualified.true))
    (raise_runs c.args.machine.now told c.not_built.ensures.same c.not_built.ensures.raises)

pub returns-in-Ok-clause-answer : goal.returns-in-Ok-clause-answer
returns-in-Ok-clause-answer g c here w told =
    let old = c.args.machine.now in
    let stack = old.values.store.stack in
    let array = get_or stack c.args.array [] in
    let index = get_or stack c.args.index [] in
    runs_as
    (element_written old c.set_element.new.values c.pop.new.self array index _ w c.in-Ok.ensures.assigned c.pop.ensures.same
    ∙ element-set c.lend.result.now array index (last_of stack) (state_of old w) (bytes-are _ _ c.lend.ensures.utf8 c.lend.ensures.text) (sym c.is_qualified.ensures ∙ c.if-is_qualified.false))
    (done_runs told refl tt)

pub returns-in-Ok-clause-stack : goal.returns-in-Ok-clause-stack
returns-in-Ok-clause-stack g c =
    both_off c.args.machine.now.values.store.stack c.set_element.new.values.store.stack c.pop.new.self.store.stack c.args.index c.requires.index c.in-Ok.ensures.assigned.stack c.pop.ensures.popped

pub returns-in-Err-clause-answer : goal.returns-in-Err-clause-answer
returns-in-Err-clause-answer g c here w told =
    let old = c.args.machine.now in
    let stack = old.values.store.stack in
    let array = get_or stack c.args.array [] in
    let index = get_or stack c.args.index [] in
    let P : List Text → Type 0 = λ s. RefusesSetting c.in-Err.fault (element_name (get_or s c.args.array []) (get_or s c.args.index [])) c.refuse_element.new.machine.values.store.stack c.refuse_element.result in
    element_refused old c.refuse_element.new.machine w here c.lend.result.now array index (last_of stack) c.in-Err.fault c.refuse_element.result told
    (values_then old c.refuse_element.new.machine c.set_element.new.values c.in-Err.ensures.same c.refuse_element.ensures.same)
    (bytes-are _ _ c.lend.ensures.utf8 c.lend.ensures.text) (sym c.is_qualified.ensures ∙ c.if-is_qualified.false) c.in-Err.ensures.refused
    (subst P c.in-Err.ensures.stack c.refuse_element.ensures.refuses)

pub returns-in-Err-clause-stack : goal.returns-in-Err-clause-stack
returns-in-Err-clause-stack g c =
    let stack = c.args.machine.now.values.store.stack in
    kept_grown _ c.refuse_element.result refl (take c.args.index stack) c.set_element.new.values.store.stack c.refuse_element.new.machine.values.store.stack (drop c.args.index stack)
    (c.in-Err.ensures.stack ∙ sym (take-append-drop c.args.index stack)) c.refuse_element.ensures.stack
