use Rattle.std.proofs.Common.{◌≡◌, ◌-◌, ◌∙◌, sym, ap, subst, refl, arith, length, get_or, [], Ok, Err}
use Rattle.std.specs.Str.{chars}
use Rattle.tclv_model.specs.Message.{text_of}
use Rattle.tclv_model.specs.ErrorCodes.{error_code}
use Rattle.tclv_reply.specs.Names.{element_of}
use Rattle.tclv_engine.specs.State.{Text, state_of}
use Rattle.tclv_engine.specs.Names.{bytes_of, read_named}
use Rattle.tclv_engine.specs.Answers.{Raises, last_of}
use Rattle.tclv_engine.specs.Variables.{read_cell, reading_message, reading_code, element_name}
use Rattle.tclv_engine.proofs.Binds.{runs_as}
use Rattle.tclv_engine.proofs.Leaves.{raise_runs, from_same}
use Rattle.tclv_engine.proofs.NameLemmas.{bytes-are}
use Rattle.tclv_engine.proofs.VariableLemmas.{element-unbuilt, element-read}
use Rattle.tclv_engine.proofs.WordLemmas.{values_same}
use Rattle.tclv_engine.proofs.machine.Machine.put_made_element.Goals as goal

pub returns-then-is_qualified-clause-answer : goal.returns-then-is_qualified-clause-answer
returns-then-is_qualified-clause-answer g c here w told =
    runs_as (element-unbuilt c.args.array.now (chars c.args.array.now) (last_of c.args.self.now.values.store.stack) (state_of c.args.self.now w) (bytes-are _ _ c.requires.array refl) (sym c.is_qualified.ensures ∙ c.if-is_qualified.true))
    (raise_runs c.args.self.now told c.not_built.ensures.same c.not_built.ensures.raises)

pub returns-in-Ok-clause-answer : goal.returns-in-Ok-clause-answer
returns-in-Ok-clause-answer g c here w told =
    let old = c.args.self.now in
    let stack = old.values.store.stack in
    let array = chars c.args.array.now in
    let place : c.args.last ≡ length stack - 1 = omega (arith, c.requires.last) in
    let at : get_or stack c.args.last [] ≡ last_of stack = ap (λ k. get_or stack k []) place in
    let found = c.cell_of_element.ensures.answer ∙ ap (λ t. read_named old.values.vars (element_of c.args.array.now (bytes_of t))) at in
    runs_as (element-read c.args.array.now array (last_of stack) (state_of old w) (Ok c.in-Ok.cell) (bytes-are _ _ c.requires.array refl) (sym c.is_qualified.ensures ∙ c.if-is_qualified.false) (sym found ∙ c.in-Ok.is))
    (from_same old (record old { values = c.pop.new.self }) (read_cell (element_name array (last_of stack)) (Ok c.in-Ok.cell)) (values_same old c.pop.new.self c.pop.ensures.same)
    (c.push_cell.ensures.answer here w told))

pub returns-in-Err-clause-answer : goal.returns-in-Err-clause-answer
returns-in-Err-clause-answer g c here w told =
    let old = c.args.self.now in
    let stack = old.values.store.stack in
    let array = chars c.args.array.now in
    let f = c.in-Err.fault in
    let place : c.args.last ≡ length stack - 1 = omega (arith, c.requires.last) in
    let at : get_or stack c.args.last [] ≡ last_of stack = ap (λ k. get_or stack k []) place in
    let found = c.cell_of_element.ensures.answer ∙ ap (λ t. read_named old.values.vars (element_of c.args.array.now (bytes_of t))) at in
    let P : Text → Type 0 = λ t. Raises (text_of (reading_message f) (element_name array t) []) (error_code (reading_code f) (element_name array t)) c.refuse_element.new.self.values.store.stack c.refuse_element.result in
    runs_as (element-read c.args.array.now array (last_of stack) (state_of old w) (Err f) (bytes-are _ _ c.requires.array refl) (sym c.is_qualified.ensures ∙ c.if-is_qualified.false) (sym found ∙ c.in-Err.is))
    (raise_runs old told c.refuse_element.ensures.same (subst P at c.refuse_element.ensures.raises))
