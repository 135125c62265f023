use Rattle.std.proofs.Common.{◌≡◌, ◌∙◌, ◌<◌, sym, ap, subst, rules, length, get_or, []}
use Rattle.tclv_vars.specs.Table.{has_value}
use Rattle.tclv_reply.specs.Names.{element_of}
use Rattle.tclv_value.specs.View.{IsMade}
use Rattle.tclv_value.specs.declared.places.At.TheVariants.{Stack}
use Rattle.tclv_engine.specs.Names.{bytes_of, write_named}
use Rattle.tclv_engine.specs.Holdings.{Holdings, Assigned}
use Rattle.tclv_engine.proofs.NameLemmas.{bytes-are}
use Rattle.tclv_engine.proofs.HoldingsLemmas.{tied_put, refused_at, same_lent}
use Rattle.tclv_plain.proofs.ElementLemmas.{fresh_element, stays_made}
use Rattle.std.specs.FinMap.{get}
use Rattle.std.specs.Option.{is_some}
use Rattle.tclv_plain.proofs.array_setting.set_element.Goals as goal
use Rattle.tclv_plain.proofs.array_setting.set_element.Goals.{After-take_back_element}

pub returns-in_err-cell-clause-refused : goal.returns-in_err-cell-clause-refused
returns-in_err-cell-clause-refused c =
    let array : c.word_at-3.result.now ≡ bytes_of (get_or c.args.values.now.store.stack c.args.array []) =
    bytes-are _ _ c.word_at-3.ensures.utf8 (c.word_at-3.ensures.text ∙ ap (λ h. get_or h.store.stack c.args.array []) c.values.view_is) in
    let index : c.word_at-4.result.now ≡ bytes_of (get_or c.args.values.now.store.stack c.args.index []) =
    bytes-are _ _ c.word_at-4.ensures.utf8 (c.word_at-4.ensures.text ∙ ap (λ h. get_or h.store.stack c.args.index []) c.values.view_is) in
    refused_at c.from_residual.result c.in_err-cell.field-0.0 _ _ (search rules)
    (ap (λ h. write_named h.vars (element_of c.word_at-3.result.now c.word_at-4.result.now)) c.values.view_is
    ∙ ap (λ b. write_named c.args.values.now.vars (element_of b c.word_at-4.result.now)) array
    ∙ ap (λ b. write_named c.args.values.now.vars (element_of (bytes_of (get_or c.args.values.now.store.stack c.args.array [])) b)) index)
    c.in_err-cell.ensures.refused

pub invariant_of-values-in-Ok : goal.invariant_of-values-in-Ok
invariant_of-values-in-Ok c = tied_put c.values.inside.vars c.write_element.new.vars c.values.inside.store.cells c.put_cell.new.self.cells c.in_ok-cell.cell _ c.values.invariant c.in_ok-cell.ensures.value c.in-Ok.ensures.put

pub word_at-array-requires-clause-made : goal.word_at-array-requires-clause-made
word_at-array-requires-clause-made c =
    let P : Holdings → Type 0 = λ h. (c.args.array < length h.store.stack) in
    let Q : Holdings → Type 0 = λ h. IsMade h.store (Stack c.args.array) in
    stays_made c.values.inside.store c.put_cell.new.self c.args.array c.in-Err.ensures.refused_keeps c.in-Err.ensures.refused.0 (subst P (sym c.values.view_is) c.requires.array) (subst Q (sym c.values.view_is) c.requires.array_made)

pub returns-then-fresh-clause-array_made : goal.returns-then-fresh-clause-array_made
returns-then-fresh-clause-array_made c =
    let P : Holdings → Type 0 = λ h. (c.args.array < length h.store.stack) in
    let Q : Holdings → Type 0 = λ h. IsMade h.store (Stack c.args.array) in
    stays_made c.values.inside.store c.put_cell.new.self c.args.array c.in-Err.ensures.refused_keeps c.in-Err.ensures.refused.0 (subst P (sym c.values.view_is) c.requires.array) (subst Q (sym c.values.view_is) c.requires.array_made)

pub returns-else-fresh-clause-array_made : goal.returns-else-fresh-clause-array_made
returns-else-fresh-clause-array_made c =
    let P : Holdings → Type 0 = λ h. (c.args.array < length h.store.stack) in
    let Q : Holdings → Type 0 = λ h. IsMade h.store (Stack c.args.array) in
    stays_made c.values.inside.store c.put_cell.new.self c.args.array c.in-Err.ensures.refused_keeps c.in-Err.ensures.refused.0 (subst P (sym c.values.view_is) c.requires.array) (subst Q (sym c.values.view_is) c.requires.array_made)

pub word_at-index-requires-clause-made : goal.word_at-index-requires-clause-made
word_at-index-requires-clause-made c =
    let P : Holdings → Type 0 = λ h. (c.args.index < length h.store.stack) in
    let Q : Holdings → Type 0 = λ h. IsMade h.store (Stack c.args.index) in
    stays_made c.values.inside.store c.put_cell.new.self c.args.index c.in-Err.ensures.refused_keeps c.in-Err.ensures.refused.0 (subst P (sym c.values.view_is) c.requires.index) (subst Q (sym c.values.view_is) c.requires.index_made)

pub returns-then-fresh-clause-index_made : goal.returns-then-fresh-clause-index_made
returns-then-fresh-clause-index_made c =
    let P : Holdings → Type 0 = λ h. (c.args.index < length h.store.stack) in
    let Q : Holdings → Type 0 = λ h. IsMade h.store (Stack c.args.index) in
    stays_made c.values.inside.store c.put_cell.new.self c.args.index c.in-Err.ensures.refused_keeps c.in-Err.ensures.refused.0 (subst P (sym c.values.view_is) c.requires.index) (subst Q (sym c.values.view_is) c.requires.index_made)

pub returns-else-fresh-clause-index_made : goal.returns-else-fresh-clause-index_made
returns-else-fresh-clause-index_made c =
    let P : Holdings → Type 0 = λ h. (c.args.index < length h.store.stack) in
    let Q : Holdings → Type 0 = λ h. IsMade h.store (Stack c.args.index) in
    stays_made c.values.inside.store c.put_cell.new.self c.args.index c.in-Err.ensures.refused_keeps c.in-Err.ensures.refused.0 (subst P (sym c.values.view_is) c.requires.index) (subst Q (sym c.values.view_is) c.requires.index_made)

pub take_back_element-requires-clause-wrote : goal.take_back_element-requires-clause-wrote
take_back_element-requires-clause-wrote c =
    let v = c.values.inside.store in
    let n = c.put_cell.new.self in
    let kept = c.in-Err.ensures.refused in (
      c.values.inside.vars,
      fresh_element c.values.inside.vars c.write_element.new.vars c.word_at.result.now c.word_at-2.result.now c.word_at-3.result.now c.word_at-4.result.now c.word_at-array.result.now c.word_at-index.result.now
          c.in_ok-cell.cell c.in_ok-cell.fresh c.missing_element-lacked.result c.in_ok-cell.ensures.written c.if-fresh.true c.missing_element-lacked.ensures.answer c.missing_element-lacked.ensures.sound
          (same_lent v n (Stack c.args.array) _ _ kept.0 kept.1 c.word_at-array.ensures.utf8 c.word_at.ensures.utf8 c.word_at-array.ensures.text c.word_at.ensures.text)
          (same_lent v n (Stack c.args.array) _ _ kept.0 kept.1 c.word_at-array.ensures.utf8 c.word_at-3.ensures.utf8 c.word_at-array.ensures.text c.word_at-3.ensures.text)
          (same_lent v n (Stack c.args.index) _ _ kept.0 kept.1 c.word_at-index.ensures.utf8 c.word_at-2.ensures.utf8 c.word_at-index.ensures.text c.word_at-2.ensures.text)
          (same_lent v n (Stack c.args.index) _ _ kept.0 kept.1 c.word_at-index.ensures.utf8 c.word_at-4.ensures.utf8 c.word_at-index.ensures.text c.word_at-4.ensures.text),
    )

-- the variables are as before the write
back : (c : After-take_back_element) → c.take_back_element.new.vars ≡ c.values.inside.vars
back c =
    let v = c.values.inside.store in
    let n = c.put_cell.new.self in
    let kept = c.in-Err.ensures.refused in
    c.take_back_element.ensures.before c.values.inside.vars
    (fresh_element c.values.inside.vars c.write_element.new.vars c.word_at.result.now c.word_at-2.result.now c.word_at-3.result.now c.word_at-4.result.now c.word_at-array.result.now c.word_at-index.result.now
    c.in_ok-cell.cell c.in_ok-cell.fresh c.missing_element-lacked.result c.in_ok-cell.ensures.written c.if-fresh.true c.missing_element-lacked.ensures.answer c.missing_element-lacked.ensures.sound
    (same_lent v n (Stack c.args.array) _ _ kept.0 kept.1 c.word_at-array.ensures.utf8 c.word_at.ensures.utf8 c.word_at-array.ensures.text c.word_at.ensures.text)
    (same_lent v n (Stack c.args.array) _ _ kept.0 kept.1 c.word_at-array.ensures.utf8 c.word_at-3.ensures.utf8 c.word_at-array.ensures.text c.word_at-3.ensures.text)
    (same_lent v n (Stack c.args.index) _ _ kept.0 kept.1 c.word_at-index.ensures.utf8 c.word_at-2.ensures.utf8 c.word_at-index.ensures.text c.word_at-2.ensures.text)
    (same_lent v n (Stack c.args.index) _ _ kept.0 kept.1 c.word_at-index.ensures.utf8 c.word_at-4.ensures.utf8 c.word_at-index.ensures.text c.word_at-4.ensures.text))

pub invariant_of-values-then-fresh : goal.invariant_of-values-then-fresh
invariant_of-values-then-fresh c cell =
    ap (λ m. is_some (get m cell)) c.in-Err.ensures.refused.1 ∙ c.values.invariant cell ∙ ap (λ t. has_value t cell) (sym (back c))

pub returns-in-Ok-clause-assigned : goal.returns-in-Ok-clause-assigned
returns-in-Ok-clause-assigned c =
    let P : Holdings → Type 0 = λ h. Assigned h (record { store = c.put_cell.new.self; vars = c.write_element.new.vars })
    (element_of (bytes_of (get_or h.store.stack c.args.array [])) (bytes_of (get_or h.store.stack c.args.index []))) c.in_ok-cell.cell in
    subst P c.values.view_is (record {
      fresh = c.in_ok-cell.fresh;
      wrote = ap (λ b. write_named c.values.inside.vars (element_of b (bytes_of (get_or c.values.inside.store.stack c.args.index [])))) (sym (bytes-are _ _ c.word_at-3.ensures.utf8 c.word_at-3.ensures.text))
          ∙ ap (λ b. write_named c.values.inside.vars (element_of c.word_at-3.result.now b)) (sym (bytes-are _ _ c.word_at-4.ensures.utf8 c.word_at-4.ensures.text)) ∙ c.in_ok-cell.ensures.written;
      cells = c.in-Ok.ensures.put;
      stack = c.in-Ok.ensures.popped;
    })

pub returns-then-fresh-clause-same : goal.returns-then-fresh-clause-same
returns-then-fresh-clause-same c = record {
  vars = back c ∙ ap (λ h. h.vars) c.values.view_is;
  cells = c.in-Err.ensures.refused.1 ∙ ap (λ h. h.store.cells) c.values.view_is;
}
