use Rattle.std.proofs.Common.{◌≡◌, ◌∙◌, sym, ap, subst, rules}
use Rattle.std.specs.Prelude.{◌||◌}
use Rattle.tclv_vars.specs.Table.{has_value}
use Rattle.tclv_reply.specs.Names.{naming, shape_of}
use Rattle.tclv_value.specs.View.{text_at}
use Rattle.tclv_engine.specs.Names.{bytes_of, write_named}
use Rattle.tclv_engine.specs.Holdings.{Holdings, Assigned}
use Rattle.tclv_engine.proofs.NameLemmas.{bytes-are}
use Rattle.tclv_engine.proofs.HoldingsLemmas.{tied_put, refused_at, nat_eq-same, same_lent, fresh_write}
use Rattle.std.specs.FinMap.{get}
use Rattle.std.specs.Option.{is_some}
use Rattle.tclv_engine.proofs.values.Values.write_top.Goals as goal
use Rattle.tclv_engine.proofs.values.Values.write_top.Goals.{After-take_back_named}

pub returns-in_err-cell-clause-refused : goal.returns-in_err-cell-clause-refused
returns-in_err-cell-clause-refused c =
    let same : c.self.inside.store ≡ c.args.self.now.store = ap (λ h. h.store) c.self.view_is in
    let name : c.lent-2.result.now ≡ bytes_of (text_at c.args.self.now.store c.args.name) = bytes-are _ _ c.lent-2.ensures.utf8 (c.lent-2.ensures.text ∙ ap (λ s. text_at s c.args.name) same) in
    refused_at c.from_residual.result c.in_err-cell.field-0.0 _ _ (search rules)
    (ap (λ t. write_named t (naming c.lent-2.result.now)) (ap (λ h. h.vars) c.self.view_is) ∙ ap (λ b. write_named c.args.self.now.vars (naming b)) name)
    c.in_err-cell.ensures.refused

pub invariant_of-self-in-Ok : goal.invariant_of-self-in-Ok
invariant_of-self-in-Ok c = tied_put c.self.inside.vars c.write_named.new.vars c.self.inside.store.cells c.put_cell.new.self.cells c.in_ok-cell.cell _ c.self.invariant c.in_ok-cell.ensures.value c.in-Ok.ensures.put

pub take_back_named-requires-clause-wrote : goal.take_back_named-requires-clause-wrote
take_back_named-requires-clause-wrote c = (
  c.self.inside.vars,
  fresh_write c.self.inside.vars c.write_named.new.vars c.lent.result.now c.lent-2.result.now c.lent-name.result.now c.in_ok-cell.cell c.in_ok-cell.fresh c.missing_named-lacked.result c.in_ok-cell.ensures.written c.if-fresh.true c.missing_named-lacked.ensures.answer c.missing_named-lacked.ensures.sound
      (same_lent c.self.inside.store c.put_cell.new.self c.args.name _ _ c.in-Err.ensures.refused.0 c.in-Err.ensures.refused.1 c.lent-name.ensures.utf8 c.lent.ensures.utf8 c.lent-name.ensures.text c.lent.ensures.text)
      (same_lent c.self.inside.store c.put_cell.new.self c.args.name _ _ c.in-Err.ensures.refused.0 c.in-Err.ensures.refused.1 c.lent-name.ensures.utf8 c.lent-2.ensures.utf8 c.lent-name.ensures.text c.lent-2.ensures.text),
)

-- the variables are as before the write
back : (c : After-take_back_named) → c.take_back_named.new.vars ≡ c.self.inside.vars
back c = c.take_back_named.ensures.before c.self.inside.vars (
    fresh_write c.self.inside.vars c.write_named.new.vars c.lent.result.now c.lent-2.result.now c.lent-name.result.now c.in_ok-cell.cell c.in_ok-cell.fresh c.missing_named-lacked.result c.in_ok-cell.ensures.written c.if-fresh.true c.missing_named-lacked.ensures.answer c.missing_named-lacked.ensures.sound
    (same_lent c.self.inside.store c.put_cell.new.self c.args.name _ _ c.in-Err.ensures.refused.0 c.in-Err.ensures.refused.1 c.lent-name.ensures.utf8 c.lent.ensures.utf8 c.lent-name.ensures.text c.lent.ensures.text)
    (same_lent c.self.inside.store c.put_cell.new.self c.args.name _ _ c.in-Err.ensures.refused.0 c.in-Err.ensures.refused.1 c.lent-name.ensures.utf8 c.lent-2.ensures.utf8 c.lent-name.ensures.text c.lent-2.ensures.text))

pub invariant_of-self-then-fresh : goal.invariant_of-self-then-fresh
invariant_of-self-then-fresh c cell =
    ap (λ m. is_some (get m cell)) c.in-Err.ensures.refused.1 ∙ c.self.invariant cell ∙ ap (λ t. has_value t cell) (sym (back c))

pub returns-in-Ok-clause-assigned : goal.returns-in-Ok-clause-assigned
returns-in-Ok-clause-assigned c =
    let P : Holdings → Type 0 = λ h. Assigned h (record { store = c.put_cell.new.self; vars = c.write_named.new.vars }) (naming (bytes_of (text_at h.store c.args.name))) c.in_ok-cell.cell in
    subst P c.self.view_is (record {
      fresh = c.in_ok-cell.fresh;
      wrote = ap (λ b. write_named c.self.inside.vars (naming b)) (sym (bytes-are _ _ c.lent-2.ensures.utf8 c.lent-2.ensures.text)) ∙ c.in_ok-cell.ensures.written;
      cells = c.in-Ok.ensures.put;
      stack = c.in-Ok.ensures.popped;
    })

pub returns-in-Ok-clause-there : goal.returns-in-Ok-clause-there
returns-in-Ok-clause-there c =
    tied_put c.self.inside.vars c.write_named.new.vars c.self.inside.store.cells c.put_cell.new.self.cells c.in_ok-cell.cell _ c.self.invariant c.in_ok-cell.ensures.value c.in-Ok.ensures.put c.in_ok-cell.cell
    ∙ c.in_ok-cell.ensures.value c.in_ok-cell.cell
    ∙ ap (λ b. b || has_value c.self.inside.vars c.in_ok-cell.cell) (nat_eq-same c.in_ok-cell.cell)

pub returns-then-fresh-clause-same : goal.returns-then-fresh-clause-same
returns-then-fresh-clause-same c = record {
  vars = back c ∙ ap (λ h. h.vars) c.self.view_is;
  cells = c.in-Err.ensures.refused.1 ∙ ap (λ h. h.store.cells) c.self.view_is;
}

-- the shape is that of each text that is lent of the name
pub missing_named-lacked-requires-clause-shape : goal.missing_named-lacked-requires-clause-shape
missing_named-lacked-requires-clause-shape c =
    c.requires.shape ∙ ap (λ h. shape_of (bytes_of (text_at h.store c.args.name))) (sym c.self.view_is) ∙ ap shape_of (sym (bytes-are _ _ c.lent.ensures.utf8 c.lent.ensures.text))

pub write_named-requires-clause-shape : goal.write_named-requires-clause-shape
write_named-requires-clause-shape c =
    c.requires.shape ∙ ap (λ h. shape_of (bytes_of (text_at h.store c.args.name))) (sym c.self.view_is) ∙ ap shape_of (sym (bytes-are _ _ c.lent-2.ensures.utf8 c.lent-2.ensures.text))

pub take_back_named-requires-clause-shape : goal.take_back_named-requires-clause-shape
take_back_named-requires-clause-shape c =
    c.requires.shape ∙ ap (λ h. shape_of (bytes_of (text_at h.store c.args.name))) (sym c.self.view_is) ∙ ap shape_of (sym (bytes-are _ _ c.lent.ensures.utf8 c.lent.ensures.text))
    ∙ ap shape_of (sym (same_lent c.self.inside.store c.put_cell.new.self c.args.name _ _ c.in-Err.ensures.refused.0 c.in-Err.ensures.refused.1 c.lent-name.ensures.utf8 c.lent.ensures.utf8 c.lent-name.ensures.text c.lent.ensures.text))
