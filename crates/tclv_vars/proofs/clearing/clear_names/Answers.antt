use Rattle.std.proofs.Common.{◌≡◌, sym, ap, subst, ◌∙◌}
use Rattle.tclv_value.specs.View.{View, KeepsMade}
use Rattle.tclv_vars.specs.Clearing.{freed, without_names}
use Rattle.tclv_vars.proofs.ClearLemmas.{Goes, Goes-own, Goes-link, without_names_none, keeps_both, fewer_without}
use Rattle.tclv_vars.proofs.clearing.clear_names.Goals as goal
use Rattle.tclv_vars.proofs.clearing.clear_names.Goals.{then-slot, else-slot}

pub loop-slot-preserved-after-slot : goal.loop-slot-preserved-after-slot
loop-slot-preserved-after-slot c =
    let before = c.loop-slot.invariant in
    let turn : Goes c.loop-slot.cells.map c.loop-slot.store.cells c.loop-slot.names c.if-slot.cells.map c.if-slot.store.cells c.pop.new.self
    × (c.if-slot.store.stack ≡ c.args.store.now.stack) × KeepsMade c.args.store.now c.if-slot.store = elim c.if-slot.branch as (λ _. Goes c.loop-slot.cells.map c.loop-slot.store.cells c.loop-slot.names c.if-slot.cells.map c.if-slot.store.cells c.pop.new.self
    × (c.if-slot.store.stack ≡ c.args.store.now.stack) × KeepsMade c.args.store.now c.if-slot.store) [
      | then-slot w ↦ (
        Goes-own _ _ _ _ _ _ _ _ c.in-Some.ensures.entry c.in-Some.ensures.rest before.0 w.if-slot.true (ap (λ r. r.map) w.cells-is ∙ w.clear.ensures.cells) (ap (λ (v : View). v.cells) w.store-is ∙ w.clear.ensures.texts),
        ap (λ (v : View). v.stack) w.store-is ∙ w.clear.ensures.stack ∙ before.3,
        subst (λ (v : View). KeepsMade c.args.store.now v) (sym w.store-is)
            (keeps_both c.args.store.now c.loop-slot.store w.clear.new.store before.4 w.clear.ensures.keeps (fewer_without c.loop-slot.store w.clear.new.store (freed c.loop-slot.cells.map c.in-Some.slot.cell) w.clear.ensures.stack w.clear.ensures.texts)),
      )
      | else-slot w ↦ (
        Goes-link _ _ _ _ _ _ _ _ c.in-Some.ensures.entry c.in-Some.ensures.rest before.0 w.if-slot.false (ap (λ r. r.map) w.cells-is) (ap (λ (v : View). v.cells) w.store-is),
        ap (λ (v : View). v.stack) w.store-is ∙ before.3,
        subst (λ (v : View). KeepsMade c.args.store.now v) (sym w.store-is) before.4,
      )
    ] in
    (turn.0.0, turn.0.1 ∙ before.1, turn.0.2 ∙ before.2, turn.1, turn.2)

pub returns-clause-cells : goal.returns-clause-cells
returns-clause-cells c = sym (without_names_none _ _) ∙ ap (without_names c.loop-slot.cells.map c.loop-slot.cells.map) (sym c.in_default.ensures.empty) ∙ c.loop-slot.invariant.1

pub returns-clause-texts : goal.returns-clause-texts
returns-clause-texts c = sym (without_names_none _ _) ∙ ap (without_names c.loop-slot.store.cells c.loop-slot.cells.map) (sym c.in_default.ensures.empty) ∙ c.loop-slot.invariant.2
