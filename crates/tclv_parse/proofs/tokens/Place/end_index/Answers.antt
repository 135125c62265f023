use Rattle.std.proofs.Common.{ap, sym, ◌∙◌, Ok}
use Rattle.tclv_parse.specs.declared.runs.Form.TheVariants as form
use Rattle.tclv_parse.specs.declared.faults.ParseFault.TheVariants as f
use Rattle.tclv_parse.specs.Places.{after_parts}
use Rattle.tclv_parse.specs.Steps.{inner, deeper, here, all_behind, behind_parts, closing}
use Rattle.tclv_parse.proofs.Moves.{index-missing, index-outside, index-ends}
use Rattle.tclv_parse.proofs.Levels.{readers, halts-here, moves-from}
use Rattle.tclv_parse.proofs.tokens.Place.end_index.Goals.{in_default-via-in-CloseParen+else-inner, in_default-via-in_default}
use Rattle.tclv_parse.proofs.tokens.Place.end_index.Goals as goal

pub returns-in-CloseParen-clause-moved : goal.returns-in-CloseParen-clause-moved
returns-in-CloseParen-clause-moved c =
    let p = c.args.self.now in
    moves-from (behind_parts form.Index p) (closing p) (Ok c.close_level.result) (here c.close_level.new.self) (ap (all_behind p) (index-ends (deeper p) (readers p) (inner p) p.cursor (sym c.inner.ensures ∙ c.if-inner.true) (sym c.peek.ensures ∙ c.in-CloseParen.is))) c.close_level.ensures.moved

pub returns-in_default-clause-moved : goal.returns-in_default-clause-moved
returns-in_default-clause-moved c =
    let p = c.args.self.now in
    elim c.in_default.branch [
      | in_default-via-in-CloseParen+else-inner w ↦ halts-here p (after_parts (deeper p) (inner p) form.Index p.cursor) f.CloseParen (index-outside (deeper p) (readers p) (inner p) p.cursor (sym w.inner.ensures ∙ w.if-inner.false))
      | in_default-via-in_default w ↦ halts-here p (after_parts (deeper p) (inner p) form.Index p.cursor) f.CloseParen (index-missing (deeper p) (readers p) (inner p) p.cursor (λ z. w.in_default.not-CloseParen (c.peek.ensures ∙ z)))
    ]
