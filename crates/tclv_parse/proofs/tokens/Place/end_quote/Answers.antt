use Rattle.std.proofs.Common.{sym, ◌∙◌}
use Rattle.tclv_parse.specs.declared.pieces.PieceKind.TheVariants as k
use Rattle.tclv_parse.specs.declared.modes.Mode.TheVariants as m
use Rattle.tclv_parse.specs.declared.runs.Form.TheVariants as form
use Rattle.tclv_parse.specs.declared.faults.ParseFault.TheVariants as f
use Rattle.tclv_parse.specs.Places.{after_parts}
use Rattle.tclv_parse.specs.Steps.{inner, deeper}
use Rattle.tclv_parse.proofs.Moves.{quote-ends, quote-missing}
use Rattle.tclv_parse.proofs.Levels.{readers, behind-moves, halts-here}
use Rattle.tclv_parse.proofs.tokens.Place.end_quote.Goals as goal

pub returns-in-Quote-clause-moved : goal.returns-in-Quote-clause-moved
returns-in-Quote-clause-moved c =
    let p = c.args.self.now in
    behind-moves p c.character.new.self c.character.result k.Mark 1 (after_parts (deeper p) (inner p) form.Quoted p.cursor) (m.Closed f.AfterQuote) c.character.ensures.taken (quote-ends (deeper p) (readers p) (inner p) p.cursor (sym c.peek.ensures ∙ c.in-Quote.is))

pub returns-in_default : goal.returns-in_default
returns-in_default c =
    let p = c.args.self.now in
    record { within = c.requires.within; moved = halts-here p (after_parts (deeper p) (inner p) form.Quoted p.cursor) f.CloseQuote (quote-missing (deeper p) (readers p) (inner p) p.cursor (λ z. c.in_default.not-Quote (c.peek.ensures ∙ z))) }
