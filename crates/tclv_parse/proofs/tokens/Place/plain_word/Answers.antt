use Rattle.std.proofs.Common.{ap, sym, ◌∙◌}
use Rattle.tclv_parse.specs.declared.pieces.PieceKind.TheVariants as k
use Rattle.tclv_parse.specs.declared.modes.Mode.TheVariants as m
use Rattle.tclv_parse.specs.declared.runs.Form.TheVariants as form
use Rattle.tclv_parse.specs.Steps.{inner, deeper, here_in, here, all_behind}
use Rattle.tclv_parse.proofs.Moves.{plain-brace, plain-quote, plain-else}
use Rattle.tclv_parse.proofs.Levels.{readers, piece-moves, moves-from}
use Rattle.tclv_parse.proofs.tokens.Place.plain_word.Goals as goal

pub returns-in-OpenBrace-clause-moved : goal.returns-in-OpenBrace-clause-moved
returns-in-OpenBrace-clause-moved c =
    let p = c.args.self.now in
    piece-moves p c.character.new.self c.character.result k.Mark 1 m.Expanded (m.Braced 0) c.character.ensures.taken (plain-brace (deeper p) (readers p) (inner p) p.cursor (sym c.peek.ensures ∙ c.in-OpenBrace.is))

pub returns-in-Quote-clause-moved : goal.returns-in-Quote-clause-moved
returns-in-Quote-clause-moved c =
    let p = c.args.self.now in
    piece-moves p c.character-in-Quote.new.self c.character-in-Quote.result k.Mark 1 m.Expanded (m.Parts form.Quoted) c.character-in-Quote.ensures.taken (plain-quote (deeper p) (readers p) (inner p) p.cursor (sym c.peek.ensures ∙ c.in-Quote.is))

pub returns-in_default : goal.returns-in_default
returns-in_default c =
    let p = c.args.self.now in
    record { within = c.part.ensures.within; moved = moves-from (here_in m.Expanded p) (here_in (m.Parts form.Bare) p) c.part.result (here c.part.new.self) (ap (all_behind p) (plain-else (deeper p) (readers p) (inner p) p.cursor (λ z. c.in_default.not-OpenBrace (c.peek.ensures ∙ z)) (λ z. c.in_default.not-Quote (c.peek.ensures ∙ z)))) c.part.ensures.moved }
