use Rattle.std.proofs.Common.{ap, sym, ◌∙◌}
use Rattle.tclv_parse.specs.declared.pieces.PieceKind.TheVariants as k
use Rattle.tclv_parse.specs.declared.modes.Mode.TheVariants as m
use Rattle.tclv_parse.specs.Runs.{expands}
use Rattle.tclv_parse.specs.Steps.{inner, deeper, here_in, here, all_behind}
use Rattle.tclv_parse.proofs.Moves.{words-expand, words-plain}
use Rattle.tclv_parse.proofs.Levels.{readers, piece-moves, moves-from}
use Rattle.tclv_parse.proofs.tokens.Place.word.Goals as goal

pub returns-then-expands-clause-moved : goal.returns-then-expands-clause-moved
returns-then-expands-clause-moved c =
    let p = c.args.self.now in
    piece-moves p c.expansion.new.self c.expansion.result k.Expand 3 m.Words m.Expanded c.expansion.ensures.taken (words-expand (deeper p) (readers p) (inner p) p.cursor c.requires.word (sym (c.expands.ensures ∙ ap (λ b. expands b p.cursor) c.inner.ensures) ∙ c.if-expands.true))

pub returns-else-expands-clause-moved : goal.returns-else-expands-clause-moved
returns-else-expands-clause-moved c =
    let p = c.args.self.now in
    moves-from (here_in m.Words p) (here_in m.Expanded p) c.plain_word.result (here c.plain_word.new.self) (ap (all_behind p) (words-plain (deeper p) (readers p) (inner p) p.cursor c.requires.word (sym (c.expands.ensures ∙ ap (λ b. expands b p.cursor) c.inner.ensures) ∙ c.if-expands.false))) c.plain_word.ensures.moved
