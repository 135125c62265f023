use Rattle.std.proofs.Common.{inl, inr, ap, ap₂, sym, ◌∙◌}
use Rattle.tclv_parse.specs.declared.pieces.PieceKind.TheVariants as k
use Rattle.tclv_parse.specs.declared.modes.Mode.TheVariants as m
use Rattle.tclv_parse.specs.declared.runs.Run.TheVariants as run
use Rattle.tclv_parse.specs.Runs.{run_len, ends_command}
use Rattle.tclv_parse.specs.Steps.{inner, deeper, here_in, here, all_behind}
use Rattle.tclv_parse.proofs.Moves.{words-end, words-blank, words-fold}
use Rattle.tclv_parse.proofs.Levels.{readers, piece-moves, steps-from}
use Rattle.tclv_parse.proofs.tokens.Place.words.Goals as goal

pub returns-then-ends_command-clause-moved : goal.returns-then-ends_command-clause-moved
returns-then-ends_command-clause-moved c =
    let p = c.args.self.now in
    steps-from (here_in m.Words p) (here_in m.Begin p) c.begin.result (here c.begin.new.self) (ap (all_behind p) (words-end (deeper p) (readers p) (inner p) p.cursor (sym (c.ends_command.ensures ∙ ap₂ ends_command c.inner.ensures c.peek-sign.ensures) ∙ c.if-ends_command.true))) c.begin.ensures.moved

pub returns-in-Blank-clause-moved : goal.returns-in-Blank-clause-moved
returns-in-Blank-clause-moved c =
    let p = c.args.self.now in
    piece-moves p c.run.new.self c.run.result k.Blank (run_len run.Blanks p.cursor) m.Words m.Words c.run.ensures.taken
    (elim c.in-Blank.is [ inl h ↦ words-blank (deeper p) (readers p) (inner p) p.cursor (sym c.peek-sign.ensures ∙ h) | inr h ↦ words-fold (deeper p) (readers p) (inner p) p.cursor (sym c.peek-sign.ensures ∙ h) ])
