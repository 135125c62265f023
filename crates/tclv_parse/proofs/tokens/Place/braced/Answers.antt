use Rattle.std.proofs.Common.{◌≡◌, ◌==◌, ap, sym, ◌∙◌}
use Rattle.tclv_text.specs.Cursors.{sign, escape_len}
use Rattle.tclv_text.specs.declared.cursors.Sign.TheVariants as s
use Rattle.tclv_parse.specs.declared.pieces.PieceKind.TheVariants as k
use Rattle.tclv_parse.specs.declared.modes.Mode.TheVariants as m
use Rattle.tclv_parse.specs.declared.runs.Run.TheVariants as run
use Rattle.tclv_parse.specs.declared.faults.ParseFault.TheVariants as f
use Rattle.tclv_parse.specs.Runs.{run_len}
use Rattle.tclv_parse.specs.Places.{rest_of}
use Rattle.tclv_parse.specs.Steps.{inner, deeper, mode_behind}
use Rattle.tclv_parse.proofs.RunLaws.{not_zero}
use Rattle.tclv_parse.proofs.Moves.{braced-end, braced-fold, braced-close, braced-raw}
use Rattle.tclv_parse.proofs.Levels.{readers, piece-moves, halts-here}
use Rattle.tclv_parse.proofs.tokens.Place.braced.Goals.{in_default-via-in-CloseBrace+else-level-eq0, in_default-via-in_default}
use Rattle.tclv_parse.proofs.tokens.Place.braced.Goals as goal

pub returns-in-End-clause-moved : goal.returns-in-End-clause-moved
returns-in-End-clause-moved c =
    let p = c.args.self.now in
    halts-here p (rest_of (deeper p) (inner p) (m.Braced c.args.level) p.cursor) f.CloseBrace (braced-end (deeper p) (readers p) (inner p) p.cursor c.args.level (sym c.peek.ensures ∙ c.in-End.is))

pub returns-in-Fold-clause-moved : goal.returns-in-Fold-clause-moved
returns-in-Fold-clause-moved c =
    let p = c.args.self.now in
    piece-moves p c.escape.new.self c.escape.result k.Escape (escape_len p.cursor) (m.Braced c.args.level) (m.Braced c.args.level) c.escape.ensures.taken (braced-fold (deeper p) (readers p) (inner p) p.cursor c.args.level (sym c.peek.ensures ∙ c.in-Fold.is))

pub returns-in-CloseBrace-clause-moved : goal.returns-in-CloseBrace-clause-moved
returns-in-CloseBrace-clause-moved c =
    let p = c.args.self.now in
    piece-moves p c.character.new.self c.character.result k.Mark 1 (m.Braced c.args.level) (m.Closed f.AfterBrace) c.character.ensures.taken (braced-close (deeper p) (readers p) (inner p) p.cursor c.args.level (ap (λ n. n == 0) c.if-level-eq0.true) (sym c.peek.ensures ∙ c.in-CloseBrace.is))

pub returns-in_default-clause-moved : goal.returns-in_default-clause-moved
returns-in_default-clause-moved c =
    let p = c.args.self.now in
    let step = piece-moves p c.raw.new.self c.raw.result k.Literal (run_len (run.Braced c.args.level) p.cursor) (m.Braced c.args.level) (mode_behind c.args.level p.cursor) c.raw.ensures.taken in
    elim c.in_default.branch [
      | in_default-via-in-CloseBrace+else-level-eq0 w ↦
          let here : sign p.cursor ≡ s.CloseBrace = sym c.peek.ensures ∙ w.in-CloseBrace.is in
          step (braced-raw (deeper p) (readers p) (inner p) p.cursor c.args.level (λ z. let e : s.CloseBrace ≡ s.End = sym here ∙ z in cc) (λ z. let e : s.CloseBrace ≡ s.Fold = sym here ∙ z in cc) (λ z. not_zero c.args.level w.if-level-eq0.false))
      | in_default-via-in_default w ↦ step (braced-raw (deeper p) (readers p) (inner p) p.cursor c.args.level (λ z. w.in_default.not-End (c.peek.ensures ∙ z)) (λ z. w.in_default.not-Fold (c.peek.ensures ∙ z)) (λ z. absurd (w.in_default.not-CloseBrace (c.peek.ensures ∙ z))))
    ]
