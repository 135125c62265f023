use Rattle.std.proofs.Common.{◌≡◌, inl, inr, ap, sym, ◌∙◌, Ok}
use Rattle.tclv_text.specs.Cursors.{sign}
use Rattle.tclv_text.specs.declared.cursors.Sign.TheVariants as s
use Rattle.tclv_parse.specs.declared.pieces.PieceKind.TheVariants as k
use Rattle.tclv_parse.specs.declared.modes.Mode.TheVariants as m
use Rattle.tclv_parse.specs.declared.runs.Run.TheVariants as run
use Rattle.tclv_parse.specs.declared.faults.ParseFault.TheVariants as f
use Rattle.tclv_parse.specs.Runs.{run_len}
use Rattle.tclv_parse.specs.Places.{rest_of}
use Rattle.tclv_parse.specs.Steps.{inner, deeper, here_in, here, all_behind, closing}
use Rattle.tclv_parse.proofs.Moves.{begin-end, begin-over, begin-close, begin-blank, begin-fold, begin-newline, begin-semicolon, begin-hash, begin-word, begin-bracket}
use Rattle.tclv_parse.proofs.Levels.{readers, piece-moves, halts-here, stops-here, moves-from}
use Rattle.tclv_parse.proofs.tokens.Place.begin.Goals.{in_default-via-in-CloseBracket+else-inner-2, in_default-via-in_default}
use Rattle.tclv_parse.proofs.tokens.Place.begin.Goals as goal

pub returns-in-End-clause-moved : goal.returns-in-End-clause-moved
returns-in-End-clause-moved c =
    let p = c.args.self.now in
    halts-here p (rest_of (deeper p) (inner p) m.Begin p.cursor) f.CloseBracket (begin-end (deeper p) (readers p) (inner p) p.cursor (sym c.inner-inner.ensures ∙ c.if-inner.true) (sym c.peek.ensures ∙ c.in-End.is))

pub returns-in-End-2-clause-moved : goal.returns-in-End-2-clause-moved
returns-in-End-2-clause-moved c =
    let p = c.args.self.now in
    (p.cursor, stops-here p (rest_of (deeper p) (inner p) m.Begin p.cursor) p.cursor (sym c.inner-inner.ensures ∙ c.if-inner.false) (begin-over (deeper p) (readers p) (inner p) p.cursor (sym c.inner-inner.ensures ∙ c.if-inner.false) (sym c.peek.ensures ∙ c.in-End-2.is)))

pub returns-in-CloseBracket-clause-moved : goal.returns-in-CloseBracket-clause-moved
returns-in-CloseBracket-clause-moved c =
    let p = c.args.self.now in
    moves-from (here_in m.Begin p) (closing p) (Ok c.close_level.result) (here c.close_level.new.self) (ap (all_behind p) (begin-close (deeper p) (readers p) (inner p) p.cursor (sym c.inner-inner.ensures ∙ c.if-inner-2.true) (sym c.peek.ensures ∙ c.in-CloseBracket.is))) c.close_level.ensures.moved

pub returns-in-Blank-clause-moved : goal.returns-in-Blank-clause-moved
returns-in-Blank-clause-moved c =
    let p = c.args.self.now in
    piece-moves p c.run.new.self c.run.result k.Blank (run_len run.Blanks p.cursor) m.Begin m.Begin c.run.ensures.taken
    (elim c.in-Blank.is [ inl h ↦ begin-blank (deeper p) (readers p) (inner p) p.cursor (sym c.peek.ensures ∙ h) | inr h ↦ begin-fold (deeper p) (readers p) (inner p) p.cursor (sym c.peek.ensures ∙ h) ])

pub returns-in-Newline-clause-moved : goal.returns-in-Newline-clause-moved
returns-in-Newline-clause-moved c =
    let p = c.args.self.now in
    piece-moves p c.character.new.self c.character.result k.CommandEnd 1 m.Begin m.Begin c.character.ensures.taken
    (elim c.in-Newline.is [ inl h ↦ begin-newline (deeper p) (readers p) (inner p) p.cursor (sym c.peek.ensures ∙ h) | inr h ↦ begin-semicolon (deeper p) (readers p) (inner p) p.cursor (sym c.peek.ensures ∙ h) ])

pub returns-in-Hash-clause-moved : goal.returns-in-Hash-clause-moved
returns-in-Hash-clause-moved c =
    let p = c.args.self.now in
    piece-moves p c.run-in-Hash.new.self c.run-in-Hash.result k.Comment (run_len run.Comment p.cursor) m.Begin m.Begin c.run-in-Hash.ensures.taken (begin-hash (deeper p) (readers p) (inner p) p.cursor (sym c.peek.ensures ∙ c.in-Hash.is))

pub returns-in_default-clause-moved : goal.returns-in_default-clause-moved
returns-in_default-clause-moved c =
    let p = c.args.self.now in
    let go = λ (e : rest_of (deeper p) (inner p) m.Begin p.cursor ≡ rest_of (deeper p) (inner p) m.Words p.cursor). moves-from (here_in m.Begin p) (here_in m.Words p) c.word.result (here c.word.new.self) (ap (all_behind p) e) c.word.ensures.moved in
    elim c.in_default.branch [
      | in_default-via-in-CloseBracket+else-inner-2 w ↦
          let at : sign p.cursor ≡ s.CloseBracket = sym c.peek.ensures ∙ w.in-CloseBracket.is in
          go (begin-bracket (deeper p) (readers p) (inner p) p.cursor (sym c.inner-inner.ensures ∙ w.if-inner-2.false) at)
      | in_default-via-in_default w ↦
          go (begin-word (deeper p) (readers p) (inner p) p.cursor (λ z. w.in_default.not-End (c.peek.ensures ∙ z)) (λ z. absurd (w.in_default.not-CloseBracket (c.peek.ensures ∙ z))) (λ z. w.in_default.not-Blank (c.peek.ensures ∙ z)) (λ z. w.in_default.not-Fold (c.peek.ensures ∙ z))
          (λ z. w.in_default.not-Newline (c.peek.ensures ∙ z)) (λ z. w.in_default.not-Semicolon (c.peek.ensures ∙ z)) (λ z. w.in_default.not-Hash (c.peek.ensures ∙ z)))
    ]
