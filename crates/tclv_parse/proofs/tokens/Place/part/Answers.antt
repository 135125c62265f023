use Rattle.std.proofs.Common.{◌≡◌, Bool, inl, inr, take, drop, ap, sym, subst, ◌∙◌}
use Rattle.tclv_text.specs.Cursors.{escape_len}
use Rattle.tclv_parse.specs.declared.pieces.PieceKind.TheVariants as k
use Rattle.tclv_parse.specs.declared.modes.Mode.TheVariants as m
use Rattle.tclv_parse.specs.declared.runs.Run.TheVariants as run
use Rattle.tclv_parse.specs.Runs.{run_len}
use Rattle.tclv_parse.specs.Places.{rest_of}
use Rattle.tclv_parse.specs.Readings.{before}
use Rattle.tclv_parse.specs.Steps.{inner, deeper, here_in, here, all_behind, opening_in}
use Rattle.tclv_parse.proofs.Moves.{part-backslash, part-fold, part-bracket, part-literal}
use Rattle.tclv_parse.proofs.Levels.{readers, piece-moves, moves-from}
use Rattle.tclv_parse.proofs.tokens.Place.part.Goals as goal

pub returns-in-Backslash-clause-moved : goal.returns-in-Backslash-clause-moved
returns-in-Backslash-clause-moved c =
    let p = c.args.self.now in
    piece-moves p c.escape.new.self c.escape.result k.Escape (escape_len p.cursor) (m.Parts c.args.form) (m.Parts c.args.form) c.escape.ensures.taken
    (elim c.in-Backslash.is [ inl h ↦ part-backslash (deeper p) (readers p) (inner p) p.cursor c.args.form c.requires.going (sym c.peek.ensures ∙ h) | inr h ↦ part-fold (deeper p) (readers p) (inner p) p.cursor c.args.form c.requires.going (sym c.peek.ensures ∙ h) ])

pub returns-in-OpenBracket-clause-moved : goal.returns-in-OpenBracket-clause-moved
returns-in-OpenBracket-clause-moved c =
    let p = c.args.self.now in
    moves-from (here_in (m.Parts c.args.form) p) (opening_in m.Begin c.args.form p) c.open_level.result (here c.open_level.new.self) (ap (all_behind p) (part-bracket (deeper p) (readers p) (inner p) p.cursor c.args.form c.requires.going (sym c.peek.ensures ∙ c.in-OpenBracket.is))) c.open_level.ensures.moved

pub returns-in_default : goal.returns-in_default
returns-in_default c =
    let p = c.args.self.now in
    let t = p.cursor in
    let literal = part-literal (deeper p) (readers p) (inner p) p.cursor c.args.form c.requires.going (λ z. c.in_default.not-Backslash (c.peek.ensures ∙ z)) (λ z. c.in_default.not-Fold (c.peek.ensures ∙ z)) (λ z. c.in_default.not-Dollar (c.peek.ensures ∙ z)) (λ z. c.in_default.not-OpenBracket (c.peek.ensures ∙ z)) in
    let P : Bool → Type 0 = λ b. rest_of (deeper p) (inner p) (m.Parts c.args.form) t ≡ before (k.Literal, take (run_len (run.Literal b c.args.form) t) t) (rest_of (deeper p) (inner p) (m.Parts c.args.form) (drop (run_len (run.Literal b c.args.form) t) t)) in
    record {
      within = c.run.ensures.within;
      moved = piece-moves p c.run.new.self c.run.result k.Literal (run_len (run.Literal c.inner.result c.args.form) t) (m.Parts c.args.form) (m.Parts c.args.form) c.run.ensures.taken (subst P (sym c.inner.ensures) literal);
    }
