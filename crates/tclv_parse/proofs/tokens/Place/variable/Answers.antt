use Rattle.std.proofs.Common.{ap, sym, ◌∙◌, refl}
use Rattle.tclv_parse.specs.declared.pieces.PieceKind.TheVariants as k
use Rattle.tclv_parse.specs.declared.modes.Mode.TheVariants as m
use Rattle.tclv_parse.specs.declared.runs.Run.TheVariants as run
use Rattle.tclv_parse.specs.declared.faults.ParseFault.TheVariants as f
use Rattle.tclv_parse.specs.Runs.{run_len}
use Rattle.tclv_parse.specs.Places.{rest_of}
use Rattle.tclv_parse.specs.declared.pieces.Piece.{Piece}
use Rattle.tclv_parse.specs.Steps.{Takes, inner, deeper}
use Rattle.tclv_parse.proofs.Moves.{dollar-unclosed, dollar-closed, dollar-plain}
use Rattle.tclv_parse.proofs.Levels.{readers, piece-moves, halts-here}
use Rattle.tclv_parse.proofs.tokens.Place.variable.Goals.{in-Closed, in_default}
use Rattle.tclv_parse.proofs.tokens.Place.variable.Goals as goal

pub returns-in-Enclosed-clause-moved : goal.returns-in-Enclosed-clause-moved
returns-in-Enclosed-clause-moved c =
    let p = c.args.self.now in
    halts-here p (rest_of (deeper p) (inner p) (m.Parts c.args.form) p.cursor) f.VarBrace (dollar-unclosed (deeper p) (readers p) (inner p) p.cursor c.args.form c.requires.going c.requires.sign (sym c.take_run-end.ensures.end ∙ c.in-Enclosed.is))

pub returns-clause-moved : goal.returns-clause-moved
returns-clause-moved c =
    let p = c.args.self.now in
    let t = p.cursor in
    let n = run_len run.Variable t in
    let run_is = c.take_run-end.ensures in
    let piece : Piece = record { kind = k.Dollar; text = c.take_run-end.result.0 } in
    elim c.match-end.branch [
      | in-Closed w ↦
          let taken : Takes p piece c.match-end.self k.Dollar n (m.Parts c.args.form)
          = record { kind_is = refl; text = run_is.text; utf8 = run_is.utf8; place = w.self-is ∙ ap (λ u. record p { cursor = u; mode = m.Parts c.args.form }) run_is.rest } in
          piece-moves p c.match-end.self piece k.Dollar n (m.Parts c.args.form) (m.Parts c.args.form) taken (dollar-closed (deeper p) (readers p) (inner p) p.cursor c.args.form c.requires.going c.requires.sign (sym run_is.end ∙ w.in-Closed.is))
      | in_default w ↦
          let taken : Takes p piece c.match-end.self k.Dollar n (m.Named c.args.form)
          = record { kind_is = refl; text = run_is.text; utf8 = run_is.utf8; place = w.self-is ∙ ap (λ u. record p { cursor = u; mode = m.Named c.args.form }) run_is.rest } in
          piece-moves p c.match-end.self piece k.Dollar n (m.Parts c.args.form) (m.Named c.args.form) taken
          (dollar-plain (deeper p) (readers p) (inner p) p.cursor c.args.form c.requires.going c.requires.sign (λ z. w.in_default.not-Enclosed (run_is.end ∙ z)) (λ z. w.in_default.not-Closed (run_is.end ∙ z)))
    ]
