use Rattle.std.proofs.Common.{ap, ◌∙◌}
use Rattle.tclv_parse.specs.declared.modes.Mode.TheVariants as m
use Rattle.tclv_parse.specs.declared.runs.Form.TheVariants as form
use Rattle.tclv_parse.specs.Places.{after_parts}
use Rattle.tclv_parse.specs.Steps.{inner, deeper, here_in, here, all_behind, behind_parts}
use Rattle.tclv_parse.proofs.Moves.{parts-stops}
use Rattle.tclv_parse.proofs.Levels.{readers, moves-from, steps-from}
use Rattle.tclv_parse.proofs.tokens.Place.stop.Goals as goal

pub returns-in-Bare-clause-moved : goal.returns-in-Bare-clause-moved
returns-in-Bare-clause-moved c =
    let p = c.args.self.now in
    steps-from (here_in (m.Parts c.args.form) p) (here_in m.Words p) c.words.result (here c.words.new.self) (ap (all_behind p) (parts-stops (deeper p) (readers p) (inner p) p.cursor c.args.form c.requires.stops ∙ ap (λ w. after_parts (deeper p) (inner p) w p.cursor) c.in-Bare.is)) c.words.ensures.moved

pub returns-in-Quoted-clause-moved : goal.returns-in-Quoted-clause-moved
returns-in-Quoted-clause-moved c =
    let p = c.args.self.now in
    moves-from (here_in (m.Parts c.args.form) p) (behind_parts form.Quoted p) c.end_quote.result (here c.end_quote.new.self) (ap (all_behind p) (parts-stops (deeper p) (readers p) (inner p) p.cursor c.args.form c.requires.stops ∙ ap (λ w. after_parts (deeper p) (inner p) w p.cursor) c.in-Quoted.is)) c.end_quote.ensures.moved

pub returns-in-Index-clause-moved : goal.returns-in-Index-clause-moved
returns-in-Index-clause-moved c =
    let p = c.args.self.now in
    moves-from (here_in (m.Parts c.args.form) p) (behind_parts form.Index p) c.end_index.result (here c.end_index.new.self) (ap (all_behind p) (parts-stops (deeper p) (readers p) (inner p) p.cursor c.args.form c.requires.stops ∙ ap (λ w. after_parts (deeper p) (inner p) w p.cursor) c.in-Index.is)) c.end_index.ensures.moved
