use Rattle.std.proofs.Common.{ap, ap₂, sym, ◌∙◌}
use Rattle.tclv_parse.specs.declared.modes.Mode.TheVariants as m
use Rattle.tclv_parse.specs.Runs.{ends_word}
use Rattle.tclv_parse.specs.Places.{rest_of}
use Rattle.tclv_parse.specs.Steps.{inner, deeper, here_in, here, all_behind}
use Rattle.tclv_parse.proofs.Moves.{closed-ends, closed-fails}
use Rattle.tclv_parse.proofs.Levels.{readers, halts-here, steps-from}
use Rattle.tclv_parse.proofs.tokens.Place.closed.Goals as goal

pub returns-then-ends_word-clause-moved : goal.returns-then-ends_word-clause-moved
returns-then-ends_word-clause-moved c =
    let p = c.args.self.now in
    steps-from (here_in (m.Closed c.args.fault) p) (here_in m.Words p) c.words.result (here c.words.new.self) (ap (all_behind p) (closed-ends (deeper p) (readers p) (inner p) p.cursor c.args.fault (sym (c.ends_word.ensures ∙ ap₂ ends_word c.inner.ensures c.peek.ensures) ∙ c.if-ends_word.true))) c.words.ensures.moved

pub returns-else-ends_word-clause-moved : goal.returns-else-ends_word-clause-moved
returns-else-ends_word-clause-moved c =
    let p = c.args.self.now in
    halts-here p (rest_of (deeper p) (inner p) (m.Closed c.args.fault) p.cursor) c.args.fault (closed-fails (deeper p) (readers p) (inner p) p.cursor c.args.fault (sym (c.ends_word.ensures ∙ ap₂ ends_word c.inner.ensures c.peek.ensures) ∙ c.if-ends_word.false))
