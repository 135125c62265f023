use Rattle.std.proofs.Common.{ap, ◌∙◌}
use Rattle.tclv_parse.specs.declared.modes.Mode.TheVariants as m
use Rattle.tclv_parse.specs.declared.runs.Form.TheVariants as form
use Rattle.tclv_parse.specs.Steps.{inner, deeper, here_in, here, all_behind}
use Rattle.tclv_parse.proofs.Moves.{plain-else}
use Rattle.tclv_parse.proofs.Levels.{readers, steps-from}
use Rattle.tclv_parse.proofs.tokens.Place.expanded.Goals as goal

pub returns-in_default : goal.returns-in_default
returns-in_default c =
    let p = c.args.self.now in
    record { within = c.parts.ensures.within; moved = steps-from (here_in m.Expanded p) (here_in (m.Parts form.Bare) p) c.parts.result (here c.parts.new.self) (ap (all_behind p) (plain-else (deeper p) (readers p) (inner p) p.cursor (λ z. c.in_default.not-OpenBrace (c.peek.ensures ∙ z)) (λ z. c.in_default.not-Quote (c.peek.ensures ∙ z)))) c.parts.ensures.moved }
