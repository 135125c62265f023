use Rattle.std.proofs.Common.{◌++◌, ◌∙◌, ap, ℕ, List, append_assoc}
use Rattle.std.specs.Prelude.{codes}
use Rattle.std.specs.Str.{chars}
use Rattle.tclv_ctl.proofs.UsageLemmas.{space_points}
use Rattle.tclv_ctl.proofs.arguments.add_spaced.Goals as goal

pub returns : goal.returns
returns c =
    let old = c.args.text.now in
    let word = chars c.args.word.now in
    c.in_ok-push-2.ensures.ok ∙ ap (λ (t : List ℕ). t ++ word) (c.in_ok-push.ensures.ok ∙ ap (λ (t : List ℕ). old ++ t) space_points) ∙ append_assoc old (codes " ") word
