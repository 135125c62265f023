use Rattle.std.proofs.Common.{◌++◌, ◌∙◌, ap, ℕ, List, append_assoc}
use Rattle.std.specs.Prelude.{codes}
use Rattle.std.specs.Str.{chars}
use Rattle.tclv_ctl.proofs.UsageLemmas.{open_points, close_points}
use Rattle.tclv_ctl.proofs.arguments.add_optional.Goals as goal

pub returns : goal.returns
returns c =
    let old = c.args.text.now in
    let word = chars c.args.word.now in
    c.in_ok-push-3.ensures.ok ∙ ap (λ (t : List ℕ). t ++ chars (codes "?")) (c.in_ok-push-2.ensures.ok ∙ ap (λ (t : List ℕ). t ++ word) (c.in_ok-push.ensures.ok ∙ ap (λ (t : List ℕ). old ++ t) open_points))
    ∙ ap (λ (t : List ℕ). ((old ++ codes " ?") ++ word) ++ t) close_points ∙ append_assoc (old ++ codes " ?") word (codes "?") ∙ append_assoc old (codes " ?") (word ++ codes "?")
