use Rattle.std.proofs.Common.{◌∙◌, ap, List, ℕ, [], get_or}
use Rattle.tclv_ctl.specs.Switching.{is_dash}
use Rattle.tclv_ctl.proofs.TextLemmas.{is_lone_dash}
use Rattle.tclv_ctl.proofs.switching.is_dash.Goals as goal

pub returns-clause-says : goal.returns-clause-says
returns-clause-says c =
    c.is_word.ensures ∙ is_lone_dash c.word_at.result.now c.word_at.ensures.utf8
    ∙ ap is_dash (c.word_at.ensures.text ∙ ap (λ (s : List (List ℕ)). get_or s c.args.at []) c.make_word.ensures.kept.stack)
