use Rattle.std.proofs.Common.{ap, ◌∙◌, [], ◌∷◌, ◌++◌}
use Rattle.std.specs.Prelude.{slice_index_or}
use Rattle.std.specs.Str.{chars}
use Rattle.std.proofs.lemmas.Str.{chars-nil}
use Rattle.tclv_interp.proofs.ArrayLemmas.{none_at_start}
use Rattle.tclv_interp.proofs.interpreters.Interp.new.Goals as goal

pub returns-clause-result : goal.returns-clause-result
returns-clause-result c =
    ap (λ s. slice_index_or s 0 []) (c.in_ok-push_text.ensures.pushed ∙ ap (λ s. s ++ chars [] ∷ []) c.in_ok-values.ensures.stack) ∙ chars-nil

pub returns-clause-arrays : goal.returns-clause-arrays
returns-clause-arrays c = none_at_start _ (c.in_ok-push_text.ensures.same.vars ∙ c.in_ok-values.ensures.vars)
