-- The row of `lassign`.
use Rattle.std.specs.Prelude.{List, ◌∷◌, drop, length}
use Rattle.tclv_text.specs.Quotes.{list_text}
use Rattle.tclv_model.specs.Values.{list_of}
use Rattle.tclv_model.specs.declared.usages.Usage.TheVariants as command
use Rattle.tclv_model.specs.Usages.{usage_of}
use Rattle.tclv_engine.specs.State.{Text, State}
use Rattle.tclv_engine.specs.Results.{Res, Outcome, bind, ok}
use Rattle.tclv_engine.specs.Usages.{usage}
use Rattle.tclv_engine.specs.DataAnswers.{of_answer}
use Rattle.tclv_engine.specs.ListAssignment.{assign_each}

-- The variables get the values. The result is the list of those that are left.
abbrev pub assign_list : {W : Type 0} → List Text → List Text → (State W) → Res W Outcome
assign_list names values st = bind (assign_each names values st) (λ u s1. ok (list_text (drop (length names) values)) s1)

-- `lassign list ?varName ...?`
abbrev pub row_lassign : {W : Type 0} → List Text → (State W) → Res W Outcome
row_lassign (word ∷ list ∷ names) st = bind (of_answer (list_of list) st) (assign_list names)
row_lassign words st = usage (usage_of command.Lassign) words st
