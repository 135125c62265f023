use Rattle.std.proofs.Common.{◌≡◌, sym, ap, ◌∙◌, subst}
use Rattle.std.specs.Str.{chars}
use Rattle.std.proofs.lemmas.Result.{err_from_is_err_and}
use Rattle.tclv_text.specs.Texts.{IsText}
use Rattle.tclv_value.specs.Lists.{RefusesList}
use Rattle.tclv_value.specs.Answers.{list_fault}
use Rattle.tclv_value.specs.Places.{text_of}
use Rattle.tclv_value.proofs.ElementLemmas.{refuses_list}
use Rattle.tclv_value.proofs.PathLemmas.{refused_list}
use Rattle.tclv_value.proofs.kept_lists.read_list.Goals as goal

pub returns-in_err-spans-clause-refused : goal.returns-in_err-spans-clause-refused
returns-in_err-spans-clause-refused c =
    let p = err_from_is_err_and c.from_residual-in_err-spans.result c.from_residual-in_err-spans.ensures.1 in
    let is : IsText c.as_slice.result.now = subst IsText (sym c.as_slice.ensures.value) c.in_ok-text.ensures.0 in
    let text : chars c.as_slice.result.now ≡ text_of c.args.heap.now.graph c.args.id = ap chars c.as_slice.ensures.value ∙ c.in_ok-text.ensures.1 in
    rw (p.1, p.2) (subst (RefusesList (list_fault _)) text (refuses_list c.as_slice.result.now _ is c.in_err-spans.ensures.fault))

pub returns-in_err-spans-clause-step : goal.returns-in_err-spans-clause-step
returns-in_err-spans-clause-step c =
    let p = err_from_is_err_and c.from_residual-in_err-spans.result c.from_residual-in_err-spans.ensures.1 in
    let is : IsText c.as_slice.result.now = subst IsText (sym c.as_slice.ensures.value) c.in_ok-text.ensures.0 in
    let text : chars c.as_slice.result.now ≡ text_of c.args.heap.now.graph c.args.id = ap chars c.as_slice.ensures.value ∙ c.in_ok-text.ensures.1 in
    rw (p.1, p.2) (λ level i. refused_list _ c.as_slice.result.now _ level i is text (refuses_list c.as_slice.result.now _ is c.in_err-spans.ensures.fault))
