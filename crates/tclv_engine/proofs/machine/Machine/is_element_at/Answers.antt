use Rattle.std.proofs.Common.{rules, ap, sym, ◌∙◌, ◌≡◌, ◌<◌, [], ℕ, List, Some, length, get_or}
use Rattle.std.specs.Prelude.{slice_get}
use Rattle.std.specs.Str.{chars}
use Rattle.std.specs.Ordering.{is_eq}
use Rattle.tclv_value.specs.View.{text_at}
use Rattle.tclv_engine.specs.Operations.{order}
use Rattle.tclv_engine.specs.ListAssignment.{listed}
use Rattle.tclv_engine.proofs.HoldingsLemmas.{same_text}
use Rattle.tclv_engine.proofs.ListLemmas.{list_holds, list_stays, element_is}
use Rattle.tclv_engine.proofs.machine.Machine.is_element_at.Goals as goal

pub returns-in-Ok-true-clause-equal : goal.returns-in-Ok-true-clause-equal
returns-in-Ok-true-clause-equal g c =
    let old = c.args.self.now.values.store in
    let mid = c.make_element.new.self.store in
    let t = text_at old c.args.list in
    let same : text_at mid c.args.list ≡ t = same_text old mid c.args.list c.in-Ok-true.ensures.stack c.in-Ok-true.ensures.same.cells in
    let left : text_at mid c.args.text ≡ text_at old c.args.text = same_text old mid c.args.text c.in-Ok-true.ensures.stack c.in-Ok-true.ensures.same.cells in
    let x = chars c.lend_element-element.result.now in
    let is : x ≡ get_or (listed t) c.args.k [] = element_is t (text_at mid c.args.list) x c.args.k same c.requires.list c.requires.within c.lend_element-element.ensures.text in
    c.is_eq.ensures ∙ ap is_eq (c.order.ensures ∙ ap (λ u. order u x) (c.lend.ensures.text ∙ left) ∙ ap (order (text_at old c.args.text)) is)
