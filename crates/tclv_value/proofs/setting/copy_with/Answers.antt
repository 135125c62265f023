use Rattle.std.proofs.Common.{length, subst}
use Rattle.std.specs.Prelude.{IsOkAnd}
use Rattle.std.proofs.lemmas.List.{length-map}
use Rattle.tclv_heap.specs.Graph.{form_parts}
use Rattle.tclv_value.specs.Forms.{parts_of}
use Rattle.tclv_value.specs.Places.{text_of}
use Rattle.tclv_value.specs.Setting.{copied_more}
use Rattle.tclv_value.proofs.AppendLemmas.{list_parts}
use Rattle.std.proofs.Common.{◌≡◌, ◌≤◌, Some, ap, sym, ◌∙◌}
use Rattle.tclv_value.specs.Kept.{list_in}
use Rattle.tclv_value.specs.Setting.{MakesList}
use Rattle.tclv_value.specs.declared.forms.Form.TheVariants as form
use Rattle.tclv_value.proofs.SetChangeLemmas.{can_copy, makes, ok_text, within_ids}
use Rattle.tclv_value.proofs.setting.copy_with.Goals as goal

pub change_with-requires-clause-can : goal.change_with-requires-clause-can
change_with-requires-clause-can c =
    can_copy c.args.heap.now.graph c.copy_list.new.heap.graph c.args.id c.in_ok-copy.copy c.args.place c.args.value c.in_ok-copy.ensures.copied c.requires.value c.requires.shallow c.requires.closed c.requires.list

pub change_with-requires-clause-within : goal.change_with-requires-clause-within
change_with-requires-clause-within c ids is =
    let kept = c.copy_list.ensures.elements in
    let same = (let e : Some kept.1 ≡ Some ids = sym (c.in_ok-copy.ensures.copied.list ∙ ap list_in kept.2.form ∙ kept.2.list) ∙ is in let e2 : kept.1 ≡ ids = cc in e2) in
    rw (← same) (within_ids c.args.heap.now.graph _ kept.1 (λ n. c.args.place ≤ n) kept.2.elements c.requires.within)

pub change_with-requires-clause-room : goal.change_with-requires-clause-room
change_with-requires-clause-room c list is _ = c.in_ok-copy.ensures.room (form.List list) is

pub returns-clause-copied : goal.returns-clause-copied
returns-clause-copied c =
    let kept = c.copy_list.ensures.elements in
    let g = c.args.heap.now.graph in
    ok_text g c.args.id c.args.place c.args.value (λ t. MakesList g c.change_with.new.heap.graph c.in_ok-copy.copy t) kept.1 (ap list_in kept.2.form ∙ kept.2.list) kept.2.elements
    (makes g c.copy_list.new.heap.graph c.args.id c.in_ok-copy.copy c.args.place c.args.value c.in_ok-copy.ensures.copied c.requires.value c.requires.shallow c.requires.closed c.change_with.new.heap.graph c.requires.sound c.change_with.ensures.changed c.requires.list)

pub returns-clause-counted : goal.returns-clause-counted
returns-clause-counted c =
    let kept = c.copy_list.ensures.elements in
    let g = c.args.heap.now.graph in
    let len = ap (λ f. length (form_parts parts_of f)) kept.2.form ∙ ap length (list_parts kept.0 kept.1 kept.2.list) ∙ sym (length-map kept.1 (text_of g)) in
    subst (λ r. IsOkAnd r (λ ts. c.change_with.new.heap.stats ≡ copied_more c.args.heap.now.stats (length ts))) (sym kept.2.elements)
    (ap (λ h. h.stats) c.change_with.ensures.rest ∙ c.in_ok-copy.ensures.counted ∙ ap (copied_more c.args.heap.now.stats) len)
