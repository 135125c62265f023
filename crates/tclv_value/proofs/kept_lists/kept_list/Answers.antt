use Rattle.std.proofs.Common.{◌≡◌, ℕ, Option, Some, None, Bor, ap}
use Rattle.std.specs.Prelude.{IfSome}
use Rattle.tclv_forms.specs.Lists.{Items}
use Rattle.tclv_heap.specs.Stands.{HasForm}
use Rattle.tclv_value.specs.Forms.{form_table}
use Rattle.tclv_value.specs.Kept.{list_in, HasList}
use Rattle.tclv_value.specs.declared.forms.Form.{Form}
use Rattle.tclv_value.specs.declared.forms.Form.TheVariants as form
use Rattle.tclv_value.proofs.ViewLemmas.{G}
use Rattle.tclv_value.proofs.KeptLemmas.{list_form}
use Rattle.tclv_value.proofs.kept_lists.kept_list.Goals as goal

lent_list : (g : G) (o : ℕ) (f : Form) (r : Option (Bor Items)) → HasForm form_table g o f → IfSome r (λ list. f ≡ form.List list.now) → IfSome r (λ list. HasList g o (form.List list.now) list.now.ids)
lent_list g o f None has is = is
lent_list g o f (Some list) has is = rw (← is) (list_form g o f list.now.ids has (ap (λ x. list_in (Some x)) is))

pub returns-in-Some-clause-some : goal.returns-in-Some-clause-some
returns-in-Some-clause-some c = lent_list c.args.heap.now.graph c.args.id c.in-Some.form.now c.as_list.result c.in-Some.ensures.some c.as_list.ensures.some
