-- How the values that contracts see are stored, as tuples of their fields.
use Rattle.std.specs.Prelude.{◌≡◌, ◌⊎◌, ℕ, ℤ, List, Option, refl}
use Rattle.std.proofs.Common.{inl, inr}
use Rattle.std.specs.Coded.{Coded, code_by, coded×, coded⊎, coded_ℕ, coded_ℤ, coded_list, coded_option}
use Rattle.tclv_text.specs.declared.counters.Stats.{Stats}
use Rattle.tclv_heap.specs.declared.ids.Object.{Object}
use Rattle.tclv_forms.specs.Lists.{Items, items_code}
use Rattle.tclv_value.specs.declared.forms.Form.{Form}
use Rattle.tclv_value.specs.declared.forms.Form.TheVariants as form

abbrev form_fields : Form → ℤ ⊎ Items
form_fields (form.Whole n) = inl n
form_fields (form.List items) = inr items

abbrev form_of : ℤ ⊎ Items → Form
form_of (inl n) = form.Whole n
form_of (inr items) = form.List items

pub form_back : (f : Form) → form_of (form_fields f) ≡ f
form_back (form.Whole n) = refl
form_back (form.List items) = refl

abbrev pub form_code : Coded Form
form_code = code_by (ℤ ⊎ Items) (coded⊎ coded_ℤ items_code) form_fields form_of form_back

abbrev pub object_code : Coded (Object Form)
object_code =
    code_by
    (ℕ × (Option (List ℕ) × (Option Form × (ℕ × Option ℕ))))
    (coded× coded_ℕ (coded× (coded_option (coded_list coded_ℕ)) (coded× (coded_option form_code) (coded× coded_ℕ (coded_option coded_ℕ)))))
    (λ o. (o.count, (o.text, (o.form, (o.depth, o.next)))))
    (λ p. record { count = p.0; text = p.1.0; form = p.1.1.0; depth = p.1.1.1.0; next = p.1.1.1.1 })
    (λ _. refl)

abbrev pub stats_code : Coded Stats
stats_code = code_by (ℕ × (ℕ × ℕ)) (coded× coded_ℕ (coded× coded_ℕ coded_ℕ)) (λ s. (s.read, (s.spelled, s.copied))) (λ p. record { read = p.0; spelled = p.1.0; copied = p.1.1 }) (λ _. refl)
