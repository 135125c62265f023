-- How contracts see a procedure that a name stands for, as the tuple of its fields.
use Rattle.std.specs.Prelude.{ℕ, Bool, List, Option, refl}
use Rattle.std.specs.Coded.{Coded, code_by, coded×, coded_ℕ, coded_bool, coded_list, coded_option}
use Rattle.tclv_value.specs.declared.procedures.Param.{Param}
use Rattle.tclv_value.specs.Procedures.{Procedure}

abbrev pub param_code : Coded Param
param_code = code_by (List ℕ × Option (List ℕ)) (coded× (coded_list coded_ℕ) (coded_option (coded_list coded_ℕ))) (λ p. (p.name, p.default)) (λ t. record { name = t.0; default = t.1 }) (λ _. refl)

abbrev pub procedure_code : Coded Procedure
procedure_code = code_by (List Param × (Bool × List ℕ)) (coded× (coded_list param_code) (coded× coded_bool (coded_list coded_ℕ)))
    (λ d. (d.params, (d.rest, d.body))) (λ t. record { params = t.0; rest = t.1.0; body = t.1.1 }) (λ _. refl)
