-- The numbers of codes, and their texts.
use Rattle.std.proofs.Common.{◌≡◌, refl, pos}
use Rattle.std.specs.Fmt.{digits}
use Rattle.tclv_text.specs.Numbers.{whole_text}
use Rattle.tclv_model.specs.declared.outcomes.Code.TheVariants as code
use Rattle.tclv_model.specs.declared.outcomes.Code.{Code}
use Rattle.tclv_model.specs.Codes.{code_number}
use Rattle.tclv_engine.specs.Results.{code_text}

ok_number : whole_text (pos 0) ≡ code_text code.Ok
unfolding digits
ok_number = refl

error_number : whole_text (pos 1) ≡ code_text code.Error
unfolding digits
error_number = refl

return_number : whole_text (pos 2) ≡ code_text code.Return
unfolding digits
return_number = refl

break_number : whole_text (pos 3) ≡ code_text code.Break
unfolding digits
break_number = refl

continue_number : whole_text (pos 4) ≡ code_text code.Continue
unfolding digits
continue_number = refl

-- the text of a code is that of its number
pub text_of_number : (c : Code) → whole_text (code_number c) ≡ code_text c
text_of_number code.Ok = ok_number
text_of_number code.Error = error_number
text_of_number code.Return = return_number
text_of_number code.Break = break_number
text_of_number code.Continue = continue_number
text_of_number (code.Other n) = refl
