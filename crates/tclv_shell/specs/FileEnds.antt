-- What the end of a script file makes of the outcome of its script.
use Rattle.std.specs.Prelude.{ℕ, if◌then◌else◌, List, [], ◌∷◌, Option, Some, None, ℤ, pos, codes}
use Rattle.std.specs.Ordering.{int_eq}
use Rattle.std.specs.Result.{result_unwrap_or}
use Rattle.std.specs.Str.{bytes_eq, encode_utf8_all}
use Rattle.tclv_text.specs.Numbers.{whole, whole_text}
use Rattle.tclv_model.specs.declared.outcomes.Code.{Code}
use Rattle.tclv_model.specs.declared.outcomes.Code.TheVariants.{Ok, Error, Return, Break, Continue, Other}
use Rattle.tclv_model.specs.declared.outcomes.Pair.{Pair}
use Rattle.tclv_model.specs.declared.messages.MessageId.TheVariants.{BreakOutsideLoop, ContinueOutsideLoop, BadCodeReturned}
use Rattle.tclv_model.specs.Message.{text_of}
use Rattle.tclv_model.specs.Codes.{code_number}

-- the number of an option, or another number where it isn't there or is no whole number
abbrev pub option_number : List ℕ → ℤ → List Pair → ℤ
option_number key otherwise [] = otherwise
option_number key otherwise (pair ∷ pairs) = if bytes_eq pair.key key then result_unwrap_or (whole pair.value) otherwise else option_number key otherwise pairs

-- A level is taken off. A return of level 1 is now the code that it stores; one of another level is still a return.
abbrev pub after_level : Code → List Pair → ℤ
after_level Ok options = code_number Ok
after_level Error options = code_number Error
after_level Return options = if int_eq (option_number (codes "-level") (pos 1) options) (pos 1) then option_number (codes "-code") (pos 0) options else code_number Return
after_level Break options = code_number Break
after_level Continue options = code_number Continue
after_level (Other n) options = code_number (Other n)

-- The message of the error that a script file ends with, as bytes, by the number of its code and its result: an error's message is its
-- result; a break or a continue has no loop around it; any other code but 0 is a bad one.
abbrev pub error_of_number : ℤ → List ℕ → Option (List ℕ)
error_of_number n text =
    if int_eq n (pos 0) then None
    else (if int_eq n (pos 1) then Some (encode_utf8_all text)
    else (if int_eq n (pos 3) then Some (text_of BreakOutsideLoop [] [])
    else (if int_eq n (pos 4) then Some (text_of ContinueOutsideLoop [] [])
    else Some (text_of BadCodeReturned (encode_utf8_all (whole_text n)) []))))

-- the message of the error that a script file ends with, if it ends with one
abbrev pub file_error : Code → List Pair → List ℕ → Option (List ℕ)
file_error code options text = error_of_number (after_level code options) text
