-- Codes, as words name them.
use Rattle.std.specs.Prelude.{◌^◌, Bool, nat_lt, if◌then◌else◌, [], Option, Some, None, Result, Ok, Err, ℤ, pos, negsuc, codes}
use Rattle.std.specs.Ordering.{int_eq}
use Rattle.std.specs.Str.{bytes_eq}
use Rattle.tclv_text.specs.declared.numbers.WholeFault.{WholeFault}
use Rattle.tclv_text.specs.Numbers.{whole}
use Rattle.tclv_model.specs.declared.outcomes.Code.{Code}
use Rattle.tclv_model.specs.declared.outcomes.Code.TheVariants as code
use Rattle.tclv_model.specs.declared.messages.MessageId.{MessageId}
use Rattle.tclv_model.specs.declared.messages.MessageId.TheVariants.{BadCompletionCode}
use Rattle.tclv_model.specs.Rows.{Answer, Gives, says}
use Rattle.tclv_ctl.specs.Switching.{Text}

-- the number has 32 bits
abbrev pub is_short : ℤ → Bool
is_short (pos n) = nat_lt n (2 ^ 31)
is_short (negsuc n) = nat_lt n (2 ^ 31)

-- the code of a number of 32 bits
abbrev pub numbered : ℤ → Option Code
numbered n =
    if int_eq n (pos 0) then Some code.Ok
    else (if int_eq n (pos 1) then Some code.Error
    else (if int_eq n (pos 2) then Some code.Return
    else (if int_eq n (pos 3) then Some code.Break
    else (if int_eq n (pos 4) then Some code.Continue
    else (if is_short n then Some (code.Other n)
    else None)))))

abbrev pub numbered_by : Result ℤ WholeFault → Option Code
numbered_by (Ok n) = numbered n
numbered_by (Err fault) = None

-- the code that a word names, by its name or its number
abbrev pub code_of : Text → Option Code
code_of word =
    if bytes_eq word (codes "ok") then Some code.Ok
    else (if bytes_eq word (codes "error") then Some code.Error
    else (if bytes_eq word (codes "return") then Some code.Return
    else (if bytes_eq word (codes "break") then Some code.Break
    else (if bytes_eq word (codes "continue") then Some code.Continue
    else numbered_by (whole word)))))

-- a value that a word names, or the message that it names none
abbrev pub or_says : {A : Type 0} → MessageId → Text → Option A → Answer A
or_says message word (Some a) = Gives a
or_says message word None = says message word []

abbrev pub completion_code : Text → Answer Code
completion_code word = or_says BadCompletionCode word (code_of word)
