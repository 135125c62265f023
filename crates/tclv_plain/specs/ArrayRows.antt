-- The row of `array`.
use Rattle.std.specs.Prelude.{ℕ, ◌%◌, ◌==◌, ◌++◌, pos, false, if◌then◌else◌, List, [], ◌∷◌, length, codes, Option, Some, None, Result, Ok, Err}
use Rattle.std.specs.List.{filter}
use Rattle.std.specs.Result.{is_ok, result_unwrap_or}
use Rattle.std.specs.Str.{bytes_eq}
use Rattle.tclv_text.specs.Globs.{matches}
use Rattle.tclv_text.specs.Numbers.{whole_text}
use Rattle.tclv_text.specs.Quotes.{list_text}
use Rattle.tclv_vars.specs.declared.places.Place.TheVariants as place
use Rattle.tclv_vars.specs.declared.faults.VarFault.{VarFault}
use Rattle.tclv_vars.specs.declared.faults.VarFault.TheVariants as fault
use Rattle.tclv_vars.specs.Table.{Table}
use Rattle.tclv_vars.specs.Indices.{count_of}
use Rattle.tclv_vars.specs.Indices as vars
use Rattle.tclv_model.specs.Values.{list_of}
use Rattle.tclv_model.specs.declared.messages.MessageId.TheVariants as message
use Rattle.tclv_model.specs.declared.error_codes.ErrorCode.TheVariants.{NoCode}
use Rattle.tclv_model.specs.declared.usages.Usage.TheVariants as command
use Rattle.tclv_model.specs.Usages.{usage_of}
use Rattle.tclv_plain.specs.declared.array_commands.ArrayCommand.{ArrayCommand}
use Rattle.tclv_plain.specs.declared.array_commands.ArrayCommand.TheVariants as array
use Rattle.tclv_plain.specs.Subcommands.{flag, no_subcommand, with_one, with_two, with_more}
use Rattle.tclv_plain.specs.UnsetRows.{cleared}
use Rattle.tclv_reply.specs.Names.{Naming, naming, element_of}
use Rattle.tclv_engine.specs.State.{Text, State, variables_in}
use Rattle.tclv_engine.specs.Results.{Res, Outcome, bind, done, ok, raise}
use Rattle.tclv_engine.specs.Names.{bytes_of}
use Rattle.tclv_engine.specs.Variables.{is_unbuilt, not_built, element_name, element_value, set_to}
use Rattle.tclv_engine.specs.DataAnswers.{of_answer}
use Rattle.tclv_engine.specs.Usages.{usage}

-- ---- what a name names

-- the indices of the array that is named so, or why there is none: what has the form of an element is none
abbrev pub indices_by : Table → List ℕ → Option (List ℕ) → Result (List Text) VarFault
indices_by t name None = vars.array_names t place.Frame name
indices_by t name (Some index) = Err fault.NotArray

abbrev pub indices_of : Table → Naming → Result (List Text) VarFault
indices_of t n = indices_by t n.name n.index

-- a computation over the indices that were found
abbrev pub on_array : {W A : Type 0} → Text → (Result (List Text) VarFault → State W → Res W A) → State W → Res W A
on_array name next st = if is_unbuilt (bytes_of name) then not_built st else next (indices_of (variables_in st) (naming (bytes_of name))) st

-- The indices that a pattern fits, or all. What is no array has none.
abbrev pub fitting : Option Text → List Text → List Text
fitting None indices = indices
fitting (Some pattern) indices = filter (matches false pattern) indices

abbrev pub indices : {W : Type 0} → Text → Option Text → State W → Res W (List Text)
indices name pattern st = on_array name (λ found s1. done (fitting pattern (result_unwrap_or found [])) s1) st

-- ---- reading

abbrev pub array_exists : {W : Type 0} → Text → State W → Res W Outcome
array_exists name st = on_array name (λ found s1. ok (flag (is_ok (count_of found))) s1) st

abbrev pub array_size : {W : Type 0} → Text → State W → Res W Outcome
array_size name st = on_array name (λ found s1. ok (whole_text (pos (result_unwrap_or (count_of found) 0))) s1) st

abbrev pub array_names : {W : Type 0} → Text → Option Text → State W → Res W Outcome
array_names name pattern st = bind (indices name pattern st) (λ is s1. ok (list_text is) s1)

-- an index of the array, and the element's value
abbrev pub pair : {W : Type 0} → Text → Text → State W → Res W (List Text)
pair name index st = bind (element_value name index st) (λ value s1. done (index ∷ value ∷ []) s1)

-- these texts, and behind them each index of the array with its value
unfoldable pub collect : {W : Type 0} → Text → List Text → List Text → State W → Res W (List Text)
collect name texts [] st = done texts st
collect name texts (i ∷ is) st = bind (pair name i st) (λ more s1. collect name (texts ++ more) is s1)

abbrev pub collect_list : {W : Type 0} → Text → List Text → State W → Res W Outcome
collect_list name is st = bind (collect name [] is st) (λ texts s1. ok (list_text texts) s1)

abbrev pub array_get : {W : Type 0} → Text → Option Text → State W → Res W Outcome
array_get name pattern st = bind (indices name pattern st) (λ is s1. collect_list name is s1)

-- ---- unsetting

-- the elements of these indices are unset
unfoldable pub without_elements : {W : Type 0} → Text → List Text → State W → State W
without_elements name [] st = st
without_elements name (i ∷ is) st = without_elements name is (cleared (element_of (bytes_of name) (bytes_of i)) st)

abbrev pub unset_whole : {W : Type 0} → Text → Result ℕ VarFault → State W → Res W (Unit {0})
unset_whole name (Ok count) st = done tt (cleared (naming (bytes_of name)) st)
unset_whole name (Err f) st = done tt st

abbrev pub unset_array : {W : Type 0} → Text → State W → Res W (Unit {0})
unset_array name st = on_array name (λ found s1. unset_whole name (count_of found) s1) st

-- Without a pattern the array is unset, and else its elements are whose indices fit. What is no array stays as it is.
abbrev pub array_unset : {W : Type 0} → Text → Option Text → State W → Res W Outcome
array_unset name None st = bind (unset_array name st) (λ u s1. ok [] s1)
array_unset name (Some pattern) st = bind (indices name (Some pattern) st) (λ is s1. ok [] (without_elements name is s1))

-- ---- setting

-- A variable that has a value, or a name that has the form of an element's, can't become an array.
abbrev pub settable_by : {W : Type 0} → Text → Result ℕ VarFault → State W → Res W (Unit {0})
settable_by name (Err fault.NotArray) st = raise message.CannotArraySetNonArray name [] NoCode st
settable_by name found st = done tt st

abbrev pub settable : {W : Type 0} → Text → State W → Res W (Unit {0})
settable name st = on_array name (λ found s1. settable_by name (count_of found) s1) st

-- the element of this array and this index is set to a text
abbrev pub assign_element : {W : Type 0} → Text → Text → Text → State W → Res W Text
assign_element name index value st = set_to (element_name name index) value (element_of (bytes_of name) (bytes_of index)) st

-- Indices and values in turn. Each element is set before the next one is looked at.
unfoldable pub assign_pairs : {W : Type 0} → Text → List Text → State W → Res W (Unit {0})
assign_pairs name (index ∷ value ∷ texts) st = bind (assign_element name index value st) (λ kept s1. assign_pairs name texts s1)
assign_pairs name texts st = done tt st

abbrev pub assign_all : {W : Type 0} → Text → List Text → State W → Res W Outcome
assign_all name texts st = bind (settable name st) (λ u s1. bind (assign_pairs name texts s1) (λ v s2. ok [] s2))

abbrev pub set_listed : {W : Type 0} → Text → List Text → State W → Res W Outcome
set_listed name texts st = if length texts % 2 == 1 then raise message.OddArrayList [] [] NoCode st else assign_all name texts st

-- The list is read before the variable is looked at.
abbrev pub array_set : {W : Type 0} → Text → Text → State W → Res W Outcome
array_set name list st = bind (of_answer (list_of list) st) (set_listed name)

-- ---- array

-- the subcommand that a word names by its bytes
abbrev pub array_command : List ℕ → Option ArrayCommand
array_command word =
    if bytes_eq word (codes "exists") then Some array.Exists else (
    if bytes_eq word (codes "get") then Some array.Get else (
    if bytes_eq word (codes "names") then Some array.Names else (
    if bytes_eq word (codes "set") then Some array.Set else (
    if bytes_eq word (codes "size") then Some array.Size else (
    if bytes_eq word (codes "unset") then Some array.Unset else None)))))

abbrev pub array_row : {W : Type 0} → ArrayCommand → List Text → State W → Res W Outcome
array_row array.Exists = with_one command.ArrayExists array_exists
array_row array.Get = with_more command.ArrayGet array_get
array_row array.Names = with_more command.ArrayNames array_names
array_row array.Set = with_two command.ArraySet array_set
array_row array.Size = with_one command.ArraySize array_size
array_row array.Unset = with_more command.ArrayUnset array_unset

abbrev pub array_by : {W : Type 0} → Option ArrayCommand → Text → List Text → State W → Res W Outcome
array_by None sub words st = no_subcommand sub st
array_by (Some c) sub words st = array_row c words st

-- `array exists|size arrayName`, `array get|names|unset arrayName ?pattern?`, `array set arrayName list`
abbrev pub row_array : {W : Type 0} → List Text → State W → Res W Outcome
row_array (word ∷ sub ∷ words) st = array_by (array_command (bytes_of sub)) sub (word ∷ sub ∷ words) st
row_array words st = usage (usage_of command.Array) words st
