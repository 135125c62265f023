-- The row of `unset`, and what a variable leaves that is unset.
use Rattle.std.specs.Prelude.{ℕ, Bool, true, false, not, if◌then◌else◌, List, [], ◌∷◌, codes, Result, Ok, Err}
use Rattle.std.specs.Str.{bytes_eq}
use Rattle.tclv_vars.specs.declared.places.Place.TheVariants as place
use Rattle.tclv_vars.specs.declared.faults.VarFault.{VarFault}
use Rattle.tclv_vars.specs.declared.faults.VarFault.TheVariants as fault
use Rattle.tclv_vars.specs.Table.{Table}
use Rattle.tclv_vars.specs.Unset.{variable, unset, left_unset}
use Rattle.tclv_model.specs.declared.messages.MessageId.{MessageId}
use Rattle.tclv_model.specs.declared.messages.MessageId.TheVariants as message
use Rattle.tclv_model.specs.declared.error_codes.ErrorCode.TheVariants.{NoCode}
use Rattle.tclv_engine.specs.State.{Text, State, variables_in, texts_in, with_variables}
use Rattle.tclv_engine.specs.Results.{Res, Outcome, bind, done, ok, raise}
use Rattle.tclv_reply.specs.Names.{Naming, naming}
use Rattle.tclv_engine.specs.Names.{bytes_of}
use Rattle.tclv_engine.specs.Variables.{not_built}
use Rattle.tclv_engine.specs.DataAnswers.{arguments}

-- ---- one variable

-- the cell of what is named so, where it is set to a value or to an array
abbrev pub held_named : Table → Naming → Result ℕ VarFault
held_named vars n = variable vars place.Frame n.name n.index

-- What is named so holds nothing from then on, and neither do the elements of an array. Where nothing is set that is named so, nothing changes.
abbrev pub cleared : {W : Type 0} → Naming → State W → State W
cleared n st =
    with_variables (unset (variables_in st) place.Frame n.name n.index) (left_unset (texts_in st) (variables_in st) place.Frame n.name n.index) st

-- why a variable can't be unset
abbrev pub unsetting_message : VarFault → MessageId
unsetting_message fault.NotArray = message.CannotUnsetNonArray
unsetting_message fault.NoElement = message.CannotUnsetElement
unsetting_message _ = message.CannotUnsetVariable

-- what was found is unset; that nothing was found is an error, where that is asked for
abbrev pub unset_found : {W : Type 0} → Bool → Text → Naming → Result ℕ VarFault → State W → Res W (Unit {0})
unset_found complains name n (Ok cell) st = done tt (cleared n st)
unset_found true name n (Err f) st = raise (unsetting_message f) name [] NoCode st
unset_found false name n (Err f) st = done tt st

-- what is named so is unset; `name` is what a message calls it
abbrev pub unset_named : {W : Type 0} → Bool → Text → Naming → State W → Res W (Unit {0})
unset_named complains name n st = if n.qualified then not_built st else unset_found complains name n (held_named (variables_in st) n) st

abbrev pub unset_variable : {W : Type 0} → Bool → Text → State W → Res W (Unit {0})
unset_variable complains name st = unset_named complains name (naming (bytes_of name)) st

-- Each is unset before the next one is looked at.
unfoldable pub unset_each : {W : Type 0} → Bool → List Text → State W → Res W (Unit {0})
unset_each complains [] st = done tt st
unset_each complains (name ∷ names) st = bind (unset_variable complains name st) (λ u s1. unset_each complains names s1)

-- ---- options

-- The first of the words is this one.
abbrev pub begins_with : List ℕ → List Text → Bool
begins_with option [] = false
begins_with option (word ∷ words) = bytes_eq (bytes_of word) option

-- the words without the first of them
abbrev pub without_first : Bool → List Text → List Text
without_first true (word ∷ words) = words
without_first true [] = []
without_first false words = words

-- the words behind this one, where it is the first
abbrev pub behind : List ℕ → List Text → List Text
behind option words = without_first (begins_with option words) words

abbrev pub unset_all : {W : Type 0} → Bool → List Text → State W → Res W Outcome
unset_all complains names st = bind (unset_each complains names st) (λ u s1. ok [] s1)

abbrev pub unset_words : {W : Type 0} → List Text → State W → Res W Outcome
unset_words words st = unset_all (not (begins_with (codes "-nocomplain") words)) (behind (codes "--") (behind (codes "-nocomplain") words)) st

-- `unset ?-nocomplain? ?--? ?name ...?`: the names are taken from the left, and what was unset before a refusal stays so. With the option it is
-- no error that a variable isn't set.
abbrev pub row_unset : {W : Type 0} → List Text → State W → Res W Outcome
row_unset words st = unset_words (arguments words) st
