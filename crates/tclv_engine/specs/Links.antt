-- Second names of variables, and the words that name levels.
use Rattle.std.specs.Prelude.{◌≡◌, ℕ, ◌-◌, ◌==◌, nat_lt, Bool, true, false, if◌then◌else◌, List, [], ◌∷◌, drop, Option, Some, None, Result, Ok, Err, ℤ, pos, negsuc, codes}
use Rattle.std.specs.Str.{chars}
use Rattle.tclv_text.specs.declared.numbers.WholeFault.{WholeFault}
use Rattle.tclv_text.specs.Numbers.{is_digits, whole}
use Rattle.tclv_vars.specs.declared.places.Root.{Root}
use Rattle.tclv_vars.specs.declared.places.Root.TheVariants as root
use Rattle.tclv_vars.specs.declared.faults.VarFault.{VarFault}
use Rattle.tclv_vars.specs.declared.faults.VarFault.TheVariants as fault
use Rattle.tclv_vars.specs.Scoping.{level_of}
use Rattle.tclv_vars.specs.Table.{Table}
use Rattle.tclv_model.specs.declared.messages.MessageId.{MessageId}
use Rattle.tclv_model.specs.declared.messages.MessageId.TheVariants as message
use Rattle.tclv_model.specs.declared.error_codes.ErrorCode.TheVariants.{NoCode}
use Rattle.tclv_model.specs.Message.{text_of}
use Rattle.tclv_model.specs.ErrorCodes.{error_code}
use Rattle.tclv_engine.specs.declared.endings.End.{End}
use Rattle.tclv_engine.specs.declared.endings.End.TheVariants as end
use Rattle.tclv_engine.specs.Answers.{Raises}
use Rattle.tclv_engine.specs.State.{Text, State, variables_in, texts_in, with_variables}
use Rattle.tclv_engine.specs.Results.{Res, done, raise}
use Rattle.tclv_reply.specs.Names.{is_element, is_qualified, naming}
use Rattle.tclv_engine.specs.Names.{bytes_of, link_named}
use Rattle.tclv_engine.specs.Variables.{is_unbuilt, not_built}

-- ---- levels

-- a number from 0 on
abbrev pub natural_by : Result ℤ WholeFault → Option ℕ
natural_by (Ok (pos n)) = Some n
natural_by (Ok (negsuc n)) = None
natural_by (Err fault) = None

-- the number that digits write, as far as it is one of 63 bits
abbrev pub digits_of : List ℕ → Option ℕ
digits_of ds = if is_digits ds then natural_by (whole (chars ds)) else None

-- outwards from the current level
abbrev pub outwards : ℕ → Option ℕ → Option ℕ
outwards current None = None
outwards current (Some n) = if nat_lt current n then None else Some (current - n)

-- a level up to the current one
abbrev pub up_to : ℕ → Option ℕ → Option ℕ
up_to current None = None
up_to current (Some n) = if nat_lt current n then None else Some n

-- The word begins with `#`.
abbrev pub is_marked : List ℕ → Bool
is_marked [] = false
is_marked (c ∷ cs) = c == 35

-- The level that a word names by its bytes, if there is one: digits are a number of levels from the current one outwards, `#` and digits the
-- level itself.
abbrev pub level_named : ℕ → List ℕ → Option ℕ
level_named current word = if is_marked word then up_to current (digits_of (drop 1 word)) else outwards current (digits_of word)

-- The word has the form of a level.
abbrev pub is_level : List ℕ → Bool
is_level word = if is_marked word then is_digits (drop 1 word) else is_digits word

-- the level of the current frame
abbrev pub current_level : {W : Type 0} → State W → ℕ
current_level st = level_of (variables_in st).scopes (variables_in st).scopes.current

abbrev pub level_or_bad : {W : Type 0} → Text → Option ℕ → State W → Res W ℕ
level_or_bad word (Some n) st = done n st
level_or_bad word None st = raise message.BadLevel word [] NoCode st

-- the level that a word names
abbrev pub level : {W : Type 0} → Text → State W → Res W ℕ
level word st = level_or_bad word (level_named (current_level st) (bytes_of word)) st

-- ---- links

-- why there can't be a link, and the name that the message says
abbrev pub linking_message : VarFault → MessageId
linking_message fault.LinkExists = message.VariableExists
linking_message _ = message.CannotSetNonArray

abbrev pub linking_name : VarFault → Text → Text → Text
linking_name fault.LinkExists other local = local
linking_name _ other local = other

abbrev pub link_made : {W : Type 0} → Text → Text → Result Table VarFault → State W → Res W (Unit {0})
link_made other local (Ok t) st = done tt (with_variables t (texts_in st) st)
link_made other local (Err f) st = raise (linking_message f) (linking_name f other local) [] NoCode st

abbrev pub link_plain : {W : Type 0} → Root → Text → Text → State W → Res W (Unit {0})
link_plain from other local st =
    if is_unbuilt (bytes_of other) then not_built st
    else link_made other local (link_named (variables_in st) (bytes_of local) from (naming (bytes_of other))) st

-- The local name of the current frame is a second name of the other variable, or of the element, which stands where the root says. It has no
-- form of an element, and isn't qualified. Other names that are qualified aren't built yet.
abbrev pub link : {W : Type 0} → Root → Text → Text → State W → Res W (Unit {0})
link from other local st =
    if is_element (bytes_of local) then raise message.VariableNameIsElement local [] NoCode st
    else (if is_qualified (bytes_of local) then raise message.VariableNameIsQualified local [] NoCode st
    else link_plain from other local st)

-- The name of the current frame is a second name of the variable of that name in the global namespace. Qualified names aren't built yet.
abbrev pub link_global : {W : Type 0} → Text → State W → Res W (Unit {0})
link_global name st =
    if is_element (bytes_of name) then raise message.VariableNameIsElement name [] NoCode st else link_plain (root.Space 0) name name st

-- the level of the caller, one outwards
abbrev pub outer_level : {W : Type 0} → State W → Res W ℕ
outer_level st = level_or_bad (codes "1") (outwards (current_level st) (Some 1)) st

-- ---- in the code

-- what a call answers that refuses to link
abbrev pub RefusesLinking : VarFault → Text → Text → List Text → End → Type 0
RefusesLinking fault.NoMemory other local stack e = e ≡ end.Memory
RefusesLinking f other local stack e =
    Raises (text_of (linking_message f) (linking_name f other local) []) (error_code NoCode (linking_name f other local)) stack e
