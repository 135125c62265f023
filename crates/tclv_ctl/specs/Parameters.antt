-- What `proc` makes of its words: the parameters, from the list of their specifiers, and the body.
use Rattle.std.specs.Prelude.{◌-◌, Bool, false, if◌then◌else◌, List, [], ◌∷◌, length, take, Option, Some, None, slice_get, codes}
use Rattle.std.specs.Str.{bytes_eq, encode_utf8_all}
use Rattle.tclv_reply.specs.Names.{is_element, is_qualified}
use Rattle.tclv_model.specs.declared.messages.MessageId.{MessageId}
use Rattle.tclv_model.specs.declared.messages.MessageId.TheVariants.{TooManyParameterFields, ParameterWithoutName, ParameterIsElement, ParameterIsNotSimple}
use Rattle.tclv_model.specs.declared.usages.Usage.TheVariants.{Proc}
use Rattle.tclv_model.specs.Usages.{usage_of}
use Rattle.tclv_model.specs.Rows.{Answer, Gives, and_then, says, wrong_count}
use Rattle.tclv_model.specs.Values.{list_of}
use Rattle.tclv_value.specs.declared.procedures.Param.{Param}
use Rattle.tclv_value.specs.Procedures.{Procedure}
use Rattle.tclv_ctl.specs.Switching.{Text}

-- Why a parameter can't have this name, if so: it is empty, it is that of an element, or it is qualified.
abbrev pub name_flaw : Text → Option MessageId
name_flaw name =
    if bytes_eq name (codes "") then Some ParameterWithoutName
    else (if is_element (encode_utf8_all name) then Some ParameterIsElement
    else (if is_qualified (encode_utf8_all name) then Some ParameterIsNotSimple
    else None))

abbrev pub unless_flawed : Option MessageId → Text → Option Text → Answer Param
unless_flawed None name default = Gives (record { name = name; default = default })
unless_flawed (Some flaw) name default = says flaw name []

-- the parameter of this name
abbrev pub named : Text → Option Text → Answer Param
named name default = unless_flawed (name_flaw name) name default

-- what the fields of a specifier give: a name, or a name and a default
abbrev pub fields : Text → List Text → Answer Param
fields specifier [] = says ParameterWithoutName [] []
fields specifier (name ∷ []) = named name None
fields specifier (name ∷ default ∷ []) = named name (Some default)
fields specifier (name ∷ default ∷ more ∷ others) = says TooManyParameterFields specifier []

abbrev pub parameter : Text → Answer Param
parameter specifier = and_then (list_of specifier) (fields specifier)

-- the parameters of specifiers, from the left
abbrev pub parameters : List Text → Answer (List Param)
parameters [] = Gives []
parameters (s ∷ ss) = and_then (parameter s) (λ p. and_then (parameters ss) (λ ps. Gives (p ∷ ps)))

abbrev pub is_args : Option Param → Bool
is_args None = false
is_args (Some p) = bytes_eq p.name (codes "args")

-- the last parameter has the name `args`
abbrev pub ends_in_args : List Param → Bool
ends_in_args ps = is_args (slice_get ps (length ps - 1))

-- A last parameter `args` takes the words that are left, and its default counts for nothing.
abbrev pub procedure : Text → List Param → Procedure
procedure body ps = record { params = if ends_in_args ps then take (length ps - 1) ps else ps; rest = ends_in_args ps; body = body }

-- `proc name args body`
abbrev pub proc_of : Text → List Text → Answer Procedure
proc_of call (name ∷ specifiers ∷ body ∷ []) = and_then (and_then (list_of specifiers) parameters) (λ ps. Gives (procedure body ps))
proc_of call _ = wrong_count call (usage_of Proc)
