-- What the words of `return` ask for: the code, the level, and the other options.
use Rattle.std.specs.Prelude.{◌≡◌, ℕ, ◌+◌, Bool, if◌then◌else◌, List, [], ◌∷◌, map, Option, Some, None, Result, Ok, Err, ℤ, pos, negsuc, codes}
use Rattle.std.specs.Str.{bytes_eq}
use Rattle.tclv_text.specs.declared.numbers.WholeFault.{WholeFault}
use Rattle.tclv_text.specs.Numbers.{whole}
use Rattle.tclv_text.specs.Pairs.{Pairs, put}
use Rattle.tclv_model.specs.declared.outcomes.Code.{Code}
use Rattle.tclv_model.specs.declared.outcomes.Code.TheVariants as code
use Rattle.tclv_model.specs.declared.outcomes.Pair.{Pair}
use Rattle.tclv_model.specs.declared.messages.MessageId.TheVariants.{BadReturnLevel, MissingDictValue}
use Rattle.tclv_model.specs.Rows.{Answer, Gives, and_then, says}
use Rattle.tclv_model.specs.Values.{dict_of}
use Rattle.tclv_ctl.specs.declared.returns.Named.{Named}
use Rattle.tclv_ctl.specs.declared.returns.Named.TheVariants as named
use Rattle.tclv_ctl.specs.declared.returns.Ret.{Ret}
use Rattle.tclv_ctl.specs.declared.returns.Wanted.{Wanted}
use Rattle.tclv_ctl.specs.Codes.{or_says, completion_code}
use Rattle.tclv_ctl.specs.Switching.{Text}

-- ---- options

-- the pairs of texts two by two, or the refusal of a last key without a value
abbrev pub paired : Option Pairs → Answer Pairs
paired None = says MissingDictValue [] []
paired (Some ps) = Gives ps

-- the number, where it isn't negative
abbrev pub natural_by : Result ℤ WholeFault → Option ℕ
natural_by (Ok (pos n)) = Some n
natural_by (Ok (negsuc n)) = None
natural_by (Err fault) = None

abbrev pub return_level : Text → Answer ℕ
return_level word = or_says BadReturnLevel word (natural_by (whole word))

-- What options ask for so far. The others are all but code and level, as a dict.
pub record Asks : Type 0 where
  pub code : Code
  pub level : ℕ
  pub others : Pairs

-- which option a word names
abbrev pub naming : Text → Named
naming word =
    if bytes_eq word (codes "-code") then named.Code
    else (if bytes_eq word (codes "-level") then named.Level
    else (if bytes_eq word (codes "-options") then named.Dict
    else named.Other))

abbrev pub with_code : Code → Asks → Asks
with_code c s = record { code = c; level = s.level; others = s.others }

abbrev pub with_level : ℕ → Asks → Asks
with_level n s = record { code = s.code; level = n; others = s.others }

abbrev pub with_other : Text → Text → Asks → Asks
with_other name value s = record { code = s.code; level = s.level; others = put name value s.others }

-- An option of this name; of two of one name the later counts.
abbrev pub with_option : Named → Text → Text → Asks → Answer Asks
with_option named.Code name value s = and_then (completion_code value) (λ c. Gives (with_code c s))
with_option named.Level name value s = and_then (return_level value) (λ n. Gives (with_level n s))
with_option named.Dict name value s = Gives (with_other name value s)
with_option named.Other name value s = Gives (with_other name value s)

-- the pairs of a dict as options
abbrev pub with_pairs : Pairs → Asks → Answer Asks
with_pairs [] s = Gives s
with_pairs (p ∷ ps) s = and_then (with_option (naming p.0) p.0 p.1 s) (with_pairs ps)

-- A word that names an option, and its value: `-options` stands for the pairs of a dict.
abbrev pub with_word : Named → Text → Text → Asks → Answer Asks
with_word named.Dict name value s = and_then (dict_of value) (λ ps. with_pairs ps s)
with_word named.Code name value s = with_option named.Code name value s
with_word named.Level name value s = with_option named.Level name value s
with_word named.Other name value s = with_option named.Other name value s

-- the words two by two; a last one alone is the result
abbrev pub with_words : List Text → Asks → Answer Asks
with_words (name ∷ value ∷ words) s = and_then (with_word (naming name) name value s) (with_words words)
with_words (result ∷ []) s = Gives s
with_words [] s = Gives s

-- ---- the row

-- what `return` is asked for
pub record Return : Type 0 where
  pub code : Code
  pub level : ℕ
  pub options : Pairs

abbrev pub is_error_code : Text → Bool
is_error_code name = bytes_eq name (codes "-errorcode")

-- the error code among options; where none is given, it is NONE
abbrev pub error_code_in : Pairs → Text
error_code_in [] = codes "NONE"
error_code_in (p ∷ ps) = if is_error_code p.0 then p.1 else error_code_in ps

-- the options but the error code
abbrev pub beside_error_code : Pairs → Pairs
beside_error_code [] = []
beside_error_code (p ∷ ps) = if is_error_code p.0 then beside_error_code ps else p ∷ beside_error_code ps

-- an error has its error code before the others
abbrev pub error_options : Pairs → Pairs
error_options ps = (codes "-errorcode", error_code_in ps) ∷ beside_error_code ps

-- The code return is ok one level further up.
abbrev pub asked_by : Code → ℕ → Pairs → Return
asked_by code.Ok level ps = record { code = code.Ok; level = level; options = ps }
asked_by code.Error level ps = record { code = code.Error; level = level; options = error_options ps }
asked_by code.Return level ps = record { code = code.Ok; level = level + 1; options = ps }
asked_by code.Break level ps = record { code = code.Break; level = level; options = ps }
asked_by code.Continue level ps = record { code = code.Continue; level = level; options = ps }
asked_by (code.Other n) level ps = record { code = code.Other n; level = level; options = ps }

-- without options
abbrev pub plain_return : Asks
plain_return = record { code = code.Ok; level = 1; others = [] }

-- `return ?option value ...? ?result?`
abbrev pub return_of : List Text → Answer Return
return_of words = and_then (with_words words plain_return) (λ s. Gives (asked_by s.code s.level s.others))

-- ---- what the code keeps

abbrev pub pair_of : Pair → Text × Text
pair_of p = (p.key, p.value)

pub record IsReturn (asked : Return) (ret : Ret) : Type 0 where
  pub code : ret.code ≡ asked.code
  pub level : ret.level ≡ asked.level
  pub options : map pair_of ret.options ≡ asked.options

-- what the options that were read ask for
abbrev pub asks_of : Wanted → Asks
asks_of wanted = record { code = wanted.code; level = wanted.level; others = wanted.others.items }
