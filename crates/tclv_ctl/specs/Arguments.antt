-- What the parameters of a procedure get of the words of a call.
use Rattle.std.specs.Prelude.{◌≡◌, ℕ, Bool, true, false, if◌then◌else◌, List, [], ◌∷◌, ◌++◌, Option, Some, None, Result, OnOk, IfErr, codes}
use Rattle.std.specs.List.{flat_map, join_by}
use Rattle.std.specs.Option.{option_map}
use Rattle.tclv_text.specs.Quotes.{list_text}
use Rattle.tclv_model.specs.declared.data_commands.CmdFault.{CmdFault}
use Rattle.tclv_model.specs.Rows.{Answer, Gives, wrong_count}
use Rattle.tclv_value.specs.declared.procedures.Param.{Param}
use Rattle.tclv_value.specs.Procedures.{Procedure}
use Rattle.tclv_value.specs.Stacks.{under}
use Rattle.tclv_value.specs.View.{View}
use Rattle.tclv_reply.specs.Replies.{IsRefused}
use Rattle.tclv_ctl.specs.Switching.{Text}

-- a default and what follows it; none where there is no default
abbrev pub with_default : Option Text → Option (List Text) → Option (List Text)
with_default None texts = None
with_default (Some default) texts = option_map (λ ts. default ∷ ts) texts

-- One text a parameter, from the left: a word, else the default. Where the procedure takes the words that are left, the list of them comes last. None where words are missing or too many.
abbrev pub bound : List Param → Bool → List Text → Option (List Text)
bound [] true words = Some (list_text words ∷ [])
bound [] false [] = Some []
bound [] false (word ∷ words) = None
bound (p ∷ ps) rest (word ∷ words) = option_map (λ ts. word ∷ ts) (bound ps rest words)
bound (p ∷ ps) rest [] = with_default p.default (bound ps rest [])

-- how the usage shows a parameter
abbrev pub shown_by : Option Text → Text → Text
shown_by None name = codes " " ++ name
shown_by (Some default) name = codes " ?" ++ (name ++ codes "?")

abbrev pub shown : Param → Text
shown p = shown_by p.default p.name

-- the parameters in the usage
abbrev pub parameter_usage : Procedure → Text
parameter_usage d = flat_map shown d.params ++ (if d.rest then codes " ?arg ...?" else [])

abbrev pub unless_bound : Text → Text → Option (List Text) → Answer (List Text)
unless_bound call usage (Some texts) = Gives texts
unless_bound call usage None = wrong_count call usage

-- The words of the call before its arguments, one space between them.
abbrev pub spaced : List Text → Text
spaced heads = join_by (λ w. w) (codes " ") heads

-- what a call of a procedure gets of its words; the usage begins with the words before the arguments
abbrev pub arguments : List Text → Procedure → List Text → Answer (List Text)
arguments heads d words = unless_bound (spaced heads) (parameter_usage d) (bound d.params d.rest words)

-- The row gives texts, which stand in place of the n words.
pub record IsReplaced (row : Answer (List Text)) (n : ℕ) (old new : List Text) : Type 0 where
  pub texts : List Text
  pub given : row ≡ Gives texts
  pub stack : new ≡ under n old ++ texts

-- What a call answers that puts the texts of this row in place of its n words. The cells keep their texts.
pub record Replaces (row : Answer (List Text)) (n : ℕ) (old new : View) (result : Result (Unit {0}) CmdFault) : Type 0 where
  pub gives : OnOk result (IsReplaced row n old.stack new.stack)
  pub refuses : IfErr result (λ kind. IsRefused row kind n old new)
  pub cells : new.cells ≡ old.cells

-- Whether there are texts, and if so they were pushed.
abbrev pub ArePushed : Option (List Text) → Bool → List Text → List Text → Type 0
ArePushed (Some texts) all old new = (all ≡ true) × (new ≡ old ++ texts)
ArePushed None all old new = all ≡ false
